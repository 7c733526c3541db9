-- Interrupt request levels on x64, as plain numbers of 0 to 15.
use Rattle.std.specs.Prelude.{ℕ, List, codes, nat_lt, if◌then◌else◌}

-- the name of a level, as the driver documentation gives it; 3 to 11 are the levels of devices
abbrev pub name_of : ℕ → List ℕ
name_of level =
    if nat_lt level 1 then codes "PASSIVE" else
    if nat_lt level 2 then codes "APC" else
    if nat_lt level 3 then codes "DISPATCH" else
    if nat_lt level 12 then codes "DEVICE" else
    if nat_lt level 13 then codes "SYNCH" else
    if nat_lt level 14 then codes "CLOCK" else
    if nat_lt level 15 then codes "IPI" else codes "HIGH"
