-- What the list of pending inserts keeps.
use Rattle.std.specs.List.{list_any}
use Rattle.std.specs.Prelude.{List, [], false, ◌<◌, ◌≡◌, ◌∷◌}
use Rattle.nt_event.specs.declared.inserts.Pick.{Pick}
use Rattle.nt_event.specs.Apcs.{is_of_apc}

-- no object is inserted twice, and each has a number below 256
abbrev pub AreObjects : List Pick → Type 0
AreObjects [] = Unit {0}
AreObjects (x ∷ xs) = (list_any (is_of_apc x.apc) xs ≡ false) × (x.apc.0 < 256) × AreObjects xs
