-- The classes of requests: what a processor may be asked to do. The first three are software interrupts, the others are
-- the levels of hardware interrupts (Windows Internals, "Interrupt request levels"; the numbers of the first three:
-- profile).
use Rattle.std.specs.List.{list_any}
use Rattle.std.specs.Prelude.{Bool, List, [], nat_le, ℕ, ◌&&◌, ◌==◌, ◌||◌, ◌∷◌}

-- threaded DPCs, at PASSIVE_LEVEL
abbrev pub threaded_class : ℕ
threaded_class = 0

-- kernel APCs, at APC_LEVEL
abbrev pub apc_class : ℕ
apc_class = 1

-- DPCs, timers and ready threads, at DISPATCH_LEVEL
abbrev pub dispatch_class : ℕ
dispatch_class = 2

-- the release of a spin lock, which is no interrupt (profile: the number)
abbrev pub lock_class : ℕ
lock_class = 12

-- the clock interrupt, at CLOCK_LEVEL
abbrev pub clock_class : ℕ
clock_class = 13

-- interrupts among processors, at IPI_LEVEL
abbrev pub ipi_class : ℕ
ipi_class = 14

-- classes are counted from 0 to below this
abbrev pub class_count : ℕ
class_count = 16

-- the levels of devices
abbrev pub is_device_class : ℕ → Bool
is_device_class class = nat_le 3 class && nat_le class 11

-- levels that an interrupt request of a script may have: devices and inter-processor interrupts
abbrev pub is_requested_level : ℕ → Bool
is_requested_level level = is_device_class level || (level == ipi_class)

-- levels that an interrupt routine may have: these and the clock
abbrev pub is_isr_level : ℕ → Bool
is_isr_level level = is_requested_level level || (level == clock_class)

-- the classes that are interrupts, the greatest first; SYNCH_LEVEL, 12, is never requested
abbrev pub interrupt_classes : List ℕ
interrupt_classes = ipi_class ∷ clock_class ∷ 11 ∷ 10 ∷ 9 ∷ 8 ∷ 7 ∷ 6 ∷ 5 ∷ 4 ∷ 3 ∷ []

-- one of these
abbrev pub is_interrupt_level : ℕ → Bool
is_interrupt_level level = list_any (λ c. c == level) interrupt_classes

-- a class that is used: threaded DPCs, kernel APCs, dispatch, devices, released locks, the clock and inter-processor
-- interrupts
abbrev pub is_used_class : ℕ → Bool
is_used_class class =
    nat_le class 11 || ((class == lock_class) || ((class == clock_class) || (class == ipi_class)))
