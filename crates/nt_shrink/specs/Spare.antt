-- Turns that a list can spare, and the shrunk list.
use Rattle.std.specs.Prelude.{Bool, List, None, Option, Some, false, if◌then◌else◌, length, suc, true, zero, ℕ, ◌<◌}
use Rattle.std.specs.Prelude.{◌≡◌, ◌≤◌}
use Rattle.nt_event.specs.declared.events.Turn.{Turn}
use Rattle.nt_event.specs.declared.scripts.Script.{Script}
use Rattle.nt_shrink.specs.declared.goals.Goal.{Goal}
use Rattle.nt_shrink.specs.Shorter.{without}
use Rattle.nt_shrink.specs.Traces.{is_delivered, traced}

-- without the turn at this place the list is taken, and its history delivers the request
abbrev pub is_spare : Script → ℕ → Goal → List Turn → ℕ → Bool
is_spare s limit g list at = is_delivered g (traced s limit (without at list))

-- the greatest number below n that passes the test
abbrev pub greatest_below : (ℕ → Bool) → ℕ → Option ℕ
greatest_below test zero = None
greatest_below test (suc n) = if test n then Some n else greatest_below test n

abbrev pub greatest_spare : Script → ℕ → Goal → List Turn → Option ℕ
greatest_spare s limit g list = greatest_below (is_spare s limit g list) (length list)

-- the list itself, where no place is given; else it goes on without the turn there
abbrev pub left_out : List Turn → Option ℕ → (List Turn → List Turn) → List Turn
left_out list None more = list
left_out list (Some at) more = more (without at list)

-- leaves out the greatest spare place, again and again, at most n times
abbrev pub shrunk_by : Script → ℕ → Goal → ℕ → List Turn → List Turn
shrunk_by s limit g zero list = list
shrunk_by s limit g (suc n) list =
    left_out list (greatest_spare s limit g list) (λ shorter. shrunk_by s limit g n shorter)

-- leaves out the greatest spare place, again and again, until there is none
abbrev pub shrunk : Script → ℕ → Goal → List Turn → List Turn
shrunk s limit g list = shrunk_by s limit g (length list) list

-- no place of the list is spare
abbrev pub NoneSpare : Script → ℕ → Goal → List Turn → Type 0
NoneSpare s limit g list = (at : ℕ) → at < length list → is_spare s limit g list at ≡ false

-- the list has at most 1,000 turns, they are taken and deliver the request, and the answer is the shrunk list
pub record IsShrunk (s : Script) (limit : ℕ) (g : Goal) (list answer : List Turn) : Type 0 where
  pub few : length list ≤ 1000
  pub delivered : is_delivered g (traced s limit list) ≡ true
  pub answered : answer ≡ shrunk s limit g list
