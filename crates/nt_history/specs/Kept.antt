-- Which turns an entry for each turn and the values of the looks stand for.
use Rattle.std.specs.Prelude.{List, [], ◌∷◌, length, suc, zero, ℕ, ◌≡◌}
use Rattle.nt_event.specs.declared.events.Rises.{Rises}
use Rattle.nt_event.specs.declared.events.Turn.{Turn}
use Rattle.nt_event.specs.declared.events.Turn.TheVariants as turn
use Rattle.nt_event.specs.declared.numbers.CpuNo.{CpuNo}
use Rattle.nt_history.specs.declared.kept.Kept.{Kept}
use Rattle.nt_history.specs.declared.kept.Kept.TheVariants as kept

-- what is kept of a turn
abbrev pub kept_of : Turn → Kept
kept_of (turn.Next p) = kept.Next p
kept_of (turn.Look p r) = kept.Look p
kept_of (turn.Switch p t) = kept.Switch p t

-- the values of a turn, where it is a look
abbrev pub rises_of : Turn → List Rises
rises_of (turn.Next p) = []
rises_of (turn.Look p r) = r ∷ []
rises_of (turn.Switch p t) = []

-- how many looks there are
abbrev pub looks : List Kept → ℕ
looks [] = zero
looks (kept.Next p ∷ more) = looks more
looks (kept.Look p ∷ more) = suc (looks more)
looks (kept.Switch p t ∷ more) = looks more

-- the turns of the entries, where each look has the next values; they end where a look has none
abbrev pub turns_in : List Kept → List Rises → List Turn
turns_in [] rises = []
turns_in (kept.Next p ∷ more) rises = turn.Next p ∷ turns_in more rises
turns_in (kept.Look p ∷ more) [] = []
turns_in (kept.Look p ∷ more) (r ∷ rises) = turn.Look p r ∷ turns_in more rises
turns_in (kept.Switch p t ∷ more) rises = turn.Switch p t ∷ turns_in more rises

-- the turn in which the processor looks, with the first of these values; the others are left
abbrev pub IsNextLook : CpuNo → List Rises → Turn → List Rises → Type 0
IsNextLook p rises t more = (r : Rises) × (rises ≡ r ∷ more) × (t ≡ turn.Look p r)

-- there are values for each look, and no others
abbrev pub HasEach : List Kept → List Rises → Type 0
HasEach ks rises = looks ks ≡ length rises
