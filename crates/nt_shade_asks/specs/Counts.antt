-- What of the asks can be compared between histories whose events have other numbers: which classes are due, how many
-- asks are ahead, and how many of these each lane would leave ahead.
use Rattle.std.specs.List.{count_by, flat_map}
use Rattle.std.specs.Prelude.{All, List, [], length, map, nat_lt, true, ℕ, ◌<◌, ◌^◌, ◌∷◌, ◌≡◌}
use Rattle.nt_event.specs.declared.events.Event.{Event}
use Rattle.nt_event.specs.declared.jobs.Lane.{Lane}
use Rattle.nt_event.specs.declared.numbers.CpuNo.{CpuNo}
use Rattle.nt_event.specs.declared.scripts.Script.{Script}
use Rattle.nt_event.specs.Classes.{is_used_class}
use Rattle.nt_event.specs.Jobs.{is_due}
use Rattle.nt_event.specs.Own.{own_of}
use Rattle.nt_event.specs.Requests.{told_by}
use Rattle.nt_event.specs.Script.{has_cpu}
use Rattle.nt_alike.specs.Alike.{count_if, unnoticed}
use Rattle.nt_alike.specs.Bare.{bare_own}
use Rattle.nt_alike.specs.Declared.{has_lane}
use Rattle.nt_shade_asks.specs.declared.class_asks.ClassAsks.{ClassAsks}
use Rattle.nt_shade_asks.specs.declared.unnoticed.Unnoticed.{Unnoticed}
use Rattle.nt_shade_asks.specs.Follows.{HasLane, IsAsked, IsOf, tells}

-- how many of the values ahead stand above what a lane tells
abbrev pub left_by : List ℕ → ℕ → ℕ
left_by ahead told = count_by (nat_lt told) ahead

-- that for each lane, where any value is ahead
abbrev pub lefts : List ℕ → List ℕ → List ℕ
lefts [] told = []
lefts (v ∷ vs) told = map (left_by (v ∷ vs)) told

abbrev pub class_counts : ClassAsks → List ℕ
class_counts x =
    count_if (nat_lt x.served x.seen) ∷ length x.ahead.items ∷ lefts x.ahead.items x.told.items

-- class after class
abbrev pub counts_of : Unnoticed → List ℕ
counts_of x = flat_map class_counts x.classes.items

-- four bytes are enough for each count
abbrev pub AreFew : Unnoticed → Type 0
AreFew x = All (λ row. length row.ahead.items < 2 ^ 32) x.classes.items

-- the counts of a class of a processor are those of the history
pub record TellsCounts (s : Script) (past : List Event) (x : ClassAsks) : Type 0 where
  pub due : nat_lt x.served x.seen ≡ is_due (own_of s x.cpu past) x.class
  pub ahead : length x.ahead.items ≡ unnoticed s x.cpu x.class 0 past
  pub left : (l : Lane) → HasLane s l →
      left_by x.ahead.items (tells s x.told.items l x.cpu x.class)
      ≡ unnoticed s x.cpu x.class (told_by s l x.cpu x.class past) past

abbrev pub CountsAreOfTheHistory : Type 0
CountsAreOfTheHistory = (s : Script) (past : List Event) (x : Unnoticed) → IsOf s x → IsAsked s past x →
    All (TellsCounts s past) x.classes.items

-- in a history of so few events they fit
abbrev pub CountsFit : Type 0
CountsFit = (s : Script) (past : List Event) (x : Unnoticed) → IsAsked s past x → length past < 2 ^ 32 → AreFew x

-- what like histories have the same of the asks, of what a script declares
pub record AskedAlike (s : Script) (h k : List Event) : Type 0 where
  pub due : (p : CpuNo) → has_cpu s p ≡ true → (bare_own (own_of s p h)).seen ≡ (bare_own (own_of s p k)).seen
  pub asks : (p : CpuNo) (c : ℕ) → has_cpu s p ≡ true → is_used_class c ≡ true →
      unnoticed s p c 0 h ≡ unnoticed s p c 0 k
  pub told : (x : Lane) (p : CpuNo) (c : ℕ) → has_lane s x ≡ true → has_cpu s p ≡ true → is_used_class c ≡ true →
      unnoticed s p c (told_by s x p c h) h ≡ unnoticed s p c (told_by s x p c k) k

abbrev pub SameCountsAreAlike : Type 0
SameCountsAreAlike = (s : Script) (h k : List Event) (x y : Unnoticed) → IsOf s x → IsOf s y → IsAsked s h x →
    IsAsked s k y → counts_of x ≡ counts_of y → AskedAlike s h k
