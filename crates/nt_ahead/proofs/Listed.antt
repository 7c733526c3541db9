-- Lists of turns, processor by processor: each turn that may be taken is there.
use Rattle.std.proofs.Common.{arith, ap, subst, sym}
use Rattle.std.proofs.lemmas.Bool.{eqb-false, eqb-true}
use Rattle.std.proofs.lemmas.List.Elements.{Contains-append_left, Contains-append_right, Contains-get_or}
use Rattle.std.specs.List.{list_any}
use Rattle.std.specs.Prelude.{Bool, Contains, List, false, filter, length, map, nat_lt, refl, true, ℕ, ◌++◌, ◌+◌, ◌<◌, ◌==◌, ◌∷◌, ◌≡◌}
use Rattle.nt_event.specs.declared.events.Event.{Event}
use Rattle.nt_event.specs.declared.events.Rises.{Rises}
use Rattle.nt_event.specs.declared.events.Turn.{Turn}
use Rattle.nt_event.specs.declared.events.Turn.TheVariants.{Look, Next, Switch}
use Rattle.nt_event.specs.declared.numbers.CpuNo.{CpuNo}
use Rattle.nt_event.specs.declared.scripts.Script.{Script}
use Rattle.nt_event.specs.Lists.{table, value_at}
use Rattle.nt_event.specs.Numbers.{cpu, thread}
use Rattle.nt_event.specs.Own.{own_of}
use Rattle.nt_event.specs.Step.{cpu_at, good_rises}
use Rattle.nt_event.proofs.Elements.{contains_here, contains_kept, contains_mapped, contains_there}
use Rattle.nt_event.proofs.Options.{both}
use Rattle.nt_event.proofs.Tables.{get_or-table, length-table_from}
use Rattle.nt_ahead.specs.Choices.{finds}
use Rattle.nt_ahead.specs.Finds.{HasAllFinds, MayFind}
use Rattle.nt_ahead.specs.Turns.{AreKept, HasAllOf, MayTake, filled, filled_turn}
use Rattle.nt_ahead.proofs.Filled.{filled_any, filled_length, filled_reads}
use Rattle.nt_ahead.proofs.Taken.{taken_look, taken_thread}
use Rattle.nt_ahead.proofs.Values.{good_finds}

-- the value of a table's function at each place below its length is there
contains_table : (n i : ℕ) (f : ℕ → Turn) → i < n → Contains (table n f) (f i)
contains_table n i f l =
    let long : length (table n f) ≡ n = length-table_from 0 n f in
    subst (Contains (table n f)) (get_or-table n i f (f i) l) (Contains-get_or (table n f) i (f i) (omega (arith, long, l)))

-- the turns Next and Switch of a processor
abbrev pub plain : Script → CpuNo → List Turn
plain s p = Next p ∷ table (length s.threads) (λ t. Switch p (thread t))

-- a list with all turns of one more processor
abbrev pub listed : Script → CpuNo → List Turn → List Rises → List Turn
listed s p old found = (old ++ plain s p) ++ map (λ r. Look p r) (filter finds found)

module _ (s : Script) (past : List Event) (old : List Turn) (found : List Rises) where
  -- what stood there stands there still
  pub listed_keeps : (p : CpuNo) → AreKept old (listed s p old found)
  listed_keeps p turn h = Contains-append_left (old ++ plain s p) _ turn (Contains-append_left old (plain s p) turn h)

  listed_plain : (p : CpuNo) (turn : Turn) → Contains (plain s p) turn → Contains (listed s p old found) turn
  listed_plain p turn h = Contains-append_left (old ++ plain s p) _ turn (Contains-append_right old (plain s p) turn h)

  -- a Look that may be taken finds something, and what may be found
  listed_look : (p : CpuNo) (r : Rises) → HasAllFinds s past p found → MayTake s past (Look p r) → Contains (listed s p old found) (filled_turn (Look p r))
  listed_look p r all m =
      let g = both (list_any (λ v. nat_lt 0 v) r.value) (good_rises s p 0 r.value (own_of s p past) past) (taken_look s past p r m) in
      let may : (c : ℕ) → c < 16 → MayFind s past p c (value_at (filled r.value) c) =
      λ c l. subst (MayFind s past p c) (sym (filled_reads r.value c)) (good_finds s p r.value past g.1 c l) in
      let full : Rises = record { value = filled r.value } in
      let there = all full (filled_length r.value m.short) may in
      let kept = contains_kept finds found full there (filled_any r.value g.0) in
      Contains-append_right (old ++ plain s p) _ (Look p full) (contains_mapped (λ r. Look p r) (filter finds found) full kept)

  has_it : (turn : Turn) → MayTake s past turn → HasAllFinds s past (cpu_at turn) found → Contains (listed s (cpu_at turn) old found) (filled_turn turn)
  has_it (Next p) m all = listed_plain p (Next p) (contains_here (Next p) _)
  has_it (Look p r) m all = listed_look p r all m
  has_it (Switch p t) m all =
      listed_plain p (Switch p t)
      (contains_there (Next p) _ (Switch p t) (contains_table (length s.threads) t.0 (λ t. Switch p (thread t)) (taken_thread s past p t m)))

  -- and each turn of the processor that may be taken stands there
  pub listed_all : (p : CpuNo) → HasAllFinds s past p found → HasAllOf s past p (listed s p old found)
  listed_all p all turn e m =
      subst (λ (q : CpuNo). HasAllFinds s past q found → Contains (listed s q old found) (filled_turn turn)) e (has_it turn m) all

-- each turn of a processor below this number that may be taken is there
abbrev pub HasAllBelow : Script → List Event → ℕ → List Turn → Type 0
HasAllBelow s past k turns = (turn : Turn) → (cpu_at turn).0 < k → MayTake s past turn → Contains turns (filled_turn turn)

-- with one processor more
pub one_cpu_more : (s : Script) (past : List Event) (k : ℕ) (old new : List Turn) → HasAllBelow s past k old → AreKept old new →
    HasAllOf s past (cpu k) new → HasAllBelow s past (k + 1) new
one_cpu_more s past k old new below kept here turn l m = go ((cpu_at turn).0 == k) refl
  where
    go : (b : Bool) → ((cpu_at turn).0 == k) ≡ b → Contains new (filled_turn turn)
    go true e = let q = eqb-true (cpu_at turn).0 k e in here turn (ap cpu q) m
    go false e = let n = eqb-false (cpu_at turn).0 k e in kept (filled_turn turn) (below turn (omega (arith, l, n)) m)
