-- What a Look noticed was asked before.
use Rattle.std.proofs.Common.{ap, arith, inl, inr, subst, sym, ⊎_elim, ◌∙◌}
use Rattle.std.proofs.lemmas.Bool.{ltb-true}
use Rattle.std.proofs.lemmas.List.Elements.{All-contains}
use Rattle.std.specs.Prelude.{All, Bool, Contains, List, false, if◌then◌else◌, nat_lt, refl, suc, true, zero, ℕ, ◌+◌, ◌<◌, ◌∷◌, ◌≡◌, ◌≤◌, ◌⊎◌}
use Rattle.nt_event.specs.declared.numbers.CpuNo.{CpuNo}
use Rattle.nt_event.specs.declared.scripts.Script.{Script}
use Rattle.nt_event.specs.Lists.{table_from, value_at}
use Rattle.nt_event.specs.Own.{Own}
use Rattle.nt_event.specs.Robin.{look_value, look_values}
use Rattle.nt_mark.specs.declared.view.Look.{Look}
use Rattle.nt_mark.specs.declared.view.View.{View}
use Rattle.nt_mark.specs.Closing.{WasAsked}
use Rattle.nt_mark.specs.Views.{look_of, mark_of}
use Rattle.nt_compose.specs.ByParts.{AreAskedBefore, IsAskedBefore, LooksBack}
use Rattle.nt_compose.specs.Composition.{Placed}
use Rattle.nt_compose.specs.Parts.{IsTail, Numbered, part}
use Rattle.nt_live.specs.Gathering.{AreTogether}
use Rattle.nt_live.specs.Workers.{AtLook, LooksAt}

module _ (s : Script) (limit : ℕ) (v : View) (mine : CpuNo → List Numbered) (h : List Placed) (t : AreTogether s limit v mine)
    (looks : All (λ (l : Look). WasAsked v l) v.looks) (parts : (p : CpuNo) → part p h ≡ mine p) where
  -- a looked value is 0, or was asked by an event of a lower number
  was_asked : (p : CpuNo) (c a n : ℕ) → a ≤ n → Contains v.looks (look_of p c a) → (a ≡ 0) ⊎ IsAskedBefore s h p c a n
  was_asked p c a n l k = ⊎_elim (λ z. inl z)
      (λ w.
      let m = t.marks (mark_of p c w.0) w.2 in
      let value : a ≡ m.event.number + 1 = w.1 ∙ ap (λ (j : ℕ). j + 1) m.number in
      inr (record {
        by = m.by;
        event = m.event;
        before = m.before;
        is_in = subst (IsTail (m.event ∷ m.before)) (sym (parts m.by)) m.is_in;
        earlier = omega (arith, value, l);
        value = value;
        asks = m.asks;
      }))
      (All-contains (λ (l : Look). WasAsked v l) v.looks (look_of p c a) looks k)

  module _ (p : CpuNo) (x : Own) (n : ℕ) (l : LooksAt p x v n) where
    one_class : (c : ℕ) → c < 16 → (look_value x (value_at l.answers) c ≡ 0) ⊎
        ((value_at x.seen c < look_value x (value_at l.answers) c) × IsAskedBefore s h p c (look_value x (value_at l.answers) c) n)
    one_class c w = go (nat_lt (value_at x.seen c) (value_at l.answers c)) refl
      where
        a : ℕ
        a = value_at l.answers c

        go : (b : Bool) → nat_lt (value_at x.seen c) a ≡ b → ((if b then a else 0) ≡ 0) ⊎
            ((value_at x.seen c < (if b then a else 0)) × IsAskedBefore s h p c (if b then a else 0) n)
        go false e = inl refl
        go true e = ⊎_elim (λ z. inl z)
            (λ k. ⊎_elim (λ z. inl z) (λ o. inr (ltb-true (value_at x.seen c) a e, o)) (was_asked p c a n (l.below c w) k)) (l.looked c w)

    classes : (c j : ℕ) → c + j ≡ 16 → AreAskedBefore s h p x n c (table_from c j (look_value x (value_at l.answers)))
    unfolding table_from
    classes c zero e = tt
    classes c (suc j) e = (one_class c (omega (arith, e)), classes (suc c) j (omega (arith, e)))

  -- if all looks of a pass saw what was asked, a processor's look looks back at requests made before it in the run
  pub looks_back : (p : CpuNo) (x : Own) (m : Numbered) → AtLook s p x v m → LooksBack s h p x m
  looks_back p x m k = record {
    rises = record { value = look_values x (value_at k.0.answers) };
    some = k.0.behind;
    asked = classes p x m.number k.0 0 16 (omega arith);
    event = k.1;
  }
