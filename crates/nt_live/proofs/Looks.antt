-- What a look leaves of a pass, and what it tells of a processor.
use Rattle.std.proofs.Common.{ap, arith, inl, inr, refl, subst, sym, ⊎_elim, ◌∙◌}
use Rattle.std.proofs.lemmas.Bool.{ltb-false, ltb-true}
use Rattle.std.proofs.lemmas.List.{get_or-set_other, get_or-set_same}
use Rattle.std.proofs.lemmas.List.Elements.{Contains-append_left}
use Rattle.std.specs.Prelude.{Bool, List, false, get_or, length, nat_lt, not, set, true, ℕ, [], ◌+◌, ◌<◌, ◌∷◌, ◌≡◌, ◌≤◌}
use Rattle.nt_cpu.specs.States.{CpuState}
use Rattle.nt_event.specs.declared.numbers.CpuNo.{CpuNo}
use Rattle.nt_event.specs.Classes.{is_used_class}
use Rattle.nt_event.specs.Jobs.{is_still}
use Rattle.nt_event.specs.Lists.{value_at}
use Rattle.nt_event.specs.Robin.{is_behind}
use Rattle.nt_mark.specs.declared.view.View.{View}
use Rattle.nt_mark.specs.Views.{look_of, looked, reach, reached_at, request_word, step_word}
use Rattle.nt_mark.proofs.Reach.{greatest_append}
use Rattle.nt_live.proofs.Turning.{not_behind}
use Rattle.nt_live.specs.Teams.{HasNoMore, HasLooked}

-- a pass that did nothing has done no more than look
pub same_look : (v : View) → HasLooked v v
same_look v = record {
  parts = refl;
  entries = refl;
  marks = refl;
  covers = record { entries = λ e h. h; looks = λ l h. h; prefixes = λ k h. h; least = λ u. omega arith };
}

-- a pass that did no more than look twice in a row did no more than look
pub looks_through : (u v w : View) → HasLooked u v → HasLooked v w → HasLooked u w
looks_through u v w g h = record {
  parts = h.parts ∙ g.parts;
  entries = h.entries ∙ g.entries;
  marks = h.marks ∙ g.marks;
  covers = record {
    entries = λ e k. h.covers.entries e (g.covers.entries e k);
    looks = λ l k. h.covers.looks l (g.covers.looks l k);
    prefixes = λ q k. h.covers.prefixes q (g.covers.prefixes q k);
    least = λ x. let a = g.covers.least x in let b = h.covers.least x in omega (arith, a, b);
  };
}

-- a pass after one look at a class of a processor has done no more than look
pub one_look : (v w : View) (p : CpuNo) (class value : ℕ) → w ≡ looked v p class value → HasLooked v w
one_look v w p class value e = subst (λ (z : View). HasLooked v z) (sym e) (record {
  parts = refl;
  entries = refl;
  marks = refl;
  covers = record {
    entries = λ e h. h;
    looks = λ l h. Contains-append_left v.looks (look_of p class value ∷ []) l h;
    prefixes = λ k h. h;
    least = λ u. let a = greatest_append u v.reached (reached_at (request_word p class) value ∷ reached_at step_word value ∷ []) in omega (arith, a);
  };
})

-- the answer of one class more
pub one_answer : (p : CpuNo) (v w : View) (answers : List ℕ) (class a : ℕ) → length answers ≡ 16 → class < 16 → HasLooked v w →
    (is_used_class class ≡ true → reach (request_word p class) w ≤ a) →
    ((k : ℕ) → k < class → is_used_class k ≡ true → reach (request_word p k) v ≤ value_at answers k) → (k : ℕ) → k < class + 1 → is_used_class k ≡ true →
    reach (request_word p k) v ≤ value_at (set answers class a) k
one_answer p v w answers class a long l looks here old k b used = go (nat_lt k class) refl
  where
    at : k ≡ class → reach (request_word p k) v ≤ value_at (set answers class a) k
    at e =
        let u : is_used_class class ≡ true = ap is_used_class (sym e) ∙ used in
        let q = here u in
        let r = looks.covers.least (request_word p class) in
        let z : value_at (set answers class a) class ≡ a = get_or-set_same answers class a 0 (omega (arith, long, l)) in
        subst (λ (j : ℕ). reach (request_word p j) v ≤ value_at (set answers class a) j) (sym e) (omega (arith, q, r, z))

    go : (c : Bool) → nat_lt k class ≡ c → reach (request_word p k) v ≤ value_at (set answers class a) k
    go true e =
        let i = ltb-true k class e in
        let q = old k i used in
        let z : value_at (set answers class a) k ≡ value_at answers k = get_or-set_other answers class k a 0 (λ f. absurd (omega (arith, i, f))) in
        omega (arith, q, z)
    go false e = let i = ltb-false k class e in at (omega (arith, i, b))

-- what has no more to do by a later pass, has no more to do
pub no_more_before : (limit : ℕ) (v w : View) (c : CpuState) → HasLooked v w → HasNoMore limit w c → HasNoMore limit v c
no_more_before limit v w c l h =
    ⊎_elim (λ k. inl k) (λ k. inr (k.0, λ q b u. let a = k.1 q b u in let r = l.covers.least (request_word c.cpu q) in omega (arith, a, r))) h

-- a truth value whose negation is true is false
off : (b : Bool) → not b ≡ true → b ≡ false
off true h = cc
off false h = refl

-- a processor that rests or spins still, and is not behind what looks found, has no more to do
pub still_then : (limit : ℕ) (v : View) (c : CpuState) (p : CpuNo) (answers : List ℕ) (behind : Bool) → c.cpu ≡ p → is_still c.own ≡ true →
    behind ≡ is_behind c.own (value_at answers) → not behind ≡ true →
    ((k : ℕ) → k < 16 → is_used_class k ≡ true → reach (request_word p k) v ≤ value_at answers k) → HasNoMore limit v c
still_then limit v c p answers behind at rest is h least = inr (
  rest,
  λ k l u.
      let a = least k l u in
      let b = not_behind c.own answers (sym is ∙ off behind h) k l in
      subst (λ (q : CpuNo). reach (request_word q k) v ≤ value_at c.own.seen k) (sym at) (omega (arith, a, b)),
)

-- ---- each processor in turn

-- the first n of them have no more to do
abbrev pub FirstDone : ℕ → View → List CpuState → ℕ → Type 0
FirstDone limit v cpus n = (k : ℕ) (c : CpuState) → k < n → HasNoMore limit v (get_or cpus k c)

-- if the first processors have no more to do, and by a later look the next has none, then all up to it have none
pub one_done : (limit : ℕ) (v w : View) (cpus : List CpuState) (n : ℕ) (x : CpuState) → n < length cpus → ((d : CpuState) → get_or cpus n d ≡ x) →
    HasLooked v w → HasNoMore limit w x → FirstDone limit v cpus n → FirstDone limit v cpus (n + 1)
one_done limit v w cpus n x within is looks more old k d l = go (nat_lt k n) refl
  where
    go : (b : Bool) → nat_lt k n ≡ b → HasNoMore limit v (get_or cpus k d)
    go true e = old k d (ltb-true k n e)
    go false e =
        let i = ltb-false k n e in
        let same : k ≡ n = omega (arith, i, l) in
        subst (λ (z : CpuState). HasNoMore limit v z) (sym (ap (λ (j : ℕ). get_or cpus j d) same ∙ is d)) (no_more_before limit v w x looks more)
