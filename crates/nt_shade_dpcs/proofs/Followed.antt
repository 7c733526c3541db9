-- Lists whose elements follow a step one after another: the first ones have followed it, the others are as before.
use Rattle.std.proofs.Common.{ap, arith, inl, inr, set, sym, ◌∙◌}
use Rattle.std.proofs.lemmas.Bool.{cases_eq}
use Rattle.std.proofs.lemmas.List.{get_or-set_other, get_or-set_same, get_or_read, length-map, length-set, map-set}
use Rattle.std.specs.Prelude.{List, get_or, length, map, ℕ, ◌+◌, ◌<◌, ◌≡◌, ◌≤◌}
use Rattle.nt_event.specs.Lists.{table}
use Rattle.nt_event.proofs.Tables.{table-self}
use Rattle.nt_event.proofs.Written.{read_map}

module _ {A B : Type 0} (said : A → B) (step : ℕ → B → B) (start : B) where
  pub record IsFollowedTo (i : ℕ) (old new : List A) : Type 0 where
    pub count : length new ≡ length old
    pub done : (j : ℕ) → j < i → j < length old → get_or (map said new) j start ≡ step j (get_or (map said old) j start)
    pub rest : (j : ℕ) → i ≤ j → get_or (map said new) j start ≡ get_or (map said old) j start

  -- none has followed yet
  pub none_followed : (old new : List A) → new ≡ old → IsFollowedTo 0 old new
  none_followed old new e = record {
    count = ap length e;
    done = λ j h l. absurd (omega (arith, h));
    rest = λ j h. ap (λ (xs : List A). get_or (map said xs) j start) e;
  }

  -- one more has followed
  pub one_followed : (i : ℕ) (old new : List A) (v : A) → IsFollowedTo i old new → i < length new →
      said v ≡ step i (get_or (map said new) i start) → IsFollowedTo (i + 1) old (set new i v)
  one_followed i old new v so low e = record {
    count = length-set new i v ∙ so.count;
    done = λ j h l. elim (cases_eq j i) [
      | inl same ↦ rw (map-set said new i v, same)
          (get_or-set_same (map said new) i (said v) start (let n = length-map new said in omega (arith, n, low))
          ∙ e ∙ ap (step i) (so.rest i (omega arith)))
      | inr apart ↦ rw (map-set said new i v)
          (get_or-set_other (map said new) i j (said v) start apart ∙ so.done j (omega (arith, h, apart)) l)
    ];
    rest = λ j h. rw (map-set said new i v)
        (get_or-set_other (map said new) i j (said v) start (λ e. omega (arith, h, e)) ∙ so.rest j (omega (arith, h)));
  }

  -- what was read stands there
  pub read_said : (i n : ℕ) (new : List A) (was : A) → n ≡ i → n < length new → was ≡ get_or new n was → said was ≡ get_or (map said new) i start
  read_said i n new was place low read =
      let here : said was ≡ get_or (map said new) n (said was) = ap said read ∙ sym (read_map said new n was) in
      let long : n < length (map said new) = (let l = length-map new said in omega (arith, l, low)) in
      get_or_read (map said new) n (said was) long here start ∙ ap (λ (k : ℕ). get_or (map said new) k start) place

  -- the same, where it was read and the step is known of what was read
  pub next_followed : (i n : ℕ) (old new : List A) (was v : A) → IsFollowedTo i old new → n ≡ i → n < length new → was ≡ get_or new n was →
      said v ≡ step i (said was) → IsFollowedTo (i + 1) old (set new n v)
  next_followed i n old new was v so place low read says =
      rw place (one_followed i old new v so (omega (arith, place, low)) (says ∙ ap (step i) (read_said i n new was place low read)))

  -- all have followed
  pub all_followed : (i : ℕ) (old new : List A) → IsFollowedTo i old new → length old ≤ i →
      map said new ≡ table (length (map said old)) (λ j. step j (get_or (map said old) j start))
  all_followed i old new so h =
      let n = length-map old said in
      let m = length-map new said in
      let k = so.count in
      sym (table-self start (length (map said old)) (map said new) (λ j. step j (get_or (map said old) j start)) (m ∙ k ∙ sym n)
      (λ j l. sym (so.done j (omega (arith, n, l, h)) (omega (arith, n, l)))))
