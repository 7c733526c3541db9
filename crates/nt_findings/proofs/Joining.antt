-- What is known in one of two lists of what is known of expectations.
use Rattle.std.proofs.Common.{arith, inl, inr, subst, sym, ◌∙◌}
use Rattle.std.proofs.lemmas.Bool.{ltb-false, ltb-true}
use Rattle.std.proofs.lemmas.Bool.Decides.{nat_tests}
use Rattle.std.proofs.lemmas.List.{get_or-set_other, get_or-set_same, length-set}
use Rattle.std.specs.Prelude.{Bool, List, None, Option, Some, false, get_or, length, nat_lt, refl, set, true, ℕ, ◌+◌, ◌<◌, ◌==◌, ◌≡◌, ◌⊎◌}
use Rattle.nt_event.specs.declared.scripts.Script.{Script}
use Rattle.nt_expect.specs.declared.expectations.Expectation.{Expectation}
use Rattle.nt_findings.specs.declared.question.Finished.{Finished}
use Rattle.nt_findings.specs.declared.question.Question.{Question}
use Rattle.nt_findings.specs.Known.{AreJoined, AreJoinedTo, AreKnown, IsKnown}
use Rattle.nt_findings.specs.Questions.{IsFinished}

-- at first nothing is joined
pub joined_none : (others old : List (Option ℕ)) → AreJoinedTo others old old 0
joined_none others old = record { length_is = refl; each = λ j. inl refl; joined = λ j low q. absurd (omega (arith, low)) }

-- one place more
pub joined_more : (others old mid new : List (Option ℕ)) (n : ℕ) → AreJoinedTo others old mid n → length others ≡ length old → n < length others →
    ((get_or mid n None ≡ None → ⊥) → new ≡ mid) → (get_or mid n None ≡ None → new ≡ set mid n (get_or others n None)) →
    AreJoinedTo others old new (n + 1)
joined_more others old mid new n h count low kept noted = go (get_or mid n None) refl
  where
    last : (P : ℕ → Type 0) → ((k : ℕ) → k < n → P k) → P n → (k : ℕ) → k < n + 1 → P k
    last P each here k l = case (nat_lt k n) refl
      where
        case : (b : Bool) → nat_lt k n ≡ b → P k
        case true t = each k (ltb-true k n t)
        case false t =
            let high = ltb-false k n t in
            let same : n ≡ k = omega (arith, high, l) in
            subst P same here

    unlike : {x : ℕ} (o : Option ℕ) → o ≡ Some x → o ≡ None → ⊥
    unlike o a b = cc

    there : n < length mid
    there = let size = h.length_is in omega (arith, size, count, low)

    next : List (Option ℕ)
    next = set mid n (get_or others n None)

    here : get_or (set mid n (get_or others n None)) n None ≡ get_or others n None
    here = get_or-set_same mid n (get_or others n None) None there

    other : (j : ℕ) → (j == n) ≡ false → get_or (set mid n (get_or others n None)) j None ≡ get_or mid j None
    other j q = get_or-set_other mid n j (get_or others n None) None (λ same. let t = q in grind (arith, nat_tests, same, t))

    at : (j : ℕ) (b : Bool) → (j == n) ≡ b → (get_or mid j None ≡ get_or old j None) ⊎ (get_or mid j None ≡ get_or others j None) →
        (get_or (set mid n (get_or others n None)) j None ≡ get_or old j None) ⊎ (get_or (set mid n (get_or others n None)) j None ≡ get_or others j None)
    at j true q was =
        let same : n ≡ j = grind (arith, nat_tests, q) in
        inr (subst (λ (m : ℕ). get_or (set mid n (get_or others n None)) m None ≡ get_or others m None) same here)
    at j false q (inl same) = inl (other j q ∙ same)
    at j false q (inr same) = inr (other j q ∙ same)

    one : (k : ℕ) → k < n → (b : Bool) → (k == n) ≡ b → get_or (set mid n (get_or others n None)) k None ≡ None → get_or others k None ≡ None
    one k l true q none = absurd (grind (arith, nat_tests, q, l))
    one k l false q none = h.joined k l (sym (other k q) ∙ none)

    go : (o : Option ℕ) → get_or mid n None ≡ o → AreJoinedTo others old new (n + 1)
    go (Some x) q = subst (λ (fs : List (Option ℕ)). AreJoinedTo others old fs (n + 1)) (sym (kept (unlike (get_or mid n None) q))) (record {
      length_is = h.length_is;
      each = h.each;
      joined = last (λ k. get_or mid k None ≡ None → get_or others k None ≡ None) h.joined (λ none. absurd (unlike (get_or mid n None) q none));
    })
    go None q = subst (λ (fs : List (Option ℕ)). AreJoinedTo others old fs (n + 1)) (sym (noted q)) (record {
      length_is = length-set mid n (get_or others n None) ∙ h.length_is;
      each = λ j. at j (j == n) refl (h.each j);
      joined = last (λ k. get_or (set mid n (get_or others n None)) k None ≡ None → get_or others k None ≡ None)
          (λ k l none. one k l (k == n) refl none) (λ none. sym here ∙ none);
    })

-- what is known in either list is so
pub joined_known : (s : Script) (xs : List Expectation) (others old new : List (Option ℕ)) → AreKnown s xs others → AreKnown s xs old →
    AreJoined others old new → AreKnown s xs new
joined_known s xs others old new a b joined = record { count = joined.length_is ∙ b.count; each = λ j d low. go j d low (joined.each j) }
  where
    go : (j : ℕ) (d : Expectation) → j < length xs → (get_or new j None ≡ get_or old j None) ⊎ (get_or new j None ≡ get_or others j None) →
        IsKnown s (get_or xs j d) (get_or new j None)
    go j d low (inl same) = subst (IsKnown s (get_or xs j d)) (sym same) (b.each j d low)
    go j d low (inr same) = subst (IsKnown s (get_or xs j d)) (sym same) (a.each j d low)

-- and what a search left by what was known in the one list is so by both
pub joined_finished : (q : Question) (wanted : Option ℕ) (others old new : List (Option ℕ)) (f : Finished) →
    AreKnown q.script.now q.expectations.now others → AreJoined others old new → IsFinished q wanted others f → IsFinished q wanted new f
joined_finished q wanted others old new f known joined h = record {
  whole = h.whole;
  counted = h.counted;
  holds = λ whole j d low none.
      let count = known.count in
      h.holds whole j d low (joined.joined j (omega (arith, low, count)) none);
  ends = h.ends;
  shown = h.shown;
}
