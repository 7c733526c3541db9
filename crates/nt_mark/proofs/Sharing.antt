-- What two seats know after each has told the other all that it knew.
use Rattle.std.proofs.Common.{◌≡◌, ℕ, List, [], ◌++◌, get_or, sym, ap, ◌∙◌, ⊎_elim, arith, max, All, Contains, subst}
use Rattle.std.proofs.lemmas.List.Elements.{Contains-append_left, Contains-append_right, Contains-append_cases, Contains-get_or, All-contains}
use Rattle.nt_mark.specs.declared.view.Entry.{Entry}
use Rattle.nt_mark.specs.declared.view.LaneList.{LaneList}
use Rattle.nt_mark.specs.declared.view.View.{View}
use Rattle.nt_mark.specs.Views.{reach, both, telling, known_entries, known_lists}
use Rattle.nt_mark.proofs.Reach.{reach_both}

module _ {A : Type 0} where
  among_own : (a b c d : List A) (x : A) → Contains (a ++ b) x → Contains ((a ++ c) ++ (b ++ d)) x
  among_own a b c d x h = ⊎_elim
      (λ p. Contains-append_left (a ++ c) (b ++ d) x (Contains-append_left a c x p))
      (λ q. Contains-append_right (a ++ c) (b ++ d) x (Contains-append_left b d x q))
      (Contains-append_cases a b x h)

  among_told : (a b c d : List A) (x : A) → Contains c x → Contains ((a ++ c) ++ (b ++ d)) x
  among_told a b c d x h = Contains-append_left (a ++ c) (b ++ d) x (Contains-append_right a c x h)

  -- whatever is in one of the first two lists is in both of the others
  in_both : (xs ys us vs : List A) → ((x : A) → Contains xs x → Contains us x) → ((x : A) → Contains ys x → Contains us x) →
      ((x : A) → Contains xs x → Contains vs x) → ((x : A) → Contains ys x → Contains vs x)
      → All (λ x. Contains us x × Contains vs x) (xs ++ ys)
  in_both xs ys us vs xu yu xv yv k d lt =
      let x = get_or (xs ++ ys) k d in
      let has = Contains-append_cases xs ys x (Contains-get_or (xs ++ ys) k d lt) in
      (⊎_elim (λ p. xu x p) (λ q. yu x q) has, ⊎_elim (λ p. xv x p) (λ q. yv x q) has)

module _ (v w v' w' : View) (is_v : v' ≡ both v (telling w 0 [])) (is_w : w' ≡ both w (telling v 0 [])) where
  -- after two seats told each other all, both know of each word the greater of what each knew
  pub shared_words : (u : ℕ) → let most = max (reach u v) (reach u w) in (reach u v' ≡ most) × (reach u w' ≡ most)
  shared_words u =
      let a = reach_both u v (telling w 0 []) in
      let b = reach_both u w (telling v 0 []) in
      (ap (reach u) is_v ∙ a, ap (reach u) is_w ∙ (b ∙ (let c : max (reach u w) (reach u v) ≡ max (reach u v) (reach u w) = omega arith in c)))

  -- after two seats told each other all, both know each entry that either knew
  pub shared_entries : All (λ e. Contains (known_entries v') e × Contains (known_entries w') e) (known_entries v ++ known_entries w)
  shared_entries =
      let V = sym (ap known_entries is_v) in
      let W = sym (ap known_entries is_w) in
      in_both (known_entries v) (known_entries w) (known_entries v') (known_entries w')
      (λ x h. subst (λ (l : List Entry). Contains l x) V (among_own v.known v.entries (known_entries w) [] x h))
      (λ x h. subst (λ (l : List Entry). Contains l x) V (among_told v.known v.entries (known_entries w) [] x h))
      (λ x h. subst (λ (l : List Entry). Contains l x) W (among_told w.known w.entries (known_entries v) [] x h))
      (λ x h. subst (λ (l : List Entry). Contains l x) W (among_own w.known w.entries (known_entries v) [] x h))

  -- after two seats told each other all, both know each beginning of a lane's list that either knew
  pub shared_lists : All (λ k. Contains (known_lists v') k × Contains (known_lists w') k) (known_lists v ++ known_lists w)
  shared_lists =
      let V = sym (ap known_lists is_v) in
      let W = sym (ap known_lists is_w) in
      in_both (known_lists v) (known_lists w) (known_lists v') (known_lists w')
      (λ x h. subst (λ (l : List LaneList). Contains l x) V (among_own v.prefixes v.kept (known_lists w) [] x h))
      (λ x h. subst (λ (l : List LaneList). Contains l x) V (among_told v.prefixes v.kept (known_lists w) [] x h))
      (λ x h. subst (λ (l : List LaneList). Contains l x) W (among_told w.prefixes w.kept (known_lists v) [] x h))
      (λ x h. subst (λ (l : List LaneList). Contains l x) W (among_own w.prefixes w.kept (known_lists v) [] x h))

-- an entry of the first seat is one that the second is told
pub told_entry : (v w v' w' : View) (e : Entry) → All (λ x. Contains (known_entries v') x × Contains (known_entries w') x)
    (known_entries v ++ known_entries w) → Contains v.entries e → Contains (known_entries w') e
told_entry v w v' w' e all h =
    (All-contains (λ x. Contains (known_entries v') x × Contains (known_entries w') x) (known_entries v ++ known_entries w) e all
    (Contains-append_left (known_entries v) (known_entries w) e (Contains-append_right v.known v.entries e h))).1
