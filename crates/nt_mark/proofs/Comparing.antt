-- A load by a seat that keeps a lane tells that it keeps the longest list.
use Rattle.std.proofs.Common.{◌≡◌, ℕ, List, [], ◌∷◌, ◌++◌, get_or, set, refl, sym, ap, ◌∙◌, subst, Contains}
use Rattle.std.proofs.lemmas.List.{set-get_or}
use Rattle.std.proofs.lemmas.List.Elements.{Contains-append_left, Contains-append_right}
use Rattle.atomic_table.specs.Table.{Me, keeps, Allows}
use Rattle.nt_mark.specs.declared.view.Note.{Note}
use Rattle.nt_mark.specs.declared.view.LaneList.{LaneList}
use Rattle.nt_mark.specs.declared.view.View.{View}
use Rattle.nt_mark.specs.declared.view.Sizes.{Sizes}
use Rattle.nt_mark.specs.Views.{both, first_notes, known_lists, telling}
use Rattle.nt_mark.specs.Rule.{Compares, Holds, IsBeginning, IsLongest, Keeps}
use Rattle.nt_mark.proofs.Sums.{in_first, set_here}

-- a load of any word keeps the rule and tells that each list the seat keeps is the longest that it knows
pub comparing : {S : Type 0} (key : Sizes) (slots id : ℕ) (me : Me S View) (i : ℕ) →
    Allows (Holds {S = S} key) slots id me i (λ a. a) (λ a m'. Compares me m')
comparing key slots id me i s h count at small =
    let mine = h.2.each id me.0 at in
    let words : set s.words i (get_or s.words i 0) ≡ s.words = set-get_or s.words i 0 in
    let views : set s.views id me.0 ≡ s.views = set_here s.views id me.0 at in (
      me.0,
      keeps,
      tt,
      (
        h.0,
        h.1,
        subst (λ (ws : List ℕ). Keeps key ws (set s.views id me.0) h.0 h.1) (sym words)
            (subst (λ (vs : List View). Keeps key s.words vs h.0 h.1) (sym views) h.2),
      ),
      (
        refl,
        λ k in_kept. record {
          fronts = λ q known same. subst (λ (l : List Note). IsBeginning q.notes l)
              (ap (λ (x : ℕ). get_or h.1 x []) same ∙ sym (mine.kept k in_kept).1) (mine.prefixes q known).1;
        },
      ),
    )

-- what a keeper that took in what another seat knows tells of that seat
module _ (k : LaneList) (v w u : View) (one : v.kept ≡ k ∷ []) (is : u ≡ both v (telling w 0 []))
    (all : (m : LaneList) → Contains u.kept m → IsLongest m.lane m.notes u) where
  its_list : u.kept ≡ k ∷ []
  its_list = ap (λ (z : View). z.kept) is ∙ ap (λ (ks : List LaneList). ks ++ []) one

  -- a keeper told all that a pass knows has the longest list of its lane, and so has it for that pass
  pub longest_told : (x : ℕ) (u' w' : View) → k.lane ≡ x → u' ≡ u → w' ≡ w → IsLongest x (first_notes u'.kept) w'
  longest_told x u' w' lane same_u same_w =
      let keeps : Contains u.kept k = subst (λ (ks : List LaneList). Contains ks k) (sym its_list) (in_first k []) in
      let notes : first_notes u'.kept ≡ k.notes = ap (λ (z : View). first_notes z.kept) same_u ∙ ap first_notes its_list in
      record {
        fronts = λ q known at.
            let in_w : Contains w.prefixes q = subst (λ (z : View). Contains z.prefixes q) same_w known in
            let in_u : Contains u.prefixes q = subst (λ (z : View). Contains z.prefixes q) (sym is)
            (Contains-append_right v.prefixes (known_lists w) q (Contains-append_left w.prefixes w.kept q in_w)) in
            subst (λ (l : List Note). IsBeginning q.notes l) (sym notes) ((all k keeps).fronts q in_u (at ∙ sym lane));
      }
