-- A pass that has and knows more.
use Rattle.std.proofs.Common.{subst, sym}
use Rattle.std.proofs.lemmas.List.Elements.{Contains-append_left}
use Rattle.std.specs.Prelude.{Contains, List, ◌++◌, ◌≡◌}
use Rattle.nt_mark.specs.declared.view.Entry.{Entry}
use Rattle.nt_mark.specs.declared.view.LaneList.{LaneList}
use Rattle.nt_mark.specs.declared.view.View.{View}
use Rattle.nt_lane_record.specs.Passes.{Grows}

-- a view with these parts, entries and knowledge of another, or more of them
pub grows_by : (v w : View) → w.parts ≡ v.parts → (es : List Entry) → w.entries ≡ v.entries ++ es →
    (ks : List Entry) → w.known ≡ v.known ++ ks → (ps : List LaneList) → w.prefixes ≡ v.prefixes ++ ps → Grows v w
grows_by v w p es e ks k ps q = record {
  parts = p;
  entries = λ x h. subst (λ (l : List Entry). Contains l x) (sym e) (Contains-append_left v.entries es x h);
  known = λ x h. subst (λ (l : List Entry). Contains l x) (sym k) (Contains-append_left v.known ks x h);
  prefixes = λ x h. subst (λ (l : List LaneList). Contains l x) (sym q) (Contains-append_left v.prefixes ps x h);
}
