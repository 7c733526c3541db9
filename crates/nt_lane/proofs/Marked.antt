-- What a pass has and knows after it marked an event for what the event asks.
use Rattle.std.proofs.Common.{append-nil, arith, refl, subst, sym, ◌∙◌}
use Rattle.std.proofs.lemmas.List.{append_assoc, drop_all}
use Rattle.std.proofs.lemmas.List.Elements.{All-cons, All-nil}
use Rattle.std.specs.Prelude.{List, [], drop, length, map, max, ℕ, ◌+◌, ◌∷◌, ◌≡◌, ◌≢◌, ◌≤◌}
use Rattle.nt_event.specs.Requests.{Ask}
use Rattle.nt_mark.specs.declared.view.View.{View}
use Rattle.nt_mark.specs.Views.{marked, reach, reached_at, request_word, step_word}
use Rattle.nt_mark.proofs.Reach.{greatest_append, one_other, one_this}
use Rattle.nt_event.specs.declared.class.Asked.{Asked}
use Rattle.nt_states.specs.LaneLists.{as_asks}
use Rattle.nt_lane.specs.Marked.{AreMarked, mark_for, marked_all}
use Rattle.nt_lane_record.specs.Records.{IsAskKnown}

-- marking an event for each of its asks in turn gives a pass that marked just them
pub marked_is : (n : ℕ) (asks : List Ask) (v : View) → AreMarked n asks v (marked_all n asks v)
marked_is n [] v = record {
  parts = refl;
  entries = refl;
  marks = sym (append-nil v.marks);
  looks = refl;
  known = refl;
  prefixes = refl;
  least = λ u. omega arith;
  step = refl;
  asked = All-nil (IsAskKnown n v);
}
marked_is n (a ∷ asks) v =
    let word : ℕ = request_word a.cpu a.class in
    let one : View = marked v a.cpu a.class n in
    let all : View = marked_all n asks one in
    let h = marked_is n asks one in
    let ne : word ≢ step_word = λ e. absurd (omega (arith, e)) in
    let this : reach word one ≡ max (reach word v) (n + 1) = one_this word (n + 1) v.reached in
    record {
      parts = h.parts;
      entries = h.entries;
      marks = h.marks ∙ append_assoc v.marks (mark_for n a ∷ []) (map (mark_for n) asks);
      looks = h.looks;
      known = h.known;
      prefixes = h.prefixes;
      least = λ u. let k = h.least u in let g = greatest_append u v.reached (reached_at word (n + 1) ∷ []) in omega arith;
      step = h.step ∙ one_other step_word word (n + 1) v.reached ne;
      asked = All-cons (IsAskKnown n all) a asks (let k = h.least word in omega arith) h.asked;
    }

-- the loop
pub all_marked : (n i : ℕ) (asks : List Asked) (v w : View) → length asks ≤ i → marked_all n (as_asks (drop i asks)) w ≡ marked_all n (as_asks asks) v →
    AreMarked n (as_asks asks) v w
all_marked n i asks v w h e =
    let z : w ≡ marked_all n (as_asks asks) v = rw (drop_all i asks h) at e in
    subst (λ (x : View). AreMarked n (as_asks asks) v x) (sym z) (marked_is n (as_asks asks) v)
