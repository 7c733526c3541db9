-- What a pass has and knows after it drew the number of an event and marked it.
use Rattle.std.proofs.Common.{append-nil, arith, subst, sym, ◌∙◌}
use Rattle.std.proofs.lemmas.List.Elements.{Contains-append_right}
use Rattle.std.specs.Prelude.{Contains, List, [], max, ℕ, ◌+◌, ◌++◌, ◌∷◌, ◌≡◌, ◌≤◌}
use Rattle.nt_event.specs.declared.events.Event.{Event}
use Rattle.nt_event.specs.Requests.{Ask}
use Rattle.nt_mark.specs.declared.view.Entry.{Entry}
use Rattle.nt_mark.specs.declared.view.View.{View}
use Rattle.nt_mark.specs.Views.{drawn, entry, greatest, reach, reached_at, step_word}
use Rattle.nt_mark.proofs.Reach.{greatest_append}
use Rattle.nt_lane.specs.Marked.{AreMarked}
use Rattle.nt_lane.specs.Tries.{HasMade}
use Rattle.nt_lane_record.proofs.Growing.{grows_by}
use Rattle.nt_lane_record.proofs.Tying.{here}

-- of each word it knows no less than before
still_reached : (n : ℕ) (e : Event) (lanes : List ℕ) (u : ℕ) (v : View) → reach u v ≤ reach u (drawn v n e lanes)
still_reached n e lanes u v =
    let g : greatest u (v.reached ++ reached_at step_word (n + 1) ∷ []) ≡ max (greatest u v.reached) (greatest u (reached_at step_word (n + 1) ∷ [])) =
    greatest_append u v.reached (reached_at step_word (n + 1) ∷ []) in
    omega (arith, g)

-- a pass that drew the number of an event and marked its asks has made the event
drawn_marked : (n : ℕ) (e : Event) (lanes : List ℕ) (asks : List Ask) (v w : View) → AreMarked n asks (drawn v n e lanes) w → reach step_word v ≤ n →
    n + 1 ≤ reach step_word w → HasMade n e lanes asks v w
drawn_marked n e lanes asks v w m from to = record {
  entries = m.entries;
  marks = m.marks;
  looks = m.looks;
  least = λ u. let a = still_reached n e lanes u v in let b = m.least u in omega (arith, a, b);
  from = from;
  to = to;
  asked = m.asked;
  grows = grows_by v w m.parts (entry n e lanes ∷ []) m.entries [] (m.known ∙ sym (append-nil v.known)) [] (m.prefixes ∙ sym (append-nil v.prefixes));
}

-- a pass that drew an event and then marked it for its asks has made the event
pub has_made : (n : ℕ) (e : Event) (given lanes : List ℕ) (named asks : List Ask) (v d w : View) → given ≡ lanes → named ≡ asks → d ≡ drawn v n e given →
    AreMarked n named d w → reach step_word v ≤ n → n + 1 ≤ reach step_word w → HasMade n e lanes asks v w
has_made n e given lanes named asks v d w gl na is m from to =
    let a : AreMarked n named (drawn v n e given) w = subst (λ (x : View). AreMarked n named x w) is m in
    let b : AreMarked n named (drawn v n e lanes) w = subst (λ (xs : List ℕ). AreMarked n named (drawn v n e xs) w) gl a in
    drawn_marked n e lanes asks v w (subst (λ (xs : List Ask). AreMarked n xs (drawn v n e lanes) w) na b) from to

-- a pass that made an event has the event's entry
pub made_contains : (n : ℕ) (e : Event) (lanes : List ℕ) (asks : List Ask) (v w : View) → HasMade n e lanes asks v w → Contains w.entries (entry n e lanes)
made_contains n e lanes asks v w h =
    let x : Entry = entry n e lanes in
    subst (λ (es : List Entry). Contains es x) (sym h.entries) (Contains-append_right v.entries (x ∷ []) x (here x))
