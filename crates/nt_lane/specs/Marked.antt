-- What a pass has and knows after it marked an event for what the event asks.
use Rattle.std.specs.Prelude.{All, List, [], map, ℕ, ◌++◌, ◌∷◌, ◌≡◌, ◌≤◌}
use Rattle.nt_event.specs.Requests.{Ask}
use Rattle.nt_mark.specs.declared.view.Mark.{Mark}
use Rattle.nt_mark.specs.declared.view.View.{View}
use Rattle.nt_mark.specs.Views.{mark_of, marked, reach, step_word}
use Rattle.nt_lane_record.specs.Records.{IsAskKnown}

-- the mark of the event of this number for an ask
abbrev pub mark_for : ℕ → Ask → Mark
mark_for n a = mark_of a.cpu a.class n

-- after the event of this number was marked for each of these asks, in order
abbrev pub marked_all : ℕ → List Ask → View → View
marked_all n [] v = v
marked_all n (a ∷ asks) v = marked_all n asks (marked v a.cpu a.class n)

-- the pass marked the event of this number for each of these asks, and did nothing else: it knows that each was asked,
-- and of each word no less than it knew
pub record AreMarked (n : ℕ) (asks : List Ask) (v w : View) : Type 0 where
  pub parts : w.parts ≡ v.parts
  pub entries : w.entries ≡ v.entries
  pub marks : w.marks ≡ v.marks ++ map (mark_for n) asks
  pub looks : w.looks ≡ v.looks
  pub known : w.known ≡ v.known
  pub prefixes : w.prefixes ≡ v.prefixes
  pub least : (u : ℕ) → reach u v ≤ reach u w
  pub step : reach step_word w ≡ reach step_word v
  pub asked : All (IsAskKnown n w) asks
