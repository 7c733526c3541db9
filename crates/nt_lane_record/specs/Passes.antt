-- What passes keep and learn.
use Rattle.std.proofs.Common.{◌∙◌}
use Rattle.std.specs.Prelude.{Contains, refl, ℕ, ◌≡◌, ◌≤◌}
use Rattle.nt_mark.specs.declared.view.Entry.{Entry}
use Rattle.nt_mark.specs.declared.view.LaneList.{LaneList}
use Rattle.nt_mark.specs.declared.view.View.{View}
use Rattle.nt_mark.specs.Views.{reach}

-- the second view has and knows all that the first had and knew
pub record Grows (v w : View) : Type 0 where
  pub parts : w.parts ≡ v.parts
  pub entries : (e : Entry) → Contains v.entries e → Contains w.entries e
  pub known : (e : Entry) → Contains v.known e → Contains w.known e
  pub prefixes : (k : LaneList) → Contains v.prefixes k → Contains w.prefixes k

pub grows_same : (v : View) → Grows v v
grows_same v = record { parts = refl; entries = λ e h. h; known = λ e h. h; prefixes = λ k h. h }

pub grows_through : (u v w : View) → Grows u v → Grows v w → Grows u w
grows_through u v w g h = record {
  parts = h.parts ∙ g.parts;
  entries = λ e k. h.entries e (g.entries e k);
  known = λ e k. h.known e (g.known e k);
  prefixes = λ q k. h.prefixes q (g.prefixes q k);
}

-- the seat drew, marked and looked at nothing; what it knows may be more
pub record Learns (v w : View) : Type 0 where
  pub entries : w.entries ≡ v.entries
  pub marks : w.marks ≡ v.marks
  pub looks : w.looks ≡ v.looks
  pub least : (u : ℕ) → reach u v ≤ reach u w
  pub grows : Grows v w
