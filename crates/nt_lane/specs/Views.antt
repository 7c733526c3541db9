-- What words and floors see of a pass.
use Rattle.std.proofs.Common.{ap, append-nil, append_assoc, sym, ◌∙◌}
use Rattle.std.specs.List.{list_any}
use Rattle.std.specs.Prelude.{Bool, List, None, Some, [], false, length, map, refl, ℕ, ◌&&◌, ◌*◌, ◌++◌, ◌-◌}
use Rattle.std.specs.Prelude.{◌==◌, ◌∷◌, ◌≡◌}
use Rattle.nt_event.specs.declared.numbers.CpuNo.{CpuNo}
use Rattle.nt_floor.specs.Lists.{Draw, Lists, Look as LookTold, Mark as MarkTold}
use Rattle.nt_floor.specs.Views.{View as WordsView}
use Rattle.nt_mark.specs.declared.marks.Marks.{Marks}
use Rattle.nt_mark.specs.declared.view.Entry.{Entry}
use Rattle.nt_mark.specs.declared.view.Look.{Look}
use Rattle.nt_mark.specs.declared.view.Mark.{Mark}
use Rattle.nt_mark.specs.declared.view.View.{View}
use Rattle.nt_mark.specs.Names.{cpus_of, limit_of}
use Rattle.nt_mark.specs.Views.{reach, request_word, step_word}
use Rattle.nt_lane_record.specs.Passes.{Grows, grows_same, grows_through}

abbrev pub draw_told : Entry → Draw
draw_told e = record { number = e.number; event = e.event; lanes = e.lanes }

abbrev pub mark_told : Mark → MarkTold
mark_told m = record { cpu = m.cpu; class = m.class; number = m.number }

abbrev pub look_told : Look → LookTold
look_told l = record { cpu = l.cpu; class = l.class; value = l.value }

-- the lists of a pass
abbrev pub lists_of : View → Lists
lists_of v = record { draws = map draw_told v.entries; marks = map mark_told v.marks; looks = map look_told v.looks }

-- the mark says that the event of this number asks for the class on the processor
abbrev pub is_mark : ℕ → CpuNo → ℕ → Mark → Bool
is_mark n p c m = (m.number == n) && ((m.cpu.0 == p.0) && (m.class == c))

-- how many numbers the pass may still draw
abbrev pub drawable_of : Marks → View → ℕ
drawable_of m v = limit_of m * v.parts - length v.entries

-- what words see of a pass of these marks: it is never alone, and tells no states
abbrev pub words_of : Marks → View → WordsView
words_of m v =
    record {
      cpus = cpus_of m;
      alone = false;
      drawable = drawable_of m v;
      next = reach step_word v;
      lists = Some (lists_of v);
      value = λ p c. reach (request_word p c) v;
      marked = λ n p c. list_any (is_mark n p c) v.marks;
      states = None;
      told = λ x p c. 0;
    }

-- the number of the last of these entries, or this one
abbrev pub last_drawn : ℕ → List Entry → ℕ
last_drawn n [] = n
last_drawn n (e ∷ es) = last_drawn e.number es

pub last_drawn_of : (n : ℕ) (xs ys : List Entry) → last_drawn (last_drawn n xs) ys ≡ last_drawn n (xs ++ ys)
last_drawn_of n [] ys = refl
last_drawn_of n (x ∷ xs) ys = last_drawn_of x.number xs ys

-- the second seat has and knows all that the first had and knew; it may have drawn more, and tells the number of the
-- last of it
pub record SeatGrows (m n : ℕ) (v w : View) : Type 0 where
  pub view : Grows v w
  pub more : List Entry
  pub entries : w.entries ≡ v.entries ++ more
  pub last : n ≡ last_drawn m more

pub seat_same : (n : ℕ) (v : View) → SeatGrows n n v v
seat_same n v = record { view = grows_same v; more = []; entries = sym (append-nil v.entries); last = refl }

pub seat_through : (l m n : ℕ) (u v w : View) → SeatGrows l m u v → SeatGrows m n v w → SeatGrows l n u w
seat_through l m n u v w g h = record {
  view = grows_through u v w g.view h.view;
  more = g.more ++ h.more;
  entries = h.entries ∙ (ap (λ (es : List Entry). es ++ h.more) g.entries ∙ append_assoc u.entries g.more h.more);
  last = h.last ∙ (ap (λ (k : ℕ). last_drawn k h.more) g.last ∙ last_drawn_of l g.more h.more);
}
