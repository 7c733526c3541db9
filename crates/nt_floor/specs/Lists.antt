-- What a value of Words did, where it tells it: the lists of its draws, marks and looks.
use Rattle.std.specs.Prelude.{List, None, Option, Some, [], ℕ, ◌++◌, ◌∷◌}
use Rattle.nt_event.specs.declared.events.Event.{Event}
use Rattle.nt_event.specs.declared.numbers.CpuNo.{CpuNo}
use Rattle.nt_event.specs.Requests.{Ask}

-- an event was drawn under this number, touching the lanes of these numbers
pub record Draw : Type 0 where
  pub number : ℕ
  pub event : Event
  pub lanes : List ℕ

-- the event of this number was marked as asking for a class of a processor
pub record Mark : Type 0 where
  pub cpu : CpuNo
  pub class : ℕ
  pub number : ℕ

-- a look at a processor's request word of a class gave this value
pub record Look : Type 0 where
  pub cpu : CpuNo
  pub class : ℕ
  pub value : ℕ

pub record Lists : Type 0 where
  pub draws : List Draw
  pub marks : List Mark
  pub looks : List Look

abbrev pub with_draw : ℕ → Event → List ℕ → Option Lists → Option Lists
with_draw n e lanes None = None
with_draw n e lanes (Some l) = Some (record l {
  draws = l.draws
      ++ record { number = n; event = e; lanes = lanes } ∷ [];
})

abbrev pub with_mark : CpuNo → ℕ → ℕ → Option Lists → Option Lists
with_mark p c n None = None
with_mark p c n (Some l) = Some (record l { marks = l.marks ++ record { cpu = p; class = c; number = n } ∷ [] })

abbrev pub with_look : CpuNo → ℕ → ℕ → Option Lists → Option Lists
with_look p c v None = None
with_look p c v (Some l) = Some (record l { looks = l.looks ++ record { cpu = p; class = c; value = v } ∷ [] })

-- the asks of an event, each marked in order
abbrev pub with_marks : ℕ → List Ask → Option Lists → Option Lists
with_marks n [] l = l
with_marks n (a ∷ asks) l = with_marks n asks (with_mark a.cpu a.class n l)
