-- What an act over locked lanes answers, as a floor says it.
use Rattle.std.specs.Prelude.{List, ℕ, ◌≤◌}
use Rattle.nt_event.specs.declared.events.Event.{Event}
use Rattle.nt_event.specs.declared.events.Rises.{Rises}
use Rattle.nt_event.specs.declared.jobs.Job.{Job}
use Rattle.nt_event.specs.declared.jobs.Stand.{Stand}
use Rattle.nt_event.specs.declared.scripts.Script.{Script}
use Rattle.nt_event.specs.declared.acts.ActRefusal.{ActRefusal}
use Rattle.nt_event.specs.declared.acts.Made.{Made}
use Rattle.nt_event.specs.Acts.{Found, IsActed, acted_of}
use Rattle.nt_floor.specs.Views.{IsMoved, IsTold}
use Rattle.nt_mark.specs.declared.marks.Marks.{Marks}
use Rattle.nt_mark.specs.declared.view.View.{View}
use Rattle.nt_lane.specs.Seats.{AreListed, FoundBy}
use Rattle.nt_lane.specs.Tries.{IsMade, IsNotDone}
use Rattle.nt_lane.specs.Views.{drawable_of, words_of}
use Rattle.nt_lane.proofs.Listing.{listed_made}
use Rattle.nt_lane.proofs.Moves.{moved}
use Rattle.nt_lane.proofs.Passes.{listed_grows}

module _ (s : Script) (st : Stand) (j : Job) (v w : View) where
  -- an act made by a pass that could still draw moved its words and told values as a floor says
  pub act_made : (m : Marks) (old new : List ℕ) (e : Event) (made : Made) → 1 ≤ drawable_of m v → IsMade s st j v w old new e made →
      (f : Found) × (told : Rises) × FoundBy s w made.number e st f × (IsActed s f st j (acted_of made e told) ×
      (IsMoved s made.number e st f (words_of m v) (words_of m w) × IsTold st told old new (words_of m w)))
  act_made m old new e made room h =
      let d = h.done in
      (d.found, h.told, d.by, (d.acted, (moved m s made.number e st d.found v w room d.made, record { seen = h.seen; known = d.told })))

  -- if the lists of a pass list its events before an act that is made, they do after it
  pub made_listed : (old new : List ℕ) (e : Event) (made : Made) → IsMade s st j v w old new e made → AreListed v → AreListed w
  made_listed old new e made h before = listed_made s w made.number e st h.done.found _ _ v before h.done.made h.done.by.on

  -- if the lists of a pass list its events before an act that was refused, they do after it
  pub refused_listed : (r : ActRefusal) → IsNotDone s st j v w r → AreListed v → AreListed w
  refused_listed r n old = listed_grows v w n.learns.entries n.learns.grows old
