-- What came of a try to make an event under the locks that are held.
use Rattle.std.specs.Prelude.{All, List, [], false, map, max, ℕ, ◌++◌, ◌+◌, ◌<◌, ◌^◌, ◌∷◌, ◌≡◌, ◌≤◌}
use Rattle.nt_event.specs.declared.events.Event.{Event}
use Rattle.nt_event.specs.declared.jobs.Job.{Job}
use Rattle.nt_event.specs.declared.jobs.Stand.{Stand}
use Rattle.nt_event.specs.declared.scripts.Script.{Script}
use Rattle.nt_event.specs.Lanes.{lane_number, what_lanes}
use Rattle.nt_event.specs.Lists.{table, value_at}
use Rattle.nt_event.specs.Requests.{Ask, what_asks}
use Rattle.nt_event.specs.Acts.{Found, IsActed, IsRefused, acted_of}
use Rattle.nt_event.specs.declared.acts.ActRefusal.{ActRefusal}
use Rattle.nt_event.specs.declared.acts.Acted.{Acted}
use Rattle.nt_event.specs.declared.acts.Made.{Made}
use Rattle.nt_event.specs.declared.events.Rises.{Rises}
use Rattle.nt_floor.specs.Seen.{SameInterrupts}
use Rattle.nt_mark.specs.declared.view.View.{View}
use Rattle.nt_mark.specs.Views.{entry, reach, request_word, step_word}
use Rattle.nt_states.specs.LaneLists.{AskFits}
use Rattle.nt_states.specs.Reads.{job_lanes}
use Rattle.nt_lane.specs.declared.tries.Tried.{Tried}
use Rattle.nt_lane.specs.declared.tries.Tried.TheVariants.{Again, Done, Refused}
use Rattle.nt_lane.specs.Marked.{mark_for}
use Rattle.nt_lane_record.specs.Records.{IsAskKnown}
use Rattle.nt_lane.specs.Seats.{AreShownOn, FoundBy}
use Rattle.nt_lane_record.specs.Passes.{Grows, Learns}

-- the pass drew this event as touching these lanes, marked its asks, and drew, marked and looked at nothing else; what
-- it knows may be more
pub record HasMade (n : ℕ) (e : Event) (lanes : List ℕ) (asks : List Ask) (v w : View) : Type 0 where
  pub entries : w.entries ≡ v.entries ++ entry n e lanes ∷ []
  pub marks : w.marks ≡ v.marks ++ map (mark_for n) asks
  pub looks : w.looks ≡ v.looks
  pub least : (u : ℕ) → reach u v ≤ reach u w
  pub from : reach step_word v ≤ n
  pub to : n + 1 ≤ reach step_word w
  pub asked : All (IsAskKnown n w) asks
  pub grows : Grows v w

-- the event was made: it is the job's in the states found, which the pass tells, and its asks were marked
pub record IsDone (s : Script) (st : Stand) (job : Job) (v w : View) (a : Acted) : Type 0 where
  pub found : Found
  pub by : FoundBy s w a.number a.event st found
  pub acted : IsActed s found st job a
  pub made : HasMade a.number a.event (map (lane_number s) (what_lanes s st a.event.what found.lanes))
      (what_asks s st a.event.what found.lanes) v w
  pub asks_named : All (AskFits s) (what_asks s st a.event.what found.lanes)
  pub fits : a.number + 1 < 2 ^ 64
  pub told : (c : ℕ) → c < 16 → (value_at a.told.value c ≤ reach (request_word st.cpu c) w) ×
      (value_at a.told.value c ≤ reach step_word w)

-- none was, for this reason: in the last states that the pass knows of the job's lanes
pub record IsNotDone (s : Script) (st : Stand) (job : Job) (v w : View) (r : ActRefusal) : Type 0 where
  pub found : Found
  pub shown : AreShownOn s w found (job_lanes s st job)
  pub cause : IsRefused s found st job r
  pub learns : Learns v w

-- the event was made and is written, and what was seen is raised to what the touched lanes told
pub record IsMade (s : Script) (st : Stand) (job : Job) (v w : View) (before after : List ℕ) (e : Event)
    (m : Made) : Type 0 where
  pub told : Rises
  pub done : IsDone s st job v w (acted_of m e told)
  pub seen : after ≡ table 16 (λ c. max (value_at before c) (value_at told.value c))
  pub interrupts : m.interrupts ≡ false → SameInterrupts before after

-- nothing is written of an event, and nothing more was seen
pub record IsUnwritten (before after : List ℕ) (e f : Event) : Type 0 where
  pub event : f ≡ e
  pub seen : after ≡ before

abbrev pub IsTried : Script → Stand → Job → View → View → List ℕ → List ℕ → Event → Event → Tried → Type 0
IsTried s st job v w before after e f (Done m) = IsMade s st job v w before after f m
IsTried s st job v w before after e f (Refused r) = IsNotDone s st job v w r × IsUnwritten before after e f
IsTried s st job v w before after e f (Again needs) = Learns v w × IsUnwritten before after e f
