-- In every history the events that name a thread are calls of its APC queues.
use Rattle.nt_apc.specs.Runs.{Act, Closes, Inserts, NumbersRise, Uses, after, queues_of}
use Rattle.nt_event.specs.Apcs.{ApcQueues}
use Rattle.nt_event.specs.Frames.{is_base_body}
use Rattle.nt_event.specs.Own.{made}
use Rattle.nt_event.specs.Regions.{stand_at}
use Rattle.nt_event.specs.Routines.{owner_of}
use Rattle.nt_event.specs.Waits.{facts, is_of_thread, new_pick}
use Rattle.nt_event.specs.declared.commands.Command.TheVariants.{InsertApc, RemoveApc}
use Rattle.nt_event.specs.declared.commands.Reply.TheVariants.{Yes}
use Rattle.nt_event.specs.declared.events.Begun.TheVariants.{Apc}
use Rattle.nt_event.specs.declared.events.Event.{Event}
use Rattle.nt_event.specs.declared.events.What.{What}
use Rattle.nt_event.specs.declared.events.What.TheVariants.{Begin, Call, End, Flush}
use Rattle.nt_event.specs.declared.frames.Body.{Body}
use Rattle.nt_event.specs.declared.jobs.Stand.{Stand}
use Rattle.nt_event.specs.declared.numbers.ThreadNo.{ThreadNo}
use Rattle.nt_event.specs.declared.scripts.Script.{Script}
use Rattle.std.proofs.Common.{◌++◌}
use Rattle.std.specs.Option.{option_map_or}
use Rattle.std.specs.Prelude.{Bool, List, Option, [], false, if◌then◌else◌, length, true, ℕ, ◌==◌, ◌∷◌, ◌≡◌}

abbrev pub acts_if : {A : Type 0} → Bool → A → List A
acts_if true x = x ∷ []
acts_if false x = []

-- what an event that the thread makes does to its APCs: one begins or is flushed, or the doors close at the end of the
-- base routine
abbrev pub made_apcs : Option Body → What → List Act
made_apcs body (Begin (Apc a) from) = Uses a ∷ []
made_apcs body (Flush a from) = Uses a ∷ []
made_apcs body (End f) = acts_if (option_map_or is_base_body body false) Closes
made_apcs body w = []

-- what an event of this number does to the APCs of the thread that it names
abbrev pub named_apcs : Script → ThreadNo → ℕ → What → List Act
named_apcs s t n (Call f (InsertApc a) Yes) = acts_if ((owner_of s a).0 == t.0) (Inserts (new_pick s a n))
named_apcs s t n (Call f (RemoveApc a) Yes) = acts_if ((owner_of s a).0 == t.0) (Uses a)
named_apcs s t n w = []

abbrev pub apc_acts : Script → ThreadNo → ℕ → Stand → Bool → What → List Act
apc_acts s t n st made w = named_apcs s t n w ++ (if made then made_apcs st.body w else [])

-- what a history does to them, the last act first
abbrev pub apc_acts_in : Script → ThreadNo → List Event → List Act
apc_acts_in s t [] = []
apc_acts_in s t (e ∷ past) =
    apc_acts s t (length past) (stand_at s e.cpu past) (is_of_thread s t e) e.what ++ apc_acts_in s t past

abbrev pub left_by_acts : List Act → ApcQueues → ApcQueues
left_by_acts [] q = q
left_by_acts (act ∷ acts) q = after act (left_by_acts acts q)

-- what each event leaves of a thread's APC queues is what its calls leave; so after a history they are what all calls
-- leave, on new queues, and each insert has a number above those before it
pub record ApcsAreCalls (s : Script) (t : ThreadNo) : Type 0 where
  pub event : (e : Event) (past : List Event) →
      (facts s t (e ∷ past)).apcs
      ≡ left_by_acts (apc_acts s t (length past) (stand_at s e.cpu past) (is_of_thread s t e) e.what)
      (facts s t past).apcs
  pub history : (past : List Event) → (facts s t past).apcs ≡ queues_of (apc_acts_in s t past)
  pub numbers : (past : List Event) → NumbersRise (apc_acts_in s t past)

abbrev pub ApcEventsAreCalls : Type 0
ApcEventsAreCalls = (s : Script) (t : ThreadNo) → ApcsAreCalls s t
