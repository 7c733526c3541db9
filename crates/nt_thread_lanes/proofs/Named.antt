-- The APC that is due is one of the script's.
use Rattle.std.proofs.Common.{Option, Some, None, IfSome, IsTrue, ◌≡◌, ℕ}
use Rattle.nt_event.specs.declared.commands.Regions.{Regions}
use Rattle.nt_event.specs.declared.inserts.Pick.{Pick}
use Rattle.nt_event.specs.declared.numbers.ThreadNo.{ThreadNo}
use Rattle.nt_event.specs.declared.scripts.Script.{Script}
use Rattle.nt_event.specs.Apcs.{deliverable, first_user}
use Rattle.nt_event.specs.Jobs.{user_due}
use Rattle.nt_event.specs.Script.{has_apc}
use Rattle.nt_event.specs.Threads.{ThreadFacts}
use Rattle.nt_event.proofs.Options.{Holds}
use Rattle.nt_thread_lanes.specs.Sound.{AreOurs, IsOurs}
use Rattle.nt_thread_lanes.proofs.Firsts.{of_deliverable, of_user, of_user_due}

abbrev pub IsNamed : Script → Option Pick → Type 0
IsNamed s o = IfSome o (λ x. IsTrue (has_apc s x.apc))

-- an APC that belongs to a thread of a script is one that the script names
named : (s : Script) (t : ThreadNo) (o : Option Pick) → Holds (IsOurs s t) o → IsNamed s o
named s t None h = tt
named s t (Some x) h = h.apc

-- the deliverable kernel APC of a thread is of an object of the script
pub deliverable_named : (s : Script) (t : ThreadNo) (x : ThreadFacts) (r : Regions) (level : ℕ) (o : Option Pick) → AreOurs s t x.apcs → o
    ≡ deliverable x.apcs r level → IsNamed s o
deliverable_named s t x r level o ours e = rw e (named s t (deliverable x.apcs r level) (of_deliverable (IsOurs s t) x.apcs r level ours))

-- the user APC that is due in a thread is of an object of the script
pub due_named : (s : Script) (t : ThreadNo) (x : ThreadFacts) (o : Option Pick) → AreOurs s t x.apcs → o ≡ user_due x → IsNamed s o
due_named s t x o ours e = rw e (named s t (user_due x) (of_user_due (IsOurs s t) x ours))

-- the first user APC of a thread is of an object of the script
pub first_named : (s : Script) (t : ThreadNo) (x : ThreadFacts) (o : Option Pick) → AreOurs s t x.apcs → o ≡ first_user x.apcs → IsNamed s o
first_named s t x o ours e = rw e (named s t (first_user x.apcs) (of_user (IsOurs s t) x.apcs ours))
