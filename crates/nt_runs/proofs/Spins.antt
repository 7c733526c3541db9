-- Only an acquire spins.
use Rattle.std.specs.Prelude.{Bool, None, Option, Some, false, if◌then◌else◌, is_some, not, refl, true, ℕ, ◌&&◌, ◌+◌, ◌≡◌}
use Rattle.nt_event.specs.declared.commands.Command.{Command}
use Rattle.nt_event.specs.declared.commands.Command.TheVariants.{Acquire, Alert, CancelTimer, Delay, InsertApc, Queue, Release, RemoveApc, SetTimer, StartWait}
use Rattle.nt_event.specs.declared.commands.Command.TheVariants.{TestAlert, Unqueue}
use Rattle.nt_event.specs.declared.commands.Mode.{Mode}
use Rattle.nt_event.specs.declared.commands.Regions.{Regions}
use Rattle.nt_event.specs.declared.commands.Reply.{Reply}
use Rattle.nt_event.specs.declared.commands.Reply.TheVariants.{Blocked, Spin, Status}
use Rattle.nt_event.specs.declared.jobs.Stand.{Stand}
use Rattle.nt_event.specs.declared.numbers.LockNo.{LockNo}
use Rattle.nt_event.specs.declared.scripts.Script.{Script}
use Rattle.nt_event.specs.Apcs.{deliverable, has_user}
use Rattle.nt_event.specs.Commands.{is_reached, reply}
use Rattle.nt_event.specs.Lanes.{Lanes, facts_of}
use Rattle.nt_event.specs.Replies.{alerted, is_spin, is_user, kernel_apc, satisfied, user_apc, yes_if}
use Rattle.nt_event.specs.Threads.{ThreadFacts, is_alerted}
use Rattle.nt_event.specs.Waits.{is_satisfied, wait_reply}

-- an answer of yes or no is never a spin
yes_spins : {A : Type 0} (b : Bool) → Spin ≡ yes_if b → A
yes_spins true h = cc
yes_spins false h = cc

-- the reply to a wait is no spin
wait_spins : (x : ThreadFacts) (r : Regions) (level : ℕ) (m : Mode) (a : Bool) (o : Option Bool) → is_spin (wait_reply x r level m a o) ≡ false
wait_spins x r level m a o =
    ifs (is_some (deliverable x.apcs r level)) (is_satisfied x o) (a && is_alerted m x) (a && (is_user m && has_user x.apcs)) (a && x.alerted_kernel)
    (not a && (is_user m && x.user_pending))
  where
    ifs : (a b c d e f : Bool) → is_spin (if a then Status kernel_apc else (if b then Status satisfied else (if c then Status alerted
        else (if d then Status user_apc else (if e then Status alerted else (if f then Status user_apc else Blocked)))))) ≡ false
    ifs true b c d e f = refl
    ifs false true c d e f = refl
    ifs false false true d e f = refl
    ifs false false false true e f = refl
    ifs false false false false true f = refl
    ifs false false false false false true = refl
    ifs false false false false false false = refl

-- a reply that isn't a spin is never equal to one
no_wait_spin : {A : Type 0} (y : Reply) → is_spin y ≡ false → Spin ≡ y → A
no_wait_spin Spin q h = cc
no_wait_spin y q h = cc

-- a call that is answered by spinning is an acquire
pub spin_acquires : (s : Script) (st : Stand) (l : Lanes) (c : Command) → Spin ≡ reply s st l c → (x : LockNo) × (c ≡ Acquire x)
spin_acquires s st l (Acquire x) h = (x, refl)
spin_acquires s st l (StartWait m a) h = no_wait_spin _ (wait_spins (facts_of l st.thread) st.regions st.level m a None) h
spin_acquires s st l (Delay m a u) h =
    no_wait_spin _ (wait_spins (facts_of l st.thread) st.regions st.level m a (Some (is_reached l.timers.now (l.timers.now + u)))) h
spin_acquires s st l (Queue d) h = yes_spins _ h
spin_acquires s st l (Unqueue d) h = yes_spins _ h
spin_acquires s st l (SetTimer t due period) h = yes_spins _ h
spin_acquires s st l (CancelTimer t) h = yes_spins _ h
spin_acquires s st l (InsertApc a) h = yes_spins _ h
spin_acquires s st l (RemoveApc a) h = yes_spins _ h
spin_acquires s st l (Release t) h = yes_spins _ h
spin_acquires s st l (Alert t m) h = yes_spins _ h
spin_acquires s st l (TestAlert m) h = yes_spins _ h
spin_acquires s st l c h = cc
