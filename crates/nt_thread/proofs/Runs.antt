-- Each call keeps that nothing is deliverable behind a block.
use Rattle.std.proofs.Common.{◌≡◌, ◌∷◌, ◌&&◌, Bool, List, [], false, if◌then◌else◌, is_some, not, refl, subst, true, ℕ, ◌==◌}
use Rattle.std.proofs.lemmas.Bool.{false≢true}
use Rattle.nt_event.specs.Apcs.{closed_apcs, deliverable, has_user, takes, with_apc, without_apc}
use Rattle.nt_event.specs.Routines.{is_kernel_kind}
use Rattle.nt_event.specs.Threads.{ThreadFacts, ended, ends_by_alert, ends_by_apc, ends_by_expiry, ends_by_release, is_alerted, is_gone, set_alerted}
use Rattle.nt_event.specs.Waits.{alert_facts, alert_tested, answered, apc_taken, expiry_facts, insert_facts, is_satisfied, leaving_facts, release_facts}
use Rattle.nt_event.specs.Waits.{wait_reply, waited}
use Rattle.nt_event.specs.Replies.{alerted, is_user, kernel_apc, satisfied, user_apc}
use Rattle.nt_event.specs.declared.commands.ApcKind.{ApcKind}
use Rattle.nt_event.specs.declared.commands.ApcKind.TheVariants.{Normal as NormalApc, Special as SpecialApc, User as UserApc}
use Rattle.nt_event.specs.declared.commands.Mode.{Mode}
use Rattle.nt_event.specs.declared.commands.Mode.TheVariants.{Kernel as KernelMode, User as UserMode}
use Rattle.nt_event.specs.declared.commands.Reply.{Reply}
use Rattle.nt_event.specs.declared.commands.Reply.TheVariants.{Blocked, Done, No, Refused, Spin, Status, Yes}
use Rattle.nt_event.specs.declared.inserts.Pick.{Pick}
use Rattle.nt_event.specs.declared.numbers.ApcNo.{ApcNo}
use Rattle.nt_event.specs.declared.threads.Doing.{Doing}
use Rattle.nt_event.specs.declared.threads.Doing.TheVariants.{Blocked as IsBlocked, Gone as IsGone, Ready as IsReady, Running as IsRunning}
use Rattle.nt_thread.proofs.Quiet.{none-from, quiet-added, quiet-without}
use Rattle.nt_thread.specs.Laws.{BlocksAreQuiet}
use Rattle.nt_event.specs.Quiet.{IsQuiet, NothingBehind, QuietDoing}
use Rattle.nt_thread.specs.Runs.{Act, Alerts, EndsDelay, GivesWay, Goes, Inserts, Leaves, Releases, Removes, Resumes, Takes, TestsAlert, Wait, Waits, after}
use Rattle.nt_thread.specs.Runs.{facts_of}

-- ---- what changes neither what it is doing nor its APCs

-- setting an alert flag keeps that nothing is deliverable behind a block
quiet-set_alerted : (m : Mode) (b : Bool) (x : ThreadFacts) → NothingBehind x → NothingBehind (set_alerted m b x)
quiet-set_alerted KernelMode b x h = h
quiet-set_alerted UserMode b x h = h

-- a choice of two threads' facts has nothing deliverable behind a block, if both have nothing
quiet-if : (b : Bool) (x y : ThreadFacts) → NothingBehind x → NothingBehind y → NothingBehind (if b then x else y)
quiet-if true x y h k = h
quiet-if false x y h k = k

-- a wait that answers at once keeps that nothing is deliverable behind a block
quiet-answered : (st : ℕ) (m : Mode) (alertable delay : Bool) (x : ThreadFacts) → NothingBehind x → NothingBehind (answered st m alertable delay x)
quiet-answered st m alertable delay x h =
    quiet-if (st == satisfied) _ _ (quiet-if delay _ _ h h) (quiet-if (st == alerted) _ _
    (quiet-set_alerted (if is_alerted m x then m else KernelMode) false x h) (quiet-if ((st == user_apc) && alertable) _ _ h h))

-- an alert test keeps that nothing is deliverable behind a block
quiet-alert_tested : (m : Mode) (x : ThreadFacts) → NothingBehind x → NothingBehind (alert_tested m x)
quiet-alert_tested m x h =
    quiet-if (is_alerted m x) _ _ (quiet-set_alerted m false x h) (quiet-if (is_user m && has_user x.apcs) _ _ h h)

-- an APC that is taken keeps that nothing is deliverable behind a block
quiet-taken : (k : ApcKind) (a : ApcNo) (x : ThreadFacts) → NothingBehind x → NothingBehind (apc_taken k a x)
quiet-taken SpecialApc a x h = quiet-without a x.doing x.apcs (without_apc a x.apcs) refl h
quiet-taken NormalApc a x h = quiet-without a x.doing x.apcs (without_apc a x.apcs) refl h
quiet-taken UserApc a x h = quiet-without a x.doing x.apcs (without_apc a x.apcs) refl h

-- a thread that starts to leave keeps that nothing is deliverable behind a block
quiet-left : (x : ThreadFacts) → NothingBehind x → NothingBehind (leaving_facts x)
quiet-left x h = go x.doing h where
  go : (d : Doing) → QuietDoing d x.apcs → QuietDoing d (closed_apcs x.apcs)
  go (IsBlocked w) q = record { kernel = q.kernel; user = q.user }
  go (IsReady level status) q = tt
  go IsRunning q = tt
  go IsGone q = tt

-- ---- what ends a wait

-- a release keeps that nothing is deliverable behind a block
quiet-release : (x : ThreadFacts) → NothingBehind x → NothingBehind (release_facts x)
quiet-release x h = quiet-if (ends_by_release x) _ _ tt (quiet-if (is_gone x) _ _ h h)

-- the expiry of a delay keeps that nothing is deliverable behind a block
quiet-expiry : (from : ℕ) (x : ThreadFacts) → NothingBehind x → NothingBehind (expiry_facts from x)
quiet-expiry from x h = quiet-if (ends_by_expiry from x) _ _ tt h

-- an alert of a thread keeps that nothing is deliverable behind a block
quiet-alert : (m : Mode) (x : ThreadFacts) → NothingBehind x → NothingBehind (alert_facts m x)
quiet-alert m x h = quiet-if (is_gone x) _ _ h (quiet-if (ends_by_alert m x) _ _ tt (quiet-set_alerted m true x h))

-- an insert of an APC keeps that nothing is deliverable behind a block
quiet-insert : (pick : Pick) (x : ThreadFacts) → NothingBehind x → NothingBehind (insert_facts pick x)
quiet-insert pick x h = go (ends_by_apc pick x) refl (is_kernel_kind pick.kind) where
  go : (b : Bool) → ends_by_apc pick x ≡ b → (k : Bool) → NothingBehind (if b then
      (if k then ended kernel_apc (record x { apcs = with_apc pick x.apcs }) else record
      (ended user_apc (record x { apcs = with_apc pick x.apcs })) { user_pending = true }) else (record x { apcs = with_apc pick x.apcs }))
  go true e true = tt
  go true e false = tt
  go false e k = quiet-added pick x h e

-- ---- a wait

-- a reply that is a status isn't the reply that the thread blocks
no-status : (st : ℕ) → Status st ≡ Blocked → ⊥
no-status st h = cc

-- where a wait blocks, the tests that would have ended it failed
pub record Blocks (x : ThreadFacts) (w : Wait) : Type 0 where
  pub kernel : is_some (deliverable x.apcs w.regions w.level) ≡ false
  pub user : (w.alertable && (is_user w.mode && has_user x.apcs)) ≡ false

-- if the reply to a wait is that the thread blocks, the conditions of a block hold
blocks-from : (x : ThreadFacts) (w : Wait) → wait_reply x w.regions w.level w.mode w.alertable w.reached ≡ Blocked → Blocks x w
blocks-from x w = go (is_some (deliverable x.apcs w.regions w.level)) refl (is_satisfied x w.reached) (w.alertable && is_alerted w.mode x)
    (w.alertable && (is_user w.mode && has_user x.apcs)) refl where
      go : (a : Bool) → is_some (deliverable x.apcs w.regions w.level) ≡ a → (b c d : Bool) → (w.alertable && (is_user w.mode && has_user x.apcs)) ≡ d →
          (if a then Status kernel_apc else (if b then Status satisfied else
          (if c then Status alerted else (if d then Status user_apc else (if w.alertable && x.alerted_kernel then Status alerted else
          (if not w.alertable && (is_user w.mode && x.user_pending) then Status user_apc else Blocked)))))) ≡ Blocked → Blocks x w
      go true e b c d f h = absurd (no-status kernel_apc h)
      go false e true c d f h = absurd (no-status satisfied h)
      go false e false true d f h = absurd (no-status alerted h)
      go false e false false true f h = absurd (no-status user_apc h)
      go false e false false false f h = record { kernel = e; user = f }

-- a wait whose conditions to block hold has nothing deliverable behind its block
quiet-blocked : (x : ThreadFacts) (w : Wait) → Blocks x w → IsQuiet (record {
  event = w.number;
  mode = w.mode;
  alertable = w.alertable;
  delay = is_some w.reached;
  level = w.level;
  regions = w.regions;
}) x.apcs
quiet-blocked x w h = record {
  kernel = none-from _ h.kernel;
  user = λ t. none-from _ (go (is_user w.mode) w.alertable (has_user x.apcs) t h.user);
} where
  go : (u a q : Bool) → (u && a) ≡ true → (a && (u && q)) ≡ false → q ≡ false
  go true true q t f = f
  go true false q t f = absurd (false≢true t)
  go false a q t f = absurd (false≢true t)

-- a wait, whatever its reply, keeps that nothing is deliverable behind a block
quiet-waited : (x : ThreadFacts) (w : Wait) (y : Reply) → NothingBehind x → (y ≡ Blocked → Blocks x w) →
    NothingBehind (waited w.number w.regions w.level w.mode w.alertable (is_some w.reached) y x)
quiet-waited x w (Status st) h b = quiet-answered st w.mode w.alertable (is_some w.reached) x h
quiet-waited x w Blocked h b = quiet-blocked x w (b refl)
quiet-waited x w Done h b = h
quiet-waited x w Yes h b = h
quiet-waited x w No h b = h
quiet-waited x w (Refused r) h b = h
quiet-waited x w Spin h b = h

-- ---- whole runs

-- if nothing is deliverable behind a block, so it is after one more call
pub quiet-after : (act : Act) (x : ThreadFacts) → NothingBehind x → NothingBehind (after act x)
quiet-after Resumes x h = tt
quiet-after (GivesWay level) x h = tt
quiet-after (Waits w) x h =
    quiet-waited x w (wait_reply x w.regions w.level w.mode w.alertable w.reached) h (blocks-from x w)
quiet-after Releases x h = quiet-release x h
quiet-after (EndsDelay from) x h = quiet-expiry from x h
quiet-after (Alerts m) x h = quiet-alert m x h
quiet-after (TestsAlert m) x h = quiet-alert_tested m x h
quiet-after (Inserts pick) x h = quiet-if (takes pick.apc x.apcs) _ _ (quiet-insert pick x h) h
quiet-after (Takes pick) x h = quiet-taken pick.kind pick.apc x h
quiet-after (Removes a) x h = quiet-without a x.doing x.apcs (without_apc a x.apcs) refl h
quiet-after Leaves x h = quiet-left x h
quiet-after Goes x h = tt

-- after every list of calls nothing is deliverable behind the thread's block
pub quiet-facts_of : (acts : List Act) → NothingBehind (facts_of acts)
quiet-facts_of [] = tt
quiet-facts_of (act ∷ past) = quiet-after act (facts_of past) (quiet-facts_of past)

-- a thread that is blocked after a list of calls has nothing deliverable for its wait
pub blocks-are_quiet : BlocksAreQuiet
blocks-are_quiet acts w d =
    let quiet : IsQuiet w (facts_of acts).apcs = subst (λ doing. QuietDoing doing (facts_of acts).apcs) d (quiet-facts_of acts) in
    record { kernel = quiet.kernel; user = quiet.user }
