-- Each flag is what the last act of its row left.
use Rattle.std.proofs.Common.{◌≡◌, ◌∷◌, ◌&&◌, ◌==◌, Bool, List, None, Option, Some, [], ap, false, if◌then◌else◌, is_none, is_some, not, refl, sym, true, ◌∙◌}
use Rattle.std.proofs.Common.{ℕ}
use Rattle.std.proofs.lemmas.Bool.{eqb-true, false≢true}
use Rattle.nt_event.specs.Apcs.{has_user, takes, with_apc}
use Rattle.nt_event.specs.Routines.{is_kernel_kind}
use Rattle.nt_event.specs.Threads.{ThreadFacts, ended, ends_by_alert, ends_by_apc, ends_by_expiry, ends_by_release, is_alerted, is_gone, set_alerted}
use Rattle.nt_event.specs.Waits.{alert_facts, alert_taken, alert_tested, answered, apc_taken, expiry_facts, insert_facts, release_facts, wait_reply, waited}
use Rattle.nt_event.specs.Replies.{alerted, is_user, kernel_apc, satisfied, user_apc}
use Rattle.nt_event.specs.declared.commands.ApcKind.{ApcKind}
use Rattle.nt_event.specs.declared.commands.ApcKind.TheVariants.{Normal as NormalApc, Special as SpecialApc, User as UserApc}
use Rattle.nt_event.specs.declared.commands.Mode.{Mode}
use Rattle.nt_event.specs.declared.commands.Mode.TheVariants.{Kernel as KernelMode, User as UserMode}
use Rattle.nt_event.specs.declared.commands.Reply.{Reply}
use Rattle.nt_event.specs.declared.commands.Reply.TheVariants.{Blocked, Done, No, Refused, Spin, Status, Yes}
use Rattle.nt_event.specs.declared.inserts.Pick.{Pick}
use Rattle.nt_event.specs.declared.numbers.ApcNo.{ApcNo}
use Rattle.nt_thread.specs.Laws.{FactsAreLastLeft}
use Rattle.nt_thread.specs.Rows.{clears_alert, clears_leaving, clears_mark, clears_released, has_status, last_left, left_by, same_mode, sets_alert}
use Rattle.nt_thread.specs.Rows.{sets_leaving, sets_mark, sets_released}
use Rattle.nt_thread.specs.Runs.{Act, Alerts, EndsDelay, GivesWay, Goes, Inserts, Leaves, Releases, Removes, Resumes, Takes, TestsAlert, Wait, Waits, after}
use Rattle.nt_thread.specs.Runs.{facts_of}

-- a flag that both ways leave the same
same-if : (f : ThreadFacts → Bool) (b v : Bool) (x y : ThreadFacts) → f x ≡ v → f y ≡ v → f (if b then x else y) ≡ v
same-if f true v x y h k = h
same-if f false v x y h k = k

-- ---- alerted

-- setting the alert flag of one mode changes this mode's flag alone
set-alerted : (m k : Mode) (b : Bool) (x : ThreadFacts) → is_alerted m (set_alerted k b x) ≡ (if same_mode k m then b else is_alerted m x)
set-alerted KernelMode KernelMode b x = refl
set-alerted KernelMode UserMode b x = refl
set-alerted UserMode KernelMode b x = refl
set-alerted UserMode UserMode b x = refl

-- ending a wait leaves the alert flags as they were
same-ended : (m : Mode) (st : ℕ) (x : ThreadFacts) → is_alerted m (ended st x) ≡ is_alerted m x
same-ended KernelMode st x = refl
same-ended UserMode st x = refl

-- an alert sets its own mode's flag alone, unless it ends a wait or the thread is gone
alert-row : (m k : Mode) (x : ThreadFacts) → is_alerted m (alert_facts k x) ≡ left_by (sets_alert m (Alerts k) x) false (is_alerted m x)
alert-row m k x = go (is_gone x) (ends_by_alert k x) (same_mode k m) (set-alerted m k true x) where
  go : (g e s : Bool) → is_alerted m (set_alerted k true x) ≡ (if s then true else is_alerted m x) →
      is_alerted m (if g then x else (if e then ended alerted x else set_alerted k true x)) ≡ left_by (s && (not g && not e)) false (is_alerted m x)
  go true e true h = refl
  go true e false h = refl
  go false true true h = same-ended m alerted x
  go false true false h = same-ended m alerted x
  go false false true h = h
  go false false false h = h

-- setting the user-pending mark leaves the alert flags as they were
user_pending-alerted : (m : Mode) (b : Bool) (x : ThreadFacts) → is_alerted m (record x { user_pending = b }) ≡ is_alerted m x
user_pending-alerted KernelMode b x = refl
user_pending-alerted UserMode b x = refl

-- clearing the alert flag of one mode clears this mode's flag alone
clear-row : (m k : Mode) (x : ThreadFacts) → is_alerted m (set_alerted k false x) ≡ left_by false (same_mode k m) (is_alerted m x)
clear-row m k x = set-alerted m k false x

-- a test of the alert flag of one mode clears this mode's flag alone
test-row : (m k : Mode) (x : ThreadFacts) → is_alerted m (alert_tested k x) ≡ left_by false (same_mode k m) (is_alerted m x)
test-row m k x = go (is_alerted k x) (is_user k && has_user x.apcs) refl where
  same : (m k : Mode) → is_alerted k x ≡ false → is_alerted m x ≡ left_by false (same_mode k m) (is_alerted m x)
  same KernelMode KernelMode e = e
  same KernelMode UserMode e = refl
  same UserMode KernelMode e = refl
  same UserMode UserMode e = e

  go : (a u : Bool) → is_alerted k x ≡ a → is_alerted m (if a then set_alerted k false x else
      (if u then (record x { user_pending = true }) else x)) ≡ left_by false (same_mode k m) (is_alerted m x)
  go true u e = clear-row m k x
  go false true e = user_pending-alerted m true x ∙ same m k e
  go false false e = same m k e

-- ---- waits

-- a status is one of the three that differ
apart : (st n k : ℕ) → (n == k) ≡ false → (st == n) ≡ true → (st == k) ≡ false
apart st n k d e = let same : st ≡ n = eqb-true st n e in ap (λ (v : ℕ). v == k) same ∙ d

-- setting the user-pending mark under a condition leaves the alert flags as they were
alerted-user_pending : (m : Mode) (b c : Bool) (x : ThreadFacts) → is_alerted m (if c then (record x { user_pending = b }) else x) ≡ is_alerted m x
alerted-user_pending m b true x = user_pending-alerted m b x
alerted-user_pending m b false x = refl

-- clearing the released mark unless a wait is a delay leaves the alert flags as they were
alerted-released : (m : Mode) (d : Bool) (x : ThreadFacts) → is_alerted m (if d then x else (record x { released = false })) ≡ is_alerted m x
alerted-released KernelMode true x = refl
alerted-released KernelMode false x = refl
alerted-released UserMode true x = refl
alerted-released UserMode false x = refl

-- a wait that answers clears an alert flag only if it answers alerted, of its own mode if set, else kernel mode
answered-alerted : (m k : Mode) (st : ℕ) (a d : Bool) (x : ThreadFacts) →
    is_alerted m (answered st k a d x) ≡ left_by false ((st == alerted) && same_mode (if is_alerted k x then k else KernelMode) m) (is_alerted m x)
answered-alerted m k st a d x = go (st == satisfied) refl (st == alerted) refl where
  go : (b : Bool) → (st == satisfied) ≡ b → (c : Bool) → (st == alerted) ≡ c →
      is_alerted m (if b then (if d then x else (record x { released = false })) else
      (if c then alert_taken k x else (if (st == user_apc) && a then (record x { user_pending = true }) else x))) ≡ left_by false
      (c && same_mode (if is_alerted k x then k else KernelMode) m) (is_alerted m x)
  go true e true f = absurd (false≢true (sym (apart st satisfied alerted refl e) ∙ f))
  go true e false f = alerted-released m d x
  go false e true f = clear-row m (if is_alerted k x then k else KernelMode) x
  go false e false f = alerted-user_pending m true ((st == user_apc) && a) x

-- the reply to a wait clears an alert flag only if it is alerted; a wait that blocks clears none
waited-alerted : (m : Mode) (w : Wait) (y : Reply) (x : ThreadFacts) → is_alerted m
    (waited w.number w.regions w.level w.mode w.alertable (is_some w.reached) y x) ≡ left_by false
    (has_status alerted y && same_mode (if is_alerted w.mode x then w.mode else KernelMode) m) (is_alerted m x)
waited-alerted m w (Status st) x = answered-alerted m w.mode st w.alertable (is_some w.reached) x
waited-alerted KernelMode w Blocked x = refl
waited-alerted UserMode w Blocked x = refl
waited-alerted m w Done x = refl
waited-alerted m w Yes x = refl
waited-alerted m w No x = refl
waited-alerted m w (Refused r) x = refl
waited-alerted m w Spin x = refl

-- setting an alert flag leaves the user-pending mark as it was
set-alerted-user_pending : (k : Mode) (b : Bool) (x : ThreadFacts) → (set_alerted k b x).user_pending ≡ x.user_pending
set-alerted-user_pending KernelMode b x = refl
set-alerted-user_pending UserMode b x = refl

-- a wait that answers sets the user-pending mark only if it is alertable and answers user APC
answered-user_pending : (k : Mode) (st : ℕ) (a d : Bool) (x : ThreadFacts) →
    (answered st k a d x).user_pending ≡ left_by ((st == user_apc) && a) false x.user_pending
answered-user_pending k st a d x = go (st == satisfied) refl (st == alerted) refl (st == user_apc) refl where
  kept : (d : Bool) → (if d then x else (record x { released = false })).user_pending ≡ x.user_pending
  kept true = refl
  kept false = refl

  go : (b : Bool) → (st == satisfied) ≡ b → (c : Bool) → (st == alerted) ≡ c → (u : Bool) → (st == user_apc) ≡ u →
      (if b then (if d then x else (record x { released = false })) else
      (if c then alert_taken k x else (if u && a then (record x { user_pending = true }) else x))).user_pending ≡ left_by (u && a) false x.user_pending
  go true e c f true g = absurd (false≢true (sym (apart st satisfied user_apc refl e) ∙ g))
  go true e c f false g = kept d
  go false e true f true g = absurd (false≢true (sym (apart st alerted user_apc refl f) ∙ g))
  go false e true f false g = set-alerted-user_pending (if is_alerted k x then k else KernelMode) false x
  go false e false f u g = both (u && a) where
    both : (v : Bool) → (if v then (record x { user_pending = true }) else x).user_pending ≡ left_by v false x.user_pending
    both true = refl
    both false = refl

-- the reply to a wait sets the user-pending mark only if it is user APC and the wait is alertable
waited-user_pending : (w : Wait) (y : Reply) (x : ThreadFacts) → (waited w.number w.regions w.level w.mode w.alertable
    (is_some w.reached) y x).user_pending ≡ left_by (has_status user_apc y && w.alertable) false x.user_pending
waited-user_pending w (Status st) x = answered-user_pending w.mode st w.alertable (is_some w.reached) x
waited-user_pending w Blocked x = refl
waited-user_pending w Done x = refl
waited-user_pending w Yes x = refl
waited-user_pending w No x = refl
waited-user_pending w (Refused r) x = refl
waited-user_pending w Spin x = refl

-- setting an alert flag leaves the released mark as it was
set-alerted-released : (k : Mode) (b : Bool) (x : ThreadFacts) → (set_alerted k b x).released ≡ x.released
set-alerted-released KernelMode b x = refl
set-alerted-released UserMode b x = refl

-- a wait that answers clears the released mark only if it is satisfied and isn't a delay
answered-released : (k : Mode) (st : ℕ) (a : Bool) (reached : Option Bool) (x : ThreadFacts) →
    (answered st k a (is_some reached) x).released ≡ left_by false ((st == satisfied) && is_none reached) x.released
answered-released k st a reached x = go (st == satisfied) reached where
  rest : (c u : Bool) → (if c then alert_taken k x else (if u then (record x { user_pending = true }) else x)).released ≡ x.released
  rest true u = set-alerted-released (if is_alerted k x then k else KernelMode) false x
  rest false true = refl
  rest false false = refl

  go : (b : Bool) (reached : Option Bool) → (if b then (if is_some reached then x else (record x { released = false })) else
      (if st == alerted then alert_taken k x else (if (st == user_apc) && a then (record x { user_pending = true }) else x))).released ≡ left_by false
      (b && is_none reached) x.released
  go true None = refl
  go true (Some r) = refl
  go false reached = rest (st == alerted) ((st == user_apc) && a)

-- the reply to a wait clears the released mark only if it is satisfied and the wait isn't a delay
waited-released : (w : Wait) (y : Reply) (x : ThreadFacts) → (waited w.number w.regions w.level w.mode w.alertable
    (is_some w.reached) y x).released ≡ left_by false (has_status satisfied y && is_none w.reached) x.released
waited-released w (Status st) x = answered-released w.mode st w.alertable w.reached x
waited-released w Blocked x = refl
waited-released w Done x = refl
waited-released w Yes x = refl
waited-released w No x = refl
waited-released w (Refused r) x = refl
waited-released w Spin x = refl

-- setting an alert flag leaves the mark that the thread is leaving as it was
set-alerted-leaving : (k : Mode) (b : Bool) (x : ThreadFacts) → (set_alerted k b x).leaving ≡ x.leaving
set-alerted-leaving KernelMode b x = refl
set-alerted-leaving UserMode b x = refl

-- a wait, whatever its reply, leaves the mark that the thread is leaving as it was
waited-leaving : (w : Wait) (y : Reply) (x : ThreadFacts) → (waited w.number w.regions w.level w.mode w.alertable (is_some w.reached) y x).leaving ≡ x.leaving
waited-leaving w (Status st) x =
    same-if (λ z. z.leaving) (st == satisfied) x.leaving _ _ (same-if (λ z. z.leaving) (is_some w.reached) x.leaving _ _ refl refl)
    (same-if (λ z. z.leaving) (st == alerted) x.leaving _ _ (set-alerted-leaving (if is_alerted w.mode x then w.mode else KernelMode) false x)
    (same-if (λ z. z.leaving) ((st == user_apc) && w.alertable) x.leaving _ _ refl refl))
waited-leaving w Blocked x = refl
waited-leaving w Done x = refl
waited-leaving w Yes x = refl
waited-leaving w No x = refl
waited-leaving w (Refused r) x = refl
waited-leaving w Spin x = refl

-- ---- inserts

-- an insert changes no flag but the mark
insert-keeps : (f : ThreadFacts → Bool) (pick : Pick) (x : ThreadFacts) → f (record x { apcs = with_apc pick x.apcs }) ≡ f x →
    f (ended kernel_apc (record x { apcs = with_apc pick x.apcs })) ≡ f x →
    f (record (ended user_apc (record x { apcs = with_apc pick x.apcs })) { user_pending = true }) ≡ f x → f (insert_facts pick x) ≡ f x
insert-keeps f pick x none kernel user =
    same-if f (ends_by_apc pick x) (f x) _ _ (same-if f (is_kernel_kind pick.kind) (f x) _ _ kernel user) none

-- an insert of an APC leaves the alert flags as they were
insert-alerted : (m : Mode) (pick : Pick) (x : ThreadFacts) → is_alerted m (insert_facts pick x) ≡ is_alerted m x
insert-alerted KernelMode pick x = insert-keeps (λ z. z.alerted_kernel) pick x refl refl refl
insert-alerted UserMode pick x = insert-keeps (λ z. z.alerted_user) pick x refl refl refl

-- an insert of an APC sets the user-pending mark only if it is accepted and ends a wait by a user APC
insert-user_pending : (pick : Pick) (x : ThreadFacts) → (if takes pick.apc x.apcs then insert_facts pick x else x).user_pending ≡ left_by
    (takes pick.apc x.apcs && (ends_by_apc pick x && not (is_kernel_kind pick.kind))) false x.user_pending
insert-user_pending pick x = go (takes pick.apc x.apcs) (ends_by_apc pick x) (is_kernel_kind pick.kind) where
  go : (t e k : Bool) → (if t then (if e then (if k then ended kernel_apc (record x { apcs = with_apc pick x.apcs }) else record
      (ended user_apc (record x { apcs = with_apc pick x.apcs })) { user_pending = true }) else
      (record x { apcs = with_apc pick x.apcs })) else x).user_pending ≡ left_by (t && (e && not k)) false x.user_pending
  go true true true = refl
  go true true false = refl
  go true false k = refl
  go false e k = refl

-- ---- the other calls

-- an APC that is taken leaves the alert flags as they were
taken-alerted : (m : Mode) (k : ApcKind) (a : ApcNo) (x : ThreadFacts) → is_alerted m (apc_taken k a x) ≡ is_alerted m x
taken-alerted KernelMode SpecialApc a x = refl
taken-alerted KernelMode NormalApc a x = refl
taken-alerted KernelMode UserApc a x = refl
taken-alerted UserMode SpecialApc a x = refl
taken-alerted UserMode NormalApc a x = refl
taken-alerted UserMode UserApc a x = refl

-- an APC that is taken clears the user-pending mark only if it is a user APC
taken-user_pending : (k : ApcKind) (a : ApcNo) (x : ThreadFacts) → (apc_taken k a x).user_pending ≡ left_by false (not (is_kernel_kind k)) x.user_pending
taken-user_pending SpecialApc a x = refl
taken-user_pending NormalApc a x = refl
taken-user_pending UserApc a x = refl

-- an APC that is taken leaves the released mark as it was
taken-released : (k : ApcKind) (a : ApcNo) (x : ThreadFacts) → (apc_taken k a x).released ≡ x.released
taken-released SpecialApc a x = refl
taken-released NormalApc a x = refl
taken-released UserApc a x = refl

-- an APC that is taken leaves the mark that the thread is leaving as it was
taken-leaving : (k : ApcKind) (a : ApcNo) (x : ThreadFacts) → (apc_taken k a x).leaving ≡ x.leaving
taken-leaving SpecialApc a x = refl
taken-leaving NormalApc a x = refl
taken-leaving UserApc a x = refl

-- a release leaves a flag as it was, if ending a wait and setting the released mark do
release-keeps : (f : ThreadFacts → Bool) (x : ThreadFacts) → f (ended satisfied x) ≡ f x → f (record x { released = true }) ≡ f x → f (release_facts x) ≡ f x
release-keeps f x end mark = same-if f (ends_by_release x) (f x) _ _ end (same-if f (is_gone x) (f x) _ _ refl mark)

-- a release sets the released mark only if it ends no wait and the thread isn't gone
release-released : (x : ThreadFacts) → (release_facts x).released ≡ left_by (not (ends_by_release x) && not (is_gone x)) false x.released
release-released x = go (ends_by_release x) (is_gone x) where
  go : (e g : Bool) → (if e then ended satisfied x else (if g then x else (record x { released = true }))).released ≡ left_by (not e && not g) false x.released
  go true g = refl
  go false true = refl
  go false false = refl

-- the expiry of a delay leaves a flag as it was, if ending a wait does
expiry-keeps : (f : ThreadFacts → Bool) (from : ℕ) (x : ThreadFacts) → f (ended satisfied x) ≡ f x → f (expiry_facts from x) ≡ f x
expiry-keeps f from x end = same-if f (ends_by_expiry from x) (f x) _ _ end refl

-- an alert leaves a flag as it was, if ending a wait and setting an alert flag do
alert-keeps : (f : ThreadFacts → Bool) (m : Mode) (x : ThreadFacts) → f (ended alerted x) ≡ f x → f (set_alerted m true x) ≡ f x → f (alert_facts m x) ≡ f x
alert-keeps f m x end flag = same-if f (is_gone x) (f x) _ _ refl (same-if f (ends_by_alert m x) (f x) _ _ end flag)

-- an alert test leaves a flag as it was, if clearing an alert flag and setting the user-pending mark do
test-keeps : (f : ThreadFacts → Bool) (m : Mode) (x : ThreadFacts) → f (set_alerted m false x) ≡ f x → f (record x { user_pending = true }) ≡ f x →
    f (alert_tested m x) ≡ f x
test-keeps f m x flag mark =
    same-if f (is_alerted m x) (f x) _ _ flag (same-if f (is_user m && has_user x.apcs) (f x) _ _ mark refl)

-- an alert test sets the user-pending mark only in user mode, without an alert, where a user APC is pending
test-user_pending : (m : Mode) (x : ThreadFacts) → (alert_tested m x).user_pending ≡ left_by
    (not (is_alerted m x) && (is_user m && has_user x.apcs)) false x.user_pending
test-user_pending m x = go (is_alerted m x) (is_user m && has_user x.apcs) where
  go : (a u : Bool) → (if a then set_alerted m false x else (if u then (record x { user_pending = true }) else x)).user_pending ≡ left_by
      (not a && u) false x.user_pending
  go true u = set-alerted-user_pending m false x
  go false true = refl
  go false false = refl

-- ---- one call

-- an act sets a mode's alert flag, clears it or leaves it, as the row of this flag says
alerted-after : (m : Mode) (act : Act) (x : ThreadFacts) → is_alerted m (after act x) ≡ left_by (sets_alert m act x) (clears_alert m act x) (is_alerted m x)
alerted-after KernelMode Resumes x = refl
alerted-after UserMode Resumes x = refl
alerted-after KernelMode (GivesWay level) x = refl
alerted-after UserMode (GivesWay level) x = refl
alerted-after m (Waits w) x = waited-alerted m w (wait_reply x w.regions w.level w.mode w.alertable w.reached) x
alerted-after KernelMode Releases x = release-keeps (λ z. z.alerted_kernel) x refl refl
alerted-after UserMode Releases x = release-keeps (λ z. z.alerted_user) x refl refl
alerted-after KernelMode (EndsDelay from) x = expiry-keeps (λ z. z.alerted_kernel) from x refl
alerted-after UserMode (EndsDelay from) x = expiry-keeps (λ z. z.alerted_user) from x refl
alerted-after m (Alerts k) x = alert-row m k x
alerted-after m (TestsAlert k) x = test-row m k x
alerted-after m (Inserts pick) x = same-if (λ z. is_alerted m z) (takes pick.apc x.apcs) (is_alerted m x) _ _ (insert-alerted m pick x) refl
alerted-after m (Takes pick) x = taken-alerted m pick.kind pick.apc x
alerted-after KernelMode (Removes a) x = refl
alerted-after UserMode (Removes a) x = refl
alerted-after KernelMode Leaves x = refl
alerted-after UserMode Leaves x = refl
alerted-after KernelMode Goes x = refl
alerted-after UserMode Goes x = refl

-- an act sets the user-pending mark, clears it or leaves it, as the row of this mark says
user_pending-after : (act : Act) (x : ThreadFacts) → (after act x).user_pending ≡ left_by (sets_mark act x) (clears_mark act x) x.user_pending
user_pending-after Resumes x = refl
user_pending-after (GivesWay level) x = refl
user_pending-after (Waits w) x = waited-user_pending w (wait_reply x w.regions w.level w.mode w.alertable w.reached) x
user_pending-after Releases x = release-keeps (λ z. z.user_pending) x refl refl
user_pending-after (EndsDelay from) x = expiry-keeps (λ z. z.user_pending) from x refl
user_pending-after (Alerts m) x = alert-keeps (λ z. z.user_pending) m x refl (set-alerted-user_pending m true x)
user_pending-after (TestsAlert m) x = test-user_pending m x
user_pending-after (Inserts pick) x = insert-user_pending pick x
user_pending-after (Takes pick) x = taken-user_pending pick.kind pick.apc x
user_pending-after (Removes a) x = refl
user_pending-after Leaves x = refl
user_pending-after Goes x = refl

-- an act sets the released mark, clears it or leaves it, as the row of this mark says
released-after : (act : Act) (x : ThreadFacts) → (after act x).released ≡ left_by (sets_released act x) (clears_released act x) x.released
released-after Resumes x = refl
released-after (GivesWay level) x = refl
released-after (Waits w) x = waited-released w (wait_reply x w.regions w.level w.mode w.alertable w.reached) x
released-after Releases x = release-released x
released-after (EndsDelay from) x = expiry-keeps (λ z. z.released) from x refl
released-after (Alerts m) x = alert-keeps (λ z. z.released) m x refl (set-alerted-released m true x)
released-after (TestsAlert m) x = test-keeps (λ z. z.released) m x (set-alerted-released m false x) refl
released-after (Inserts pick) x = same-if (λ z. z.released) (takes pick.apc x.apcs) x.released _ _ (insert-keeps (λ z. z.released) pick x refl refl refl) refl
released-after (Takes pick) x = taken-released pick.kind pick.apc x
released-after (Removes a) x = refl
released-after Leaves x = refl
released-after Goes x = refl

-- an act sets the leaving mark, clears it or leaves it, as the row of this mark says
leaving-after : (act : Act) (x : ThreadFacts) → (after act x).leaving ≡ left_by (sets_leaving act x) (clears_leaving act x) x.leaving
leaving-after Resumes x = refl
leaving-after (GivesWay level) x = refl
leaving-after (Waits w) x = waited-leaving w (wait_reply x w.regions w.level w.mode w.alertable w.reached) x
leaving-after Releases x = release-keeps (λ z. z.leaving) x refl refl
leaving-after (EndsDelay from) x = expiry-keeps (λ z. z.leaving) from x refl
leaving-after (Alerts m) x = alert-keeps (λ z. z.leaving) m x refl (set-alerted-leaving m true x)
leaving-after (TestsAlert m) x = test-keeps (λ z. z.leaving) m x (set-alerted-leaving m false x) refl
leaving-after (Inserts pick) x = same-if (λ z. z.leaving) (takes pick.apc x.apcs) x.leaving _ _ (insert-keeps (λ z. z.leaving) pick x refl refl refl) refl
leaving-after (Takes pick) x = taken-leaving pick.kind pick.apc x
leaving-after (Removes a) x = refl
leaving-after Leaves x = refl
leaving-after Goes x = refl

-- ---- whole runs

-- a mode's alert flag is what the last act that sets or clears it left
alerted-last : (m : Mode) (acts : List Act) → is_alerted m (facts_of acts) ≡ last_left (sets_alert m) (clears_alert m) acts
alerted-last KernelMode [] = refl
alerted-last UserMode [] = refl
alerted-last m (act ∷ past) =
    alerted-after m act (facts_of past) ∙ ap (λ (old : Bool). left_by (sets_alert m act (facts_of past)) (clears_alert m act (facts_of past)) old)
    (alerted-last m past)

-- the user-pending mark is what the last act that sets or clears it left
user_pending-last : (acts : List Act) → (facts_of acts).user_pending ≡ last_left sets_mark clears_mark acts
user_pending-last [] = refl
user_pending-last (act ∷ past) =
    user_pending-after act (facts_of past) ∙ ap (λ (old : Bool). left_by (sets_mark act (facts_of past)) (clears_mark act (facts_of past)) old)
    (user_pending-last past)

-- the released mark is what the last act that sets or clears it left
released-last : (acts : List Act) → (facts_of acts).released ≡ last_left sets_released clears_released acts
released-last [] = refl
released-last (act ∷ past) =
    released-after act (facts_of past) ∙ ap (λ (old : Bool). left_by (sets_released act (facts_of past)) (clears_released act (facts_of past)) old)
    (released-last past)

-- the leaving mark is what the last act that sets or clears it left
leaving-last : (acts : List Act) → (facts_of acts).leaving ≡ last_left sets_leaving clears_leaving acts
leaving-last [] = refl
leaving-last (act ∷ past) =
    leaving-after act (facts_of past) ∙ ap (λ (old : Bool). left_by (sets_leaving act (facts_of past)) (clears_leaving act (facts_of past)) old)
    (leaving-last past)

-- each flag of a thread is what the last call that sets or clears it left
pub flags-last : FactsAreLastLeft
flags-last acts = record {
  alerted = λ m. alerted-last m acts;
  user_pending = user_pending-last acts;
  released = released-last acts;
  leaving = leaving-last acts;
}
