-- Inserts and removals keep that nothing is deliverable behind a block.
use Rattle.std.proofs.Common.{◌≡◌, Bool, List, None, Option, Some, ap, cond, false, if◌then◌else◌, is_some, refl, reverse, sym, true, ◌∙◌, ◌&&◌, ◌||◌, ◌==◌, ℕ}
use Rattle.std.proofs.Common.{[], ◌∷◌, not, subst}
use Rattle.std.proofs.lemmas.Bool.{false≢true, true≢false}
use Rattle.std.specs.Bool.{OnTrue}
use Rattle.std.specs.List.{filter, find}
use Rattle.std.specs.Option.{option_or}
use Rattle.std.specs.Prelude.{IfNone, IfSome}
use Rattle.nt_apc.proofs.Firsts.{deliverable-kind, deliverable-with, first-is_of_kind, first-with, kind_in}
use Rattle.nt_event.proofs.Reversed.{filter-reverse}
use Rattle.nt_apc.specs.Firsts.{kind_with, may_begin}
use Rattle.nt_event.specs.Apcs.{ApcQueues, deliverable, first_kernel, first_of_kind, first_user, is_of_apc, is_of_kind, same_kind, takes, with_apc, without_apc}
use Rattle.nt_event.specs.Routines.{is_kernel_kind}
use Rattle.nt_event.specs.Threads.{ThreadFacts, ends_by_apc, ends_by_kernel, ends_by_user}
use Rattle.nt_event.specs.Replies.{is_user}
use Rattle.nt_event.specs.declared.commands.ApcKind.{ApcKind}
use Rattle.nt_event.specs.declared.commands.ApcKind.TheVariants.{Normal as NormalApc, Special as SpecialApc, User as UserApc}
use Rattle.nt_event.specs.declared.commands.Regions.{Regions}
use Rattle.nt_event.specs.declared.inserts.Pick.{Pick}
use Rattle.nt_event.specs.declared.numbers.ApcNo.{ApcNo}
use Rattle.nt_event.specs.declared.threads.Doing.{Doing}
use Rattle.nt_event.specs.declared.threads.Doing.TheVariants.{Blocked as IsBlocked, Gone as IsGone, Ready as IsReady, Running as IsRunning}
use Rattle.nt_event.specs.declared.threads.Waiting.{Waiting}
use Rattle.nt_thread.specs.Endings.{ended_by}
use Rattle.nt_event.specs.Quiet.{IsQuiet, NothingBehind, QuietDoing}

-- ---- options

-- an option that tests as having no value is none
pub none-from : {X : Type 0} (o : Option X) → is_some o ≡ false → o ≡ None
none-from None h = refl
none-from (Some x) h = absurd (true≢false h)

-- an option that is none tests as having no value
some-of-none : {X : Type 0} (o : Option X) → o ≡ None → is_some o ≡ false
some-of-none o h = ap is_some h

-- an option, or else none, is the option itself
or-none : {X : Type 0} (o : Option X) → option_or o None ≡ o
or-none None = refl
or-none (Some x) = refl

-- ---- an insert

-- an insert of a kernel kind isn't a user APC
kernel-not_user : (x : Pick) → is_kernel_kind x.kind ≡ true → is_of_kind UserApc x ≡ false
kernel-not_user x h = go x.kind h where
  go : (k : ApcKind) → is_kernel_kind k ≡ true → same_kind UserApc k ≡ false
  go SpecialApc h = refl
  go NormalApc h = refl
  go UserApc h = absurd (false≢true h)

-- an APC kind that isn't a kernel kind is the user kind
user-kind : (k : ApcKind) → is_kernel_kind k ≡ false → k ≡ UserApc
user-kind SpecialApc h = absurd (true≢false h)
user-kind NormalApc h = absurd (true≢false h)
user-kind UserApc h = refl

-- a kernel APC is no user APC
first_user-with : (x : Pick) (q : ApcQueues) → is_kernel_kind x.kind ≡ true → first_user (with_apc x q) ≡ first_user q
first_user-with x q h =
    first-with UserApc x q ∙ ap (λ (b : Bool). option_or (first_user q) (cond b (Some x) None)) (kernel-not_user x h) ∙ or-none (first_user q)

-- a user APC makes no kernel APC deliverable
deliverable-with_user : (x : Pick) (q : ApcQueues) (r : Regions) (level : ℕ) → x.kind ≡ UserApc →
    is_some (deliverable (with_apc x q) r level) ≡ is_some (deliverable q r level)
deliverable-with_user x q r level h =
    deliverable-with x q r level ∙ ap (λ (k : ApcKind). may_begin r level (kind_with k (kind_in (first_kernel q)))) h ∙ sym (deliverable-kind q r level)

-- an insert that doesn't end the wait of a blocked thread leaves nothing deliverable behind its block
blocked-added : (pick : Pick) (w : Waiting) (x : ThreadFacts) → x.doing ≡ IsBlocked w → IsQuiet w x.apcs → ends_by_apc pick x ≡ false →
    IsQuiet w (with_apc pick x.apcs)
blocked-added pick w x d h e = go (is_kernel_kind pick.kind) refl where
  kernel : ends_by_kernel (with_apc pick x.apcs) x ≡ false → is_some (deliverable (with_apc pick x.apcs) w.regions w.level) ≡ false
  kernel f = rw d at f

  user : ends_by_user x ≡ false → (is_user w.mode && (w.alertable || x.user_pending)) ≡ false
  user f = rw d at f

  refused : (u a m : Bool) → (u && (a || m)) ≡ false → (u && a) ≡ false
  refused true true m f = f
  refused true false m f = refl
  refused false a m f = refl

  go : (b : Bool) → is_kernel_kind pick.kind ≡ b → IsQuiet w (with_apc pick x.apcs)
  go true k = record {
    kernel = none-from _ (kernel (rw k at e));
    user = λ t. first_user-with pick x.apcs k ∙ h.user t;
  }
  go false k = record {
    kernel = none-from _ (deliverable-with_user pick x.apcs w.regions w.level (user-kind pick.kind k) ∙ some-of-none _ h.kernel);
    user = λ t. absurd (false≢true (sym (refused (is_user w.mode) w.alertable x.user_pending (user (rw k at e))) ∙ t));
  }

-- an insert that ends no wait
pub quiet-added : (pick : Pick) (x : ThreadFacts) → NothingBehind x → ends_by_apc pick x ≡ false → QuietDoing x.doing (with_apc pick x.apcs)
quiet-added pick x h e = go x.doing refl h where
  go : (d : Doing) → x.doing ≡ d → QuietDoing d x.apcs → QuietDoing d (with_apc pick x.apcs)
  go (IsBlocked w) d q = blocked-added pick w x d q e
  go (IsReady level status) d q = tt
  go IsRunning d q = tt
  go IsGone d q = tt

-- a thread whose wait an APC has ended isn't blocked, so nothing is behind a block
ended-doing : (k : ApcKind) (x : ThreadFacts) (q : ApcQueues) → QuietDoing (ended_by k x).doing q
ended-doing SpecialApc x q = tt
ended-doing NormalApc x q = tt
ended-doing UserApc x q = tt

-- an insert that ends the wait or doesn't: x is what is left before the insert
pub quiet-accepted : (pick : Pick) (old x : ThreadFacts) (b : Bool) (new : ApcQueues) → NothingBehind old → b ≡ ends_by_apc pick old →
    x ≡ (if b then ended_by pick.kind old else old) → new ≡ with_apc pick x.apcs → QuietDoing x.doing new
quiet-accepted pick old x true new h e i n = subst (λ (y : ThreadFacts). QuietDoing y.doing new) (sym i) (ended-doing pick.kind old new)
quiet-accepted pick old x false new h e i n =
    let added : QuietDoing old.doing (with_apc pick old.apcs) = quiet-added pick old h (sym e) in
    subst (λ (q : ApcQueues). QuietDoing x.doing q) (sym n) (subst (λ (y : ThreadFacts). QuietDoing y.doing (with_apc pick y.apcs)) (sym i) added)

-- ending a wait for an APC leaves the thread's APC queues as they were
ended-apcs : (k : ApcKind) (x : ThreadFacts) → (ended_by k x).apcs ≡ x.apcs
ended-apcs SpecialApc x = refl
ended-apcs NormalApc x = refl
ended-apcs UserApc x = refl

-- a thread whose wait an APC ended, or that stayed as it was, has the APC queues that it had
same-apcs : (k : ApcKind) (old x : ThreadFacts) (b : Bool) → x ≡ (if b then ended_by k old else old) → x.apcs ≡ old.apcs
same-apcs k old x true i = ap (λ (y : ThreadFacts). y.apcs) i ∙ ended-apcs k old
same-apcs k old x false i = ap (λ (y : ThreadFacts). y.apcs) i

-- what holds if a truth value is true holds where the value is true
on-true : (b : Bool) (P : Type 0) → b ≡ true → OnTrue b P → P
on-true true P e h = h
on-true false P e h = absurd (false≢true e)

-- the insert is accepted after the end of the wait as it was before
pub accepted-put : (pick : Pick) (old x : ThreadFacts) (b : Bool) (new : ApcQueues) (r : Bool) → x ≡ (if b then ended_by pick.kind old else old) →
    takes pick.apc old.apcs ≡ true → r ≡ takes pick.apc x.apcs → OnTrue r (new ≡ with_apc pick x.apcs) → new ≡ with_apc pick x.apcs
accepted-put pick old x b new r i t a h =
    on-true r (new ≡ with_apc pick x.apcs) (a ∙ ap (λ (q : ApcQueues). takes pick.apc q) (same-apcs pick.kind old x b i) ∙ t) h

-- ---- a removal

-- if a search finds nothing in a list of inserts, it finds nothing in the filtered list
find-filter_none : {X : Type 0} (t p : X → Bool) (xs : List X) → find t xs ≡ None → find t (filter p xs) ≡ None
find-filter_none t p [] h = refl
find-filter_none {X} t p (x ∷ xs) h = go (t x) (p x) refl refl h (find-filter_none t p xs) where
  go : (b c : Bool) → t x ≡ b → p x ≡ c → cond b (Some x) (find t xs) ≡ None → (find t xs ≡ None → find t (filter p xs) ≡ None) →
      find t (cond c (x ∷ filter p xs) (filter p xs)) ≡ None
  go true c e f h rest = absurd (true≢false (ap is_some h))
  go false true e f h rest = rw e (rest h)
  go false false e f h rest = rest h

-- if no insert of a kind is pending, none is after an APC object's insert is removed
first-without_none : (kind : ApcKind) (a : ApcNo) (q : ApcQueues) → first_of_kind kind q ≡ None → first_of_kind kind (without_apc a q) ≡ None
first-without_none kind a q h =
    ap (λ (xs : List Pick). find (is_of_kind kind) xs) (sym (filter-reverse (λ x. not (is_of_apc a x)) q.pending))
    ∙ find-filter_none (is_of_kind kind) (λ x. not (is_of_apc a x)) (reverse q.pending) h

-- what holds back special ones holds back normal ones
normal-held : (r : Regions) (level : ℕ) → may_begin r level (Some SpecialApc) ≡ false → may_begin r level (Some NormalApc) ≡ false
normal-held r level h = go (level == 0) (r.guard == 0) ((r.crit == 0) && not r.busy) h where
  go : (l g c : Bool) → (l && g) ≡ false → (l && (g && c)) ≡ false
  go true true c h = absurd (true≢false h)
  go true false c h = refl
  go false g c h = refl

-- the kinds of the first special and normal ones before a removal and after it
still-held : (r : Regions) (level : ℕ) (s n s' n' : Option Pick) → ((y : Pick) → s ≡ Some y → y.kind ≡ SpecialApc) →
    ((y : Pick) → n ≡ Some y → y.kind ≡ NormalApc) → ((y : Pick) → s' ≡ Some y → y.kind ≡ SpecialApc) → ((y : Pick) → n' ≡ Some y → y.kind ≡ NormalApc) →
    (s ≡ None → s' ≡ None) → (n ≡ None → n' ≡ None) → may_begin r level (kind_in (option_or s n)) ≡ false →
    may_begin r level (kind_in (option_or s' n')) ≡ false
still-held r level s n None None a b c d e f h = refl
still-held r level (Some z) n (Some y) n' a b c d e f h = rw (c y refl) (rw (a z refl) at h)
still-held r level None n (Some y) n' a b c d e f h = absurd (true≢false (ap is_some (e refl)))
still-held r level (Some z) n None (Some y) a b c d e f h = rw (d y refl) (normal-held r level (rw (a z refl) at h))
still-held r level None (Some z) None (Some y) a b c d e f h = rw (d y refl) (rw (b z refl) at h)
still-held r level None None None (Some y) a b c d e f h = absurd (true≢false (ap is_some (f refl)))

-- removing an APC object's insert leaves nothing deliverable behind the block of a waiting thread
blocked-without : (a : ApcNo) (w : Waiting) (q : ApcQueues) → IsQuiet w q → IsQuiet w (without_apc a q)
blocked-without a w q h = record {
  kernel = none-from _ (deliverable-kind (without_apc a q) w.regions w.level
      ∙ still-held w.regions w.level (first_of_kind SpecialApc q) (first_of_kind NormalApc q) (first_of_kind SpecialApc (without_apc a q))
      (first_of_kind NormalApc (without_apc a q)) (first-is_of_kind SpecialApc q) (first-is_of_kind NormalApc q)
      (first-is_of_kind SpecialApc (without_apc a q)) (first-is_of_kind NormalApc (without_apc a q)) (first-without_none SpecialApc a q)
      (first-without_none NormalApc a q) (sym (deliverable-kind q w.regions w.level) ∙ some-of-none _ h.kernel));
  user = λ t. first-without_none UserApc a q (h.user t);
}

-- a removal makes nothing deliverable
pub quiet-without : (a : ApcNo) (d : Doing) (q new : ApcQueues) → new ≡ without_apc a q → QuietDoing d q → QuietDoing d new
quiet-without a d q new e h = subst (λ (x : ApcQueues). QuietDoing d x) (sym e) (go d h) where
  go : (d : Doing) → QuietDoing d q → QuietDoing d (without_apc a q)
  go (IsBlocked w) h = blocked-without a w q h
  go (IsReady level status) h = tt
  go IsRunning h = tt
  go IsGone h = tt

-- nothing becomes deliverable behind a block if an APC is flushed from the queues or none was there to flush
pub quiet-flushed : (r : Option (ApcNo × ℕ)) (d : Doing) (q new : ApcQueues) → IfSome r (λ y. new ≡ without_apc y.0 q) → IfNone r (new ≡ q) → QuietDoing d q →
    QuietDoing d new
quiet-flushed None d q new some none h = subst (λ (x : ApcQueues). QuietDoing d x) (sym none) h
quiet-flushed (Some y) d q new some none h = quiet-without y.0 d q new some h
