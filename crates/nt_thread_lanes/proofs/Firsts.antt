-- What holds of each pending APC of a thread holds of the one that is due.
use Rattle.std.proofs.Common.{◌∷◌, [], Bool, List, Option, Some, cond, false, inl, inr, reverse, true, ℕ, ◌&&◌, ◌==◌}
use Rattle.std.proofs.lemmas.List.{reverse-append}
use Rattle.std.proofs.lemmas.List.Elements.{All-head, All-nil, All-push, All-tail}
use Rattle.std.specs.List.{All}
use Rattle.std.specs.Prelude.{find}
use Rattle.nt_event.specs.declared.commands.ApcKind.{ApcKind}
use Rattle.nt_event.specs.declared.commands.ApcKind.TheVariants.{Normal as NormalApc, Special as SpecialApc, User as UserApc}
use Rattle.nt_event.specs.declared.commands.Regions.{Regions}
use Rattle.nt_event.specs.declared.inserts.Pick.{Pick}
use Rattle.nt_event.specs.declared.jobs.Stand.{Stand}
use Rattle.nt_event.specs.declared.numbers.ApcNo.{ApcNo}
use Rattle.nt_event.specs.Apcs.{ApcQueues, deliverable, first_kernel, first_of_kind, first_user, is_of_kind, lets_through}
use Rattle.nt_event.specs.Jobs.{user_due}
use Rattle.nt_event.specs.Threads.{ThreadFacts}
use Rattle.nt_event.specs.Lists.{when}
use Rattle.nt_event.proofs.Options.{Holds, holds_at, holds_or, holds_then, holds_when}
use Rattle.nt_states.specs.ThreadFits.{Begins, Flushes}

-- what holds of each entry of a list holds of each entry of it reversed
all_reverse : {A : Type 0} (P : A → Type 0) (xs : List A) → All P xs → All P (reverse xs)
all_reverse P [] h = All-nil P
all_reverse P (x ∷ xs) h =
    rw (reverse-append (x ∷ []) xs) (All-push P (reverse xs) x (all_reverse P xs (All-tail P x xs h)) (All-head P x xs h))

-- what holds of an element and of an option holds of the choice between them
found : {A : Type 0} (P : A → Type 0) (x : A) (o : Option A) (b : Bool) → P x → Holds P o → Holds P (cond b (Some x) o)
found P x o true p h = p
found P x o false p h = h

-- what holds of each entry of a list holds of the first one that passes a test
find_all : {A : Type 0} (P : A → Type 0) (test : A → Bool) (xs : List A) → All P xs → Holds P (find test xs)
find_all P test [] h = tt
find_all P test (x ∷ xs) h =
    found P x (find test xs) (test x) (All-head P x xs h) (find_all P test xs (All-tail P x xs h))

-- what holds of each pending APC holds of the first one of a kind
of_kind : (P : Pick → Type 0) (kind : ApcKind) (q : ApcQueues) → All P q.pending → Holds P (first_of_kind kind q)
of_kind P kind q h = find_all P (is_of_kind kind) (reverse q.pending) (all_reverse P q.pending h)

-- what holds of each pending APC holds of the first kernel APC
of_kernel : (P : Pick → Type 0) (q : ApcQueues) → All P q.pending → Holds P (first_kernel q)
of_kernel P q h =
    holds_or P (first_of_kind SpecialApc q) (first_of_kind NormalApc q) (of_kind P SpecialApc q h) (λ _. of_kind P NormalApc q h)

-- what holds of each pending APC holds of the deliverable kernel APC
pub of_deliverable : (P : Pick → Type 0) (q : ApcQueues) (r : Regions) (level : ℕ) → All P q.pending → Holds P (deliverable q r level)
of_deliverable P q r level h =
    holds_then P (λ x. when ((level == 0) && lets_through r x.kind) (Some x)) (first_kernel q)
    (λ x e. holds_when P ((level == 0) && lets_through r x.kind) (Some x) (λ a. holds_at P (first_kernel q) x (of_kernel P q h) e))

-- the first user APC
pub of_user : (P : Pick → Type 0) (q : ApcQueues) → All P q.pending → Holds P (first_user q)
of_user P q h = of_kind P UserApc q h

-- what holds of each pending APC of a thread holds of the user APC that is due
pub of_user_due : (P : Pick → Type 0) (x : ThreadFacts) → All P x.apcs.pending → Holds P (user_due x)
of_user_due P x h = holds_when P x.user_pending (first_user x.apcs) (λ a. of_kind P UserApc x.apcs h)

-- the insert that begins
pub begins_one : (P : Pick → Type 0) (st : Stand) (a : ApcNo) (from : ℕ) (x : ThreadFacts) (b : Begins st a from x) → All P x.apcs.pending → P b.pick
begins_one P st a from x b h =
    elim b.due [
      | inl e ↦ holds_at P (deliverable x.apcs st.regions st.level) b.pick (of_deliverable P x.apcs st.regions st.level h) e
      | inr e ↦ holds_at P
          (user_due x) b.pick (of_user_due P x h) e
    ]

-- the insert that is flushed
pub flushes_one : (P : Pick → Type 0) (a : ApcNo) (from : ℕ) (x : ThreadFacts) (b : Flushes a from x) → All P x.apcs.pending → P b.pick
flushes_one P a from x b h = holds_at P (first_user x.apcs) b.pick (of_kind P UserApc x.apcs h) b.first
