-- The reply of a delay tells what its due time was: where it is that the delay is over, the time was reached.
use Rattle.std.proofs.Common.{◌≡◌, ◌∙◌, Bool, Option, None, Some, ap, false, if◌then◌else◌, is_some, not, refl, sym, true, ℕ, ◌&&◌}
use Rattle.nt_event.specs.declared.commands.Mode.{Mode}
use Rattle.nt_event.specs.declared.commands.Regions.{Regions}
use Rattle.nt_event.specs.declared.commands.Reply.{Reply}
use Rattle.nt_event.specs.declared.commands.Reply.TheVariants.{Blocked, Status}
use Rattle.nt_event.specs.declared.frames.Again.{Again}
use Rattle.nt_event.specs.declared.jobs.Stand.{Stand}
use Rattle.nt_event.specs.Apcs.{deliverable, has_user}
use Rattle.nt_event.specs.Threads.{ThreadFacts, is_alerted}
use Rattle.nt_event.specs.Waits.{wait_reply, waited, waited_again}
use Rattle.nt_event.specs.Replies.{alerted, is_user, kernel_apc, satisfied, user_apc}
use Rattle.nt_states.specs.ThreadFits.{TakesUp, is_over, over_if}

-- the tests after that of the due time give another reply
others_go_on : (c d e f : Bool) → is_over (if c then Status alerted
    else (if d then Status user_apc else (if e then Status alerted else (if f then Status user_apc else Blocked)))) ≡ false
others_go_on true d e f = refl
others_go_on false true e f = refl
others_go_on false false true f = refl
others_go_on false false false true = refl
others_go_on false false false false = refl

-- taking a reply that a delay is over as such again changes nothing
told_over : (kernel reached : Bool) (y : Reply) → is_over y ≡ false →
    (if kernel then Status kernel_apc else (if is_over (if kernel then Status kernel_apc else (if reached then Status satisfied else y)) then Status satisfied
    else y)) ≡ (if kernel then Status kernel_apc else (if reached then Status satisfied else y))
told_over true reached y h = refl
told_over false true y h = refl
told_over false false y h = ap (λ (b : Bool). if b then Status satisfied else y) h

-- a delay's reply stays the same if its due time counts as reached just where the reply says that it is over
pub over_reply : (x : ThreadFacts) (r : Regions) (level : ℕ) (m : Mode) (a reached : Bool) →
    wait_reply x r level m a (Some (is_over (wait_reply x r level m a (Some reached)))) ≡ wait_reply x r level m a (Some reached)
over_reply x r level m a reached =
    told_over (is_some (deliverable x.apcs r level)) reached _
    (others_go_on (a && is_alerted m x) (a && (is_user m && has_user x.apcs)) (a && x.alerted_kernel) (not a && (is_user m && x.user_pending)))

-- a wait reply is the same if its due time is read off that reply
over_if_reply : (x : ThreadFacts) (r : Regions) (level : ℕ) (m : Mode) (a : Bool) (reached : Option Bool) (delay : Bool) → is_some reached ≡ delay →
    wait_reply x r level m a (over_if delay (wait_reply x r level m a reached)) ≡ wait_reply x r level m a reached
over_if_reply x r level m a None true h = cc
over_if_reply x r level m a None false h = refl
over_if_reply x r level m a (Some b) true h = over_reply x r level m a b
over_if_reply x r level m a (Some b) false h = cc

-- a delay tells whether its time was reached, and another wait does not
is_some_over : (delay : Bool) (y : Reply) → is_some (over_if delay y) ≡ delay
is_some_over true y = refl
is_some_over false y = refl

-- a delay leaves what its reply says, with the due time that the reply tells
pub delay_left : (x z : ThreadFacts) (n : ℕ) (r : Regions) (level : ℕ) (m : Mode) (a reached : Bool) (y w : Reply) → y
    ≡ wait_reply x r level m a (Some reached) → w ≡ wait_reply x r level m a (Some (is_over y)) → z ≡ waited n r level m a true w x → z
    ≡ waited n r level m a true y x
delay_left x z n r level m a reached y w h k left =
    let told : wait_reply x r level m a (Some (is_over y)) ≡ y = ap (λ (v : Reply). wait_reply x r level m a (Some (is_over v))) h
    ∙ (over_reply x r level m a reached ∙ sym h) in
    left ∙ ap (λ (v : Reply). waited n r level m a true v x) (k ∙ told)

-- a wait made again leaves the same state if its due time is read off its reply
again_left : (x z : ThreadFacts) (n : ℕ) (r : Regions) (level : ℕ) (wait : Again) (reached : Option Bool) (y w : Reply) → is_some reached ≡ is_some wait.due →
    y ≡ wait_reply x r level wait.mode wait.alertable reached → w ≡ wait_reply x r level wait.mode wait.alertable (over_if (is_some wait.due) y) → z
    ≡ waited n r level wait.mode wait.alertable (is_some (over_if (is_some wait.due) y)) w x → z
    ≡ waited n r level wait.mode wait.alertable (is_some wait.due) y x
again_left x z n r level wait reached y w kind h k left =
    let told : wait_reply x r level wait.mode wait.alertable (over_if (is_some wait.due) y)
    ≡ y = ap (λ (v : Reply). wait_reply x r level wait.mode wait.alertable (over_if (is_some wait.due) v)) h
    ∙ (over_if_reply x r level wait.mode wait.alertable reached (is_some wait.due) kind ∙ sym h) in
    left ∙ (ap (λ (b : Bool). waited n r level wait.mode wait.alertable b w x) (is_some_over (is_some wait.due) y)
    ∙ ap (λ (v : Reply). waited n r level wait.mode wait.alertable (is_some wait.due) v x) (k ∙ told))

-- an optional wait to be made again is at most one wait
kept_wait : (v w : Again) (o : Option Again) → o ≡ Some v → o ≡ Some w → v ≡ w
kept_wait v w o h k = cc

-- a wait that is taken up again leaves so too
pub rewait_left : (st : Stand) (x z : ThreadFacts) (n : ℕ) (wait : Again) (y w : Reply) → st.again ≡ Some wait → TakesUp st y x → w
    ≡ wait_reply x st.regions st.level wait.mode wait.alertable (over_if (is_some wait.due) y) → z
    ≡ waited n st.regions st.level wait.mode wait.alertable (is_some (over_if (is_some wait.due) y)) w x → z ≡ waited_again n st.regions st.level st.again y x
rewait_left st x z n wait y w kept t k left =
    let same : t.wait ≡ wait = kept_wait t.wait wait st.again t.kept kept in
    let kind : is_some t.reached ≡ is_some wait.due = t.kind ∙ ap (λ (v : Again). is_some v.due) same in
    let reply : y ≡ wait_reply x st.regions st.level wait.mode wait.alertable t.reached = t.reply
    ∙ ap (λ (v : Again). wait_reply x st.regions st.level v.mode v.alertable t.reached) same in
    again_left x z n st.regions st.level wait t.reached y w kind reply k left ∙ ap (λ (o : Option Again). waited_again n st.regions st.level o y x) (sym kept)
