-- In a run a processor that rests has no frame and runs no thread, and its queue is idle.
use Rattle.std.proofs.Common.{ap, subst, ◌∙◌}
use Rattle.std.specs.Option.{option_map_or, option_or}
use Rattle.std.specs.Prelude.{Bool, List, None, Option, Some, [], false, refl, true, ℕ, ◌∷◌, ◌≡◌}
use Rattle.nt_event.specs.declared.events.Event.{Event}
use Rattle.nt_event.specs.declared.events.What.{What}
use Rattle.nt_event.specs.declared.events.What.TheVariants.{Rest}
use Rattle.nt_event.specs.Frame.{Frame}
use Rattle.nt_event.specs.declared.numbers.CpuNo.{CpuNo}
use Rattle.nt_event.specs.declared.numbers.ThreadNo.{ThreadNo}
use Rattle.nt_event.specs.declared.scripts.Script.{Script}
use Rattle.nt_event.specs.Frames.{frames_in, frames_of, innermost, own_frames, running, thread_part}
use Rattle.nt_event.specs.Lanes.{lanes_at}
use Rattle.nt_runs.specs.Laws.{HasBase}
use Rattle.nt_event.specs.Own.{is_rest, own_of, rested}
use Rattle.nt_event.specs.Queues.{is_idle}
use Rattle.nt_event.specs.Step.{IsLegal, IsRun}
use Rattle.nt_event.specs.Lists.{head_of}
use Rattle.nt_event.specs.Numbers.{is_of}
use Rattle.nt_runs.proofs.Known.{Known, KnownRest}
use Rattle.nt_runs.proofs.Running.{running_has_base}
use Rattle.nt_runs.proofs.Turns.{is_next}
use Rattle.nt_close.proofs.Wanted.{known_here}

pub record IsClear (p : CpuNo) (past : List Event) : Type 0 where
  pub own : own_frames p past ≡ []
  pub running : running p past ≡ None

-- an event that passes the test for Rest is a Rest
pub is_rest_event : (w : What) → is_rest w ≡ true → w ≡ Rest
is_rest_event Rest h = refl
is_rest_event w h = cc

-- the last event of a processor that rests is Rest, and the events after it are of others
pub rested_own : (p : CpuNo) (e : Event) (past : List Event) → is_of e p ≡ true → rested p (e ∷ past) ≡ true → e.what ≡ Rest
rested_own p e past o h = is_rest_event e.what (rw o at h)

-- a processor that rests after another processor's event rested before it
pub rested_other : (p : CpuNo) (e : Event) (past : List Event) → is_of e p ≡ false → rested p (e ∷ past) ≡ true → rested p past ≡ true
rested_other p e past o h = rw o at h

-- if a list of frames has no first frame, it is empty
no_head : (fs : List Frame) → head_of fs ≡ None → fs ≡ []
no_head [] h = refl
no_head (f ∷ fs) h = cc

-- if an option, or another in its place, gives none, both are none
none_of : {A : Type 0} (a b : Option A) → option_or a b ≡ None → (a ≡ None) × (b ≡ None)
none_of None b h = (refl, h)
none_of (Some x) b h = cc

-- a list of frames with a thread's base has a first frame
based_head : {A : Type 0} (t : ThreadNo) (fs : List Frame) → HasBase t fs → head_of fs ≡ None → A
based_head t [] b h = absurd b
based_head t (f ∷ fs) b h = cc

-- where no frame is innermost, no thread runs
clear_of : (s : Script) (limit : ℕ) (p : CpuNo) (past : List Event) → IsRun s limit past → innermost (frames_of s p past) ≡ None → IsClear p past
clear_of s limit p past r h =
    record { own = no_head (own_frames p past) parts.0; running = go (running p past) refl }
  where
    parts : (head_of (own_frames p past) ≡ None) × (head_of (thread_part (frames_of s p past)) ≡ None)
    parts = none_of (head_of (own_frames p past)) (head_of (thread_part (frames_of s p past))) h

    go : (o : Option ThreadNo) → running p past ≡ o → running p past ≡ None
    go None e = e
    go (Some t) e = based_head t (thread_part (frames_of s p past)) (running_has_base s limit p t past r e).2 parts.1

-- a Rest of the processor itself keeps it free of frames and threads
clear_rest : (p : CpuNo) (e : Event) (past : List Event) → is_of e p ≡ true → e.what ≡ Rest → IsClear p past → IsClear p (e ∷ past)
clear_rest p e past o w h =
    record { own = own_same ∙ h.own; running = running_same ∙ h.running }
  where
    own_same : own_frames p (e ∷ past) ≡ own_frames p past
    own_same = rw (o, w) refl

    running_same : running p (e ∷ past) ≡ running p past
    running_same = rw (o, w) refl

-- an event of another processor keeps a processor free of frames and threads
clear_other : (p : CpuNo) (e : Event) (past : List Event) → is_of e p ≡ false → IsClear p past → IsClear p (e ∷ past)
clear_other p e past o h = record { own = own_same ∙ h.own; running = running_same ∙ h.running }
  where
    own_same : own_frames p (e ∷ past) ≡ own_frames p past
    own_same = rw o refl

    running_same : running p (e ∷ past) ≡ running p past
    running_same = rw o refl

-- what is known of the Rest of a processor
pub known_rest : (s : Script) (limit : ℕ) (p : CpuNo) (e : Event) (past : List Event) → is_of e p ≡ true → IsLegal s limit e past → e.what ≡ Rest →
    KnownRest s p (own_of s p past) (lanes_at s past)
known_rest s limit p e past o g w =
    subst (λ (w : What). is_next w ≡ true → Known s p (own_of s p past) (lanes_at s past) w) w (known_here s limit p e past o g) refl

-- in a run a processor that rests has no frame of its own and runs no thread
pub rested_clear : (s : Script) (limit : ℕ) (p : CpuNo) (past : List Event) → IsRun s limit past → rested p past ≡ true → IsClear p past
rested_clear s limit p [] r h = record { own = refl; running = refl }
rested_clear s limit p (e ∷ past) r h = go (is_of e p) refl (λ k. rested_clear s limit p past r.1 k)
  where
    go : (b : Bool) → is_of e p ≡ b → (rested p past ≡ true → IsClear p past) → IsClear p (e ∷ past)
    go true o ih =
        let w : e.what ≡ Rest = rested_own p e past o h in
        clear_rest p e past o w (clear_of s limit p past r.1 (known_rest s limit p e past o r.0 w).none)
    go false o ih = clear_other p e past o (ih (rested_other p e past o h))

-- a processor that has no frame of its own and runs no thread has no innermost frame
pub clear_inner : (s : Script) (p : CpuNo) (past : List Event) → IsClear p past → innermost (frames_of s p past) ≡ None
clear_inner s p past c =
    ap (λ (fs : List Frame). option_or (head_of fs) (head_of (thread_part (frames_of s p past)))) c.own
    ∙ ap (λ (o : Option ThreadNo). head_of (option_map_or (frames_in (frames_of s p past).threads) o [])) c.running

-- profile: it is idle
pub rested_idle : (p : CpuNo) (past : List Event) → rested p past ≡ true → is_idle p past ≡ true
rested_idle p [] h = cc
rested_idle p (e ∷ past) h = go (is_of e p) refl (λ k. rested_idle p past k)
  where
    go : (b : Bool) → is_of e p ≡ b → (rested p past ≡ true → is_idle p past ≡ true) → is_idle p (e ∷ past) ≡ true
    go true o ih = rw (o, rested_own p e past o h) refl
    go false o ih = rw o (ih (rested_other p e past o h))
