-- A list of calls, made one by one.
use Rattle.std.proofs.Common.{◌≡◌, ℕ, suc, ◌+◌, ◌<◌, List, [], ◌∷◌, ◌++◌, length, get_or, drop, ◌∙◌, ap, add-one, append_assoc}
use Rattle.std.proofs.Math.Seq.{drop-cons}
use Rattle.nt_event.specs.Frames.{Frames}
use Rattle.nt_frame.specs.declared.calls.FrameAnswer.{FrameAnswer}
use Rattle.nt_frame.specs.declared.calls.FrameCall.{FrameCall}
use Rattle.nt_frame.specs.Calls.{MayCall, MayCallAll, answer_to, answers_to, left_by, left_by_all}

-- after i of the calls, with these answers and frames, what is still to come is what was to come at the start
pub record Going (calls : List FrameCall) (start : Frames) (i : ℕ) (answers : List FrameAnswer) (x : Frames) : Type 0 where
  pub may : MayCallAll (drop i calls) x
  pub left : left_by_all (drop i calls) x ≡ left_by_all calls start
  pub answers_are : answers ++ answers_to (drop i calls) x ≡ answers_to calls start

-- the next call's condition holds
pub may_next : (calls : List FrameCall) (start : Frames) (i : ℕ) (answers : List FrameAnswer) (x : Frames) (c : FrameCall) → Going calls start i answers x →
    i < length calls → get_or calls i c ≡ c → MayCall c x
unfolding MayCallAll
may_next calls start i answers x c h b e =
    (rw (drop-cons calls i c b, e) at h.may).0

-- if a list of calls was followed up to a place, it is followed one further after the call at this place
pub going_next : (calls : List FrameCall) (start : Frames) (i : ℕ) (answers : List FrameAnswer) (x : Frames) (c : FrameCall) → Going calls start i answers x →
    i < length calls → get_or calls i c ≡ c → Going calls start (i + 1) (answers ++ answer_to c x ∷ []) (left_by c x)
unfolding MayCallAll
going_next calls start i answers x c h b e =
    let d : drop i calls ≡ c ∷ drop (i + 1) calls = drop-cons calls i c b ∙ ap (λ (y : FrameCall). y ∷ drop (suc i) calls) e ∙ rw add-one in
    record {
      may = (rw d at h.may).1;
      left = rw d at h.left;
      answers_are = rw append_assoc (rw d at h.answers_are);
    }
