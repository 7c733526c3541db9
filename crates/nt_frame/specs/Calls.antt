-- Calls that change the frames of a processor, and lists of them.
use Rattle.std.specs.Option.{ForSome}
use Rattle.std.specs.Prelude.{IsSome, IsTrue, List, None, Option, Some, [], false, length, ◌<◌, ◌==◌, ◌∷◌, ◌≡◌}
use Rattle.nt_event.specs.declared.commands.Command.{Command}
use Rattle.nt_event.specs.declared.commands.Command.TheVariants.{Acquire as AcquireCommand, Lower as LowerCommand}
use Rattle.nt_event.specs.declared.commands.Command.TheVariants.{Raise as RaiseCommand, Unlock as UnlockCommand}
use Rattle.nt_event.specs.declared.commands.Refusal.{Refusal}
use Rattle.nt_event.specs.Frames.{Frames, done_to, innermost, ended_base, freed, normal_of}
use Rattle.nt_event.specs.Regions.{below_in, some_came_to_0}
use Rattle.nt_frame.specs.declared.calls.FrameAnswer.{FrameAnswer}
use Rattle.nt_frame.specs.declared.calls.FrameAnswer.TheVariants.{Asks, Done, Frees, Refused}
use Rattle.nt_frame.specs.declared.calls.FrameCall.{FrameCall}
use Rattle.nt_frame.specs.declared.calls.FrameCall.TheVariants.{Acquired, AdvancePlace, Begin, EndBase, Enter, Finish}
use Rattle.nt_frame.specs.declared.calls.FrameCall.TheVariants.{Free, Gone}
use Rattle.nt_frame.specs.declared.calls.FrameCall.TheVariants.{Leave, Lower, Normal, Raise, SetAgain, SwitchAway}
use Rattle.nt_frame.specs.declared.calls.FrameCall.TheVariants.{SwitchTo, Unlock}
use Rattle.nt_frame.specs.Changes.{acquired, advanced, at_innermost, begun, closed, without_innermost}
use Rattle.nt_frame.specs.Nesting.{AreNamedBelow}
use Rattle.nt_frame.specs.Rules.{count_of, end_asks_apc, enter_of, is_at_base, is_leaving, last_held_in, leave_of}
use Rattle.nt_frame.specs.Rules.{may_begin}
use Rattle.nt_frame.specs.Rules.{may_go_on, refusal_in, regions_in}

-- the condition of a call, as its method requires it
abbrev pub MayCall : FrameCall → Frames → Type 0
MayCall (Begin b n) x = IsTrue (may_begin b x) × AreNamedBelow n x
MayCall Normal x = IsTrue (may_go_on x)
MayCall Finish x = IsSome (innermost x) × (is_at_base x ≡ false)
MayCall (Raise l) x = IsSome (innermost x)
MayCall (Lower l) x = IsSome (innermost x)
MayCall (Enter r) x = count_of r (regions_in x) < 4294967295
MayCall (Leave r) x = Unit {0}
MayCall (SwitchTo t) x = (x.running ≡ None) × (t.0 < length x.threads)
MayCall SwitchAway x = IsSome x.running
MayCall EndBase x = IsTrue (is_at_base x) × (is_leaving x ≡ false)
MayCall Gone x = IsTrue (is_leaving x)
MayCall (SetAgain a) x = IsSome (innermost x)
MayCall AdvancePlace x = IsSome (innermost x) × ForSome (innermost x) (λ f. f.place < 4294967295)
MayCall (Acquired k done) x = (k.0 < 64) × IsSome (innermost x) × (refusal_in (AcquireCommand k) x ≡ None)
MayCall (Unlock k) x = Unit {0}
MayCall Free x = Unit {0}

-- a refused command changes nothing
abbrev pub unless_refused : Option Refusal → Frames → Frames → Frames
unless_refused None new old = new
unless_refused (Some why) new old = old

abbrev pub commanded : Command → Frames → Frames
commanded c x = unless_refused (refusal_in c x) (at_innermost (done_to c) x) x

-- what a call leaves
abbrev pub left_by : FrameCall → Frames → Frames
left_by (Begin b n) x = begun n b x
left_by Normal x = at_innermost normal_of x
left_by Finish x = without_innermost x
left_by (Raise l) x = commanded (RaiseCommand l) x
left_by (Lower l) x = commanded (LowerCommand l) x
left_by (Enter r) x = commanded (enter_of r) x
left_by (Leave r) x = commanded (leave_of r) x
left_by (SwitchTo t) x = record x { running = Some t }
left_by SwitchAway x = record x { running = None }
left_by EndBase x = at_innermost ended_base x
left_by Gone x = closed x
left_by (SetAgain a) x = at_innermost (λ f. record f { again = a }) x
left_by AdvancePlace x = at_innermost advanced x
left_by (Acquired k done) x = at_innermost (acquired k done) x
left_by (Unlock k) x = unless_refused (refusal_in (UnlockCommand k) x) (at_innermost freed x) x
left_by Free x = at_innermost freed x

abbrev pub or_refused : Option Refusal → FrameAnswer → FrameAnswer
or_refused None answer = answer
or_refused (Some why) answer = Refused why

-- what a call answers: a refusal, whether it asks for kernel APCs, the lock that it frees, or nothing
abbrev pub answer_to : FrameCall → Frames → FrameAnswer
answer_to Normal x = Asks (some_came_to_0 (regions_in x) (below_in x))
answer_to Finish x = Asks (end_asks_apc x)
answer_to (Raise l) x = or_refused (refusal_in (RaiseCommand l) x) Done
answer_to (Lower l) x = or_refused (refusal_in (LowerCommand l) x) Done
answer_to (Enter r) x = or_refused (refusal_in (enter_of r) x) Done
answer_to (Leave r) x = or_refused (refusal_in (leave_of r) x) (Asks (count_of r (regions_in x) == 1))
answer_to (Begin b n) x = Done
answer_to (SwitchTo t) x = Done
answer_to SwitchAway x = Done
answer_to EndBase x = Done
answer_to Gone x = Done
answer_to (SetAgain a) x = Done
answer_to AdvancePlace x = Done
answer_to (Acquired k done) x = Done
answer_to (Unlock k) x = or_refused (refusal_in (UnlockCommand k) x) Done
answer_to Free x = Frees (last_held_in x)

-- ---- lists of calls, in their order

-- each call's condition holds where the calls before it leave the frames
unfoldable pub MayCallAll : List FrameCall → Frames → Type 0
MayCallAll [] x = Unit {0}
MayCallAll (c ∷ cs) x = MayCall c x × MayCallAll cs (left_by c x)

abbrev pub left_by_all : List FrameCall → Frames → Frames
left_by_all [] x = x
left_by_all (c ∷ cs) x = left_by_all cs (left_by c x)

abbrev pub answers_to : List FrameCall → Frames → List FrameAnswer
answers_to [] x = []
answers_to (c ∷ cs) x = answer_to c x ∷ answers_to cs (left_by c x)
