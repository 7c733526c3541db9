-- In a run, what an event says of the frames of its processor is so.
use Rattle.nt_event.proofs.Options.{both}
use Rattle.nt_event.proofs.Tables.{length-table_from}
use Rattle.nt_event.specs.Frames.{Frames, frames_of, innermost, own_frames, running, thread_frames}
use Rattle.nt_event.specs.Jobs.{has_normal}
use Rattle.nt_event.specs.Lanes.{Lanes, lanes_at}
use Rattle.nt_event.specs.Lists.{is_null}
use Rattle.nt_event.specs.Numbers.{thread}
use Rattle.nt_event.specs.Own.{Own, own_of, stand_in}
use Rattle.nt_event.specs.Replies.{is_refused, is_spin}
use Rattle.nt_event.specs.Script.{has_thread}
use Rattle.nt_event.specs.Step.{IsRun, step, thread_field, turn_at}
use Rattle.nt_event.specs.declared.commands.Command.{Command}
use Rattle.nt_event.specs.declared.commands.Command.TheVariants.{Acquire, Delay, StartWait}
use Rattle.nt_event.specs.declared.commands.Reply.{Reply}
use Rattle.nt_event.specs.declared.commands.Reply.TheVariants.{Blocked, Done, No, Refused, Spin, Status, Yes}
use Rattle.nt_event.specs.declared.events.Event.{Event}
use Rattle.nt_event.specs.declared.events.Turn.TheVariants.{Switch as SwitchTurn}
use Rattle.nt_event.specs.declared.events.What.{What}
use Rattle.nt_event.specs.declared.events.What.TheVariants.{Begin, Call, Clean, End, Expire, Fire, Flush, Free, Gone, Look, Normal, Rest, Rewait, Switch}
use Rattle.nt_event.specs.Frame.{Frame}
use Rattle.nt_event.specs.declared.numbers.CpuNo.{CpuNo}
use Rattle.nt_event.specs.declared.numbers.LockNo.{LockNo}
use Rattle.nt_event.specs.declared.numbers.ThreadNo.{ThreadNo}
use Rattle.nt_event.specs.declared.scripts.Script.{Script}
use Rattle.nt_frame.proofs.Tasks.{normal_here, refusal_here}
use Rattle.nt_frame.specs.EventCalls.{EventSays, IsInnermost, IsMade, IsNoWait, IsTry, Replies, thread_of}
use Rattle.nt_frame.specs.Nesting.{AreNested}
use Rattle.nt_frame.specs.Rules.{refusal_in}
use Rattle.nt_runs.proofs.Known.{Known, KnownCall, KnownEnd, KnownFree, KnownNormal, KnownRewait, legal_known}
use Rattle.nt_runs.proofs.Running.{thread_named}
use Rattle.nt_runs.proofs.Steps.{Gives, switch_gives}
use Rattle.nt_runs.proofs.Spins.{spin_acquires}
use Rattle.nt_runs.proofs.Stops.{blocked_call, call_accepted, is_wait, none_again, rewait_on_thread}
use Rattle.nt_runs.proofs.Turns.{is_next}
use Rattle.std.proofs.Common.{ap, arith, refl, subst, sym, ◌∙◌}
use Rattle.std.proofs.lemmas.Bool.{eq-eqb, ltb-true}
use Rattle.std.specs.Option.{option_map_or}
use Rattle.std.specs.Prelude.{Bool, List, None, Option, Some, [], false, is_none, length, true, ℕ, ◌&&◌, ◌<◌, ◌==◌, ◌∷◌, ◌≡◌}

-- the thread that an event's line shows is the one of the event
same_field : (w : What) (r : Option ThreadNo) → thread_field w r ≡ thread_of w r
same_field (Switch t st) r = refl
same_field (Look k) r = refl
same_field w r = refl

-- the innermost frame has the name by which it is called
innermost_named : (name : ℕ) (x : Frames) (f : Frame) → innermost x ≡ Some f → name ≡ f.name → IsInnermost name x
innermost_named name x f h n = ap (λ (o : Option Frame). option_map_or (λ f. f.name == name) o false) h ∙ eq-eqb f.name name (sym n)

abbrev is_try : Command → Bool
is_try (Acquire a) = true
is_try c = false

module _ (s : Script) (p : CpuNo) (x : Own) (l : Lanes) (n : ℕ) where
  -- a command whose reply is no refusal isn't refused
  pub accepted : (c : Command) (y : Reply) (k : KnownCall s p x l n c y) → is_refused y ≡ false → refusal_in c x.frames ≡ None
  accepted c y k h = refusal_here c k.frame x.frames k.goes_on.inner ∙ (call_accepted s p x l n c y k h).0

  -- only a try of a lock spins
  spins_no_other : (c : Command) → is_try c ≡ false → KnownCall s p x l n c Spin → ⊥
  spins_no_other c t k =
      let z = spin_acquires s (stand_in p x) l c (call_accepted s p x l n c Spin k refl).1 in
      let q : is_try c ≡ true = ap is_try z.1 in
      cc

  no_wait : (c : Command) (y : Reply) → is_wait c ≡ false → is_try c ≡ false → KnownCall s p x l n c y → IsNoWait c y x.frames
  no_wait c Blocked h t k = let z = (blocked_call s p x l n c k).0 in cc
  no_wait c Done h t k = accepted c Done k refl
  no_wait c Spin h t k = spins_no_other c t k
  no_wait c Yes h t k = tt
  no_wait c No h t k = tt
  no_wait c (Status st) h t k = tt
  no_wait c (Refused r) h t k = tt

  not_spun : (c : Command) (y : Reply) → is_try c ≡ false → KnownCall s p x l n c y → is_spin y ≡ false
  not_spun c Spin t k = absurd (spins_no_other c t k)
  not_spun c y t k = refl

  tries : (a : LockNo) (y : Reply) → KnownCall s p x l n (Acquire a) y → IsTry a y x.frames
  tries a Blocked k = let z = (blocked_call s p x l n (Acquire a) k).0 in cc
  tries a Done k = accepted (Acquire a) Done k refl
  tries a Spin k = accepted (Acquire a) Spin k refl
  tries a Yes k = tt
  tries a No k = tt
  tries a (Status st) k = tt
  tries a (Refused r) k = tt

  replies : (c : Command) (y : Reply) → KnownCall s p x l n c y → Replies c y x.frames
  replies (StartWait m a) y k = not_spun (StartWait m a) y refl k
  replies (Delay m a u) y k = not_spun (Delay m a u) y refl k
  replies (Acquire a) y k = tries a y k
  replies c y k = no_wait c y refl refl k

-- a list of frames that passes the test for emptiness is empty
pub null_own : (fs : List Frame) → is_null fs ≡ true → fs ≡ []
null_own [] h = refl
null_own (f ∷ fs) h = cc

module _ (s : Script) (limit : ℕ) (e : Event) (past : List Event) (r : IsRun s limit (e ∷ past)) where
  -- in a run all that is known of a legal event of its kind holds of an event but for a Look or a Switch
  pub known_as : (w : What) → e.what ≡ w → is_next w ≡ true → Known s e.cpu (own_of s e.cpu past) (lanes_at s past) w
  known_as w k n = subst (Known s e.cpu (own_of s e.cpu past) (lanes_at s past)) k (legal_known s limit e past r.0 (ap is_next k ∙ n))

  -- a processor keeps one part of frames for each thread of the script
  pub size : length (frames_of s e.cpu past).threads ≡ length s.threads
  size = length-table_from 0 (length s.threads) (λ t. thread_frames s e.cpu (thread t) past)

  -- in a run the thread of an event is the one that its kind says: the running one, or one that it names
  pub thread_is : (w : What) → e.what ≡ w → e.thread ≡ thread_field w (running e.cpu past)
  thread_is w k = thread_named s limit e past r.0 ∙ ap (λ (w : What). thread_field w (running e.cpu past)) k

  -- a thread that is taken up is one of the script's, and no frame stands on the own part
  pub switch_says : (t : ThreadNo) (st : Option ℕ) → e.what ≡ Switch t st → EventSays (Switch t st) (frames_of s e.cpu past)
  switch_says t st k =
      let turn : Gives (step s limit (SwitchTurn e.cpu t) past) e = subst (λ (w : What). Gives (step s limit (turn_at e.cpu w) past) e) k r.0 in
      let g = switch_gives s limit e.cpu t past e turn in
      let has = both (has_thread s t) _ g.1 in
      let may = both (is_none (running e.cpu past)) _ g.0 in
      let null = both (is_null (own_frames e.cpu past)) _ may.1 in
      let below : t.0 < length s.threads = ltb-true t.0 (length s.threads) has.0 in
      let n = size in
      (omega (arith, below, n), null_own (own_frames e.cpu past) null.0)

  says_is : (w : What) → e.what ≡ w → EventSays w (frames_of s e.cpu past)
  says_is (Call n c y) k =
      let known : KnownCall s e.cpu (own_of s e.cpu past) (lanes_at s past) n c y = known_as (Call n c y) k refl in (
        innermost_named n (frames_of s e.cpu past) known.frame known.goes_on.inner known.name,
        replies s e.cpu (own_of s e.cpu past) (lanes_at s past) n c y known,
      )
  says_is (Rewait n y) k =
      let known : KnownRewait e.cpu (own_of s e.cpu past) (lanes_at s past) n y = known_as (Rewait n y) k refl in (
        innermost_named n (frames_of s e.cpu past) known.frame known.goes_on.inner known.name,
        null_own (own_frames e.cpu past)
            (rewait_on_thread e.cpu (own_of s e.cpu past) (lanes_at s past) n y known (none_again s limit e.cpu past r.1)),
      )
  says_is (Normal n) k =
      let known : KnownNormal s e.cpu (own_of s e.cpu past) n = known_as (Normal n) k refl in (
        innermost_named n (frames_of s e.cpu past) known.frame known.goes_on.inner known.name,
        normal_here known.frame (frames_of s e.cpu past) known.goes_on.inner
            ∙ (ap (λ (b : Bool). b && has_normal known.frame.body) known.kernel ∙ known.normal),
      )
  says_is (End n) k =
      let known : KnownEnd s e.cpu (own_of s e.cpu past) n = known_as (End n) k refl in
      innermost_named n (frames_of s e.cpu past) known.frame known.goes_on.inner known.name
  says_is (Free n a) k =
      let known : KnownFree s e.cpu (own_of s e.cpu past) n a = known_as (Free n a) k refl in
      innermost_named n (frames_of s e.cpu past) known.frame known.goes_on.inner known.name
  says_is (Switch t st) k = switch_says t st k
  says_is (Look rises) k = tt
  says_is (Begin b from) k = tt
  says_is (Expire key from) k = tt
  says_is (Fire d y) k = tt
  says_is (Clean class) k = tt
  says_is (Flush a from) k = tt
  says_is (Gone u) k = tt
  says_is Rest k = tt

  -- in a run an event is one that its processor may make, if the frames there are nested
  pub made_here : AreNested (frames_of s e.cpu past) → IsMade s e (frames_of s e.cpu past)
  made_here h = record {
    nested = h;
    threads = size;
    thread = thread_is e.what refl ∙ same_field e.what (running e.cpu past);
    says = says_is e.what refl;
  }
