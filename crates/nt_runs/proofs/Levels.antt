-- An event names the level that its processor has after it.
use Rattle.std.proofs.Common.{ap, subst, sym, ◌∙◌}
use Rattle.std.proofs.lemmas.Bool.{eq-eqb}
use Rattle.std.specs.Option.{option_map_or, option_or}
use Rattle.std.specs.Prelude.{Bool, List, None, Option, Some, [], false, get_or, if◌then◌else◌, length, refl, suc, true, unwrap_or, zero, ℕ, ◌==◌, ◌∷◌, ◌≡◌}
use Rattle.nt_event.specs.declared.commands.Command.{Command}
use Rattle.nt_event.specs.declared.commands.Command.TheVariants.{Delay}
use Rattle.nt_event.specs.declared.commands.Reply.{Reply}
use Rattle.nt_event.specs.declared.events.Begun.TheVariants.{Apc, Dpc, Int, Threaded}
use Rattle.nt_event.specs.declared.events.Event.{Event}
use Rattle.nt_event.specs.declared.events.What.{What}
use Rattle.nt_event.specs.declared.events.What.TheVariants.{Begin, Call, Flush, Look, Switch}
use Rattle.nt_event.specs.Frame.{Frame}
use Rattle.nt_event.specs.declared.numbers.ApcNo.{ApcNo}
use Rattle.nt_event.specs.declared.numbers.CpuNo.{CpuNo}
use Rattle.nt_event.specs.declared.numbers.RoutineNo.{RoutineNo}
use Rattle.nt_event.specs.declared.numbers.ThreadNo.{ThreadNo}
use Rattle.nt_event.specs.declared.scripts.Script.{Script}
use Rattle.nt_event.specs.Frames.{Frames, at_name, called, due_of, flushed, frames_after, frames_in, frames_of, level_in, own_after, running_after, thread_if}
use Rattle.nt_event.specs.Frames.{thread_part, time}
use Rattle.nt_event.specs.Routines.{rundown_of}
use Rattle.nt_event.specs.Step.{IsLegal, event_at, is_look, level_field, unleveled}
use Rattle.nt_event.specs.Lists.{head_of, table, table_from}
use Rattle.nt_event.specs.Numbers.{is_by, is_of, thread}
use Rattle.nt_event.proofs.Moves.{frames_move}
use Rattle.nt_runs.proofs.Steps.{step_gives}

-- the level of the innermost frame of a part
head_level : List Frame → Option ℕ
head_level [] = None
head_level (f ∷ fs) = Some f.level

-- the level of the frames is read alike from the first frame and from the first level
level_as : (own part : List Frame) → option_map_or (λ f. f.level) (option_or (head_of own) (head_of part)) 0
    ≡ unwrap_or (option_or (head_level own) (head_level part)) 0
unfolding head_level
level_as [] [] = refl
level_as [] (g ∷ gs) = refl
level_as (f ∷ fs) part = refl

-- neither the number nor the due time of an event matters for the levels that it leaves

-- the due time doesn't matter for the level after a call
called_level : (due : Option ℕ) (c : Command) (y : Reply) (f : Frame) → (called due c y f).level ≡ (called None c y f).level
called_level due (Delay m a units) y f = refl
called_level due c y f = refl

-- the due time of a call doesn't matter for the level of the frames after it
call_level : (n : ℕ) (due : Option ℕ) (c : Command) (y : Reply) (fs : List Frame) → head_level (at_name n (called due c y) fs)
    ≡ head_level (at_name n (called None c y) fs)
unfolding head_level
call_level n due c y [] = refl
call_level n due c y (f ∷ fs) = go (f.name == n)
  where
    go : (b : Bool) → Some (if b then called due c y f else f).level ≡ Some (if b then called None c y f else f).level
    go true = ap (λ (k : ℕ). Some k) (called_level due c y f)
    go false = refl

-- the number of a flush doesn't matter for the level of the frames after it
flush_level : (n : ℕ) (a : ApcNo) (r : Option RoutineNo) (fs : List Frame) → head_level (flushed n a r fs) ≡ head_level (flushed 0 a r fs)
unfolding head_level
flush_level n a None fs = refl
flush_level n a (Some r) fs = refl

-- neither number nor due time of an event matters for the level of a thread's frames after it
thread_level : (b : Bool) (s : Script) (n : ℕ) (due : Option ℕ) (w : What) (fs : List Frame) → head_level (thread_if b s n due w fs)
    ≡ head_level (thread_if b s 0 None w fs)
unfolding head_level
thread_level false s n due w fs = refl
thread_level true s n due (Switch t st) [] = refl
thread_level true s n due (Switch t st) (f ∷ fs) = refl
thread_level true s n due (Begin (Apc a) from) fs = refl
thread_level true s n due (Flush a from) fs = flush_level n a (rundown_of s a) fs
thread_level true s n due (Call f c y) fs = call_level f due c y fs
thread_level true s n due w fs = refl

-- neither number nor due time of an event matters for the level of the own part after it
own_level : (n : ℕ) (due : Option ℕ) (w : What) (fs : List Frame) → head_level (own_after n due w fs) ≡ head_level (own_after 0 None w fs)
unfolding head_level
own_level n due (Begin (Int l) from) fs = refl
own_level n due (Begin (Dpc d) from) fs = refl
own_level n due (Begin (Threaded d) from) fs = refl
own_level n due (Begin (Apc a) from) fs = refl
own_level n due (Call f c y) fs = call_level f due c y fs
own_level n due w fs = refl

-- tables of frames with equal levels have, at each place, frames of equal level
table_level : (k n i : ℕ) (f g : ℕ → List Frame) → ((j : ℕ) → head_level (f j) ≡ head_level (g j)) → head_level (get_or (table_from k n f) i [])
    ≡ head_level (get_or (table_from k n g) i [])
unfolding table_from
table_level k zero i f g h = refl
table_level k (suc n) zero f g h = h k
table_level k (suc n) (suc i) f g h = table_level (suc k) n i f g h

-- the frames of the running thread have equal levels in tables whose levels are equal
part_level : (n : ℕ) (f g : ℕ → List Frame) (r : Option ThreadNo) → ((j : ℕ) → head_level (f j) ≡ head_level (g j)) →
    head_level (option_map_or (frames_in (table n f)) r []) ≡ head_level (option_map_or (frames_in (table n g)) r [])
part_level n f g None h = refl
part_level n f g (Some t) h = table_level 0 n t.0 f g h

-- the level after an event depends on neither its number nor its due time
pub level_free : (s : Script) (n : ℕ) (due : Option ℕ) (e : Event) (x : Frames) → level_in (frames_after s n due e x) ≡ level_in (frames_after s 0 None e x)
level_free s n due e x =
    let o = own_level n due e.what x.own in
    let t = part_level (length s.threads) (λ t. thread_if (is_by e (thread t)) s n due e.what (frames_in x.threads (thread t)))
    (λ t. thread_if (is_by e (thread t)) s 0 None e.what (frames_in x.threads (thread t))) (running_after e.what x.running)
    (λ t. thread_level (is_by e (thread t)) s n due e.what (frames_in x.threads (thread t))) in
    level_as (frames_after s n due e x).own (thread_part (frames_after s n due e x))
    ∙ (ap (λ (a : Option ℕ). unwrap_or (option_or a (head_level (thread_part (frames_after s n due e x)))) 0) o
    ∙ (ap (λ (b : Option ℕ). unwrap_or (option_or (head_level (own_after 0 None e.what x.own)) b) 0) t
    ∙ sym (level_as (frames_after s 0 None e x).own (thread_part (frames_after s 0 None e x)))))

-- an event is of the processor that it names
is_of-own : (e : Event) → is_of e e.cpu ≡ true
is_of-own e = eq-eqb e.cpu.0 e.cpu.0 refl

-- the level named in an event that is made of its what
level_named : (s : Script) (p : CpuNo) (w : What) (x : Frames) → is_look w ≡ false → level_field w (frames_after s 0 None (unleveled p w x) x)
    ≡ level_in (frames_after s 0 None (event_at s p w x) x)
level_named s p (Look r) x h = cc
level_named s p w x h = refl

-- the level of an event that is no look is the level of its processor just after it
pub levels_hold : (s : Script) (limit : ℕ) (e : Event) (past : List Event) → IsLegal s limit e past → is_look e.what ≡ false →
    level_in (frames_of s e.cpu (e ∷ past)) ≡ e.level
levels_hold s limit e past r h =
    let x : Frames = frames_of s e.cpu past in
    let g : event_at s e.cpu e.what x ≡ e = step_gives s limit e past r in
    let named : level_in (frames_after s 0 None (event_at s e.cpu e.what x) x) ≡ (event_at s e.cpu e.what x).level = sym (level_named s e.cpu e.what x h) in
    let moved : level_in (frames_after s 0 None e x) ≡ e.level = subst (λ (f : Event). level_in (frames_after s 0 None f x) ≡ f.level) g named in
    ap level_in (frames_move s e.cpu e past (is_of-own e)) ∙ (level_free s (length past) (due_of e.what (time past)) e x ∙ moved)
