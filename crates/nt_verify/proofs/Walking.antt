-- A walk, command by command.
use Rattle.std.proofs.Common.{add-one, ap, arith, sym}
use Rattle.std.specs.Option.{option_map_or}
use Rattle.std.specs.Prelude.{Bool, List, None, Option, Some, [], false, is_some, length, nat_lt, not, refl, slice_get, suc, take, true, zero, ℕ}
use Rattle.std.specs.Prelude.{◌+◌, ◌∷◌}
use Rattle.std.specs.Prelude.{◌≡◌}
use Rattle.nt_event.specs.declared.commands.Command.{Command}
use Rattle.nt_event.specs.declared.commands.Command.TheVariants.{Acquire, Unlock}
use Rattle.nt_event.specs.declared.commands.Refusal.{Refusal}
use Rattle.nt_event.specs.declared.commands.Refusal.TheVariants.{HeldHere, TooHigh}
use Rattle.nt_event.specs.declared.commands.Reply.{Reply}
use Rattle.nt_event.specs.declared.commands.Reply.TheVariants.{Done, Refused}
use Rattle.nt_event.specs.declared.frames.Held.{Held}
use Rattle.nt_event.specs.Frame.{Frame}
use Rattle.nt_event.specs.Commands.{holds, not_above, refuse}
use Rattle.nt_event.specs.Frames.{called, kept_in}
use Rattle.nt_verify.specs.Steps.{done_in, is_lock_free}
use Rattle.nt_verify.specs.Walks.{called_in, refused_in, walked}

-- a walk of a first part longer by one command calls that command after the walk of the part
walked_next : (f : Frame) (cs : List Command) (k : ℕ) (c : Command) → slice_get cs k ≡ Some c → walked f (take (suc k) cs) ≡ called_in (walked f (take k cs)) c
walked_next f [] k c h = cc
walked_next f (x ∷ cs) zero c h = let same : x ≡ c = cc in ap (λ (y : Command). called_in f y) same
walked_next f (x ∷ cs) (suc k) c h = walked_next (called_in f x) cs k c h

-- one command more
pub walked_more : (f : Frame) (cs : List Command) (k : ℕ) (c : Command) → slice_get cs k ≡ Some c →
    walked f (take (k + 1) cs) ≡ called_in (walked f (take k cs)) c
walked_more f cs k c h = rw add-one (walked_next f cs k c h)

-- ---- what each call keeps

-- what holds of each refusal and of done holds of the reply that an optional refusal makes
reply_cases : (P : Reply → Type 0) (o : Option Refusal) → ((r : Refusal) → P (Refused r)) → P Done → P (option_map_or (λ r. Refused r) o Done)
reply_cases P None a b = b
reply_cases P (Some r) a b = a r

-- a call in a walk advances the place by one
place_called : (f : Frame) (c : Command) → (called_in f c).place ≡ f.place + 1
place_called f c = reply_cases (λ y. (called None c y f).place ≡ f.place + 1) (refused_in f c) (λ r. refl) refl

-- a walk of some commands advances the place by their number
pub place_walked : (f : Frame) (cs : List Command) → (walked f cs).place ≡ f.place + length cs
place_walked f [] = omega arith
place_walked f (c ∷ cs) =
    let more = place_walked (called_in f c) cs in
    let one = place_called f c in
    let n : length (c ∷ cs) ≡ suc (length cs) = refl in
    omega (arith, more, one, n)

-- a frame does not spin after a call that is refused
refused_quiet : (c : Command) (r : Refusal) (f : Frame) → (called None c (Refused r) f).spin ≡ None
refused_quiet (Acquire k) r f = refl
refused_quiet c r f = refl

-- a frame does not spin after a call that is done
done_quiet : (c : Command) (f : Frame) → (called None c Done f).spin ≡ None
done_quiet (Acquire k) f = refl
done_quiet c f = refl

-- a frame does not spin after a call in a walk
quiet_called : (f : Frame) (c : Command) → (called_in f c).spin ≡ None
quiet_called f c = reply_cases (λ y. (called None c y f).spin ≡ None) (refused_in f c) (λ r. refused_quiet c r f) (done_quiet c f)

-- a walk never spins
pub quiet_walked : (f : Frame) (cs : List Command) → f.spin ≡ None → (walked f cs).spin ≡ None
quiet_walked f [] h = h
quiet_walked f (c ∷ cs) h = quiet_walked (called_in f c) cs (quiet_called f c)

-- ---- what one call is made of

abbrev pub advanced : Frame → Frame
advanced f = record f { place = f.place + 1 }

-- a refused call only advances a frame that does not spin
refused_call : (c : Command) (r : Refusal) (f : Frame) → f.spin ≡ None → called None c (Refused r) f ≡ advanced f
refused_call (Acquire k) r f e = λ i. record f { place = f.place + 1; spin = sym e i }
refused_call c r f e = λ i. record f { place = f.place + 1; spin = sym e i }

-- a done call advances a frame that does not spin and then does the command
done_call : (c : Command) (f : Frame) → f.spin ≡ None → called None c Done f ≡ done_in (advanced f) c
done_call (Acquire k) f e =
    let kept : kept_in f ≡ f.level = ap (λ (o : Option Held). option_map_or (λ h. h.kept) o f.level) e in
    λ i. record f { place = f.place + 1; level = 2; spin = sym e i; held = record { lock = k; kept = kept i } ∷ f.held }
done_call (Unlock k) f e = λ i. record (done_in (advanced f) (Unlock k)) { spin = sym e i }
done_call c f e = λ i. record (done_in (advanced f) c) { spin = sym e i }

-- calling a command that is refused only advances the frame's place, if it does not spin
pub call_refused : (f : Frame) (c : Command) → f.spin ≡ None → is_some (refused_in f c) ≡ true → advanced f ≡ called_in f c
call_refused f c e h = go (refused_in f c) h
  where
    go : (o : Option Refusal) → is_some o ≡ true → advanced f ≡ called None c (option_map_or (λ r. Refused r) o Done) f
    go None k = cc
    go (Some r) k = sym (refused_call c r f e)

-- calling a command that is not refused is advancing and then doing it, if the frame does not spin
pub call_done : (f : Frame) (c : Command) → f.spin ≡ None → is_some (refused_in f c) ≡ false → done_in (advanced f) c ≡ called_in f c
call_done f c e h = go (refused_in f c) h
  where
    go : (o : Option Refusal) → is_some o ≡ false → done_in (advanced f) c ≡ called None c (option_map_or (λ r. Refused r) o Done) f
    go (Some r) k = cc
    go None k = sym (done_call c f e)

-- an acquire that is refused neither for its level nor for the lock being held finds the lock not held
lock_is_free : (level : ℕ) (b : Bool) → is_some (not_above 2 level (refuse b HeldHere None)) ≡ false → not b ≡ true
lock_is_free level b h = go (nat_lt 2 level) b h
  where
    go : (a b : Bool) → is_some (refuse a TooHigh (refuse b HeldHere None)) ≡ false → not b ≡ true
    go true b h = cc
    go false true h = cc
    go false false h = refl

-- an acquire that isn't refused names a lock that isn't held
pub free_when : (f : Frame) (c : Command) → is_some (refused_in f c) ≡ false → is_lock_free (advanced f) c ≡ true
free_when f (Acquire k) h = lock_is_free f.level (holds k f) h
free_when f (Unlock k) h = refl
free_when f c h = refl
