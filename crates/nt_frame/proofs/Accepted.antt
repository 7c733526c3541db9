-- What it says of the innermost frame that a command isn't refused.
use Rattle.std.proofs.Common.{◌≡◌, ℕ, ◌≤◌, ◌&&◌, Bool, true, false, nat_lt, not, Option, None, Some, arith, refl}
use Rattle.std.proofs.lemmas.Bool.Decides.{nat_tests}
use Rattle.nt_event.specs.declared.commands.Command.TheVariants.{Acquire, Lower, Raise}
use Rattle.nt_event.specs.declared.commands.Refusal.{Refusal}
use Rattle.nt_event.specs.declared.commands.Refusal.TheVariants.{BelowBase, HeldHere, LockHeld, NotGreater, NotLess, TooHigh}
use Rattle.nt_event.specs.Frame.{Frame}
use Rattle.nt_event.specs.declared.numbers.LockNo.{LockNo}
use Rattle.nt_event.specs.Commands.{holds, refuse}
use Rattle.nt_event.specs.Lists.{is_null}
use Rattle.nt_event.specs.Frames.{Frames, base_of, innermost}
use Rattle.nt_frame.specs.Rules.{refusal_in}

-- the first test didn't fail, and the later ones didn't
passed : (t : Bool) (why : Refusal) (next : Option Refusal) → refuse t why next ≡ None → t ≡ false
passed true why next h = cc
passed false why next h = refl

-- if a check and those after it give no refusal, those after it give none
passed_on : (t : Bool) (why : Refusal) (next : Option Refusal) → refuse t why next ≡ None → next ≡ None
passed_on true why next h = cc
passed_on false why next h = h

-- a number that doesn't test as less than another is at least the other
not_lt : (a b : ℕ) → nat_lt a b ≡ false → b ≤ a
not_lt a b h = grind (arith, nat_tests)

-- a raise that isn't refused is to a level not below the innermost frame's
pub raise_accepted : (f : Frame) (x : Frames) (l : ℕ) → innermost x ≡ Some f → refusal_in (Raise l) x ≡ None → f.level ≤ l
raise_accepted f x l k m =
    not_lt l f.level (passed (nat_lt l f.level) NotGreater None (rw k at m))

-- a lowering that isn't refused is to a level not below the innermost frame's base
pub lower_accepted : (f : Frame) (x : Frames) (l : ℕ) → innermost x ≡ Some f → refusal_in (Lower l) x ≡ None → base_of f ≤ l
lower_accepted f x l k m =
    not_lt l (base_of f) (passed (nat_lt l (base_of f)) BelowBase (refuse (not (is_null f.held) && nat_lt l 2) LockHeld None)
    (passed_on (nat_lt f.level l) NotLess (refuse (nat_lt l (base_of f)) BelowBase (refuse (not (is_null f.held) && nat_lt l 2) LockHeld None)) (rw k at m)))

-- an acquire that isn't refused is at DISPATCH_LEVEL or below, of a lock that the innermost frame doesn't hold
pub acquire_accepted : (f : Frame) (x : Frames) (k : LockNo) → innermost x ≡ Some f → refusal_in (Acquire k) x ≡ None → (f.level ≤ 2) × (holds k f ≡ false)
acquire_accepted f x l k m =
    let n : refuse (nat_lt 2 f.level) TooHigh (refuse (holds l f) HeldHere None) ≡ None = rw k at m in (
      not_lt 2 f.level (passed (nat_lt 2 f.level) TooHigh (refuse (holds l f) HeldHere None) n),
      passed (holds l f) HeldHere None (passed_on (nat_lt 2 f.level) TooHigh (refuse (holds l f) HeldHere None) n),
    )
