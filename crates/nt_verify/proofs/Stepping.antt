-- A frame and the walk of its site, call by call: what one call leaves of both.
use Rattle.std.proofs.Common.{ap, ◌∙◌}
use Rattle.std.specs.Option.{option_map_or}
use Rattle.std.specs.Prelude.{Bool, List, None, Option, false, is_some, refl, true, ℕ, ◌+◌, ◌-◌, ◌∷◌, ◌≡◌, ◌≤◌}
use Rattle.nt_event.specs.declared.commands.Command.{Command}
use Rattle.nt_event.specs.declared.commands.Command.TheVariants.{Acquire, EnterCrit, EnterGuard, LeaveCrit, LeaveGuard, Lower, Raise, Unlock}
use Rattle.nt_event.specs.declared.commands.Refusal.{Refusal}
use Rattle.nt_event.specs.declared.commands.Reply.{Reply}
use Rattle.nt_event.specs.declared.commands.Reply.TheVariants.{Done, Refused, Spin}
use Rattle.nt_event.specs.declared.frames.Held.{Held}
use Rattle.nt_event.specs.Frame.{Frame}
use Rattle.nt_event.specs.Frames.{called, freed_level, kept_in}
use Rattle.nt_event.specs.Lists.{head_of, tail_of}
use Rattle.nt_event.specs.Replies.{is_spin}
use Rattle.nt_verify.specs.Walks.{refused_in}

-- the frame of a walk, and an open one: the level of the walk is the one kept with the lock on which the open one spins
pub record Walks (w f : Frame) : Type 0 where
  pub body : w.body ≡ f.body
  pub phase : w.kernel_phase ≡ f.kernel_phase
  pub crit : w.crit ≡ f.crit
  pub guard : w.guard ≡ f.guard
  pub held : w.held ≡ f.held
  pub level : w.level ≡ kept_in f
  pub quiet : w.spin ≡ None
  pub low : is_some f.spin ≡ true → w.level ≤ 2

-- a case in which false equals true can't be, so it gives anything
no_bool : {A : Type 0} → false ≡ true → A
no_bool h = cc

-- where it doesn't spin
pub level_same : (w f : Frame) → Walks w f → f.spin ≡ None → w.level ≡ f.level
level_same w f h e = h.level ∙ ap (λ (o : Option Held). option_map_or (λ a. a.kept) o f.level) e

-- a walk and its frame have the same IRQL, taken before the spin if the frame spins
kept_same : (w f : Frame) → Walks w f → kept_in w ≡ kept_in f
kept_same w f h = ap (λ (o : Option Held). option_map_or (λ a. a.kept) o w.level) h.quiet ∙ h.level

-- a walk and its frame go to the same IRQL when a lock is freed, if the frame does not spin
freed_same : (w f : Frame) → Walks w f → f.spin ≡ None → freed_level w ≡ freed_level f
freed_same w f h e =
    ap (λ (hs : List Held). option_map_or (λ a. a.kept) (head_of hs) w.level) h.held
    ∙ ap (λ (l : ℕ). option_map_or (λ a. a.kept) (head_of f.held) l) (level_same w f h e)

-- ---- one call

abbrev pub is_acquire : Command → Bool
is_acquire (Acquire k) = true
is_acquire c = false

-- one that is refused
pub refused_walks : (due : Option ℕ) (c : Command) (r : Refusal) (w f : Frame) → Walks w f → f.spin ≡ None →
    Walks (called None c (Refused r) w) (called due c (Refused r) f)
refused_walks due (Acquire k) r w f h e =
    record { body = h.body; phase = h.phase; crit = h.crit; guard = h.guard; held = h.held; level = level_same w f h e; quiet = refl; low = λ z. no_bool z }
refused_walks due c r w f h e =
    record { body = h.body; phase = h.phase; crit = h.crit; guard = h.guard; held = h.held; level = level_same w f h e; quiet = refl; low = λ z. no_bool z }

-- one that spins
pub spun_walks : (due : Option ℕ) (c : Command) (w f : Frame) → is_acquire c ≡ true → Walks w f → w.level ≤ 2 → Walks w (called due c Spin f)
spun_walks due (Acquire k) w f a h l =
    record { body = h.body; phase = h.phase; crit = h.crit; guard = h.guard; held = h.held; level = h.level; quiet = h.quiet; low = λ z. l }
spun_walks due c w f a h l = cc

-- one that is done
pub done_walks : (due : Option ℕ) (c : Command) (w f : Frame) → (is_acquire c ≡ false → f.spin ≡ None) → Walks w f →
    Walks (called None c Done w) (called due c Done f)
done_walks due (Acquire k) w f q h =
    record {
      body = h.body;
      phase = h.phase;
      crit = h.crit;
      guard = h.guard;
      held = λ i. record { lock = k; kept = kept_same w f h i } ∷ h.held i;
      level = refl;
      quiet = refl;
      low = λ z. no_bool z;
    }
done_walks due (Unlock k) w f q h =
    record {
      body = h.body;
      phase = h.phase;
      crit = h.crit;
      guard = h.guard;
      held = ap tail_of h.held;
      level = freed_same w f h (q refl);
      quiet = refl;
      low = λ z. no_bool z;
    }
done_walks due (Raise l) w f q h =
    record { body = h.body; phase = h.phase; crit = h.crit; guard = h.guard; held = h.held; level = refl; quiet = refl; low = λ z. no_bool z }
done_walks due (Lower l) w f q h =
    record { body = h.body; phase = h.phase; crit = h.crit; guard = h.guard; held = h.held; level = refl; quiet = refl; low = λ z. no_bool z }
done_walks due EnterCrit w f q h =
    record {
      body = h.body;
      phase = h.phase;
      crit = ap (λ n. n + 1) h.crit;
      guard = h.guard;
      held = h.held;
      level = level_same w f h (q refl);
      quiet = refl;
      low = λ z. no_bool z;
    }
done_walks due EnterGuard w f q h =
    record {
      body = h.body;
      phase = h.phase;
      crit = h.crit;
      guard = ap (λ n. n + 1) h.guard;
      held = h.held;
      level = level_same w f h (q refl);
      quiet = refl;
      low = λ z. no_bool z;
    }
done_walks due LeaveCrit w f q h =
    record {
      body = h.body;
      phase = h.phase;
      crit = ap (λ n. n - 1) h.crit;
      guard = h.guard;
      held = h.held;
      level = level_same w f h (q refl);
      quiet = refl;
      low = λ z. no_bool z;
    }
done_walks due LeaveGuard w f q h =
    record {
      body = h.body;
      phase = h.phase;
      crit = h.crit;
      guard = ap (λ n. n - 1) h.guard;
      held = h.held;
      level = level_same w f h (q refl);
      quiet = refl;
      low = λ z. no_bool z;
    }
done_walks due c w f q h =
    record {
      body = h.body;
      phase = h.phase;
      crit = h.crit;
      guard = h.guard;
      held = h.held;
      level = level_same w f h (q refl);
      quiet = refl;
      low = λ z. no_bool z;
    }

-- the commands that are done where they aren't refused, or spin
abbrev pub is_done_or_spins : Command → Bool
is_done_or_spins (Acquire k) = true
is_done_or_spins (Unlock k) = true
is_done_or_spins (Raise l) = true
is_done_or_spins (Lower l) = true
is_done_or_spins EnterCrit = true
is_done_or_spins EnterGuard = true
is_done_or_spins LeaveCrit = true
is_done_or_spins LeaveGuard = true
is_done_or_spins c = false

-- what any reply but a spin leaves of the frame of another command is what the walk's leaves
pub other_walks : (due : Option ℕ) (c : Command) (y : Reply) (w f : Frame) → is_done_or_spins c ≡ false → is_spin y ≡ false → f.spin ≡ None → Walks w f →
    Walks (called None c Done w) (called due c y f)
other_walks due (Acquire k) y w f d s e h = cc
other_walks due (Unlock k) y w f d s e h = cc
other_walks due (Raise l) y w f d s e h = cc
other_walks due (Lower l) y w f d s e h = cc
other_walks due EnterCrit y w f d s e h = cc
other_walks due EnterGuard y w f d s e h = cc
other_walks due LeaveCrit y w f d s e h = cc
other_walks due LeaveGuard y w f d s e h = cc
other_walks due c Spin w f d s e h = cc
other_walks due c Done w f d s e h =
    record { body = h.body; phase = h.phase; crit = h.crit; guard = h.guard; held = h.held; level = level_same w f h e; quiet = refl; low = λ z. no_bool z }
other_walks due c y w f d s e h =
    record { body = h.body; phase = h.phase; crit = h.crit; guard = h.guard; held = h.held; level = level_same w f h e; quiet = refl; low = λ z. no_bool z }

-- ---- the refusals of both

-- the open frame with the name, the place and the lock of the walk's
bare : Frame → Frame → Frame
bare w f =
    record w { body = f.body; kernel_phase = f.kernel_phase; crit = f.crit; guard = f.guard; held = f.held; level = f.level }

-- a walk is unchanged by taking over its frame's body, regions, locks and IRQL, if the frame does not spin
is_bare : (w f : Frame) → Walks w f → f.spin ≡ None → w ≡ bare w f
unfolding bare
is_bare w f h e = λ i. record w {
  body = h.body i;
  kernel_phase = h.phase i;
  crit = h.crit i;
  guard = h.guard i;
  held = h.held i;
  level = level_same w f h e i;
}

-- a walk that took over a frame's body, regions, locks and IRQL refuses the same calls as the frame
bare_refused : (w f : Frame) (c : Command) → refused_in (bare w f) c ≡ refused_in f c
unfolding bare
bare_refused w f (Raise l) = refl
bare_refused w f c = refl

-- where it doesn't spin
pub refused_same : (w f : Frame) (c : Command) → Walks w f → f.spin ≡ None → refused_in w c ≡ refused_in f c
refused_same w f c h e = ap (λ (x : Frame). refused_in x c) (is_bare w f h e) ∙ bare_refused w f c
