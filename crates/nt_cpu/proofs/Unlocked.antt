-- In a script without locks no frame spins.
use Rattle.std.proofs.Common.{arith, subst, sym}
use Rattle.std.specs.Prelude.{Bool, IfSome, None, Option, Some, false, is_some, not, refl, ℕ, ◌&&◌, ◌<◌, ◌≡◌}
use Rattle.nt_event.specs.declared.frames.Held.{Held}
use Rattle.nt_event.specs.Frame.{Frame}
use Rattle.nt_event.specs.Frames.{innermost}
use Rattle.nt_event.specs.Jobs.{is_due, waits_for_lock}
use Rattle.nt_cpu.specs.Sound.{IsSound}
use Rattle.nt_cpu.specs.States.{CpuState}
use Rattle.nt_cpu.proofs.Taken.{innermost_small}

-- no lock is held where there are no locks
no_lock : (locks : ℕ) (o : Option Held) → locks ≡ 0 → IfSome o (λ h. h.lock.0 < locks) → is_some o ≡ false
no_lock locks None none b = refl
no_lock locks (Some x) none b = absurd (omega (arith, none, b))

-- the innermost frame doesn't
pub never_spins : (c : CpuState) (f : Frame) → IsSound c → c.script.locks ≡ 0 → innermost c.own.frames ≡ Some f →
    false ≡ (is_some f.spin && not (is_due c.own 12))
never_spins c f h none i =
    let spin = no_lock c.script.locks f.spin none (innermost_small c.script.locks c.own.made c.own.frames f h.small i).spin in
    subst (λ (b : Bool). false ≡ (b && not (is_due c.own 12))) (sym spin) refl

-- so the processor waits for no lock
pub never_waits : (c : CpuState) → IsSound c → c.script.locks ≡ 0 → false ≡ waits_for_lock c.own
never_waits c h none = go (innermost c.own.frames) refl
  where
    go : (o : Option Frame) → innermost c.own.frames ≡ o → false ≡ waits_for_lock c.own
    go None i = rw i refl
    go (Some f) i = let spins = never_spins c f h none i in rw i spins
