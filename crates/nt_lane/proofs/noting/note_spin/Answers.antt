use Rattle.std.proofs.Common.{ap, arith, refl, subst, sym, ◌∙◌}
use Rattle.std.proofs.lemmas.Bool.{ltb-true}
use Rattle.std.specs.Prelude.{◌*◌, ◌^◌, ◌≡◌, ◌≤◌}
use Rattle.nt_event.specs.declared.jobs.Lane.TheVariants.{Lock as LockLane}
use Rattle.nt_event.specs.declared.numbers.CpuNo.{CpuNo}
use Rattle.nt_event.specs.declared.numbers.LockNo.{LockNo}
use Rattle.nt_event.specs.LaneStates.{OfLock}
use Rattle.nt_event.specs.Locks.{lock_move, lock_moved}
use Rattle.nt_mark.specs.Names.{pass_view}
use Rattle.nt_lane_record.specs.Held.{IsLastNoted, IsSpinThere, SpinFacts, next_of}
use Rattle.nt_lane.specs.Steps.{spin_left}
use Rattle.nt_lane.proofs.Noted.{knows_noted, last_noted}
use Rattle.nt_lane.proofs.Spun.{spin_stays}
use Rattle.nt_lane.proofs.noting.note_spin.Goals as goal

pub leave-requires : goal.leave-requires
leave-requires g c =
    rw (c.cpu.ensures, c.args.lane.now.fits.flags) (ltb-true c.args.step.now.stand.now.cpu.0 g.N.Plan.script.cpus c.requires.may.cpu)

pub invariant_of-lane : goal.invariant_of-lane
invariant_of-lane g c =
    let s = g.N.Plan.script in
    let old = c.args.lane.now in
    let n = c.args.step.now.number in
    let e = c.args.step.now.plan.now.event in
    let left : c.leave.new.self ≡ spin_left s e old.state = c.leave.ensures s (sym old.fits.flags)
    ∙ ap (λ (p : CpuNo). record old.state { state = lock_moved s old.state.lock p (lock_move e.what) old.state.state })
    (c.cpu.ensures ∙ sym c.requires.may.own) in
    let lock : c.leave.new.self.lock ≡ old.state.lock = ap (λ (x : SpinFacts). x.lock) left in
    let time : 0 ≤ next_of c.note_step.new.log.notes * 2 ^ 32 = omega arith in
    record {
      noted = last_noted s n c.args.step.now.plan.now.asks (OfLock c.leave.new.self.state) old.log c.note_step.new.log (pass_view c.args.pass.now)
          (pass_view c.note_step.new.pass) c.note_step.ensures.noted (LockLane c.leave.new.self.lock) (OfLock old.state.state)
          (subst (λ (k : LockNo). IsLastNoted s (LockLane k) (OfLock old.state.state) old.log) (sym lock) old.noted);
      time = time;
      fits = subst (λ (x : SpinFacts). IsSpinThere s x) (sym left) (spin_stays s e old.state old.fits);
    }

pub returns-clause-noted : goal.returns-clause-noted
returns-clause-noted g c =
    let s = g.N.Plan.script in
    let old = c.args.lane.now in
    let n = c.args.step.now.number in
    let e = c.args.step.now.plan.now.event in
    let left : c.leave.new.self ≡ spin_left s e old.state = c.leave.ensures s (sym old.fits.flags)
    ∙ ap (λ (p : CpuNo). record old.state { state = lock_moved s old.state.lock p (lock_move e.what) old.state.state })
    (c.cpu.ensures ∙ sym c.requires.may.own) in
    knows_noted s n c.args.step.now.plan.now.asks (OfLock c.leave.new.self.state) old.log c.note_step.new.log (pass_view c.args.pass.now)
    (pass_view c.note_step.new.pass) c.note_step.ensures.noted c.args.step.now.plan.now.asks (OfLock (spin_left s e old.state).state) refl
    (ap (λ (x : SpinFacts). OfLock x.state) left)
