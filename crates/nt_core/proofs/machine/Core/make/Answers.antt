use Rattle.std.proofs.Common.{subst, sym}
use Rattle.std.specs.Prelude.{reverse, ◌*◌, ◌≤◌}
use Rattle.nt_plain.specs.States.{view_of}
use Rattle.nt_cpus.specs.Following.{AreAfter}
use Rattle.nt_cpus.specs.States.{CpusState}
use Rattle.nt_core.proofs.Starting.{after_still}
use Rattle.nt_core.proofs.machine.Core.make.Goals as goal

pub invariant_of-self : goal.invariant_of-self
invariant_of-self c =
    let past = reverse c.self.inside.events.events in
    let old = c.self.inside.floor in
    let new = c.turn.new.floor in
    let u = c.in-Err.ensures.same in
    record {
      sound = subst (λ (x : CpusState). AreAfter past x new.script (view_of new)) (sym u.0)
          (after_still past c.self.inside.processors old.script new.script (view_of old) (view_of new) c.self.invariant.sound c.in-Err.ensures.floor u.1);
      room = subst (λ (x : CpusState). x.script.cpus * x.limit ≤ c.self.inside.events.room) (sym u.0) c.self.invariant.room;
    }
