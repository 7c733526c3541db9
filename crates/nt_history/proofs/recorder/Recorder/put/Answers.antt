use Rattle.std.proofs.Common.{arith}
use Rattle.nt_history.proofs.Lists.{one_more, other_put}
use Rattle.nt_history.proofs.recorder.Recorder.put.Goals as goal

pub invariant_of-self-in_default : goal.invariant_of-self-in_default
invariant_of-self-in_default c =
    let e = c.put_brief.ensures.items in record {
      each = (other_put c.args.event.now c.self.inside.briefs.items _ c.self.inside.rises.items c.in_default.not-Look e c.self.invariant.each).0;
      fewer = let h = c.self.invariant.fewer in let m = one_more c.self.inside.briefs.items _ _ e in omega arith;
      briefs = let h = c.self.invariant.briefs in let k = c.put_brief.ensures.room in omega arith;
      rises = c.self.invariant.rises;
    }
