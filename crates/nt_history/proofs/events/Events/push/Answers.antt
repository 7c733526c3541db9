use Rattle.std.proofs.Common.{[], ◌++◌, ◌∷◌, ◌≡◌}
use Rattle.nt_history.specs.Briefs.{brief_of, nothing}
use Rattle.nt_history.proofs.Lists.{other_put}
use Rattle.nt_history.proofs.events.Events.push.Goals as goal

pub invariant_of-self-in_default : goal.invariant_of-self-in_default
invariant_of-self-in_default c =
    let e : c.put_brief.new.briefs.items ≡ c.self.inside.briefs.items ++ brief_of nothing c.args.event.now ∷ [] = cc in
    (other_put c.args.event.now c.self.inside.briefs.items _ c.self.inside.rises.items c.in_default.not-Look e c.self.invariant).0
