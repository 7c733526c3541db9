use Rattle.std.proofs.Common.{[], arith, length, subst, ◌++◌, ◌∷◌, ◌≡◌, ℕ}
use Rattle.nt_history.specs.Briefs.{HasEach, IsLook, events_in}
use Rattle.nt_history.proofs.Lists.{look_put}
use Rattle.nt_history.proofs.events.put_look.Goals as goal
use Rattle.nt_history.proofs.events.put_look.Goals.{After-put_brief}

-- after a look is put with its values beside it, the events are the old ones and this look at the end
is_put : (c : After-put_brief) →
    HasEach c.put_brief.new.briefs.items c.put_beside.new.rises.items
    × (events_in c.put_brief.new.briefs.items c.put_beside.new.rises.items
    ≡ events_in c.args.briefs.now.items c.args.rises.now.items ++ c.args.event.now ∷ [])
is_put c =
    let e : c.len.result ≡ length c.args.rises.now.items = let h = c.args.rises.now.ok.0 in let k = c.len.ensures in omega (arith, h, k) in
    let kept = subst (λ (n : ℕ). IsLook n c.of_look-noticed.result c.args.values.now) e c.of_look-noticed.ensures in
    look_put c.args.event.now c.args.values.now c.of_look-noticed.result c.args.briefs.now.items _ c.args.rises.now.items _
    c.requires.look kept c.put_brief.ensures.items c.put_beside.ensures.items c.requires.each

pub returns-clause-events : goal.returns-clause-events
returns-clause-events c = (is_put c).1

pub returns-clause-each : goal.returns-clause-each
returns-clause-each c = (is_put c).0
