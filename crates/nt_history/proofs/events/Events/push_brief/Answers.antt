use Rattle.std.proofs.Common.{List, [], ap, ◌++◌, ◌∙◌, ◌∷◌, ◌≡◌}
use Rattle.nt_event.specs.declared.events.Event.{Event}
use Rattle.nt_history.specs.Briefs.{HasEach, brief_of, event_of, events_in, no_rises, nothing}
use Rattle.nt_history.proofs.Lists.{bare_put}
use Rattle.nt_history.proofs.events.Events.push_brief.Goals as goal
use Rattle.nt_history.proofs.events.Events.push_brief.Goals.{After-put}

-- after a brief without values is put, the events are the old ones and its event at the end
is_put : (c : After-put) →
    HasEach c.put.new.items.items c.self.inside.rises.items
    × (events_in c.put.new.items.items c.self.inside.rises.items
    ≡ events_in c.self.inside.briefs.items c.self.inside.rises.items ++ (event_of no_rises c.args.brief.now) ∷ [])
is_put c =
    let e : c.put.new.items.items ≡ c.self.inside.briefs.items ++ brief_of nothing (event_of no_rises c.args.brief.now) ∷ [] = cc in
    bare_put c.args.brief.now c.self.inside.briefs.items _ c.self.inside.rises.items e c.self.invariant

pub invariant_of-self-2 : goal.invariant_of-self-2
invariant_of-self-2 c = (is_put c).0

pub returns-clause-ok : goal.returns-clause-ok
returns-clause-ok c = (is_put c).1 ∙ ap (λ (es : List Event). es ++ (event_of no_rises c.args.brief.now) ∷ []) c.self.view_is
