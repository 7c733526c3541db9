use Rattle.std.proofs.Common.{List, [], ap, ◌++◌, ◌∙◌, ◌∷◌, ◌≡◌}
use Rattle.nt_event.specs.declared.events.Turn.{Turn}
use Rattle.nt_history.specs.Kept.{HasEach, kept_of, turns_in}
use Rattle.nt_history.proofs.TurnLists.{one_put}
use Rattle.nt_history.proofs.turns.Turns.push.Goals as goal
use Rattle.nt_history.proofs.turns.Turns.push.Goals.{After-push_reserved}

-- after a turn is put, the turns in order are the old ones and this one at the end
put : (c : After-push_reserved) →
    HasEach c.push_reserved.new.self.items c.put_rises.new.looks
    × (turns_in c.push_reserved.new.self.items c.put_rises.new.looks
    ≡ turns_in c.self.inside.kept.items c.self.inside.looks ++ c.args.turn.now ∷ [])
put c =
    let e : c.push_reserved.new.self.items ≡ c.self.inside.kept.items ++ kept_of c.args.turn.now ∷ [] = cc in
    one_put c.args.turn.now c.self.inside.kept.items _ c.self.inside.looks _ e c.in_ok-put_rises.ensures.ok c.self.invariant

pub invariant_of-self-2 : goal.invariant_of-self-2
invariant_of-self-2 c = (put c).0

pub returns-clause-ok : goal.returns-clause-ok
returns-clause-ok c = (put c).1 ∙ ap (λ (ts : List Turn). ts ++ c.args.turn.now ∷ []) c.self.view_is
