use Rattle.std.proofs.Common.{List, [], ap, arith, length, subst, ℕ, ◌∙◌, ◌++◌, ◌∷◌, ◌≡◌}
use Rattle.nt_event.specs.declared.events.Rises.{Rises}
use Rattle.nt_history.specs.Briefs.{IsLook}
use Rattle.nt_history.specs.Values.{AreAmong, rises_in}
use Rattle.nt_history.proofs.TurnValues.{look_put}
use Rattle.nt_history.proofs.looks.Looks.push.Goals as goal
use Rattle.nt_history.proofs.looks.Looks.push.Goals.{After-push_reserved}

-- after a look's values are put, the values in order are the old ones and these at the end
put : (c : After-push_reserved) →
    AreAmong c.push_reserved.new.self.items c.put_beside.new.several.items
    × (rises_in c.push_reserved.new.self.items c.put_beside.new.several.items
    ≡ rises_in c.self.inside.noticed.items c.self.inside.several.items ++ c.args.values.now ∷ [])
put c =
    let e : c.len.result ≡ length c.self.inside.several.items = let k = c.len.ensures in omega (arith, k) in
    let is = subst (λ (n : ℕ). IsLook n c.of_look-noticed.result c.args.values.now) e c.of_look-noticed.ensures in
    let n : c.push_reserved.new.self.items ≡ c.self.inside.noticed.items ++ c.of_look-noticed.result ∷ [] = cc in
    look_put c.args.values.now c.of_look-noticed.result c.self.inside.noticed.items _ c.self.inside.several.items _
    is n c.in_ok-put_beside.ensures.ok c.self.invariant

pub invariant_of-self-2 : goal.invariant_of-self-2
invariant_of-self-2 c = (put c).0

pub returns-clause-ok : goal.returns-clause-ok
returns-clause-ok c = (put c).1 ∙ ap (λ (rs : List Rises). rs ++ c.args.values.now ∷ []) c.self.view_is
