use Rattle.std.proofs.Common.{None, ap, refl, subst, sym, ◌+◌, ◌∷◌, ◌≡◌}
use Rattle.nt_event.specs.declared.scripts.Script.{Script}
use Rattle.nt_event.specs.Families.{in_rewait}
use Rattle.nt_plain.specs.States.{view_of}
use Rattle.nt_cpus.specs.Refusals.{kind_of}
use Rattle.nt_cpus.proofs.Turning.{still_after}
use Rattle.nt_shade_dpcs.specs.Shade.{IsShade, due_again}
use Rattle.nt_search.specs.declared.machine.Machine.{Machine}
use Rattle.nt_search.proofs.Machines.{came_length, due_is, refused, taken}
use Rattle.nt_search.proofs.machine.Machine.take.Goals as goal

pub returns-in-Err-clause-refused : goal.returns-in-Err-clause-refused
returns-in-Err-clause-refused c f s limit past h short =
    let m = c.args.self.now in
    let floor = c.turn.new.floor in
    let e = c.in-Err.ensures in
    let after = still_after past m.processors c.turn.new.self m.floor.script floor.script (view_of m.floor) (view_of floor) h.after e.same.0 e.same.1 e.floor in
    refused s limit c.args.watched.now c.args.turn.now past m h short c.turn.new.self floor (kind_of c.in-Err.field-0) _ (e.err past h.after) after e.kept refl

pub follow-requires-clause-flags : goal.follow-requires-clause-flags
follow-requires-clause-flags c = came_length c.args.watched.now c.requires.past c.args.self.now.came.items c.requires.stands.came

pub returns-clause-taken : goal.returns-clause-taken
returns-clause-taken c b s limit past h short =
    let m = c.args.self.now in
    let t = c.args.turn.now in
    let watched = c.args.watched.now in
    let e = c.turn.new.event in
    let due = c.due_again-due.result in
    let made = c.in-Ok.ensures.ok past h.after in
    let is = due_is s limit watched t past m h short e due made.0 (λ has. c.due_again-due.ensures s limit watched past h has) in
    let old = subst (λ (z : Script). IsShade z past m.dpcs) (sym h.script) h.dpcs in
    let again = subst (λ (z : Script). in_rewait (λ f y. due) None e.what ≡ due_again z e past) (sym h.script) is in
    let new = c.in_ok-follow.ensures.dpcs past old again in
    taken s limit watched t past m h short c.turn.new.self c.turn.new.floor e _ made.0 made.1 c.in-Ok.ensures.kept
    (ap (λ (x : Machine). record x { took = x.took + 1; event = e }) c.in_ok-follow.ensures.others)
    (subst (λ (z : Script). IsShade z (e ∷ past) c.follow.new.self.dpcs) h.script new)
    (c.in_ok-follow.ensures.came past h.came) c.look_is_short.ensures
