use Rattle.std.proofs.Common.{sym, ◌∙◌}
use Rattle.std.specs.Prelude.{false, true, ◌≡◌}
use Rattle.nt_event.specs.Jobs.{is_still}
use Rattle.nt_event.specs.Robin.{is_behind, look_values}
use Rattle.nt_cpus.specs.Steps.{step_turn}
use Rattle.nt_cpus.proofs.Choosing.{every_lanes, goes_turn, looks_turn, rests_turn, those_lanes}
use Rattle.nt_cpus.proofs.robins.uncut_step.Goals as goal

pub returns-then-is_behind_on : goal.returns-then-is_behind_on
returns-then-is_behind_on g c =
    let v = g.F.Words.view c.args.floor.now in
    let x = c.args.cpu.now.own in
    let asked = v.value c.args.p in
    let b : is_behind x asked ≡ true = sym c.is_behind_on.ensures ∙ c.if-is_behind_on.true in
    every_lanes v.states (λ l. looks_turn (g.F.Floor.script c.args.floor.now) c.args.p x l asked b)

pub returns-then-is_still : goal.returns-then-is_still
returns-then-is_still g c =
    let v = g.F.Words.view c.args.floor.now in
    let x = c.args.cpu.now.own in
    let asked = v.value c.args.p in
    let b : is_behind x asked ≡ false = sym c.is_behind_on.ensures ∙ c.if-is_behind_on.false in
    let r : is_still x ≡ true = sym c.is_still.ensures ∙ c.if-is_still.true in
    every_lanes v.states (λ l. rests_turn (g.F.Floor.script c.args.floor.now) c.args.p x l asked b r)

pub returns : goal.returns
returns g c =
    let v = g.F.Words.view c.args.floor.now in
    let x = c.args.cpu.now.own in
    let asked = v.value c.args.p in
    let b : is_behind x asked ≡ false = sym c.is_behind_on.ensures ∙ c.if-is_behind_on.false in
    let r : is_still x ≡ false = sym c.is_still.ensures ∙ c.if-is_still.false in
    those_lanes v.states (λ l e. goes_turn (g.F.Floor.script c.args.floor.now) c.args.p x l asked
    (step_turn c.args.p (look_values x asked) c.going_on.result) b r (e (look_values x asked))) c.going_on.ensures
