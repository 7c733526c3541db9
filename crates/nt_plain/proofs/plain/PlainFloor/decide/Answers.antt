use Rattle.std.proofs.Common.{subst, sym}
use Rattle.std.specs.Prelude.{OnOk}
use Rattle.nt_states.specs.Allowed.{MayDo, MayMake}
use Rattle.nt_plain.specs.Insides.{state_in}
use Rattle.nt_plain.specs.Made.{states_of}
use Rattle.nt_plain.specs.States.{PlainState}
use Rattle.nt_states.proofs.Decidable.{may_make_found}
use Rattle.nt_plain.proofs.plain.PlainFloor.decide.Goals as goal

pub returns-clause-given : goal.returns-clause-given
returns-clause-given c =
    let st = c.args.stand.now in
    let may : MayDo (states_of (state_in c.self.inside)) st c.args.job.now = subst (λ (f : PlainState). MayDo (states_of f) st c.args.job.now)
    (sym c.self.view_is) c.requires in
    let into = c.decide_into.new.into in
    subst (λ (f : PlainState). OnOk c.decide_into.result (MayMake (states_of f) st into)) c.self.view_is
    (may_make_found (states_of (state_in c.self.inside)) st c.args.job.now into c.decide_into.result may c.decide_into.ensures.event
    c.decide_into.ensures.given)
