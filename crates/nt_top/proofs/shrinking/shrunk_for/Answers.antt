use Rattle.std.proofs.Common.{subst}
use Rattle.nt_ranges.proofs.Reports.{few_cpus, few_turns}
use Rattle.nt_shrink.specs.Refusals.{IsShrinkRefused}
use Rattle.nt_top.specs.Answer.{text_of}
use Rattle.nt_top.proofs.Shrinks.{bad_turn_done, delivery_fits}
use Rattle.nt_top.proofs.shrinking.shrunk_for.Goals as goal

pub shrink-requires-clause-all : goal.shrink-requires-clause-all
shrink-requires-clause-all c =
    few_turns c.args.input.now.script.cpus c.args.schedule.now.turns (few_cpus c.args.input.now c.requires.sound) c.requires.limit.1

pub scheduled-requires-clause-fit : goal.scheduled-requires-clause-fit
scheduled-requires-clause-fit c =
    delivery_fits c.args.input.now.script c.args.schedule.now.turns c.args.goal c.in-Ok.list c.requires.sound.fits c.in-Ok.ensures.delivers

pub returns-in-Err-Bad : goal.returns-in-Err-Bad
returns-in-Err-Bad c = λ name named.
    bad_turn_done c.args.input.now c.args.schedule.now name c.args.goal c.in-Err-Bad.at c.in-Err-Bad.kind c.turn_refused.result.status
    (text_of c.turn_refused.result.text) named
    (subst (IsShrinkRefused c.args.input.now.script c.args.schedule.now.turns c.args.goal c.args.schedule.now.list) c.in-Err-Bad.field-0-is
    c.in-Err-Bad.ensures.err)
    c.turn_refused.ensures
