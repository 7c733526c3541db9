use Rattle.std.proofs.Common.{sym, ◌∙◌}
use Rattle.nt_mark.specs.Names.{pass_view}
use Rattle.nt_live.proofs.Looks.{still_then}
use Rattle.nt_live.proofs.team.has_no_more.Goals as goal

pub returns-then-is_still-clause-more : goal.returns-then-is_still-clause-more
returns-then-is_still-clause-more c h =
    still_then c.args.turns (pass_view c.args.pass.now) c.args.cpu.now c.args.number c.look_all-answers.result c.is_behind.result c.requires.cpu.1
    (sym c.is_still.ensures ∙ c.if-is_still.true) c.is_behind.ensures h c.look_all-answers.ensures.least
