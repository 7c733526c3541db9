use Rattle.std.proofs.Common.{rules}
use Rattle.nt_expect.proofs.Texts.{never_behind_some}
use Rattle.nt_expect.proofs.fields.never_behind.Goals as goal

pub returns-in-Some : goal.returns-in-Some
returns-in-Some c = search (rules, never_behind_some c.args.input.now c.args.event c.args.row.now c.in-Some.word.now)
