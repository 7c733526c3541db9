use Rattle.nt_ask.proofs.Parts.{line_within}
use Rattle.nt_shown.proofs.parts.behind_of.Goals as goal

pub returns-in-Some-clause-line : goal.returns-in-Some-clause-line
returns-in-Some-clause-line c = line_within _ c.args.bytes.now c.in-Some.split.at c.in-Some.split.line c.requires c.in-Some.ensures.some

pub returns-in-Some-split_at-clause-line : goal.returns-in-Some-split_at-clause-line
returns-in-Some-split_at-clause-line c =
    line_within _ c.args.bytes.now c.in-Some-split_at.split.at c.in-Some-split_at.split.line c.requires c.in-Some-split_at.ensures.some

pub returns-in-Some-split_at-2-clause-line : goal.returns-in-Some-split_at-2-clause-line
returns-in-Some-split_at-2-clause-line c =
    line_within _ c.args.bytes.now c.in-Some-split_at-2.split.at c.in-Some-split_at-2.split.line c.requires c.in-Some-split_at-2.ensures.some
