use Rattle.nt_friendly.proofs.Numbers.{as_many}
use Rattle.nt_friendly.proofs.Short.{text_short_by_one}
use Rattle.nt_friendly.proofs.tidying.tidy.Goals as goal

pub returns-clause-count : goal.returns-clause-count
returns-clause-count c =
    rw (c.in_ok-put_lines.ensures.text, c.in_ok-put_lines.ensures.lines, c.new-text.ensures.items, c.new-lines.ensures.items) (as_many c.args.bytes.now)

pub returns-clause-short : goal.returns-clause-short
returns-clause-short c = rw (c.in_ok-put_lines.ensures.text, c.new-text.ensures.items) (text_short_by_one c.args.bytes.now)
