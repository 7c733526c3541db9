use Rattle.std.proofs.Common.{sym, ◌∙◌}
use Rattle.nt_plain.proofs.told.raise_told.Goals as goal

pub raise_by_lock-requires-clause-others : goal.raise_by_lock-requires-clause-others
raise_by_lock-requires-clause-others c k h other = c.requires.others k h (rw (sym c.is_lock.ensures ∙ c.if-is_lock.true) other)

pub raise_by-requires-clause-others : goal.raise_by-requires-clause-others
raise_by-requires-clause-others c k h other = c.requires.others k h (rw (sym c.is_lock.ensures ∙ c.if-is_lock.false) other)
