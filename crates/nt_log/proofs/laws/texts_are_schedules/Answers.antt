use Rattle.std.proofs.Common.{sym, ◌∙◌}
use Rattle.nt_log.proofs.OneSchedule.{one_schedule}
use Rattle.nt_log.proofs.laws.texts_are_schedules.Goals as goal

pub returns-clause-one_text : goal.returns-clause-one_text
returns-clause-one_text c = λ input s a b h k. h.text ∙ sym k.text

pub returns-clause-one_schedule : goal.returns-clause-one_schedule
returns-clause-one_schedule c = one_schedule
