use Rattle.std.proofs.Common.{sym, ◌∙◌}
use Rattle.nt_expect.proofs.Contract.{one_list}
use Rattle.nt_expect.proofs.laws.texts_are_expectations.Goals as goal

pub returns-clause-one_text : goal.returns-clause-one_text
returns-clause-one_text c = λ input es a b h k. h.text ∙ sym k.text

pub returns-clause-one_list : goal.returns-clause-one_list
returns-clause-one_list c = one_list
