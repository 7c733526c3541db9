use Rattle.nt_top.proofs.Asked.{answer_is_no_fault, answered, asks_alone}
use Rattle.nt_top.proofs.Causes.{causes}
use Rattle.nt_top.proofs.top.plain.Goals as goal

pub answer_alone-answer-requires-clause-alone : goal.answer_alone-answer-requires-clause-alone
answer_alone-answer-requires-clause-alone g c = asks_alone _ _ _ _ c.requires c.ask-asked.ensures.asks

pub write-requires : goal.write-requires
write-requires g c = answer_is_no_fault _ _ _ _ c.answer_alone-answer.result c.ask-asked.ensures.asks c.answer_alone-answer.ensures

pub returns-clause-answered : goal.returns-clause-answered
returns-clause-answered g c = answered _ _ _ _ _ _ c.answer_alone-answer.result _ c.ask-asked.ensures.asks c.answer_alone-answer.ensures c.write.ensures

pub returns-clause-causes : goal.returns-clause-causes
returns-clause-causes g c = causes c.words_have_one_form.ensures _ _ _ _ _ _ (returns-clause-answered g c)
