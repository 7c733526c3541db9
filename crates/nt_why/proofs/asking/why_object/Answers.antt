use Rattle.nt_why.proofs.Told.{all_as, told_as}
use Rattle.nt_why.proofs.asking.why_object.Goals as goal

pub returns-clause-told : goal.returns-clause-told
returns-clause-told c =
    let k = c.question_of-question.ensures in
    told_as c.question_of-question.result _ _ _ _ _ _ k.script k.turns k.events k.end k.object c.in_ok-explain.ensures.told

pub returns-clause-complete : goal.returns-clause-complete
returns-clause-complete c =
    let k = c.question_of-question.ensures in
    all_as c.question_of-question.result _ _ _ _ _ _ k.script k.turns k.events k.end k.object c.in_ok-explain.ensures.all
