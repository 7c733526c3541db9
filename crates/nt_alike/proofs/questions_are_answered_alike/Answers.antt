use Rattle.nt_alike.proofs.Questions.{answers_same}
use Rattle.nt_alike.proofs.questions_are_answered_alike.Goals as goal

pub returns : goal.returns
returns c = answers_same
