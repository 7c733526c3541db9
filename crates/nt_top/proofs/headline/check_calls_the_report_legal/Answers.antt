use Rattle.nt_top.proofs.Again.{called_legal}
use Rattle.nt_top.proofs.headline.check_calls_the_report_legal.Goals as goal

pub returns : goal.returns
returns c = called_legal c.words_have_one_form.ensures
