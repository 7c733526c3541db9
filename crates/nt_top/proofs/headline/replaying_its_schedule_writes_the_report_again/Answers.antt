use Rattle.nt_top.proofs.Again.{written_again}
use Rattle.nt_top.proofs.headline.replaying_its_schedule_writes_the_report_again.Goals as goal

pub returns : goal.returns
returns c = written_again c.words_have_one_form.ensures
