use Rattle.nt_history.proofs.SameBriefs.{brief_test}
use Rattle.nt_history.proofs.brief.Brief.is_same.Goals as goal

pub returns : goal.returns
returns c = brief_test c.args.self.now c.args.other.now c.eq.result c.eq.ensures
