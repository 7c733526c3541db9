use Rattle.nt_expect.proofs.NamedReplies.{refusals_may_be, replies_may_be}
use Rattle.nt_expect.proofs.laws.replies_may_be_expected.Goals as goal

pub returns-clause-replies : goal.returns-clause-replies
returns-clause-replies c = replies_may_be

pub returns-clause-refusals : goal.returns-clause-refusals
returns-clause-refusals c = refusals_may_be
