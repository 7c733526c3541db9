use Rattle.std.proofs.Common.{refl}
use Rattle.nt_findings.proofs.Opened.{open_fit}
use Rattle.nt_findings.proofs.question.Question.seek_round_of.Goals as goal

pub search_rounds-requires-clause-named : goal.search_rounds-requires-clause-named
search_rounds-requires-clause-named c =
    open_fit c.args.self.now c.args.fails.now c.in_ok-left.left c.in_ok-left.left.expectations.items c.in_ok-left.ensures
    c.requires.count c.requires.question.named refl
