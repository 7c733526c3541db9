use Rattle.std.proofs.lemmas.List.Elements.{All-same}
use Rattle.nt_ask.specs.Answers.{VerdictFits}
use Rattle.test_base.proofs.ask.is_answer.Goals as goal

pub answered-requires-clause-verdicts_fit : goal.answered-requires-clause-verdicts_fit
answered-requires-clause-verdicts_fit c =
    λ s. All-same (VerdictFits s) c.in_ok-answer.answer.verdicts.items c.args.verdicts.now c.in_ok-answer.ensures (c.requires s)
