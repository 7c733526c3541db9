use Rattle.std.proofs.Common.{subst, sym, ◌∙◌}
use Rattle.std.specs.Prelude.{All, List, true, ◌≡◌}
use Rattle.nt_expect.specs.declared.expectations.Expectation.{Expectation}
use Rattle.nt_expect.specs.Expectations.{expectations_fit}
use Rattle.nt_findings.specs.declared.spoken.Spoken.{Spoken}
use Rattle.nt_findings.specs.Spoken.{IsSpoken}
use Rattle.nt_findings.proofs.Fitting.{events_fit}
use Rattle.nt_findings.proofs.seeking.seek.Goals as goal

pub seek-requires-clause-question : goal.seek-requires-clause-question
seek-requires-clause-question c =
    let s = c.args.script.now in
    let xs = c.args.expectations.now in
    record {
      fit = c.requires.fit;
      named = subst (λ (es : List Expectation). expectations_fit s es ≡ true) (sym (c.as_slice-2.ensures.value ∙ c.in_ok-all.ensures))
          (events_fit s xs c.as_slice.result.now c.requires.named
          (subst (λ (ys : List Spoken). All (IsSpoken xs) ys) (sym c.as_slice.ensures.value) c.in_ok-spoken.ensures));
      turns = c.requires.turns;
      all = c.requires.all;
      most = c.requires.most;
    }
