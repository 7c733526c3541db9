use Rattle.std.proofs.Common.{subst, ◌∙◌}
use Rattle.std.specs.Prelude.{List, ℕ}
use Rattle.nt_lab_words.specs.declared.words.TheConstants.{USUAL}
use Rattle.nt_shown.specs.Shown.{IsShown}
use Rattle.nt_bench.proofs.Shown.{why_reply}
use Rattle.nt_bench.proofs.reasons.why_in.Goals as goal

pub returns-in-Ok : goal.returns-in-Ok
returns-in-Ok c =
    let strict = c.as_slice.ensures.value ∙ c.requires.text in
    why_reply c.args.kind c.args.friendly.now c.in-Ok.run' _ _
    (subst (λ (bytes : List ℕ). IsShown bytes USUAL c.in-Ok.run') strict c.in-Ok.ensures.ok) c.reasons_of-reply.ensures
