use Rattle.std.proofs.Common.{subst, ◌∙◌}
use Rattle.std.specs.Prelude.{List, ℕ}
use Rattle.nt_shown.specs.Shown.{IsShown}
use Rattle.nt_bench.proofs.Shown.{shown_reply}
use Rattle.nt_bench.proofs.running.run_in.Goals as goal

pub returns-in-Ok : goal.returns-in-Ok
returns-in-Ok c =
    let strict = c.as_slice.ensures.value ∙ c.requires.friendly.text in
    shown_reply c.args.how c.args.shape c.args.friendly.now c.in-Ok.run' _ _
    (subst (λ (bytes : List ℕ). IsShown bytes c.args.how c.in-Ok.run') strict c.in-Ok.ensures.ok) c.shown_as-reply.ensures
