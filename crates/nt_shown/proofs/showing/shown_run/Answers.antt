use Rattle.std.proofs.Common.{subst}
use Rattle.std.specs.Prelude.{List, Ok, Option, ℕ, ◌≡◌}
use Rattle.nt_script.specs.Reading.{reading as script_in}
use Rattle.nt_shown.specs.declared.parts.Behind.{Behind}
use Rattle.nt_shown.specs.Parts.{script_part}
use Rattle.nt_shown.specs.Shown.{IsUnshownIn}
use Rattle.nt_shown.proofs.Unshown.{behind_unshown}
use Rattle.nt_shown.proofs.showing.shown_run.Goals as goal

pub returns-in-Err-clause-err : goal.returns-in-Err-clause-err
returns-in-Err-clause-err c =
    let input = c.in_ok-input.input in
    let strict = c.args.strict.now in
    let read = subst (λ (part : List ℕ). script_in part ≡ Ok input) c.script_part.ensures c.in_ok-input.ensures.read in
    behind_unshown input strict c.in-Err.refusal read
    (subst (λ (b : Option Behind). IsUnshownIn input strict b c.in-Err.refusal) c.behind_of-behind.ensures.value c.in-Err.ensures.err)
