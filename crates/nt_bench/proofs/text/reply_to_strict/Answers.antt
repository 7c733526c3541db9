use Rattle.std.proofs.Common.{refl, subst}
use Rattle.std.specs.Prelude.{List, length, ℕ, ◌≤◌}
use Rattle.nt_text.specs.declared.lines.TheConstants.{INPUT_LIMIT}
use Rattle.nt_bench.proofs.Found.{done_found}
use Rattle.nt_bench.proofs.text.reply_to_strict.Goals as goal

pub returns : goal.returns
returns c =
    let short : length c.args.tidied.now.text.items ≤ INPUT_LIMIT =
    subst (λ (bytes : List ℕ). length bytes ≤ INPUT_LIMIT) c.as_slice.ensures.value c.if-as_slice-gt-INPUT_LIMIT.false in
    done_found c.args.work c.args.named c.args.bytes.now _ _ _ refl refl
    (record { bytes = c.requires.bytes; short = short; text = c.requires.text; lines = c.requires.lines }) c.reply_to.ensures
