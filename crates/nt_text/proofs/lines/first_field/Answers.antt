use Rattle.std.proofs.Common.{sym}
use Rattle.std.proofs.lemmas.List.{take-append-drop, take_rest}
use Rattle.nt_text.proofs.FirstRows.{kept}
use Rattle.nt_text.proofs.lines.first_field.Goals as goal

pub returns : goal.returns
returns c = simp take_rest (kept _ _ _ (sym c.in_ok-end.ensures), sym (take-append-drop c.in_ok-end.end c.args.bytes.now))
