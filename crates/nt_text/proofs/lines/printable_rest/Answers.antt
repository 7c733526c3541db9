use Rattle.std.proofs.Common.{◌++◌, ◌∙◌, List, ap, sym, take, ℕ}
use Rattle.std.proofs.lemmas.List.{take-append-drop, take_rest}
use Rattle.nt_text.specs.Lines.{is_printable}
use Rattle.nt_text.proofs.FirstRows.{kept}
use Rattle.nt_text.proofs.lines.printable_rest.Goals as goal

pub returns : goal.returns
returns c =
    let line = take c.in_ok-end.end c.args.bytes.now in
    let rest = simp take_rest at c.in_ok-rest.ensures in (
      kept is_printable _ _ (sym c.in_ok-end.ensures),
      sym (take-append-drop c.in_ok-end.end c.args.bytes.now) ∙ ap (λ (l : List ℕ). line ++ l) rest,
    )
