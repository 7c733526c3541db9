use Rattle.std.proofs.Common.{refl}
use Rattle.std.proofs.lemmas.List.Elements.{All-replicate}
use Rattle.nt_report.specs.LineInputs.{IsRead}
use Rattle.nt_report.proofs.line_input.LineInput.new.Goals as goal

pub invariant_of-result : goal.invariant_of-result
invariant_of-result c = record {
  places = refl;
  read = All-replicate (IsRead c.args.input.now.names) 64 _ refl;
}
