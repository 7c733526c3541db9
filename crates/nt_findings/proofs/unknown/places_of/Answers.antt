use Rattle.std.proofs.Common.{subst, sym, ℕ}
use Rattle.std.specs.Prelude.{List}
use Rattle.nt_findings.specs.Known.{AreUnknownTo}
use Rattle.nt_findings.proofs.Knowing.{no_places}
use Rattle.nt_findings.proofs.unknown.places_of.Goals as goal

pub loop-place-init : goal.loop-place-init
loop-place-init c = subst (λ (ps : List ℕ). AreUnknownTo c.args.fails.now ps 0) (sym c.new-places.ensures.items) (no_places c.args.fails.now)
