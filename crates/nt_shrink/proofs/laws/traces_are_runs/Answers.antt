use Rattle.std.proofs.Common.{ap, sym, ◌∙◌}
use Rattle.nt_shrink.specs.Traces.{traced}
use Rattle.nt_shrink.proofs.Runs.{run_traced, trace_runs}
use Rattle.nt_shrink.proofs.laws.traces_are_runs.Goals as goal

pub returns : goal.returns
returns c s limit list past = (trace_runs s limit list past, λ h. ap (traced s limit) (sym h.1) ∙ run_traced s limit past h.0)
