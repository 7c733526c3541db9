use Rattle.std.specs.Cmp.Derive.{both_true}
use Rattle.nt_shade.proofs.Lists.{lists_same}
use Rattle.nt_shade.proofs.SameParts.{flag_same}
use Rattle.nt_search.proofs.parts.Parts.number.Goals as goal

pub returns-clause-numbered : goal.returns-clause-numbered
returns-clause-numbered c =
    let dpcs = c.in_ok-dpcs.ensures.number in
    let counts = c.in_ok-counts.ensures.number in
    let threads = c.in_ok-threads.ensures.number in
    let cpus = c.in_ok-cpus.ensures.number in
    let came = c.in_ok-came.ensures.number in
    record {
      kept = record { dpcs = dpcs.0; counts = counts.0; threads = threads.0; cpus = cpus.0 };
      flags = came.0;
      parts = record { dpcs = dpcs.1; counts = counts.1; threads = threads.1; cpus = cpus.1; came = came.1 };
      equal = both_true dpcs.2 (both_true counts.2 (both_true threads.2 cpus.2));
      same = lists_same flag_same c.args.came.items came.0.items came.2;
    }
