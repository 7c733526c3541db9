use Rattle.std.proofs.Common.{subst}
use Rattle.std.specs.Cmp.Derive.{both_true}
use Rattle.nt_event.proofs.Options.{both}
use Rattle.nt_shade.proofs.Lists.{lists_same}
use Rattle.nt_shade.proofs.SameParts.{flag_same}
use Rattle.nt_search.specs.Keys.{AreNumbered, SeenParts}
use Rattle.nt_search.proofs.parts.Parts.are_of.Goals as goal

pub returns : goal.returns
returns c told =
    let all = both _ _ told in
    let four = both _ _ all.0 in
    let three = both _ _ four.0 in
    let two = both _ _ three.0 in
    let dpcs = c.is_at-dpcs.ensures two.0 in
    let counts = c.is_at-counts.ensures two.1 in
    let threads = c.is_at-threads.ensures three.1 in
    let cpus = c.is_at-cpus.ensures four.1 in
    let came = c.is_at-came.ensures all.1 in
    subst (λ (x : SeenParts). AreNumbered x c.args.key.now c.args.shade.now c.args.came.now) c.self.view_is (record {
      kept = record { dpcs = dpcs.0; counts = counts.0; threads = threads.0; cpus = cpus.0 };
      flags = came.0;
      parts = record { dpcs = dpcs.1; counts = counts.1; threads = threads.1; cpus = cpus.1; came = came.1 };
      equal = both_true dpcs.2 (both_true counts.2 (both_true threads.2 cpus.2));
      same = lists_same flag_same c.args.came.now.items came.0.items came.2;
    })
