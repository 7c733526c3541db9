use Rattle.std.proofs.Common.{[], length, ap, refl, rules, subst, sym, ◌≡◌}
use Rattle.std.specs.Prelude.{false, replicate}
use Rattle.nt_plain.specs.States.{view_of}
use Rattle.nt_plain.proofs.Openings.{fresh_opening}
use Rattle.nt_cpus.specs.States.{CpusState}
use Rattle.nt_cpus.proofs.Starting.{start_after}
use Rattle.nt_shows.specs.Tells.{AreCame}
use Rattle.nt_search.proofs.Machines.{none_came}
use Rattle.nt_search.proofs.machine.Machine.new.Goals as goal

pub returns : goal.returns
returns c =
    let s = c.args.script.now in
    let f = c.in_ok-new-3.field-0 in
    let fresh = c.in_ok-new-3.ensures in
    let items : c.in_ok-vec.field-0.items ≡ replicate (length c.args.watched.now) false = search rules in
    record {
      script = refl;
      of = ap (λ (x : CpusState). x.script) c.in_ok-new.ensures;
      limit_is = ap (λ (x : CpusState). x.limit) c.in_ok-new.ensures;
      after = start_after s c.args.limit c.in_ok-new.field-0 f.script (view_of f) c.requires.script c.requires.turns.1 c.requires.all c.in_ok-new.ensures
          fresh.script (fresh_opening s c.args.limit f fresh);
      free = tt;
      dpcs = c.in_ok-new-2.ensures;
      came = subst (AreCame c.args.watched.now []) (sym items) (none_came c.args.watched.now);
      took = refl;
    }
