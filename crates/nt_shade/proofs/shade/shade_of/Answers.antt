use Rattle.std.proofs.Common.{ap, subst, sym, ◌∙◌}
use Rattle.std.specs.Prelude.{All, List, map}
use Rattle.nt_event.specs.Lanes.{Lanes}
use Rattle.nt_event.specs.Threads.{ThreadFacts}
use Rattle.nt_cpu.specs.States.{CpuState}
use Rattle.nt_alike.specs.Bare.{bare_facts}
use Rattle.nt_shade_asks.proofs.Counts.{all_few}
use Rattle.nt_shade.specs.Cpus.{HasFewThreads, kept_but_dues}
use Rattle.nt_shade.proofs.Cloned.{dpcs_cloned}
use Rattle.nt_shade.proofs.Standing.{few_events, have_few_threads, kept_of_history, lanes_of_history}
use Rattle.nt_shade.proofs.shade.shade_of.Goals as goal

pub counts_of-requires : goal.counts_of-requires
counts_of-requires c =
    let past = c.requires.0 in
    let stand = c.requires.1 in
    all_few c.args.processors.now.script past c.args.unnoticed.now stand.asked
    (few_events past c.args.processors.now c.args.floor.now stand.machine)

pub cpus_of-requires : goal.cpus_of-requires
cpus_of-requires c =
    subst (λ (xs : List CpuState). All HasFewThreads xs) (sym c.cpus.ensures)
    (have_few_threads c.requires.0 c.args.processors.now c.args.floor.now c.requires.1.machine)

pub returns : goal.returns
returns c past stand =
    let processors = c.args.processors.now in
    let floor = c.args.floor.now in
    record {
      dpcs = dpcs_cloned processors.script past c.args.dpcs.now c.in_ok-clone.field-0 c.in_ok-clone.ensures.cases stand.dpcs;
      counts = record {
        unnoticed = c.args.unnoticed.now;
        of = stand.of;
        asked = stand.asked;
        same = c.in_ok-counts_of.ensures;
      };
      threads = c.in_ok-threads_of.ensures
          ∙ ap (λ (xs : List ThreadFacts). map bare_facts xs)
          (c.states.ensures ∙ c.threads.ensures ∙ ap (λ (l : Lanes). l.threads) (lanes_of_history past processors floor stand.machine));
      cpus = c.in_ok-cpus_of.ensures
          ∙ ap (λ (xs : List CpuState). map (λ p. kept_but_dues p.own) xs) c.cpus.ensures
          ∙ kept_of_history past processors floor stand.machine;
    }
