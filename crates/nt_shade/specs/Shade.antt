-- The shade of a history: all that stands in it, without the numbers of its events.
use Rattle.std.specs.Prelude.{List, map, ℕ, ◌≡◌}
use Rattle.nt_event.specs.declared.events.Event.{Event}
use Rattle.nt_event.specs.declared.scripts.Script.{Script}
use Rattle.nt_event.specs.Lanes.{lanes_at}
use Rattle.nt_event.specs.Lists.{table}
use Rattle.nt_event.specs.Numbers.{cpu}
use Rattle.nt_event.specs.Own.{own_of}
use Rattle.nt_plain.specs.States.{PlainState, view_of}
use Rattle.nt_cpus.specs.Following.{AreAfter}
use Rattle.nt_cpus.specs.States.{CpusState}
use Rattle.nt_alike.specs.Bare.{bare_facts}
use Rattle.nt_shade_asks.specs.declared.unnoticed.Unnoticed.{Unnoticed}
use Rattle.nt_shade_asks.specs.Counts.{counts_of}
use Rattle.nt_shade_asks.specs.Follows.{IsAsked, IsOf}
use Rattle.nt_shade_dpcs.specs.declared.shade.ShadeDpcs.{ShadeDpcs}
use Rattle.nt_shade_dpcs.specs.Shade.{IsShade}
use Rattle.nt_shade.specs.declared.shade.Shade.{Shade}
use Rattle.nt_shade.specs.Cpus.{cpu_said, kept_but_dues}
use Rattle.nt_shade.specs.Threads.{thread_said}

-- the counts of what the processors were asked for and have not noticed
pub record AreCounts (s : Script) (past : List Event) (counts : List ℕ) : Type 0 where
  pub unnoticed : Unnoticed
  pub of : IsOf s unnoticed
  pub asked : IsAsked s past unnoticed
  pub same : counts ≡ counts_of unnoticed

-- what the shade says of lanes, threads and processors is what the history says, and its counts are the history's
pub record IsShadeOf (s : Script) (past : List Event) (x : Shade) : Type 0 where
  pub dpcs : IsShade s past x.dpcs
  pub counts : AreCounts s past x.counts.items
  pub threads : map thread_said x.threads.items ≡ map bare_facts (lanes_at s past).threads
  pub cpus : map cpu_said x.cpus.items ≡ table s.cpus (λ p. kept_but_dues (own_of s (cpu p) past))

-- the processors and the floor stand after this past, and what is kept beside them is what the past says
pub record StandAfter (past : List Event) (c : CpusState) (f : PlainState) (d : ShadeDpcs) (u : Unnoticed) :
    Type 0 where
  pub machine : AreAfter past c f.script (view_of f)
  pub dpcs : IsShade c.script past d
  pub of : IsOf c.script u
  pub asked : IsAsked c.script past u
