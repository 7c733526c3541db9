-- What holds of a machine that stands after a history: its processors are those of the script, and their threads, its
-- threads are the history's, and its events are few.
use Rattle.std.proofs.Common.{ap, arith, subst, sym, ◌∙◌}
use Rattle.std.proofs.lemmas.Grind.{common_steps}
use Rattle.std.proofs.lemmas.List.Elements.{All-from_get_or}
use Rattle.std.specs.Prelude.{All, IsTrue, List, length, map, ℕ, ◌<◌, ◌^◌, ◌≡◌, ◌≤◌}
use Rattle.nt_event.specs.declared.events.Event.{Event}
use Rattle.nt_event.specs.declared.scripts.Script.{Script}
use Rattle.nt_event.specs.Lanes.{lanes_at}
use Rattle.nt_event.specs.Lists.{table}
use Rattle.nt_event.specs.Numbers.{cpu, thread}
use Rattle.nt_event.specs.Own.{own_of}
use Rattle.nt_event.specs.Frames.{thread_frames}
use Rattle.nt_event.specs.Script.{fits}
use Rattle.nt_event.proofs.Tables.{get_or-table, length-table_from}
use Rattle.nt_plain.specs.States.{PlainState, view_of}
use Rattle.nt_cpu.specs.Runs.{state_of}
use Rattle.nt_cpu.specs.States.{CpuState}
use Rattle.nt_cpus.specs.Following.{AreAfter}
use Rattle.nt_cpus.specs.States.{CpusState}
use Rattle.nt_alike.proofs.Frames.{map_table}
use Rattle.nt_shade.specs.Cpus.{HasFewThreads, kept_but_dues}

-- a script that fits has few threads
few_threads : (s : Script) → IsTrue (fits s) → length s.threads ≤ 64
few_threads s h = grind (arith, common_steps)

-- each processor of a history has as many threads as the script
few_of_cpu : (s : Script) (limit : ℕ) (past : List Event) (p : ℕ) → IsTrue (fits s) → HasFewThreads (state_of s (cpu p) limit past)
few_of_cpu s limit past p fit =
    let count = length-table_from 0 (length s.threads) (λ t. thread_frames s (cpu p) (thread t) past) in
    let few = few_threads s fit in
    omega (arith, count, few)

-- so each processor of a machine that stands after a history has few
pub have_few_threads : (past : List Event) (c : CpusState) (f : PlainState) → AreAfter past c f.script (view_of f) → All HasFewThreads c.cpus
have_few_threads past c f after =
    let state : ℕ → CpuState = λ p. state_of c.script (cpu p) c.limit past in
    let size = length-table_from 0 c.script.cpus state in
    subst (λ (xs : List CpuState). All HasFewThreads xs) (sym after.every)
    (All-from_get_or HasFewThreads (table c.script.cpus state) (state 0)
    (λ i low. subst (λ (x : CpuState). HasFewThreads x)
    (sym (get_or-table c.script.cpus i state (state 0) (omega (arith, size, low)))) (few_of_cpu c.script c.limit past i after.script)))

-- what its processors keep is what the history says
pub kept_of_history : (past : List Event) (c : CpusState) (f : PlainState) → AreAfter past c f.script (view_of f) →
    map (λ p. kept_but_dues p.own) c.cpus ≡ table c.script.cpus (λ p. kept_but_dues (own_of c.script (cpu p) past))
kept_of_history past c f after =
    ap (map (λ (p : CpuState). kept_but_dues p.own)) after.every
    ∙ map_table (λ (p : CpuState). kept_but_dues p.own) c.script.cpus (λ p. state_of c.script (cpu p) c.limit past)

-- what stands in the lanes of its floor is what the history says
pub lanes_of_history : (past : List Event) (c : CpusState) (f : PlainState) → AreAfter past c f.script (view_of f) → f.lanes ≡ lanes_at c.script past
lanes_of_history past c f after = let states = after.follows.states in cc

-- its history has few events
pub few_events : (past : List Event) (c : CpusState) (f : PlainState) → AreAfter past c f.script (view_of f) → length past < 2 ^ 32
few_events past c f after =
    let drawable = after.drawable in
    let most = after.small.all in
    omega (arith, drawable, most)
