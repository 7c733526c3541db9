use Rattle.std.proofs.Common.{ap, arith, ◌∙◌, ◌<◌, ◌≡◌}
use Rattle.std.proofs.lemmas.Bool.{ltb-true}
use Rattle.std.specs.Prelude.{length}
use Rattle.nt_event.specs.Lanes.{Lanes, lanes_at}
use Rattle.nt_left.specs.Walks.{past_of}
use Rattle.nt_left.proofs.Standing.{facts_here, thread_count}
use Rattle.nt_left.proofs.ending.End.thread.Goals as goal

-- the states are what the run says
states : (c : goal.After-from-place) → c.states-states.result.now ≡ (lanes_at c.args.self.now.script.now (past_of c.args.self.now.events)).threads
states c = c.states-states.ensures ∙ (c.threads.ensures ∙ ap (λ (l : Lanes). l.threads) c.requires.end.lanes)

pub bounds-states-place : goal.bounds-states-place
bounds-states-place c =
    let s = c.args.self.now.script.now in
    let count = thread_count s (past_of c.args.self.now.events) c.states-states.result.now (states c) in
    let low : c.args.thread.0 < length s.threads = ltb-true c.args.thread.0 (length s.threads) c.requires.thread in
    let same = c.from-place.ensures in
    omega (arith, count, low, same)

pub returns : goal.returns
returns c =
    c.index-states-place.is
    ∙ facts_here c.args.self.now.script.now (past_of c.args.self.now.events) c.states-states.result.now c.args.thread c.from-place.result
    c.index-states-place.result (c.states-states.ensures ∙ (c.threads.ensures ∙ ap (λ (l : Lanes). l.threads) c.requires.end.lanes)) c.requires.thread
    c.from-place.ensures
