use Rattle.std.proofs.Common.{◌≡◌, ◌∙◌, ◌≤◌, [], ap, arith, length, refl, sym}
use Rattle.std.proofs.lemmas.List.{drop_all}
use Rattle.nt_event.specs.Lanes.{Lanes, lanes_at}
use Rattle.nt_states.specs.ThreadLanes.{ThreadLanes}
use Rattle.nt_thread_lanes.proofs.Readies.{ends_with}
use Rattle.nt_thread_lanes.proofs.Taken.{next_taken}
use Rattle.nt_thread_lanes.proofs.answering.ThreadsThreadAnswers.next_ready.Goals as goal

pub returns-clause-taken : goal.returns-clause-taken
returns-clause-taken c =
    let s = c.args.self.now.script in
    let l : Lanes = record (lanes_at s []) { threads = c.args.self.now.facts } in
    let count = ap length (c.as_slice-decl-items.ensures ∙ ap (λ (x : ThreadLanes). x.script.threads) c.self.view_is) in
    let past : length s.threads ≤ c.loop-place.place = omega (arith, count, c.loop-place-test.false) in
    let found = rw (drop_all c.loop-place.place s.threads past) at c.loop-place.invariant.next l refl in
    next_taken s c.args.p c.args.after l c.loop-place.first
    (sym (found ∙ ends_with c.args.p c.loop-place.place l c.args.after c.loop-place.first))
