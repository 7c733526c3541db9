use Rattle.std.proofs.Common.{refl, subst, sym, ◌∙◌}
use Rattle.std.specs.Prelude.{IsTrue, Some, ◌≡◌}
use Rattle.nt_event.specs.Script.{fits}
use Rattle.nt_states.specs.ThreadFits.{named_thread}
use Rattle.nt_states.specs.ThreadLanes.{ThreadLanes}
use Rattle.nt_thread_lanes.proofs.Allows.{names_one}
use Rattle.nt_thread_lanes.proofs.threads.Threads.leave.Goals as goal

pub tell-requires-clause-thread : goal.tell-requires-clause-thread
tell-requires-clause-thread c =
    let named : named_thread c.args.self.now.script c.args.event.now.what
    ≡ Some c.in-Some.thread = subst (λ (x : ThreadLanes). named_thread x.script c.args.event.now.what ≡ Some c.in-Some.thread) c.self.view_is
    (sym c.named_thread.ensures ∙ c.in-Some.is) in
    let fit : IsTrue (fits c.args.self.now.script) = subst (λ (x : ThreadLanes). IsTrue (fits x.script)) c.self.view_is c.self.invariant.sound.script in
    (names_one c.args.self.now c.args.stand.now c.args.event.now.what c.in-Some.thread fit c.requires.what named).named

pub tell-requires-clause-may : goal.tell-requires-clause-may
tell-requires-clause-may c =
    let named : named_thread c.args.self.now.script c.args.event.now.what
    ≡ Some c.in-Some.thread = subst (λ (x : ThreadLanes). named_thread x.script c.args.event.now.what ≡ Some c.in-Some.thread) c.self.view_is
    (sym c.named_thread.ensures ∙ c.in-Some.is) in
    let fit : IsTrue (fits c.args.self.now.script) = subst (λ (x : ThreadLanes). IsTrue (fits x.script)) c.self.view_is c.self.invariant.sound.script in
    (names_one c.args.self.now c.args.stand.now c.args.event.now.what c.in-Some.thread fit c.requires.what named).may

pub returns-in-Some : goal.returns-in-Some
returns-in-Some c = c.tell.ensures c.args.stand.now c.args.event.now refl
