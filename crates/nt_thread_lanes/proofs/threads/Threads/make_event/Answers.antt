use Rattle.std.proofs.Common.{subst, sym, ◌∙◌}
use Rattle.std.specs.Prelude.{length, ◌≡◌}
use Rattle.nt_states.specs.ThreadLanes.{ThreadLanes}
use Rattle.nt_thread_lanes.proofs.Allows.{can_make, makes_here}
use Rattle.nt_thread_lanes.proofs.Left.{left_made, left_none}
use Rattle.nt_thread_lanes.proofs.threads.Threads.make_event.Goals as goal

pub make-requires-clause-thread : goal.make-requires-clause-thread
make-requires-clause-thread c =
    (makes_here c.args.self.now c.args.stand.now c.args.event.now.what c.in-Some.thread c.requires.may.stands c.requires.may.what
    (sym c.requires.may.thread ∙ c.in-Some.is)).named

pub make-requires-clause-may : goal.make-requires-clause-may
make-requires-clause-may c =
    can_make c.args.self.now c.args.stand.now c.args.event.now.what c.in-Some.thread c.requires.may.what (sym c.requires.may.thread ∙ c.in-Some.is)

pub returns-in-Some : goal.returns-in-Some
returns-in-Some c =
    let size : length c.args.self.now.facts ≡ length c.args.self.now.script.threads = subst
    (λ (x : ThreadLanes). length x.facts ≡ length x.script.threads) c.self.view_is c.self.invariant.sound.threads in
    let here = makes_here c.args.self.now c.args.stand.now c.args.event.now.what c.in-Some.thread c.requires.may.stands c.requires.may.what
    (sym c.requires.may.thread ∙ c.in-Some.is) in
    c.make.ensures ∙ sym (left_made c.args.self.now c.args.n c.args.stand.now c.args.event.now c.in-Some.thread size c.requires.none c.in-Some.is
    (here.own ∙ sym c.requires.may.cpu))

pub returns-in_default : goal.returns-in_default
returns-in_default c =
    let size : length c.args.self.now.facts ≡ length c.args.self.now.script.threads = subst
    (λ (x : ThreadLanes). length x.facts ≡ length x.script.threads) c.self.view_is c.self.invariant.sound.threads in
    sym (left_none c.args.self.now c.args.n c.args.stand.now c.args.event.now size c.requires.none c.in_default.is)
