use Rattle.std.proofs.Common.{subst, sym, ◌∙◌}
use Rattle.std.specs.Prelude.{length, ◌≡◌}
use Rattle.nt_states.specs.ThreadLanes.{ThreadLanes}
use Rattle.nt_thread_lanes.proofs.Left.{left_told_by}
use Rattle.nt_thread_lanes.proofs.threads.Threads.tell.Goals as goal

pub returns : goal.returns
returns c st e same =
    let size : length c.args.self.now.facts ≡ length c.args.self.now.script.threads = subst
    (λ (x : ThreadLanes). length x.facts ≡ length x.script.threads) c.self.view_is c.self.invariant.sound.threads in
    c.tell_thread.ensures ∙ sym (left_told_by c.args.self.now c.args.n st e c.args.t c.args.what.now same size c.requires.named c.requires.may)
