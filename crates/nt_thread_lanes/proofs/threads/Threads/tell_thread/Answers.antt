use Rattle.nt_thread_lanes.specs.Insides.{lanes_in}
use Rattle.nt_thread_lanes.proofs.Whole.{holds_told}
use Rattle.nt_thread_lanes.proofs.threads.Threads.tell_thread.Goals as goal

pub invariant_of-self : goal.invariant_of-self
invariant_of-self c =
    let h = holds_told
    (lanes_in c.self.inside) c.args.self.now c.args.t c.args.n c.args.what.now c.index_mut.result.now c.tell.new.state c.self.inside.inserted.items
    c.mark.new.inserted.items c.self.view_is (record { sound = c.self.invariant.sound; marked = c.self.invariant.marked }) c.requires.thread
    c.requires.named c.requires.may c.index_mut.ensures.value c.tell.ensures c.mark.ensures in
    record { sound = h.sound; marked = h.marked }
