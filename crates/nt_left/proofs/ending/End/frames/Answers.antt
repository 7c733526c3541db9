use Rattle.std.proofs.Common.{ap, arith, ◌∙◌, ◌<◌}
use Rattle.std.proofs.lemmas.Bool.{ltb-true}
use Rattle.std.specs.Prelude.{length}
use Rattle.nt_event.specs.Frames.{Frames, frames_in}
use Rattle.nt_event.specs.Own.{Own}
use Rattle.nt_left.specs.Walks.{past_of}
use Rattle.nt_left.proofs.Standing.{part_count, part_is}
use Rattle.nt_left.proofs.ending.End.frames.Goals as goal

pub of_thread-requires : goal.of_thread-requires
of_thread-requires c =
    let s = c.args.self.now.script.now in
    let past = past_of c.args.self.now.events in
    let same = ap (λ (x : Frames). length x.threads) (c.frames.ensures ∙ ap (λ (x : Own). x.frames) c.cpu.ensures) in
    let count = part_count s past c.args.cpu in
    let low : c.args.thread.0 < length s.threads = ltb-true c.args.thread.0 (length s.threads) c.requires.thread in
    omega (arith, same, count, low)

pub returns : goal.returns
returns c =
    let s = c.args.self.now.script.now in
    let past = past_of c.args.self.now.events in
    let low : c.args.thread.0 < length s.threads = ltb-true c.args.thread.0 (length s.threads) c.requires.thread in
    c.of_thread.ensures
    ∙ (ap (λ (x : Frames). frames_in x.threads c.args.thread) (c.frames.ensures ∙ ap (λ (x : Own). x.frames) c.cpu.ensures)
    ∙ part_is s past c.args.cpu c.args.thread low)
