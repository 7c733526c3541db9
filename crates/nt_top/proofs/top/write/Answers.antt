use Rattle.std.proofs.Common.{◌∙◌, ap}
use Rattle.std.specs.Io.KnownBytes.{append_known}
use Rattle.nt_top.specs.Answer.{text_of}
use Rattle.nt_outside.specs.Sides.{store}
use Rattle.nt_top.proofs.Written.{written_whole}
use Rattle.nt_top.proofs.top.write.Goals as goal

pub returns-in-Ok : goal.returns-in-Ok
returns-in-Ok g c = written_whole c.args.answer.now.status (text_of c.args.answer.now.text)
    (store (g.K.Sink.held c.args.sink.now) (g.K.Sink.faults c.args.sink.now))
    (store (g.K.Sink.held c.write_all.new.sink) (g.K.Sink.faults c.write_all.new.sink)) c.requires
    (c.in-Ok.ensures.added ∙ ap (append_known (g.K.Sink.held c.args.sink.now)) c.as_bytes.ensures)
