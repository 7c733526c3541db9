use Rattle.std.proofs.Common.{refl}
use Rattle.nt_c.proofs.Plain.{is_plain}
use Rattle.nt_c.proofs.answer.plain_answer.Goals as goal

pub returns : goal.returns
returns c =
    let told = c.in_ok-text.ensures in
    is_plain c.requires c.new-source.ensures c.new-sink.ensures refl told.0 told.1 c.number.ensures
    (c.plain-status.ensures.answered, c.plain-status.ensures.causes)
