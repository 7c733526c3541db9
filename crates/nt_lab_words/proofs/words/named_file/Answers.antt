use Rattle.std.proofs.Common.{sym}
use Rattle.std.specs.Prelude.{string_bytes}
use Rattle.nt_lab_words.proofs.Last.{last_is}
use Rattle.nt_lab_words.proofs.words.named_file.Goals as goal

pub returns-in-len1-up : goal.returns-in-len1-up
returns-in-len1-up c =
    rw (c.if-call.true, c.as_str.ensures.value) (sym (last_is string_bytes c.args.words.now c.last-item.result c.in-len1-up.len_at_least c.last-item.is))
