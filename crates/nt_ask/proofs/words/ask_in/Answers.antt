use Rattle.std.proofs.Common.{sym}
use Rattle.std.specs.Prelude.{string_bytes}
use Rattle.nt_ask.proofs.Forms.{no_ask_of}
use Rattle.nt_ask.proofs.words.ask_in.Goals as goal

pub returns-in_default-2-clause-value : goal.returns-in_default-2-clause-value
returns-in_default-2-clause-value c = sym (no_ask_of string_bytes c.args.words.now c.in_default.len_at_least)
