use Rattle.std.proofs.Common.{rules}
use Rattle.nt_text.proofs.RowTexts.{row_put}
use Rattle.nt_line.specs.declared.keywords.Keyword.TheVariants as keyword
use Rattle.nt_line.specs.Keywords.{text_of}
use Rattle.nt_line.specs.Rows.{command_args, command_verb}
use Rattle.nt_line.proofs.printing.put_command.Goals as goal

pub returns : goal.returns
returns c = row_put _ _ _ (text_of (keyword.Call (command_verb c.args.command.now))) (command_args c.args.names.now c.args.command.now)
    (search rules) c.in_ok-put_args.ensures
