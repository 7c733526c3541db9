use Rattle.std.proofs.Common.{rules}
use Rattle.nt_line.specs.declared.keywords.Keyword.TheVariants.{Call}
use Rattle.nt_line.specs.Keywords.{text_of}
use Rattle.nt_line.specs.Rows.{command_args, command_verb}
use Rattle.nt_script.proofs.CommandNames.{sound_named}
use Rattle.nt_text.proofs.RowTexts.{spaced_put}
use Rattle.nt_print.proofs.events.put_called.Goals as goal

pub put_command-requires : goal.put_command-requires
put_command-requires c = sound_named c.args.input.now c.requires.sound c.args.command.now c.requires.fits

pub returns : goal.returns
returns c = spaced_put _ _ _ (text_of (Call (command_verb c.args.command.now))) (command_args c.args.input.now.names c.args.command.now)
    (search rules) c.in_ok-put_command.ensures
