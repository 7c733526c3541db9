use Rattle.std.proofs.Common.{◌∷◌, [], ◌++◌, map}
use Rattle.nt_text.proofs.RowTexts.{parts_put, one_row}
use Rattle.nt_line.specs.declared.keywords.Keyword.TheVariants as keyword
use Rattle.nt_line.specs.NameLists.{show_routine}
use Rattle.nt_line.specs.Keywords.{text_of}
use Rattle.nt_line.specs.Rows.{command_row}
use Rattle.nt_script.specs.Text.{exit_row}
use Rattle.nt_script.proofs.printing.put_routine.Goals as goal

pub returns : goal.returns
returns c =
    let names = c.args.names.now in
    let head = text_of keyword.Routine ∷ show_routine names c.args.r ∷ [] in
    let commands = map (command_row names) c.args.commands.now in
    let more = parts_put _ _ _ commands (exit_row ∷ []) c.in_ok-put_commands.ensures (one_row _ _ exit_row c.in_ok-put_exit.ensures) in
    parts_put _ _ _ (head ∷ []) (commands ++ exit_row ∷ []) (one_row _ _ head c.in_ok-put_begin.ensures) more
