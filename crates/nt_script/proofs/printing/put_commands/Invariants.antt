use Rattle.std.proofs.Common.{◌≡◌, ◌++◌, drop, map}
use Rattle.nt_text.specs.Lines.{rows_text}
use Rattle.nt_line.specs.Rows.{command_row}
use Rattle.nt_script.proofs.printing.put_commands.Given as goal

-- what was put and what is left is all of it
abbrev pub invariant-loop-command : goal.invariant-loop-command
invariant-loop-command l = l.out.items ++ rows_text (map (command_row l.names) (drop l.command-index l.commands)) ≡ l.fn.out.items
    ++ rows_text (map (command_row l.names) l.commands)
