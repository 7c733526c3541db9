-- What is remembered of the lines before.
use Rattle.std.specs.Prelude.{◌≡◌, length, Ok}
use Rattle.std.specs.List.{All}
use Rattle.nt_line.specs.NameLists.{NameLists}
use Rattle.nt_report.specs.declared.line_input.Running.{Running}
use Rattle.nt_report.specs.declared.line_input.LineInput.TheInside.{Inside}
use Rattle.nt_report.specs.declared.line_input.TheConstants.{PLACES}
use Rattle.nt_report.specs.Fields.{read_running}

-- the field names this thread
abbrev pub IsRead : NameLists → Running → Type 0
IsRead names last = read_running names last.field.now ≡ Ok last.thread

pub record AreReadInside (a : Inside) : Type 0 where
  pub places : length a.last ≡ PLACES
  pub read : All (IsRead a.input.now.names) a.last
