-- Why a text shows no run, by what its readers say.
use Rattle.nt_script.specs.declared.reading.ScriptRefusal.{ScriptRefusal}
use Rattle.nt_script.specs.declared.reading.ScriptRefusal.TheVariants as read
use Rattle.nt_shown.specs.declared.refusal.ShownRefusal.{ShownRefusal}
use Rattle.nt_shown.specs.declared.refusal.ShownRefusal.TheVariants.{NoMemory, Report, Schedule, Script}

abbrev pub of_script : ScriptRefusal → ShownRefusal
of_script (read.Bad line kind) = Script line kind
of_script read.NoMemory = NoMemory

abbrev pub of_schedule : ScriptRefusal → ShownRefusal
of_schedule (read.Bad line kind) = Schedule line kind
of_schedule read.NoMemory = NoMemory

abbrev pub of_report : ScriptRefusal → ShownRefusal
of_report (read.Bad line kind) = Report line kind
of_report read.NoMemory = NoMemory
