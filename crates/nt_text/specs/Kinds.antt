-- The numbers and names of what may be wrong with a line.
use Rattle.std.specs.Prelude.{ℕ, List, codes}
use Rattle.nt_text.specs.declared.kind.ScriptKind.{ScriptKind}
use Rattle.nt_text.specs.declared.kind.ScriptKind.TheVariants.{NotAscii, UnknownWord, MissingField, ExtraField}
use Rattle.nt_text.specs.declared.kind.ScriptKind.TheVariants.{BadNumber, BadName, NameTwice, UnknownName, NoCpus}
use Rattle.nt_text.specs.declared.kind.ScriptKind.TheVariants.{TooMany, NoEnd, WrongKind}
use Rattle.nt_text.specs.declared.kind.What10.{What10}
use Rattle.nt_text.specs.declared.kind.What10.TheVariants.{Cpus, Threads, Dpcs, Apcs, Timers, Spinlocks, Routines}
use Rattle.nt_text.specs.declared.kind.What10.TheVariants.{Commands, Turns}

abbrev pub kind_number : ScriptKind → ℕ
kind_number NotAscii = 1
kind_number UnknownWord = 2
kind_number MissingField = 3
kind_number ExtraField = 4
kind_number BadNumber = 5
kind_number BadName = 6
kind_number NameTwice = 7
kind_number UnknownName = 8
kind_number NoCpus = 9
kind_number (TooMany thing) = 10
kind_number NoEnd = 11
kind_number WrongKind = 12

abbrev pub kind_name : ScriptKind → List ℕ
kind_name NotAscii = codes "NotAscii"
kind_name UnknownWord = codes "UnknownWord"
kind_name MissingField = codes "MissingField"
kind_name ExtraField = codes "ExtraField"
kind_name BadNumber = codes "BadNumber"
kind_name BadName = codes "BadName"
kind_name NameTwice = codes "NameTwice"
kind_name UnknownName = codes "UnknownName"
kind_name NoCpus = codes "NoCpus"
kind_name (TooMany thing) = codes "TooMany"
kind_name NoEnd = codes "NoEnd"
kind_name WrongKind = codes "WrongKind"

-- a thing of which there are too many
abbrev pub thing_name : What10 → List ℕ
thing_name Cpus = codes "cpus"
thing_name Threads = codes "threads"
thing_name Dpcs = codes "dpcs"
thing_name Apcs = codes "apcs"
thing_name Timers = codes "timers"
thing_name Spinlocks = codes "spinlocks"
thing_name Routines = codes "routines"
thing_name Commands = codes "commands"
thing_name Turns = codes "turns"
