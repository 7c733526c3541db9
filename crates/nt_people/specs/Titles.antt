-- What is wrong with a line, in a few words.
use Rattle.std.specs.Prelude.{ℕ, List, codes}
use Rattle.nt_text.specs.declared.kind.ScriptKind.{ScriptKind}
use Rattle.nt_text.specs.declared.kind.ScriptKind.TheVariants.{NotAscii, UnknownWord, MissingField, ExtraField}
use Rattle.nt_text.specs.declared.kind.ScriptKind.TheVariants.{BadNumber, BadName, NameTwice, UnknownName, NoCpus}
use Rattle.nt_text.specs.declared.kind.ScriptKind.TheVariants.{TooMany, NoEnd, WrongKind}
use Rattle.nt_text.specs.declared.kind.What10.{What10}
use Rattle.nt_text.specs.declared.kind.What10.TheVariants.{Cpus, Threads, Dpcs, Apcs, Timers, Spinlocks, Routines}
use Rattle.nt_text.specs.declared.kind.What10.TheVariants.{Commands, Turns}
use Rattle.nt_expect.specs.declared.refusals.ExpectKind.TheVariants as expect
use Rattle.nt_people.specs.declared.fault.Fault.{Fault}
use Rattle.nt_people.specs.declared.fault.Fault.TheVariants.{Script, Expect, Report, Schedule}

-- of what there are too many
abbrev pub too_many : What10 → List ℕ
too_many Cpus = codes "too many processors"
too_many Threads = codes "too many threads"
too_many Dpcs = codes "too many DPC objects"
too_many Apcs = codes "too many APC objects"
too_many Timers = codes "too many timers"
too_many Spinlocks = codes "too many spin locks"
too_many Routines = codes "too many routines"
too_many Commands = codes "too many commands"
too_many Turns = codes "too many turns"

abbrev pub kind_title : ScriptKind → List ℕ
kind_title NotAscii = codes "a character that may not stand here"
kind_title UnknownWord = codes "unknown word"
kind_title MissingField = codes "a field is missing"
kind_title ExtraField = codes "a field too many"
kind_title BadNumber = codes "no number that may stand here"
kind_title BadName = codes "no name"
kind_title NameTwice = codes "declared twice"
kind_title UnknownName = codes "unknown name"
kind_title NoCpus = codes "the line cpus is missing"
kind_title (TooMany thing) = too_many thing
kind_title NoEnd = codes "the text ends too early"
kind_title WrongKind = codes "not of the kind that stands here"

abbrev pub title : Fault → List ℕ
title (Script kind) = kind_title kind
title (Expect (expect.Line kind)) = kind_title kind
title (Expect expect.TooMany) = codes "too many expectations"
title (Schedule kind) = kind_title kind
title (Report kind) = kind_title kind
