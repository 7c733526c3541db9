-- Lines of scripts and expectations in which each level is written by its name.
use Rattle.std.specs.Prelude.{ℕ, nat_le, [], ◌∷◌, ◌++◌, ◌==◌, codes, decimal, if◌then◌else◌}
use Rattle.nt_text.specs.Lines.{Row}
use Rattle.nt_event.specs.declared.commands.Command.{Command}
use Rattle.nt_event.specs.declared.commands.Command.TheVariants as cmd
use Rattle.nt_event.specs.declared.scripts.Isr.{Isr}
use Rattle.nt_line.specs.declared.keywords.Keyword.TheVariants as keyword
use Rattle.nt_line.specs.Keywords.{text_of}
use Rattle.nt_line.specs.NameLists.{NameLists, show_routine}
use Rattle.nt_line.specs.Rows.{command_args, command_verb, show_cpu}
use Rattle.nt_expect.specs.declared.expectations.Activity.{Activity}
use Rattle.nt_expect.specs.declared.expectations.Activity.TheVariants as act
use Rattle.nt_expect.specs.declared.expectations.Watched.{Watched}
use Rattle.nt_expect.specs.declared.expectations.Watched.TheVariants.{Note, Refused, Begin, Expire, Gone, Call}
use Rattle.nt_expect.specs.declared.expectations.Expectation.{Expectation}
use Rattle.nt_expect.specs.declared.expectations.Expectation.TheVariants.{Never, NeverAfter, NeverBefore, NeverTwice}
use Rattle.nt_expect.specs.declared.expectations.Expectation.TheVariants.{NeverAbove, NeverOn, NeverWith, NeverWaitsDpc}
use Rattle.nt_expect.specs.declared.expectations.Expectation.TheVariants.{NeverWaitsApc, NeverBlocked, NeverSpins}
use Rattle.nt_expect.specs.declared.expectations.Expectation.TheVariants.{Always, AlwaysEnds}
use Rattle.nt_expect.specs.Expectations.{activity_row, expected_row, is_always, quantifier, reply_row, watched_row}

-- a level of 0 to 15 by its name
abbrev pub level_fields : ℕ → Row
level_fields level =
    if level == 0 then codes "PASSIVE" ∷ []
    else (if level == 1 then codes "APC" ∷ []
    else (if level == 2 then codes "DISPATCH" ∷ []
    else (if nat_le level 11 then codes "DIRQL" ∷ decimal level ∷ []
    else (if level == 12 then codes "SYNCH" ∷ []
    else (if level == 13 then codes "CLOCK" ∷ []
    else (if level == 14 then codes "IPI" ∷ [] else codes "HIGH" ∷ []))))))

abbrev pub named_isr : NameLists → Isr → Row
named_isr names isr =
    text_of keyword.Isr ∷ show_cpu isr.cpu ∷ (level_fields isr.level ++ show_routine names isr.routine ∷ [])

-- the fields behind a command's word, which are these where none is a level
abbrev pub named_args : Command → Row → Row
named_args (cmd.Raise level) args = level_fields level
named_args (cmd.Lower level) args = level_fields level
named_args (cmd.Interrupt cpu level) args = show_cpu cpu ∷ level_fields level
named_args (cmd.Queue d) args = args
named_args (cmd.Unqueue d) args = args
named_args (cmd.SetImportance d importance) args = args
named_args (cmd.SetTarget d target) args = args
named_args (cmd.SetTimer t due period) args = args
named_args (cmd.CancelTimer t) args = args
named_args (cmd.InsertApc a) args = args
named_args (cmd.RemoveApc a) args = args
named_args cmd.EnterCrit args = args
named_args cmd.EnterGuard args = args
named_args cmd.LeaveCrit args = args
named_args cmd.LeaveGuard args = args
named_args (cmd.StartWait mode alertable) args = args
named_args (cmd.Delay mode alertable units) args = args
named_args (cmd.Release t) args = args
named_args (cmd.Alert t mode) args = args
named_args (cmd.TestAlert mode) args = args
named_args (cmd.Clock units) args = args
named_args cmd.ToUser args = args
named_args cmd.Yield args = args
named_args (cmd.Acquire k) args = args
named_args (cmd.Unlock k) args = args
named_args (cmd.Note number) args = args

abbrev pub named_command : NameLists → Command → Row
named_command names c = text_of (keyword.Call (command_verb c)) ∷ named_args c (command_args names c)

abbrev pub named_activity : NameLists → Activity → Row
named_activity names (act.Int level) = codes "int" ∷ level_fields level
named_activity names (act.Dpc d) = activity_row names (act.Dpc d)
named_activity names (act.Apc a) = activity_row names (act.Apc a)
named_activity names (act.Thread t) = activity_row names (act.Thread t)

abbrev pub named_watched : NameLists → Watched → Row
named_watched names (Note n) = watched_row names (Note n)
named_watched names Refused = watched_row names Refused
named_watched names (Begin b) = codes "begin" ∷ named_activity names b
named_watched names (Expire t) = watched_row names (Expire t)
named_watched names (Gone t) = watched_row names (Gone t)
named_watched names (Call c y) = codes "call" ∷ (named_command names c ++ codes "->" ∷ reply_row y)

-- what stands behind the first field
abbrev pub named_expected : NameLists → Expectation → Row
named_expected names (Never e) = named_watched names e
named_expected names (NeverAfter e f) = named_watched names e ++ codes "after" ∷ named_watched names f
named_expected names (NeverBefore e f) = named_watched names e ++ codes "before" ∷ named_watched names f
named_expected names (NeverTwice e) = named_watched names e ++ codes "twice" ∷ []
named_expected names (NeverAbove e level) = named_watched names e ++ codes "above" ∷ level_fields level
named_expected names (NeverOn e p) = named_watched names e ++ codes "on" ∷ show_cpu p ∷ []
named_expected names (NeverWith b c) = named_activity names b ++ codes "with" ∷ named_activity names c
named_expected names (NeverWaitsDpc d) = expected_row names (NeverWaitsDpc d)
named_expected names (NeverWaitsApc a) = expected_row names (NeverWaitsApc a)
named_expected names (NeverBlocked t) = expected_row names (NeverBlocked t)
named_expected names (NeverSpins k) = expected_row names (NeverSpins k)
named_expected names (Always e) = named_watched names e
named_expected names AlwaysEnds = expected_row names AlwaysEnds

abbrev pub named_expectation : NameLists → Expectation → Row
named_expectation names e = quantifier (is_always e) ∷ named_expected names e
