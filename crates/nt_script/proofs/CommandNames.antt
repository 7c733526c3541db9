-- A command that fits has the names that its line shows.
use Rattle.std.proofs.Common.{◌≡◌, ℕ, ◌<◌, true, length, arith}
use Rattle.std.specs.Prelude.{nat_lt}
use Rattle.std.proofs.lemmas.Bool.{and_parts, ltb-true}
use Rattle.nt_event.specs.declared.commands.Command.{Command}
use Rattle.nt_event.specs.declared.commands.Command.TheVariants as cmd
use Rattle.nt_event.specs.Script.{has_dpc, has_cpu, where_given, command_fits}
use Rattle.nt_script.specs.declared.walk.Input.{Input}
use Rattle.nt_line.specs.NameLists.{NameLists}
use Rattle.nt_line.specs.Fits.{CommandFits, CommandNamed}
use Rattle.nt_script.specs.Sound.{IsSound}

-- a command that fits shows only things that have names
pub fits_named : (names : NameLists) (cpus : ℕ) (c : Command) → CommandFits names cpus c → CommandNamed names c
fits_named names cpus (cmd.Raise level) h = tt
fits_named names cpus (cmd.Lower level) h = tt
fits_named names cpus (cmd.Queue d) h = h
fits_named names cpus (cmd.Unqueue d) h = h
fits_named names cpus (cmd.SetImportance d importance) h = h.0
fits_named names cpus (cmd.SetTarget d target) h = h.0
fits_named names cpus (cmd.SetTimer t due period) h = h.0
fits_named names cpus (cmd.CancelTimer t) h = h
fits_named names cpus (cmd.InsertApc a) h = h
fits_named names cpus (cmd.RemoveApc a) h = h
fits_named names cpus cmd.EnterCrit h = tt
fits_named names cpus cmd.EnterGuard h = tt
fits_named names cpus cmd.LeaveCrit h = tt
fits_named names cpus cmd.LeaveGuard h = tt
fits_named names cpus (cmd.StartWait mode alertable) h = tt
fits_named names cpus (cmd.Delay mode alertable units) h = tt
fits_named names cpus (cmd.Release t) h = h
fits_named names cpus (cmd.Alert t mode) h = h.0
fits_named names cpus (cmd.TestAlert mode) h = tt
fits_named names cpus (cmd.Interrupt cpu level) h = tt
fits_named names cpus (cmd.Clock units) h = tt
fits_named names cpus cmd.ToUser h = tt
fits_named names cpus cmd.Yield h = tt
fits_named names cpus (cmd.Acquire k) h = h
fits_named names cpus (cmd.Unlock k) h = h
fits_named names cpus (cmd.Note number) h = tt

-- a number of a thing of the script is that of a name
below : (i n m : ℕ) → n ≡ m → nat_lt i m ≡ true → i < n
below i n m e h = let lt = ltb-true i m h in omega (arith, e, lt)

-- a command that fits the script of a sound input shows only things that have names in the input
pub sound_named : (input : Input) → IsSound input → (c : Command) → command_fits input.script c ≡ true → CommandNamed input.names c
sound_named input s (cmd.Raise level) h = tt
sound_named input s (cmd.Lower level) h = tt
sound_named input s (cmd.Queue d) h = below d.0 (length input.names.dpcs) (length input.script.dpcs) s.dpcs h
sound_named input s (cmd.Unqueue d) h = below d.0 (length input.names.dpcs) (length input.script.dpcs) s.dpcs h
sound_named input s (cmd.SetImportance d importance) h = below d.0 (length input.names.dpcs) (length input.script.dpcs) s.dpcs h
sound_named input s (cmd.SetTarget d target) h = below d.0 (length input.names.dpcs) (length input.script.dpcs) s.dpcs
    (and_parts (has_dpc input.script d) (where_given (has_cpu input.script) target) h).0
sound_named input s (cmd.SetTimer t due period) h = below t.0 (length input.names.timers) (length input.script.timers) s.timers h
sound_named input s (cmd.CancelTimer t) h = below t.0 (length input.names.timers) (length input.script.timers) s.timers h
sound_named input s (cmd.InsertApc a) h = below a.0 (length input.names.apcs) (length input.script.apcs) s.apcs h
sound_named input s (cmd.RemoveApc a) h = below a.0 (length input.names.apcs) (length input.script.apcs) s.apcs h
sound_named input s cmd.EnterCrit h = tt
sound_named input s cmd.EnterGuard h = tt
sound_named input s cmd.LeaveCrit h = tt
sound_named input s cmd.LeaveGuard h = tt
sound_named input s (cmd.StartWait mode alertable) h = tt
sound_named input s (cmd.Delay mode alertable units) h = tt
sound_named input s (cmd.Release t) h = below t.0 (length input.names.threads) (length input.script.threads) s.threads h
sound_named input s (cmd.Alert t mode) h = below t.0 (length input.names.threads) (length input.script.threads) s.threads h
sound_named input s (cmd.TestAlert mode) h = tt
sound_named input s (cmd.Interrupt cpu level) h = tt
sound_named input s (cmd.Clock units) h = tt
sound_named input s cmd.ToUser h = tt
sound_named input s cmd.Yield h = tt
sound_named input s (cmd.Acquire k) h = below k.0 (length input.names.locks) input.script.locks s.locks h
sound_named input s (cmd.Unlock k) h = below k.0 (length input.names.locks) input.script.locks s.locks h
sound_named input s (cmd.Note number) h = tt
