-- An input stays sound in version 2, and its text gets one line more.
use Rattle.std.proofs.Common.{◌≡◌, ◌++◌, refl, sym, ap, arith, ℕ}
use Rattle.nt_text.specs.Lines.{row_text}
use Rattle.nt_line.specs.declared.keywords.Keyword.TheVariants as keyword
use Rattle.nt_line.specs.Rows.{number_row}
use Rattle.nt_script.specs.declared.walk.Input.{Input}
use Rattle.nt_script.specs.Text.{text}
use Rattle.nt_script.specs.Sound.{IsSound}
use Rattle.nt_script.specs.Versions.{migrated}
use Rattle.nt_script.proofs.Fit.{most_64}

-- a sound input that is migrated to version 2 is still sound
pub migrated_sound : (input : Input) → IsSound input → IsSound (migrated input)
migrated_sound input s = record {
  version = (omega arith, omega arith);
  fits = s.fits;
  cpus = most_64 input.version input.script.cpus s.cpus;
  no_locks = λ e. absurd cc;
  ranges = s.ranges;
  dpcs = s.dpcs;
  timers = s.timers;
  threads = s.threads;
  apcs = s.apcs;
  locks = s.locks;
  routines = s.routines;
  names = s.names;
}

-- the text of a migrated input of version 1 is the version line and then the old text
pub one_line_more : (input : Input) → input.version ≡ 1 → text (migrated input) ≡ row_text (number_row keyword.Version 2) ++ text input
one_line_more input e = rw e refl

-- migrating an input of version 2 changes nothing
pub two_stays : (input : Input) → input.version ≡ 2 → migrated input ≡ input
two_stays input e = ap (λ (v : ℕ). record input { version = v }) (sym e)
