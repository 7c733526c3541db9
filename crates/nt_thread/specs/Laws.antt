-- What holds after every run of calls.
use Rattle.std.specs.Prelude.{List, None, true, ◌≡◌}
use Rattle.nt_event.specs.declared.commands.Mode.{Mode}
use Rattle.nt_event.specs.declared.threads.Doing.TheVariants.{Blocked as IsBlocked}
use Rattle.nt_event.specs.declared.threads.Waiting.{Waiting}
use Rattle.nt_event.specs.Apcs.{deliverable, first_user}
use Rattle.nt_event.specs.Threads.{is_alerted}
use Rattle.nt_event.specs.Quiet.{takes_user}
use Rattle.nt_thread.specs.Rows.{clears_alert, clears_leaving, clears_mark, clears_released, last_left, sets_alert}
use Rattle.nt_thread.specs.Rows.{sets_leaving, sets_mark, sets_released}
use Rattle.nt_thread.specs.Runs.{Act, facts_of}

-- a blocked thread has no deliverable kernel APC, and in an alertable user wait no user APC
pub record BlockIsQuiet (acts : List Act) (w : Waiting) : Type 0 where
  pub kernel : deliverable (facts_of acts).apcs w.regions w.level ≡ None
  pub user : takes_user w ≡ true → first_user (facts_of acts).apcs ≡ None

-- after every run of calls nothing is deliverable behind a block
abbrev pub BlocksAreQuiet : Type 0
BlocksAreQuiet = (acts : List Act) (w : Waiting) → (facts_of acts).doing ≡ IsBlocked w → BlockIsQuiet acts w

-- each flag is what the last call that sets or clears it left
pub record FlagsAreLastLeft (acts : List Act) : Type 0 where
  pub alerted : (m : Mode) → is_alerted m (facts_of acts) ≡ last_left (sets_alert m) (clears_alert m) acts
  pub user_pending : (facts_of acts).user_pending ≡ last_left sets_mark clears_mark acts
  pub released : (facts_of acts).released ≡ last_left sets_released clears_released acts
  pub leaving : (facts_of acts).leaving ≡ last_left sets_leaving clears_leaving acts

abbrev pub FactsAreLastLeft : Type 0
FactsAreLastLeft = (acts : List Act) → FlagsAreLastLeft acts
