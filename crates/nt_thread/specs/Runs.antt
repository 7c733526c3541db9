-- Whole runs of calls on one thread's state.
use Rattle.std.specs.Prelude.{Bool, List, None, Option, [], false, if◌then◌else◌, is_some, ℕ, ◌∷◌}
use Rattle.nt_event.specs.declared.commands.Mode.{Mode}
use Rattle.nt_event.specs.declared.commands.Regions.{Regions}
use Rattle.nt_event.specs.declared.inserts.Pick.{Pick}
use Rattle.nt_event.specs.declared.numbers.ApcNo.{ApcNo}
use Rattle.nt_event.specs.declared.threads.Doing.TheVariants.{Gone as IsGone, Ready as IsReady, Running as IsRunning}
use Rattle.nt_event.specs.Apcs.{takes, without_apc}
use Rattle.nt_event.specs.Threads.{ThreadFacts, start_facts}
use Rattle.nt_event.specs.Waits.{alert_facts, alert_tested, apc_taken, expiry_facts, insert_facts, leaving_facts}
use Rattle.nt_event.specs.Waits.{release_facts, wait_reply, waited}

-- a wait: the number of its event, mode and kind, whether a delay's due time is reached, and the level and regions
pub record Wait : Type 0 where
  pub number : ℕ
  pub mode : Mode
  pub alertable : Bool
  pub reached : Option Bool
  pub level : ℕ
  pub regions : Regions

-- a call that may change the state: `resume`, `give_way`, `wait`, `release`, `end_delay`, `alert`, `test_alert`, `apc`,
-- `take`, `leave`, `gone`; and `unapc` or `flush` of an object
pub data Act : Type 0 where
  Resumes : Act
  GivesWay : ℕ → Act
  Waits : Wait → Act
  Releases : Act
  EndsDelay : ℕ → Act
  Alerts : Mode → Act
  TestsAlert : Mode → Act
  Inserts : Pick → Act
  Takes : Pick → Act
  Removes : ApcNo → Act
  Leaves : Act
  Goes : Act

-- what the call leaves
abbrev pub after : Act → ThreadFacts → ThreadFacts
after Resumes x = record x { doing = IsRunning }
after (GivesWay level) x = record x { doing = IsReady level None }
after (Waits w) x =
    waited w.number w.regions w.level w.mode w.alertable (is_some w.reached)
    (wait_reply x w.regions w.level w.mode w.alertable w.reached) x
after Releases x = release_facts x
after (EndsDelay from) x = expiry_facts from x
after (Alerts m) x = alert_facts m x
after (TestsAlert m) x = alert_tested m x
after (Inserts pick) x = if takes pick.apc x.apcs then insert_facts pick x else x
after (Takes pick) x = apc_taken pick.kind pick.apc x
after (Removes a) x = record x { apcs = without_apc a x.apcs }
after Leaves x = leaving_facts x
after Goes x = record x { doing = IsGone; leaving = false }

-- the facts after these calls, the last one first, on the state of a new thread
abbrev pub facts_of : List Act → ThreadFacts
facts_of [] = start_facts
facts_of (act ∷ past) = after act (facts_of past)
