-- The fact of the type: nothing is deliverable behind a block.
use Rattle.std.specs.Prelude.{Bool, None, true, ◌&&◌, ◌≡◌}
use Rattle.nt_event.specs.declared.threads.Doing.{Doing}
use Rattle.nt_event.specs.declared.threads.Doing.TheVariants.{Blocked as IsBlocked}
use Rattle.nt_event.specs.declared.threads.Waiting.{Waiting}
use Rattle.nt_event.specs.Apcs.{ApcQueues, deliverable, first_user}
use Rattle.nt_event.specs.Threads.{ThreadFacts}
use Rattle.nt_event.specs.Replies.{is_user}

-- an alertable wait of user mode
abbrev pub takes_user : Waiting → Bool
takes_user w = is_user w.mode && w.alertable

-- behind this wait no kernel APC is deliverable, and where it is an alertable user wait, no user APC is queued
pub record IsQuiet (w : Waiting) (q : ApcQueues) : Type 0 where
  pub kernel : deliverable q w.regions w.level ≡ None
  pub user : takes_user w ≡ true → first_user q ≡ None

abbrev pub QuietDoing : Doing → ApcQueues → Type 0
QuietDoing (IsBlocked w) q = IsQuiet w q
QuietDoing _ q = Unit {0}

-- a blocked thread has no deliverable kernel APC, and in an alertable user wait no user APC
abbrev pub NothingBehind : ThreadFacts → Type 0
NothingBehind x = QuietDoing x.doing x.apcs
