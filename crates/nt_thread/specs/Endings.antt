-- What an APC that ends a wait leaves beside its insert.
use Rattle.std.specs.Prelude.{true}
use Rattle.nt_event.specs.declared.commands.ApcKind.{ApcKind}
use Rattle.nt_event.specs.declared.commands.ApcKind.TheVariants.{User as UserApc}
use Rattle.nt_event.specs.Threads.{ThreadFacts, ended}
use Rattle.nt_event.specs.Replies.{kernel_apc, user_apc}

-- profile: a user APC that ends a wait sets the user-pending mark
abbrev pub ended_by : ApcKind → ThreadFacts → ThreadFacts
ended_by UserApc x = record (ended user_apc x) { user_pending = true }
ended_by _ x = ended kernel_apc x
