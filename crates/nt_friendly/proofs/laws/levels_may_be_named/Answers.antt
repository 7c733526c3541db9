use Rattle.nt_friendly.proofs.Expected.{expectation_named}
use Rattle.nt_friendly.proofs.Named.{command_named, isr_named}
use Rattle.nt_friendly.proofs.laws.levels_may_be_named.Goals as goal

pub returns-clause-isrs : goal.returns-clause-isrs
returns-clause-isrs c = isr_named

pub returns-clause-commands : goal.returns-clause-commands
returns-clause-commands c = command_named

pub returns-clause-expectations : goal.returns-clause-expectations
returns-clause-expectations c = expectation_named
