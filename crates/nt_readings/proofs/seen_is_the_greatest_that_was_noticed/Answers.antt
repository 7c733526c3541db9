use Rattle.nt_readings.proofs.Seen.{seen_greatest}
use Rattle.nt_readings.proofs.seen_is_the_greatest_that_was_noticed.Goals as goal

pub returns : goal.returns
returns c = seen_greatest
