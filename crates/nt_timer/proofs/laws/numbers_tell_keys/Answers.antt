use Rattle.nt_timer.proofs.Numbers.{numbers_tell_keys}
use Rattle.nt_timer.proofs.laws.numbers_tell_keys.Goals as goal

pub returns : goal.returns
returns c = numbers_tell_keys
