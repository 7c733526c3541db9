use Rattle.nt_reader_laws.proofs.Waits.{switches_carry}
use Rattle.nt_reader_laws.proofs.switches_carry_the_status.Goals as goal

pub returns : goal.returns
returns c = switches_carry
