use Rattle.nt_reader_laws.proofs.Commands.{refused_takes_place}
use Rattle.nt_reader_laws.proofs.a_refused_command_takes_its_place_alone.Goals as goal

pub returns : goal.returns
returns c = refused_takes_place
