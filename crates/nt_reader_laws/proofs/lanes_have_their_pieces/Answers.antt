use Rattle.nt_live.proofs.PieceItems.{lists_are_pieces}
use Rattle.nt_live.proofs.Pieced.{lanes_have_pieces}
use Rattle.nt_reader_laws.proofs.lanes_have_their_pieces.Goals as goal

pub returns-clause-numbers : goal.returns-clause-numbers
returns-clause-numbers c = lanes_have_pieces

pub returns-clause-entries : goal.returns-clause-entries
returns-clause-entries c = lists_are_pieces
