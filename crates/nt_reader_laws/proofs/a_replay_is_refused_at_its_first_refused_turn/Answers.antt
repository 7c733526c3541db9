use Rattle.nt_reader_laws.proofs.Replays.{replays_refused}
use Rattle.nt_reader_laws.proofs.a_replay_is_refused_at_its_first_refused_turn.Goals as goal

pub returns : goal.returns
returns c = replays_refused
