use Rattle.nt_thread.proofs.Runs.{blocks-are_quiet}
use Rattle.nt_thread.proofs.laws.blocks_are_quiet.Goals as goal

pub returns : goal.returns
returns c = blocks-are_quiet
