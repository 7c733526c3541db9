use Rattle.nt_readings.proofs.Declared.{calls_fit}
use Rattle.nt_readings.proofs.called_commands_fit.Goals as goal

pub returns : goal.returns
returns c = calls_fit
