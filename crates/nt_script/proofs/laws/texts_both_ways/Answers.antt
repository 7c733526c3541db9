use Rattle.nt_script.proofs.Both.{reading_again}
use Rattle.nt_script.proofs.Contract.{reading_is_text}
use Rattle.nt_script.proofs.Soundness.{sound_fits}
use Rattle.nt_script.proofs.laws.texts_both_ways.Goals as goal

pub returns-clause-printed : goal.returns-clause-printed
returns-clause-printed c = λ input s. reading_again input (sound_fits input s)

pub returns-clause-read : goal.returns-clause-read
returns-clause-read c = reading_is_text
