use Rattle.nt_ranges.proofs.Sizes.{texts_fit_the_input}
use Rattle.nt_ranges.proofs.its_texts_fit_the_input.Goals as goal

pub returns : goal.returns
returns c = texts_fit_the_input
