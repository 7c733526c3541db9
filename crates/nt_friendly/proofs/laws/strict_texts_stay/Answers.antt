use Rattle.std.proofs.Common.{ap, sym, ◌∙◌}
use Rattle.nt_script.proofs.Contract.{reading_is_text}
use Rattle.nt_friendly.specs.Text.{strict_text}
use Rattle.nt_friendly.proofs.Expected.{asked_stays}
use Rattle.nt_friendly.proofs.Names.{script_stays}
use Rattle.nt_friendly.proofs.Rows.{rows_stay, text_stays}
use Rattle.nt_friendly.proofs.laws.strict_texts_stay.Goals as goal

pub returns-clause-rows : goal.returns-clause-rows
returns-clause-rows c = rows_stay

pub returns-clause-again : goal.returns-clause-again
returns-clause-again c = text_stays

pub returns-clause-printed : goal.returns-clause-printed
returns-clause-printed c = script_stays

pub returns-clause-asked : goal.returns-clause-asked
returns-clause-asked c = asked_stays

pub returns-clause-read : goal.returns-clause-read
returns-clause-read c = λ bytes input e.
    let is = reading_is_text bytes input e in
    ap strict_text is.text ∙ script_stays input is.sound ∙ sym is.text
