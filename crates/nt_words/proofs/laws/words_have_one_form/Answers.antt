use Rattle.std.proofs.Common.{◌≡◌, ◌∙◌, sym, Some}
use Rattle.nt_words.specs.Forms.{WordsHaveOneForm}
use Rattle.nt_words.proofs.Whole.{form_is_taken}
use Rattle.nt_words.proofs.laws.words_have_one_form.Goals as goal

-- words have at most one form
one_form : WordsHaveOneForm
one_form words f g a b =
    let same : Some f ≡ Some g = sym (form_is_taken words f a).form ∙ (form_is_taken words g b).form in
    cc

pub returns : goal.returns
returns c = one_form
