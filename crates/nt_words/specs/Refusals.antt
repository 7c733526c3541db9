-- What a refusal of words says.
use Rattle.std.specs.Prelude.{ℕ, List, Result, Ok, Err}
use Rattle.nt_words.specs.declared.reading.WordsRefusal.{WordsRefusal}
use Rattle.nt_words.specs.declared.reading.WordsRefusal.TheVariants.{NoForm, NoMemory}
use Rattle.nt_words.specs.declared.form.Form.{Form}
use Rattle.nt_words.specs.Forms.{IsForm}

-- what holds where the refusal is that the words are no form
abbrev pub WhereNoForm : WordsRefusal → Type 0 → Type 0
WhereNoForm NoForm P = P
WhereNoForm NoMemory P = Unit {0}

-- the same of an answer
abbrev pub OnNoForm : {T : Type 0} → Result T WordsRefusal → Type 0 → Type 0
OnNoForm (Ok x) P = Unit {0}
OnNoForm (Err refusal) P = WhereNoForm refusal P

-- the words are no form
abbrev pub IsNoForm : List (List ℕ) → Type 0
IsNoForm words = (f : Form) → IsForm words f → ⊥
