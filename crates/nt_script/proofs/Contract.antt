-- What the contracts say, from the two laws.
use Rattle.std.proofs.Common.{◌≡◌, ℕ, List, Result, Ok, Err, sym, ◌∙◌, ap}
use Rattle.std.specs.Prelude.{IfOk}
use Rattle.nt_text.specs.declared.kind.ScriptKind.{ScriptKind}
use Rattle.nt_script.specs.declared.walk.Input.{Input}
use Rattle.nt_script.specs.declared.reading.ScriptRefusal.{ScriptRefusal}
use Rattle.nt_script.specs.Gives.{GivesRead}
use Rattle.nt_script.specs.Reading.{reading}
use Rattle.nt_script.specs.Text.{text}
use Rattle.nt_script.specs.Sound.{IsSound, IsTextOf}
use Rattle.nt_script.proofs.Whole.{reading_takes}
use Rattle.nt_script.proofs.Kept.{reading_fits}
use Rattle.nt_script.proofs.Both.{reading_again}
use Rattle.nt_script.proofs.Soundness.{sound_fits, fit_sound}

abbrev done : Input → Result Input (ℕ × ScriptKind)
done input = Ok input

-- what is read is a sound input, and the bytes are its text
pub reading_is_text : (bytes : List ℕ) (input : Input) → reading bytes ≡ Ok input → IsTextOf bytes input
reading_is_text bytes input e = record { sound = fit_sound input (reading_fits bytes input e); text = reading_takes bytes input e }

-- the text of a sound input is read as the input
pub text_is_read : (bytes : List ℕ) (input : Input) → IsTextOf bytes input → reading bytes ≡ Ok input
text_is_read bytes input h = ap reading h.text ∙ reading_again input (sound_fits input h.sound)

-- what a call that does what reading says finds is a sound input, and the bytes are its text
pub is_found : (bytes : List ℕ) (r : Result Input ScriptRefusal) → GivesRead r (reading bytes) → IfOk r (IsTextOf bytes)
is_found bytes (Ok input) h = reading_is_text bytes input h
is_found bytes (Err e) h = tt

-- two sound inputs with the same text are the same input
pub same_input : (a b : Input) → IsSound a → IsSound b → text a ≡ text b → a ≡ b
same_input a b s t e =
    let both : done a ≡ done b = sym (reading_again a (sound_fits a s)) ∙ ap reading e ∙ reading_again b (sound_fits b t) in
    cc
