-- What the contract says, from the laws.
use Rattle.std.proofs.Common.{◌≡◌, ℕ, ◌+◌, Bool, true, false, cond, List, Result, Ok, Err, refl, sym}
use Rattle.std.specs.Prelude.{IfOk}
use Rattle.std.specs.Str.{bytes_eq}
use Rattle.std.proofs.lemmas.Slice.Eq.{bytes_eq-Decides}
use Rattle.nt_text.specs.declared.kind.ScriptKind.{ScriptKind}
use Rattle.nt_text.specs.declared.kind.ScriptKind.TheVariants.{WrongKind}
use Rattle.nt_text.specs.Lines.{lines}
use Rattle.nt_event.specs.declared.events.History.{History}
use Rattle.nt_event.specs.Fitting.{events_fit}
use Rattle.nt_script.specs.declared.reading.ScriptRefusal.{ScriptRefusal}
use Rattle.nt_script.specs.declared.walk.Input.{Input}
use Rattle.nt_script.specs.Gives.{GivesRead}
use Rattle.nt_script.specs.Sound.{IsSound}
use Rattle.nt_print.specs.Conditions.{IsReportOf}
use Rattle.nt_print.specs.Report.{report_text}
use Rattle.nt_report.specs.declared.walk.Parts.{Parts}
use Rattle.nt_report.specs.Reading.{and_then, compared, history_of, lines_alike, reading, start, walk}
use Rattle.nt_report.proofs.Steps.{not_ok, ok_is}
use Rattle.nt_report.proofs.PlainHistories.{history_plain}
use Rattle.nt_print.proofs.OneReport.{plain_fits}
use Rattle.nt_report.proofs.PlainLines.{parts_plain}

-- what is read prints as the bytes
pub reading_is_report : (input : Input) → IsSound input → (n : ℕ) (bytes : List ℕ) (h : History) → reading input n bytes ≡ Ok h → IsReportOf bytes input h
reading_is_report input sound n bytes h e = go (walk input start n (lines bytes)) refl e
  where
    printed : (parts : Parts) (g : History) → walk input start n (lines bytes) ≡ Ok parts → history_of parts n ≡ Ok g → (b : Bool) →
        bytes_eq (report_text input g) bytes ≡ b →
        cond {A = Result History (ℕ × ScriptKind)} b (Ok g) (Err (n + lines_alike (lines (report_text input g)) (lines bytes), WrongKind)) ≡ Ok h →
        IsReportOf bytes input h
    printed parts g is made_is true eq e =
        let plain = history_plain input parts n g (parts_plain input sound n (lines bytes) parts is).0 made_is in
        let text : report_text input g ≡ bytes = (bytes_eq-Decides (report_text input g) bytes).0 eq in
        ok_is (λ (h : History). IsReportOf bytes input h) g h e (record { sound = sound; plain = plain; text = sym text })
    printed parts g is made_is false eq e = not_ok _ h e

    second : (parts : Parts) → walk input start n (lines bytes) ≡ Ok parts → (r : Result History (ℕ × ScriptKind)) → history_of parts n ≡ r →
        and_then r (compared input bytes n) ≡ Ok h → IsReportOf bytes input h
    second parts is (Err bad) made_is e = not_ok bad h e
    second parts is (Ok g) made_is e = printed parts g is made_is (bytes_eq (report_text input g) bytes) refl e

    go : (r : Result Parts (ℕ × ScriptKind)) → walk input start n (lines bytes) ≡ r →
        and_then r (λ parts. and_then (history_of parts n) (compared input bytes n)) ≡ Ok h → IsReportOf bytes input h
    go (Err bad) is e = not_ok bad h e
    go (Ok parts) is e = second parts is (history_of parts n) refl e

-- a history that is read from bytes is one of which the bytes are the report
pub is_found : (input : Input) → IsSound input → (n : ℕ) (bytes : List ℕ) (r : Result History ScriptRefusal) → GivesRead r (reading input n bytes) →
    IfOk r (λ h. IsReportOf bytes input h)
is_found input sound n bytes (Ok h) e = reading_is_report input sound n bytes h e
is_found input sound n bytes (Err x) e = tt

-- the events of a history that has a report fit the script
pub report_fits : (bytes : List ℕ) (input : Input) (h : History) → IsReportOf bytes input h → events_fit input.script h.events ≡ true
report_fits bytes input h r = plain_fits input h.events r.plain.events

-- the events of a history that is read fit the script
pub is_fit : (input : Input) → IsSound input → (n : ℕ) (bytes : List ℕ) (r : Result History ScriptRefusal) → GivesRead r (reading input n bytes) →
    IfOk r (λ h. events_fit input.script h.events ≡ true)
is_fit input sound n bytes (Ok h) e = report_fits bytes input h (reading_is_report input sound n bytes h e)
is_fit input sound n bytes (Err x) e = tt
