-- How an answer is written.
use Rattle.std.proofs.Common.{◌≡◌, ◌≢◌, List, ℕ, refl}
use Rattle.std.specs.Io.KnownBytes.{append_known}
use Rattle.nt_words.specs.declared.form.Form.{Form}
use Rattle.nt_words.specs.declared.form.Form.TheVariants as form
use Rattle.nt_top.specs.declared.status.Status.{Status}
use Rattle.nt_top.specs.declared.status.Status.TheVariants as exit
use Rattle.nt_top.specs.Outcome.{IsFound, IsFoundBy, IsWritten}
use Rattle.nt_outside.specs.Sides.{Store, Supply}

-- the text was added and the status is that of the answer
pub written_whole : (status : Status) (text : List ℕ) (old new : Store) → status ≢ exit.Write → new.held ≡ append_known old.held text →
    IsWritten status text old new status
written_whole exit.Ok text old new other added = (refl, added)
written_whole exit.Usage text old new other added = (refl, added)
written_whole exit.Script text old new other added = (refl, added)
written_whole exit.Schedule text old new other added = (refl, added)
written_whole exit.Read text old new other added = (refl, added)
written_whole exit.Write text old new other added = absurd (other refl)
written_whole exit.Memory text old new other added = (refl, added)
written_whole exit.TooLong text old new other added = (refl, added)
written_whole exit.Illegal text old new other added = (refl, added)
written_whole exit.NoGoal text old new other added = (refl, added)
written_whole exit.TooMany text old new other added = (refl, added)
written_whole exit.NotDelivered text old new other added = (refl, added)

-- no form finds the status of a write fault
never_by : (f : Form) (old new : Supply) (text : List ℕ) → IsFoundBy f old new exit.Write text → ⊥
never_by (form.Run turns) old new text w = w.2.2
never_by form.Replay old new text w = w.2.2
never_by form.Check old new text w = w.2.2
never_by (form.Live turns) old new text w = w.2.2
never_by (form.Load seed turns) old new text w = w.1
never_by form.Migrate old new text w = w.2.2
never_by form.Verify old new text w = w.2.2
never_by (form.Shrink goal) old new text w = w.2.2
never_by (form.Audit turns workers) old new text w = w.2.2

-- a fault of the sink is never found before the writing
found_before : (words : List (List ℕ)) (old new : Supply) (status : Status) (text : List ℕ) → IsFound words old new status text → status ≡ exit.Write → ⊥
found_before words old new exit.Ok text found e = cc
found_before words old new exit.Usage text found e = cc
found_before words old new exit.Script text found e = cc
found_before words old new exit.Schedule text found e = cc
found_before words old new exit.Read text found e = cc
found_before words old new exit.Write text found e = never_by found.0 old new text found.2
found_before words old new exit.Memory text found e = cc
found_before words old new exit.TooLong text found e = cc
found_before words old new exit.Illegal text found e = cc
found_before words old new exit.NoGoal text found e = cc
found_before words old new exit.TooMany text found e = cc
found_before words old new exit.NotDelivered text found e = cc

-- what is found for a call never has the status of a failed write
pub found_is_no_fault : (words : List (List ℕ)) (old new : Supply) (status : Status) (text : List ℕ) → IsFound words old new status text → status ≢ exit.Write
found_is_no_fault words old new status text found = found_before words old new status text found
