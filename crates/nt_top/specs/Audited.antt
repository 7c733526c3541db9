-- The lines of `audit`: each work item of a run with how many inserts were pending when it was queued.
use Rattle.std.specs.List.{flat_map}
use Rattle.std.specs.Prelude.{List, [], codes, decimal, length, ℕ, ◌++◌, ◌∷◌, ◌≡◌}
use Rattle.nt_event.specs.declared.events.History.{History}
use Rattle.nt_script.specs.declared.walk.Input.{Input}
use Rattle.nt_top.specs.Runs.{IsRobinRun}
use Rattle.nt_work.specs.Audits.{audit_of}
use Rattle.nt_work.specs.declared.item.Audited.{Audited}

-- the word that was noted, the number of its event, and how many inserts were pending
abbrev pub audit_line : Audited → List ℕ
audit_line a = codes "note " ++ (decimal a.item.word ++ (codes " at " ++ (decimal a.item.event
    ++ (codes " waiting " ++ (decimal a.waiting ++ 10 ∷ [])))))

abbrev pub items_line : ℕ → List ℕ
items_line n = codes "items " ++ (decimal n ++ 10 ∷ [])

abbrev pub lines_of : List Audited → List ℕ
lines_of audits = flat_map audit_line audits ++ items_line (length audits)

-- what `audit` writes of a history
abbrev pub audit_text : History → List ℕ
audit_text h = lines_of (audit_of h.events)

-- the text is the audit of the robin run of the script with this limit
pub record IsAudited (input : Input) (limit : ℕ) (text : List ℕ) : Type 0 where
  pub history : History
  pub run : IsRobinRun input.script limit history
  pub is : text ≡ audit_text history
