-- What is replied, by the status of the verdicts.
use Rattle.std.specs.Prelude.{Bool, List, false, if◌then◌else◌, true, ℕ}
use Rattle.std.specs.List.{list_any}
use Rattle.nt_ask.specs.declared.answer.Status.TheVariants as exit
use Rattle.nt_ask.specs.declared.answer.Verdict.{Verdict}
use Rattle.nt_ask.specs.declared.reading.Asked.{Asked}
use Rattle.nt_ask.specs.Answers.{is_failure, is_unknown, verdict_status}
use Rattle.nt_lab.specs.Outcome.{IsAskReply, IsWell}

-- where it is well with the status of the verdicts, it is replied so
pub well_replied : (asked : Asked) (states : ℕ) (vs : List Verdict) (text : List ℕ) → IsWell asked states (verdict_status vs) text →
    IsAskReply asked states (verdict_status vs) text
well_replied asked states vs text w = go (list_any is_failure vs) (list_any is_unknown vs) w
  where
    go : (a b : Bool) → IsWell asked states (if a then exit.Fails else (if b then exit.Unknown else exit.Ok)) text →
        IsAskReply asked states (if a then exit.Fails else (if b then exit.Unknown else exit.Ok)) text
    go true b w = w
    go false true w = w
    go false false w = w
