use Rattle.std.proofs.Common.{◌∙◌, ◌≡◌, ◌+◌, ◌<◌, List, ap, length, sym, take, ℕ}
use Rattle.nt_work.specs.declared.item.Audited.{Audited}
use Rattle.nt_work.specs.Workers.{told_by}
use Rattle.nt_work.proofs.Workers.{told_not, told_step}
use Rattle.nt_work.proofs.worker.Worker.tell.Goals.{then-event-told, else-event-told}
use Rattle.nt_work.proofs.worker.Worker.tell.Goals as goal

pub loop-audited-preserved : goal.loop-audited-preserved
loop-audited-preserved c =
    let first : List ℕ = c.args.told.now in
    let k : ℕ = c.loop-audited.audited-index in
    let read : List Audited = c.as_slice-audited-items.result.now in
    let same : read ≡ c.args.self.now.done.items = c.as_slice-audited-items.ensures.value in
    let before : c.loop-audited.told ≡ told_by first (take k read) =
    c.loop-audited.invariant.told ∙ ap (λ (xs : List Audited). told_by first (take k xs)) (sym same) in
    let lt : k < length read = c.loop-audited-test.true in
    let all : c.if-event-told.told ≡ told_by first (take (k + 1) read) =
    elim c.if-event-told.branch [
      | then-event-told w ↦ told_step first c.loop-audited.told c.if-event-told.told read k _ lt before w.told-is
      | else-event-told w ↦ told_not first c.loop-audited.told c.if-event-told.told read k _ lt before w.if-event-told.false w.told-is
    ] in
    record { told = all ∙ ap (λ (xs : List Audited). told_by first (take (k + 1) xs)) same }
