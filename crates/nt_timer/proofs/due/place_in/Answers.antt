use Rattle.std.proofs.Common.{arith, length, sym, ◌-◌, ◌∙◌}
use Rattle.nt_timer.proofs.DueLists.{all_before}
use Rattle.nt_timer.proofs.due.place_in.Goals as goal

pub returns-then-is_before : goal.returns-then-is_before
returns-then-is_before c =
    let l = c.if-count-gt0.true in
    sym (all_before c.args.key.now c.args.keys.now (length c.args.keys.now - 1) (record { due = 0; number = 0; key = 0 }) (omega arith) c.requires
    (sym c.is_before.ensures ∙ c.if-is_before.true))
