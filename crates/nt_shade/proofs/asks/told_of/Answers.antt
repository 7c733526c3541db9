use Rattle.std.proofs.Common.{sym, ℕ, ◌∙◌}
use Rattle.nt_event.proofs.Tables.{table_grown, table_none}
use Rattle.nt_plain.specs.Places.{told_at}
use Rattle.nt_shade.proofs.asks.told_of.Goals as goal

pub loop-number-init : goal.loop-number-init
loop-number-init c = c.in_ok-told.ensures.items ∙ sym (table_none _)

pub loop-number-preserved : goal.loop-number-preserved
loop-number-preserved c =
    let f = c.args.floor.now in
    table_grown c.loop-number.number (λ (n : ℕ). told_at f.script.cpus f.told n c.args.cpu c.args.class) c.loop-number.told.items c.push.new.self.items
    c.told.result c.in_ok-push.ensures.items c.loop-number.invariant c.told.ensures
