use Rattle.std.proofs.Common.{sym, ◌∙◌}
use Rattle.nt_states.proofs.Requests.{none_spin}
use Rattle.nt_states.proofs.asking.Asks.set_spinners.Goals as goal

pub returns-else-some_spin : goal.returns-else-some_spin
returns-else-some_spin c =
    c.set_none.ensures ∙ sym (none_spin 0 c.args.spinners.now (sym c.some_spin.ensures ∙ c.if-some_spin.false))
