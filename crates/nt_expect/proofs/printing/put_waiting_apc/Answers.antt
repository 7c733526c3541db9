use Rattle.std.proofs.Common.{[], ◌∷◌, rules}
use Rattle.std.specs.Prelude.{codes}
use Rattle.nt_line.specs.NameLists.{show_apc}
use Rattle.nt_expect.proofs.Texts.{fields_put, on_ok}
use Rattle.nt_expect.proofs.printing.put_waiting_apc.Goals as goal

pub returns : goal.returns
returns c = on_ok c.put_apc.result
    (λ last. fields_put _ _ _ (codes "waits" ∷ codes "apc" ∷ []) (show_apc c.args.input.now.names c.args.apc ∷ []) (search rules) last)
    c.put_apc.ensures
