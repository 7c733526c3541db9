use Rattle.std.proofs.Common.{[], ◌∷◌}
use Rattle.std.specs.Prelude.{codes}
use Rattle.nt_expect.specs.Expectations.{watched_row}
use Rattle.nt_expect.proofs.Texts.{fields_put, on_ok}
use Rattle.nt_expect.proofs.printing.put_twice.Goals as goal

pub returns : goal.returns
returns c = on_ok c.put_field.result
    (λ last. fields_put _ _ _ (watched_row c.args.input.now.names c.args.event.now) (codes "twice" ∷ []) c.in_ok-put_watched.ensures last)
    c.put_field.ensures
