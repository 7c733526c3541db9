use Rattle.std.proofs.Common.{[], ◌∷◌}
use Rattle.std.specs.Prelude.{decimal}
use Rattle.nt_expect.specs.Expectations.{watched_row}
use Rattle.nt_expect.proofs.Texts.{fields_put, on_ok}
use Rattle.nt_expect.proofs.printing.put_bound.Goals as goal

pub returns : goal.returns
returns c =
    let number = decimal c.args.number ∷ [] in
    let fields = rw c.from.ensures at c.put_number.ensures in
    on_ok c.put_number.result
    (λ last. fields_put _ _ _ (watched_row c.args.input.now.names c.args.event.now) (c.args.word.now ∷ number) c.in_ok-put_watched.ensures
    (fields_put _ _ _ (c.args.word.now ∷ []) number c.in_ok-put_field.ensures last))
    fields
