use Rattle.std.proofs.Common.{[], ◌∷◌}
use Rattle.nt_expect.specs.Expectations.{watched_row}
use Rattle.nt_expect.proofs.Texts.{fields_put, on_ok}
use Rattle.nt_expect.proofs.printing.put_pair.Goals as goal

pub returns : goal.returns
returns c =
    let names = c.args.input.now.names in
    let other = watched_row names c.args.other.now in
    on_ok c.put_watched-2.result
    (λ last. fields_put _ _ _ (watched_row names c.args.event.now) (c.args.word.now ∷ other) c.in_ok-put_watched.ensures
    (fields_put _ _ _ (c.args.word.now ∷ []) other c.in_ok-put_field.ensures last))
    c.put_watched-2.ensures
