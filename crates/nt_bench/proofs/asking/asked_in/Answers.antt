use Rattle.std.proofs.Common.{subst, ◌∙◌}
use Rattle.std.specs.Prelude.{List, Ok, ℕ, ◌≡◌}
use Rattle.nt_ask.specs.Reading.{asking}
use Rattle.nt_bench.specs.Asking.{IsRefusedBy}
use Rattle.nt_bench.proofs.Answered.{answer_in, refused_by}
use Rattle.nt_bench.proofs.asking.asked_in.Goals as goal

pub returns-in-Ok : goal.returns-in-Ok
returns-in-Ok c =
    let strict = c.as_slice.ensures.value ∙ c.requires.friendly.text in
    answer_in c.args.form c.args.friendly.now c.in-Ok.asked _ _
    (subst (λ (bytes : List ℕ). asking bytes ≡ Ok c.in-Ok.asked) strict c.in-Ok.ensures.exact) c.reply_to-reply.ensures

pub bad_line-requires-clause-cause : goal.bad_line-requires-clause-cause
bad_line-requires-clause-cause c =
    let strict = c.as_slice.ensures.value ∙ c.requires.friendly.text in
    subst (λ (bytes : List ℕ). IsRefusedBy bytes c.in-Err.refusal) strict (refused_by c.as_slice.result.now c.in-Err.refusal c.in-Err.ensures.exact)
