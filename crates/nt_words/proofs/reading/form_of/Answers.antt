use Rattle.std.proofs.Common.{rules, ◌≡◌, ◌∙◌, sym, ap, map, subst, string_bytes, true, false, Result, IfOk, []}
use Rattle.clap.specs.Faults.{fault_of}
use Rattle.nt_words.specs.Parser.{ntrun_app}
use Rattle.nt_words.specs.declared.form.Form.{Form}
use Rattle.nt_words.specs.declared.reading.WordsRefusal.{WordsRefusal}
use Rattle.nt_words.specs.Forms.{IsForm}
use Rattle.nt_words.specs.Chosen.{chosen}
use Rattle.nt_words.specs.Refusals.{IsNoForm, OnNoForm}
use Rattle.nt_words.proofs.Answered.{form_answered, form_within, no_form_answered}
use Rattle.nt_words.proofs.Refused.{refused_up}
use Rattle.nt_words.proofs.Whole.{form_is_taken}
use Rattle.nt_words.proofs.reading.form_of.Goals as goal

pub returns-then-not-is_tidy-clause-none : goal.returns-then-not-is_tidy-clause-none
returns-then-not-is_tidy-clause-none c = λ f is.
    let bad : false ≡ true = sym c.if-not-is_tidy.true ∙ (c.is_tidy.ensures ∙ (form_is_taken _ f is).tidy) in
    cc

pub returns-in_err-matches-clause-none : goal.returns-in_err-matches-clause-none
returns-in_err-matches-clause-none c =
    let words = map string_bytes c.args.words.now in
    refused_up c.from_residual.result c.in_err-matches.field-0.0 (fault_of ntrun_app words ≡ [] → ⊥) (IsNoForm words) (search rules)
    (λ none f is. none (form_is_taken words f is).fault)
    c.in_err-matches.ensures.refused

is_form : (c : goal.Joined-matches) → IfOk c.ok_or.result (IsForm (map string_bytes c.args.words.now))
is_form c =
    let words = map string_bytes c.args.words.now in
    subst (λ (r : Result Form WordsRefusal). IfOk r (IsForm words)) (sym c.ok_or.ensures.value)
    (form_answered words c.form_in.result (sym c.is_tidy.ensures ∙ c.if-not-is_tidy.false) c.in_ok-matches.ensures.taken
    (c.form_in.ensures ∙ ap chosen c.in_ok-matches.ensures.rows))

pub returns-clause-some : goal.returns-clause-some
returns-clause-some c = is_form c

pub returns-clause-within : goal.returns-clause-within
returns-clause-within c = form_within (map string_bytes c.args.words.now) c.ok_or.result (is_form c)

pub returns-clause-none : goal.returns-clause-none
returns-clause-none c =
    let words = map string_bytes c.args.words.now in
    subst (λ (r : Result Form WordsRefusal). OnNoForm r (IsNoForm words)) (sym c.ok_or.ensures.value)
    (no_form_answered words c.form_in.result (c.form_in.ensures ∙ ap chosen c.in_ok-matches.ensures.rows))
