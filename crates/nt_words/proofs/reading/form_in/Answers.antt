use Rattle.std.proofs.Common.{rules, ◌≡◌, ◌∙◌, sym, ap, refl, codes, Some, None, option_map, List, ℕ}
use Rattle.clap.specs.Walk.{Row, first_of, rows_of}
use Rattle.clap.specs.Matches.{found_of}
use Rattle.clap.proofs.WalkLemmas.{first_value-rows}
use Rattle.nt_words.specs.declared.form.Command.{Command}
use Rattle.nt_words.specs.Commands.{command_named}
use Rattle.nt_words.specs.Chosen.{chosen, form_from}
use Rattle.nt_words.proofs.reading.form_in.Goals as goal

-- without a command word no form is chosen
no_word : (rows : List Row) → first_of (codes "command") rows ≡ None → chosen rows ≡ None
no_word rows none = rw none refl

-- with a word that names no command no form is chosen
no_command : (rows : List Row) (w : List ℕ) → first_of (codes "command") rows ≡ Some w → command_named w ≡ None → chosen rows ≡ None
no_command rows w is none = rw is (rw none refl)

-- with a word that names a command, that command's form is chosen with the options given
a_command : (rows : List Row) (w : List ℕ) (c : Command) → first_of (codes "command") rows ≡ Some w → command_named w ≡ Some c
    → chosen rows ≡ form_from c (first_of (codes "turns") rows) (first_of (codes "seed") rows) (first_of (codes "goal") rows) (first_of (codes "workers") rows)
a_command rows w c is named = rw is (rw named refl)

pub returns-in_err-get_str : goal.returns-in_err-get_str
returns-in_err-get_str c =
    let f = found_of c.args.matches.now in
    let none : first_of (codes "command") (rows_of f) ≡ None = sym (first_value-rows f (codes "command"))
    ∙ (sym c.get_str.ensures ∙ ap (option_map (λ s. s.now)) c.in_err-get_str.was) in
    let result : c.from_residual.result ≡ None = search rules in
    result ∙ sym (no_word (rows_of f) none)

pub returns-in_err-command : goal.returns-in_err-command
returns-in_err-command c =
    let f = found_of c.args.matches.now in
    let some : first_of (codes "command") (rows_of f) ≡ Some c.in_ok-get_str.field-0.now =
    sym (first_value-rows f (codes "command")) ∙ (sym c.get_str.ensures ∙ ap (option_map (λ s. s.now)) c.in_ok-get_str.was) in
    let result : c.from_residual-in_err-command.result ≡ None = search rules in
    result ∙ sym (no_command (rows_of f) _ some (sym c.command_named.ensures ∙ c.in_err-command.was))

pub returns : goal.returns
returns c =
    let f = found_of c.args.matches.now in
    let some : first_of (codes "command") (rows_of f) ≡ Some c.in_ok-get_str.field-0.now =
    sym (first_value-rows f (codes "command")) ∙ (sym c.get_str.ensures ∙ ap (option_map (λ s. s.now)) c.in_ok-get_str.was) in
    let turns = c.get_str-2.ensures ∙ (first_value-rows f c.text.result.now ∙ ap (λ (id : List ℕ). first_of id (rows_of f)) c.text.ensures) in
    let seed = c.get_str-3.ensures ∙ (first_value-rows f c.text-2.result.now ∙ ap (λ (id : List ℕ). first_of id (rows_of f)) c.text-2.ensures) in
    let goal = c.get_str-4.ensures ∙ (first_value-rows f c.text-3.result.now ∙ ap (λ (id : List ℕ). first_of id (rows_of f)) c.text-3.ensures) in
    let workers = c.get_str-5.ensures ∙ (first_value-rows f c.text-4.result.now ∙ ap (λ (id : List ℕ). first_of id (rows_of f)) c.text-4.ensures) in
    c.form_from.ensures ∙ ((λ i. form_from c.in_ok-command.command (turns i) (seed i) (goal i) (workers i))
    ∙ sym (a_command (rows_of f) _ _ some (sym c.command_named.ensures ∙ c.in_ok-command.was)))
