-- The history of the machine that went on to the end, its oldest event first.
use Rattle.std.proofs.Common.{ap, reverse, subst, sym, ◌∙◌}
use Rattle.std.proofs.lemmas.List.{reverse-reverse}
use Rattle.std.specs.Prelude.{List, [], true, ℕ, ◌≡◌}
use Rattle.nt_event.specs.declared.events.Event.{Event}
use Rattle.nt_event.specs.declared.scripts.Script.{Script}
use Rattle.nt_event.specs.Robin.{IsRobin, is_settled}
use Rattle.nt_event.specs.Step.{IsRun}
use Rattle.nt_core.specs.States.{CoreState}
use Rattle.nt_core.proofs.runs.run.Goals as goal

-- what holds of a new machine's script and limit holds of those that it was made with
of_new : (P : Script → ℕ → List Event → Type 0) (k : CoreState) (s : Script) (n : ℕ) (xs past : List Event) → k ≡ record { script = s; limit = n; past = [] } →
    xs ≡ past → P k.script k.limit past → P s n xs
of_new P k s n xs past e same h = subst (λ (x : CoreState). P x.script x.limit xs) e (subst (λ (x : List Event). P k.script k.limit x) (sym same) h)

pub returns : goal.returns
returns c =
    let s = c.args.script.now in
    let past = c.go_on_to_the_end.new.self.past in
    let made = c.in_ok-core.ensures in
    let same : reverse c.finish.result.events ≡ past = ap reverse c.finish.ensures.events ∙ reverse-reverse past in
    record {
      turns = c.finish.ensures.turns ∙ (c.go_on_to_the_end.ensures.limit ∙ ap (λ (x : CoreState). x.limit) made);
      run = of_new (λ x n es. IsRun x n es) c.in_ok-core.core s c.args.turns _ past made same c.go_on_to_the_end.ensures.run;
      robin = of_new (λ x n es. IsRobin x n es) c.in_ok-core.core s c.args.turns _ past made same c.go_on_to_the_end.ensures.robin;
      settled = of_new (λ x n es. is_settled x n es ≡ true) c.in_ok-core.core s c.args.turns _ past made same c.go_on_to_the_end.ensures.settled;
    }
