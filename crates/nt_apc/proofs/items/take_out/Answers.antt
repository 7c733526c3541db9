use Rattle.std.proofs.Common.{None, Some, not, sym, ◌∙◌, ap, subst, ◌≡◌, ℕ, List}
use Rattle.std.specs.List.{filter, position, remove}
use Rattle.nt_event.specs.Apcs.{is_of_apc}
use Rattle.nt_event.specs.declared.inserts.Pick.{Pick}
use Rattle.nt_apc.proofs.Inserts.{IsPlace, filter-none, objects-filter, place-none, place-some, remove-object}
use Rattle.nt_apc.specs.Objects.{AreObjects}
use Rattle.nt_apc.proofs.items.take_out.Goals as goal

pub returns-in-Some-clause-answer : goal.returns-in-Some-clause-answer
returns-in-Some-clause-answer c =
    let at : position (is_of_apc c.args.apc) c.args.items.now.items ≡ Some c.in-Some.place = cc in
    let place : IsPlace (is_of_apc c.args.apc) c.args.items.now.items c.in-Some.place = place-some _ _ _ at in
    sym place.any

pub returns-in-Some-clause-after : goal.returns-in-Some-clause-after
returns-in-Some-clause-after c =
    let at : position (is_of_apc c.args.apc) c.args.items.now.items ≡ Some c.in-Some.place = cc in
    let place : IsPlace (is_of_apc c.args.apc) c.args.items.now.items c.in-Some.place = place-some _ _ _ at in
    c.remove.ensures.items ∙ ap (λ (i : ℕ). remove c.args.items.now.items i) place.first ∙ remove-object c.args.apc c.args.items.now.items c.requires.objects

pub returns-in-Some-clause-kept : goal.returns-in-Some-clause-kept
returns-in-Some-clause-kept c =
    let at : position (is_of_apc c.args.apc) c.args.items.now.items ≡ Some c.in-Some.place = cc in
    let place : IsPlace (is_of_apc c.args.apc) c.args.items.now.items c.in-Some.place = place-some _ _ _ at in
    let after : filter (λ x. not (is_of_apc c.args.apc x)) c.args.items.now.items ≡ c.remove.new.self.items =
    sym (c.remove.ensures.items ∙ ap (λ (i : ℕ). remove c.args.items.now.items i) place.first
    ∙ remove-object c.args.apc c.args.items.now.items c.requires.objects) in
    subst (λ (xs : List Pick). AreObjects xs) after (objects-filter _ _ c.requires.objects)

pub returns-in-None-clause-answer : goal.returns-in-None-clause-answer
returns-in-None-clause-answer c =
    let at : position (is_of_apc c.args.apc) c.args.items.now.items ≡ None = cc in
    sym (place-none (is_of_apc c.args.apc) c.args.items.now.items at)

pub returns-in-None-clause-after : goal.returns-in-None-clause-after
returns-in-None-clause-after c =
    let at : position (is_of_apc c.args.apc) c.args.items.now.items ≡ None = cc in
    sym (filter-none _ _ (place-none (is_of_apc c.args.apc) c.args.items.now.items at))
