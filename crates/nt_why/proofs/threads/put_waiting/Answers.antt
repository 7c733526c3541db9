use Rattle.std.proofs.Common.{ap, subst, sym, ◌∙◌}
use Rattle.std.proofs.lemmas.List.Elements.{All-nil}
use Rattle.std.specs.List.{All, list_any}
use Rattle.std.specs.Prelude.{List, Option, is_some, ◌≡◌}
use Rattle.nt_event.specs.declared.events.ScheduleKind.{ScheduleKind}
use Rattle.nt_why.specs.declared.reasons.Reason.{Reason}
use Rattle.nt_why.specs.declared.things.Thing.TheVariants as thing
use Rattle.nt_why.specs.Courses.{AreWholeOf, IsTrueOf}
use Rattle.nt_why.specs.Lined.{with_each}
use Rattle.nt_why.specs.Says.{holds_back}
use Rattle.nt_why.proofs.ThreadLines.{free_none, lines_held, waiting_whole}
use Rattle.nt_why.proofs.Told.{each_told, on_ok}
use Rattle.nt_why.proofs.threads.put_waiting.Goals as goal

pub returns-clause-told : goal.returns-clause-told
returns-clause-told c =
    let q = c.args.course.now in
    let P = IsTrueOf q (thing.Thread c.args.t) in
    let lines = c.lines_of-lines.result in
    let free = c.is_none-free.result in
    let rs = c.args.reasons.now.items in
    let none = subst (λ (xs : List Reason). All P xs) (sym c.requires.none) (All-nil P) in
    on_ok (c.put_each.new.reasons.items ≡ with_each free lines rs) (All P c.put_each.new.reasons.items) c.put_each.result
    (λ h. subst (λ (xs : List Reason). All P xs) (sym h) (each_told P free lines rs c.lines_of-lines.ensures.told none))
    c.put_each.ensures

pub returns-clause-whole : goal.returns-clause-whole
returns-clause-whole c =
    let q = c.args.course.now in
    let p = c.args.p in
    let t = c.args.t in
    let lines = c.lines_of-lines.result in
    let free = c.is_none-free.result in
    let rs = c.args.reasons.now.items in
    let held = lines_held p c.args.ahead.now.refused free lines rs (free_none _ _ c.is_none-free.ensures) c.lines_of-lines.ensures.last c.requires.none in
    on_ok (c.put_each.new.reasons.items ≡ with_each free lines rs) (AreWholeOf q (thing.Thread t) c.put_each.new.reasons.items) c.put_each.result
    (λ h. waiting_whole q p t _ c.requires.place c.requires.on.there c.requires.waits
    (ap (list_any holds_back) h ∙ held ∙ ap (λ (o : Option ScheduleKind). is_some o) c.requires.refused))
    c.put_each.ensures
