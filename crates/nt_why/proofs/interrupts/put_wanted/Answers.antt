use Rattle.std.proofs.Common.{ap, subst, sym, ◌∙◌}
use Rattle.std.proofs.lemmas.List.Elements.{All-nil}
use Rattle.std.specs.List.{All, list_any}
use Rattle.std.specs.Prelude.{List, not, ◌≡◌}
use Rattle.nt_event.specs.declared.events.Turn.TheVariants.{Next}
use Rattle.nt_event.specs.Step.{step}
use Rattle.nt_why.specs.declared.reasons.Reason.{Reason}
use Rattle.nt_why.specs.declared.things.Thing.TheVariants as thing
use Rattle.nt_why.specs.Courses.{AreWholeOf, IsTrueOf, past_on}
use Rattle.nt_why.specs.Lined.{with_all}
use Rattle.nt_why.specs.Says.{holds_back}
use Rattle.nt_why.proofs.InterruptLines.{begins_same, next_of_interrupt, wanted_whole}
use Rattle.nt_why.proofs.Told.{all_held, all_told, next_holds, on_ok}
use Rattle.nt_why.proofs.interrupts.put_wanted.Goals as goal

pub returns-clause-told : goal.returns-clause-told
returns-clause-told c =
    let q = c.args.course.now in
    let p = c.args.p in
    let l = c.args.level in
    let P = IsTrueOf q (thing.Interrupt p l) in
    let lines = c.lines_of-lines.result in
    let next = c.next_line.result in
    let rs = c.args.reasons.now.items in
    let truth = subst P (sym c.next_line.ensures) (next_of_interrupt q p l c.args.ahead.now.next c.requires.next) in
    let none = subst (λ (xs : List Reason). All P xs) (sym c.requires.none) (All-nil P) in
    on_ok (c.put_all.new.reasons.items ≡ with_all c.gives_begin-free.result lines next rs) (All P c.put_all.new.reasons.items) c.put_all.result
    (λ h. subst (λ (xs : List Reason). All P xs) (sym h) (all_told P c.gives_begin-free.result lines next rs c.lines_of-lines.ensures truth none))
    c.put_all.ensures

pub returns-clause-whole : goal.returns-clause-whole
returns-clause-whole c =
    let q = c.args.course.now in
    let p = c.args.p in
    let l = c.args.level in
    let lines = c.lines_of-lines.result in
    let next = c.next_line.result in
    let rs = c.args.reasons.now.items in
    let r = step q.script.now q.turns (Next p) (past_on q) in
    let holds = ap holds_back c.next_line.ensures ∙ next_holds p c.args.ahead.now.next in
    let same = c.gives_begin-free.ensures ∙ begins_same l r c.args.ahead.now.next c.requires.next in
    let none = ap (list_any holds_back) c.requires.none in
    on_ok (c.put_all.new.reasons.items ≡ with_all c.gives_begin-free.result lines next rs)
    (AreWholeOf q (thing.Interrupt p l) c.put_all.new.reasons.items) c.put_all.result
    (λ h. wanted_whole q p l _ c.requires.on.there c.requires.wanted
    (ap (list_any holds_back) h ∙ all_held c.gives_begin-free.result lines next rs holds none ∙ ap not same))
    c.put_all.ensures
