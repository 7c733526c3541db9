use Rattle.std.proofs.Common.{ap, subst, sym, ◌∙◌}
use Rattle.std.proofs.lemmas.List.Elements.{All-nil}
use Rattle.std.specs.List.{All, list_any}
use Rattle.std.specs.Prelude.{List, not, ◌≡◌}
use Rattle.nt_why.specs.declared.reasons.Reason.{Reason}
use Rattle.nt_why.specs.declared.things.Thing.TheVariants as thing
use Rattle.nt_why.specs.Courses.{AreWholeOf, IsTrueOf, past_on}
use Rattle.nt_why.specs.Lined.{with_all}
use Rattle.nt_why.specs.Says.{holds_back}
use Rattle.nt_why.specs.Timers.{first_expiring}
use Rattle.nt_why.proofs.TimerLines.{next_of_timer, not_some, set_whole}
use Rattle.nt_why.proofs.Told.{all_held, all_told, next_holds, on_ok}
use Rattle.nt_why.proofs.timers.put_on.Goals as goal

pub returns-clause-told : goal.returns-clause-told
returns-clause-told c =
    let q = c.args.course.now in
    let P = IsTrueOf q (thing.Timer c.args.t) in
    let lines = c.lines_on-lines.result in
    let next = c.next_line.result in
    let rs = c.args.reasons.now.items in
    let truth = subst P (sym c.next_line.ensures) (next_of_timer q c.args.t c.args.p c.args.place.now.next c.requires.said c.requires.place.comes) in
    let none = subst (λ (xs : List Reason). All P xs) (sym c.requires.empty) (All-nil P) in
    on_ok (c.put_all.new.reasons.items ≡ with_all c.args.free lines next rs) (All P c.put_all.new.reasons.items) c.put_all.result
    (λ h. subst (λ (xs : List Reason). All P xs) (sym h) (all_told P c.args.free lines next rs c.lines_on-lines.ensures truth none)) c.put_all.ensures

pub returns-clause-whole : goal.returns-clause-whole
returns-clause-whole c =
    let q = c.args.course.now in
    let lines = c.lines_on-lines.result in
    let next = c.next_line.result in
    let rs = c.args.reasons.now.items in
    let found = first_expiring q.script.now q.turns (past_on q) c.args.t in
    let holds = ap holds_back c.next_line.ensures ∙ next_holds c.args.p c.args.place.now.next in
    let none = ap (list_any holds_back) c.requires.empty in
    on_ok (c.put_all.new.reasons.items ≡ with_all c.args.free lines next rs) (AreWholeOf q (thing.Timer c.args.t) c.put_all.new.reasons.items) c.put_all.result
    (λ h. set_whole q c.args.t c.args.setting.now _ c.requires.set
    (ap (list_any holds_back) h ∙ all_held c.args.free lines next rs holds none ∙ ap not c.requires.free ∙ not_some found))
    c.put_all.ensures
