use Rattle.std.proofs.Common.{ap, subst, sym, ◌∙◌}
use Rattle.std.proofs.lemmas.List.Elements.{All-nil}
use Rattle.std.specs.List.{All, list_any}
use Rattle.std.specs.Prelude.{List, Option, false, is_none, refl, ◌≡◌}
use Rattle.nt_event.specs.declared.numbers.CpuNo.{CpuNo}
use Rattle.nt_why.specs.declared.reasons.Reason.{Reason}
use Rattle.nt_why.specs.declared.reasons.Reason.TheVariants.{NoSweep}
use Rattle.nt_why.specs.declared.things.Thing.TheVariants as thing
use Rattle.nt_why.specs.Courses.{AreWholeOf, IsTrueOf}
use Rattle.nt_why.specs.Lined.{with_each}
use Rattle.nt_why.specs.Says.{holds_back}
use Rattle.nt_why.proofs.TimerLines.{set_whole}
use Rattle.nt_why.proofs.Told.{each_held, each_told, on_ok}
use Rattle.nt_why.proofs.timers.put_alone.Goals as goal

pub returns-clause-told : goal.returns-clause-told
returns-clause-told c =
    let q = c.args.course.now in
    let P = IsTrueOf q (thing.Timer c.args.t) in
    let lines = c.own_lines-lines.result in
    let rs = c.args.reasons.now.items in
    let none = subst (λ (xs : List Reason). All P xs) (sym c.requires.empty) (All-nil P) in
    on_ok (c.put_each.new.reasons.items ≡ with_each false lines rs) (All P c.put_each.new.reasons.items) c.put_each.result
    (λ h. subst (λ (xs : List Reason). All P xs) (sym h) (each_told P false lines rs c.own_lines-lines.ensures.told none)) c.put_each.ensures

pub returns-clause-whole : goal.returns-clause-whole
returns-clause-whole c =
    let q = c.args.course.now in
    let lines = c.own_lines-lines.result in
    let rs = c.args.reasons.now.items in
    on_ok (c.put_each.new.reasons.items ≡ with_each false lines rs) (AreWholeOf q (thing.Timer c.args.t) c.put_each.new.reasons.items) c.put_each.result
    (λ h. set_whole q c.args.t c.args.setting.now _ c.requires.set
    (ap (list_any holds_back) h ∙ each_held lines NoSweep rs c.own_lines-lines.ensures.last refl
    ∙ sym (ap (λ (o : Option CpuNo). is_none o) c.requires.no)))
    c.put_each.ensures
