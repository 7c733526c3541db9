use Rattle.std.proofs.Common.{length, subst, sym, ◌++◌, ◌∷◌, [], ◌≡◌}
use Rattle.std.proofs.lemmas.List.Elements.{All-push}
use Rattle.std.specs.List.{All}
use Rattle.std.specs.Prelude.{List}
use Rattle.nt_history.proofs.Lists.{as_many}
use Rattle.nt_why.specs.declared.reasons.Reason.{Reason}
use Rattle.nt_why.specs.declared.reasons.Reason.TheVariants.{Then}
use Rattle.nt_why.specs.declared.sought.Sought.TheVariants as sought
use Rattle.nt_why.specs.declared.things.Thing.TheVariants as thing
use Rattle.nt_why.specs.Courses.{AreWholeOf, IsTrueOf, events_on}
use Rattle.nt_why.proofs.Courses.{begun_all}
use Rattle.nt_why.proofs.TimerLines.{expired_whole}
use Rattle.nt_why.proofs.Told.{on_ok}
use Rattle.nt_why.proofs.timers.put_then.Goals as goal

pub returns-clause-told : goal.returns-clause-told
returns-clause-told c =
    let q = c.args.course.now in
    let t = c.args.t in
    let P = IsTrueOf q (thing.Timer t) in
    let rs = c.args.reasons.now.items in
    let f = c.begun_by.result in
    let many = as_many q.events.briefs.now q.events.rises.now in
    let truth =
    begun_all (sought.Timer t) q.end (length q.events.briefs.now) (events_on q) c.first_from-first.result f (sym many) c.first_from-first.ensures
    c.begun_by.ensures in
    on_ok (c.add.new.items.items ≡ rs ++ Then f ∷ []) (All P c.add.new.items.items) c.add.result
    (λ h. subst (λ (xs : List Reason). All P xs) (sym h) (All-push P rs (Then f) c.requires.told truth)) c.add.ensures

pub returns-clause-whole : goal.returns-clause-whole
returns-clause-whole c =
    let q = c.args.course.now in
    let t = c.args.t in
    let rs = c.args.reasons.now.items in
    let f = c.begun_by.result in
    on_ok (c.add.new.items.items ≡ rs ++ Then f ∷ []) (AreWholeOf q (thing.Timer t) c.add.new.items.items) c.add.result
    (λ h. expired_whole q t f rs _ h c.requires.whole) c.add.ensures
