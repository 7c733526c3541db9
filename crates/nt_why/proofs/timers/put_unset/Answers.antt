use Rattle.std.proofs.Common.{ap, sym, ◌++◌, ◌∙◌, ◌∷◌, [], ◌≡◌, ℕ}
use Rattle.std.specs.List.{All}
use Rattle.std.specs.Prelude.{Option, Some, refl}
use Rattle.nt_why.specs.declared.reasons.Reason.TheVariants.{NotSet}
use Rattle.nt_why.specs.declared.things.Thing.TheVariants as thing
use Rattle.nt_why.specs.Courses.{AreWholeOf, IsTrueOf}
use Rattle.nt_why.proofs.InterruptLines.{head_one}
use Rattle.nt_why.proofs.TimerLines.{unset_whole}
use Rattle.nt_why.proofs.Told.{on_ok, one_told}
use Rattle.nt_why.proofs.timers.put_unset.Goals as goal

pub returns-clause-told : goal.returns-clause-told
returns-clause-told c =
    let q = c.args.course.now in
    let t = c.args.t in
    let rs = c.args.reasons.now.items in
    let r = NotSet t c.last_in-expired.result in
    on_ok (c.add.new.items.items ≡ rs ++ r ∷ []) (All (IsTrueOf q (thing.Timer t)) c.add.new.items.items) c.add.result
    (λ h. one_told (IsTrueOf q (thing.Timer t)) r rs _ c.requires.empty h (refl, (c.requires.set, sym c.last_in-expired.ensures))) c.add.ensures

pub returns-clause-whole : goal.returns-clause-whole
returns-clause-whole c =
    let q = c.args.course.now in
    let t = c.args.t in
    let rs = c.args.reasons.now.items in
    let r = NotSet t c.last_in-expired.result in
    on_ok (c.add.new.items.items ≡ rs ++ r ∷ []) (AreWholeOf q (thing.Timer t) c.add.new.items.items) c.add.result
    (λ h. unset_whole q t _ c.requires.set (head_one r rs _ c.requires.empty h ∙ ap (λ (n : Option ℕ). Some (NotSet t n)) c.last_in-expired.ensures))
    c.add.ensures
