use Rattle.std.proofs.Common.{◌++◌, ◌∷◌, [], ◌≡◌}
use Rattle.std.specs.List.{All}
use Rattle.std.specs.Prelude.{refl}
use Rattle.nt_why.specs.declared.reasons.Reason.TheVariants.{Runs}
use Rattle.nt_why.specs.declared.things.Thing.TheVariants as thing
use Rattle.nt_why.specs.Courses.{AreWholeOf, IsTrueOf}
use Rattle.nt_why.proofs.InterruptLines.{head_one}
use Rattle.nt_why.proofs.ThreadLines.{running_whole}
use Rattle.nt_why.proofs.Told.{on_ok, one_told}
use Rattle.nt_why.proofs.threads.put_running.Goals as goal

pub returns-clause-told : goal.returns-clause-told
returns-clause-told c =
    let q = c.args.course.now in
    let t = c.args.t in
    let rs = c.args.reasons.now.items in
    on_ok (c.add.new.items.items ≡ rs ++ Runs t ∷ []) (All (IsTrueOf q (thing.Thread t)) c.add.new.items.items) c.add.result
    (λ h. one_told (IsTrueOf q (thing.Thread t)) (Runs t) rs _ c.requires.none h (refl, c.requires.runs)) c.add.ensures

pub returns-clause-whole : goal.returns-clause-whole
returns-clause-whole c =
    let q = c.args.course.now in
    let t = c.args.t in
    let rs = c.args.reasons.now.items in
    on_ok (c.add.new.items.items ≡ rs ++ Runs t ∷ []) (AreWholeOf q (thing.Thread t) c.add.new.items.items) c.add.result
    (λ h. running_whole q c.args.p t _ c.requires.place c.requires.on.there c.requires.runs (head_one (Runs t) rs _ c.requires.none h)) c.add.ensures
