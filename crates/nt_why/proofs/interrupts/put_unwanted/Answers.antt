use Rattle.std.proofs.Common.{ap, ◌++◌, ◌∙◌, ◌∷◌, [], ◌≡◌, ℕ}
use Rattle.std.specs.List.{All}
use Rattle.nt_why.specs.declared.reasons.Reason.TheVariants.{NotAsked}
use Rattle.nt_why.specs.declared.things.Thing.TheVariants as thing
use Rattle.nt_why.specs.Courses.{AreWholeOf, IsTrueOf, past_on}
use Rattle.nt_why.proofs.InterruptLines.{head_one, unwanted, unwanted_whole}
use Rattle.nt_why.proofs.Told.{on_ok, one_told}
use Rattle.std.specs.Prelude.{refl}
use Rattle.nt_why.proofs.interrupts.put_unwanted.Goals as goal

pub returns-clause-told : goal.returns-clause-told
returns-clause-told c =
    let q = c.args.course.now in
    let p = c.args.p in
    let l = c.args.level in
    let rs = c.args.reasons.now.items in
    let r = NotAsked (record { cpu = p; class = l }) in
    let same = ap (λ (z : ℕ). rs ++ NotAsked (record { cpu = p; class = z }) ∷ []) c.number.ensures.same in
    on_ok (c.add.new.items.items ≡ rs ++ NotAsked (record { cpu = p; class = c.number.result }) ∷ [])
    (All (IsTrueOf q (thing.Interrupt p l)) c.add.new.items.items) c.add.result
    (λ h.
    one_told (IsTrueOf q (thing.Interrupt p l)) r rs _ c.requires.none (h ∙ same) (unwanted q.script.now (past_on q) p l c.requires.unwanted, (refl, refl)))
    c.add.ensures

pub returns-clause-whole : goal.returns-clause-whole
returns-clause-whole c =
    let q = c.args.course.now in
    let p = c.args.p in
    let l = c.args.level in
    let rs = c.args.reasons.now.items in
    let r = NotAsked (record { cpu = p; class = l }) in
    let same = ap (λ (z : ℕ). rs ++ NotAsked (record { cpu = p; class = z }) ∷ []) c.number.ensures.same in
    on_ok (c.add.new.items.items ≡ rs ++ NotAsked (record { cpu = p; class = c.number.result }) ∷ [])
    (AreWholeOf q (thing.Interrupt p l) c.add.new.items.items) c.add.result
    (λ h. unwanted_whole q p l _ c.requires.on.there c.requires.unwanted (head_one r rs _ c.requires.none (h ∙ same))) c.add.ensures
