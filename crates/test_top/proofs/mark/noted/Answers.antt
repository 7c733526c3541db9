use Rattle.std.proofs.Common.{ℕ, List, sym, subst, Contains}
use Rattle.nt_mark.specs.declared.view.Note.{Note}
use Rattle.nt_mark.specs.Rule.{IsAbove}
use Rattle.nt_mark.specs.Names.{keeper_view, pass_view, keeper_notes}
use Rattle.nt_mark.proofs.Sharing.{told_entry}
use Rattle.nt_mark.proofs.Noting.{IsAbove-push}
use Rattle.test_top.proofs.mark.noted.Goals as goal

pub note-requires-clause-knows : goal.note-requires-clause-knows
note-requires-clause-knows c =
    let d = c.requires.drew in
    let told = told_entry (pass_view c.args.pass.now) (keeper_view c.args.keeper.now) (pass_view c.share.new.pass)
    (keeper_view c.share.new.keeper) d.0 c.share.ensures.entries d.1 in
    (d.0, told, d.2, subst (λ (x : ℕ). Contains d.0.lanes x) (sym c.share.ensures.same.2) d.3)

pub returns-clause-last : goal.returns-clause-last
returns-clause-last c = λ m above. subst (λ (l : List Note). IsAbove m l) (sym c.note.ensures.notes) (IsAbove-push m (keeper_notes c.share.new.keeper) _ above)
