use Rattle.std.proofs.Common.{◌+◌, ◌∙◌, List, ap, map, refl, subst, sym}
use Rattle.std.specs.Prelude.{filter}
use Rattle.nt_work.specs.declared.change.Change.{Change}
use Rattle.nt_work.specs.declared.change.Change.TheVariants.{Takes}
use Rattle.nt_work.specs.declared.change.Insert.{Insert}
use Rattle.nt_work.specs.Changes.{RiseBelow, after_change, inserted_of, stays_by}
use Rattle.nt_work.proofs.Rising.{rise_on, rise_one, rise_some}
use Rattle.nt_work.proofs.Walks.{inserted_one, nothing_done, uses_only}
use Rattle.nt_work.proofs.waiting.note.Goals as goal

pub returns-in_ok-push-in-Inserts-clause-noted : goal.returns-in_ok-push-in-Inserts-clause-noted
returns-in_ok-push-in-Inserts-clause-noted c =
    let old = c.args.pending.now.items in
    ap (map inserted_of) c.in_ok-push-in-Inserts.ensures.items
    ∙ inserted_one old (record { number = c.args.number; object = c.in-Inserts.object })
    ∙ ap (λ (x : Change). after_change x c.args.number (map inserted_of old)) (sym c.in-Inserts.is)

pub returns-in-Removes-clause-noted : goal.returns-in-Removes-clause-noted
returns-in-Removes-clause-noted c = uses_only c.args.change c.args.number c.args.pending.now.items _ (rw c.in-Removes.is refl) c.keep_others.ensures.kept

pub returns-in-Takes-clause-noted : goal.returns-in-Takes-clause-noted
returns-in-Takes-clause-noted c =
    uses_only c.args.change c.args.number c.args.pending.now.items _ (rw c.in-Takes.is refl) (c.take_away.ensures.kept ∙ rw c.in-Takes.is refl)

pub returns-in-Nothing-clause-noted : goal.returns-in-Nothing-clause-noted
returns-in-Nothing-clause-noted c = rw c.in-Nothing.is (nothing_done c.args.number (map inserted_of c.args.pending.now.items))

pub returns-in_ok-push-in-Inserts-clause-rise : goal.returns-in_ok-push-in-Inserts-clause-rise
returns-in_ok-push-in-Inserts-clause-rise c =
    subst (λ (xs : List Insert). RiseBelow (c.args.number + 1) xs) (sym c.in_ok-push-in-Inserts.ensures.items)
    (rise_one c.args.number c.args.pending.now.items (record { number = c.args.number; object = c.in-Inserts.object }) c.requires refl)

pub returns-in-Removes-clause-rise : goal.returns-in-Removes-clause-rise
returns-in-Removes-clause-rise c =
    subst (λ (xs : List Insert). RiseBelow (c.args.number + 1) xs) (sym c.keep_others.ensures.kept)
    (rise_on c.args.number (filter (stays_by c.args.change) c.args.pending.now.items)
    (rise_some c.args.number (stays_by c.args.change) c.args.pending.now.items c.requires))

pub returns-in-Takes-clause-rise : goal.returns-in-Takes-clause-rise
returns-in-Takes-clause-rise c =
    subst (λ (xs : List Insert). RiseBelow (c.args.number + 1) xs) (sym c.take_away.ensures.kept)
    (rise_on c.args.number (filter (stays_by (Takes c.in-Takes.taken)) c.args.pending.now.items)
    (rise_some c.args.number (stays_by (Takes c.in-Takes.taken)) c.args.pending.now.items c.requires))

pub returns-in-Nothing-clause-rise : goal.returns-in-Nothing-clause-rise
returns-in-Nothing-clause-rise c = rise_on c.args.number c.args.pending.now.items c.requires
