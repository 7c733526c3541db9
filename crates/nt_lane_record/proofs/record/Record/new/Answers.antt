use Rattle.std.proofs.Common.{ap, subst, sym, ◌∙◌}
use Rattle.std.proofs.lemmas.List.{length-replicate}
use Rattle.std.specs.Prelude.{Contains, List, [], length, replicate, ℕ, ◌*◌, ◌≡◌}
use Rattle.nt_mark.specs.declared.view.Note.{Note}
use Rattle.nt_mark.specs.Names.{keeper_view}
use Rattle.nt_mark.specs.Rule.{IsAbove}
use Rattle.nt_mark.specs.Views.{note_numbers, reach, step_word}
use Rattle.nt_lane_record.proofs.Rows.{nothing_known}
use Rattle.nt_lane_record.proofs.Tying.{no_item}
use Rattle.nt_lane_record.proofs.record.Record.new.Goals as goal

pub invariant_of-result : goal.invariant_of-result
invariant_of-result g c =
    let k = c.requires.keeper in
    let told = c.in_ok-told.told.items in
    let zeros : told ≡ replicate (c.args.cpus * 16) 0 = c.in_ok-told.ensures
    ∙ ap (λ (n : ℕ). replicate (n * 16) 0) c.from-count.ensures in
    let none : c.new.result.items ≡ [] = c.new.ensures.items in (
      ap length zeros ∙ (length-replicate (c.args.cpus * 16) 0 ∙ ap (λ (n : ℕ). n * 16) c.requires.cpus),
      record {
        at = k.table_is;
        its_lane_is = k.lane_is;
        numbers = none ∙ ap note_numbers (sym k.notes);
        known = λ x h. no_item c.args.number (keeper_view c.args.keeper) x (subst (λ (l : List ℕ). Contains l x) none h);
        above = subst (λ (l : List Note). IsAbove (reach step_word (keeper_view c.args.keeper)) l) (sym k.notes) tt;
        asked = nothing_known g.N.Plan.script.cpus (c.args.cpus * 16) told (keeper_view c.args.keeper) zeros;
      },
    )
