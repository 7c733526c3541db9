use Rattle.std.proofs.Common.{ap, sym, ◌∙◌}
use Rattle.std.specs.Prelude.{List, filter, map, not, refl, reverse, ◌==◌, ◌≡◌}
use Rattle.nt_event.specs.declared.inserts.Insert.{Insert}
use Rattle.nt_event.specs.declared.numbers.DpcNo.{DpcNo}
use Rattle.nt_event.specs.Queues.{is_of_dpc, without_dpc}
use Rattle.nt_event.proofs.Reversed.{filter-reverse}
use Rattle.nt_alike.proofs.Mapped.{filter_map}
use Rattle.nt_shade_dpcs.specs.declared.queues.ShadeInsert.{ShadeInsert}
use Rattle.nt_shade_dpcs.specs.Shades.{insert_said}
use Rattle.nt_shade_dpcs.proofs.queues.ShadeQueue.remove.Goals as goal

-- the inserts of other objects, in the order of the definitions
kept : (d : DpcNo) (xs : List ShadeInsert) →
    map insert_said (reverse (filter (λ (x : ShadeInsert). not (x.dpc.0 == d.0)) xs)) ≡ without_dpc d (map insert_said (reverse xs))
kept d xs =
    ap (map insert_said) (sym (filter-reverse (λ (x : ShadeInsert). not (x.dpc.0 == d.0)) xs))
    ∙ sym (filter_map insert_said (λ (x : ShadeInsert). not (x.dpc.0 == d.0)) (λ (x : Insert). not (is_of_dpc d x)) (λ x. refl) (reverse xs))

pub returns : goal.returns
returns c = rw (c.keep_others.ensures, kept c.args.d c.args.self.now.pending.items) refl
