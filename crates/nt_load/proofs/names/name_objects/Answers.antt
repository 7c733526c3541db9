use Rattle.std.proofs.Common.{refl, ◌∷◌}
use Rattle.std.specs.Prelude.{decimal}
use Rattle.nt_line.specs.declared.names.Kind.TheVariants as kind
use Rattle.nt_load.proofs.Spelled.{free_behind, free_first, free_means, objects_made}
use Rattle.nt_load.proofs.names.name_objects.Goals as goal

pub name_things-requires : goal.name_things-requires
name_things-requires c = λ i l. free_means (100 ∷ decimal i) _ (free_first (100 ∷ decimal i) _ c.requires)

pub name_things-requires-2 : goal.name_things-requires-2
name_things-requires-2 c = λ i l. free_means (107 ∷ decimal i) _
    (free_behind kind.Dpc 100 32 107 (decimal i) _ _ c.in_ok-name_things.ensures refl
    (free_first (107 ∷ decimal i) _ c.requires))

pub name_things-requires-3 : goal.name_things-requires-3
name_things-requires-3 c = λ i l. free_means (116 ∷ decimal i) _
    (free_behind kind.Timer 107 8 116 (decimal i) _ _ c.in_ok-name_things-2.ensures refl
    (free_behind kind.Dpc 100 32 116 (decimal i) _ _ c.in_ok-name_things.ensures refl
    (free_first (116 ∷ decimal i) _ c.requires)))

pub returns : goal.returns
returns c =
    objects_made _ _ _ _ c.requires c.in_ok-name_things.ensures c.in_ok-name_things-2.ensures c.in_ok-name_things-3.ensures
