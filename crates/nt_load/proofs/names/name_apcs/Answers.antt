use Rattle.std.proofs.Common.{refl, ◌∷◌}
use Rattle.std.specs.Prelude.{decimal}
use Rattle.nt_line.specs.declared.names.Kind.TheVariants as kind
use Rattle.nt_load.proofs.Spelled.{free_behind, free_means, free_of_objects, things_made}
use Rattle.nt_load.proofs.names.name_apcs.Goals as goal

pub name_things-requires : goal.name_things-requires
name_things-requires c = λ i l. free_means (115 ∷ decimal i) _ (free_of_objects 115 (decimal i) _ c.requires refl refl refl)

pub name_things-requires-2 : goal.name_things-requires-2
name_things-requires-2 c = λ i l. free_means (110 ∷ decimal i) _
    (free_behind kind.Apc 115 32 110 (decimal i) _ _ c.in_ok-name_things.ensures refl
    (free_of_objects 110 (decimal i) _ c.requires refl refl refl))

pub name_things-requires-3 : goal.name_things-requires-3
name_things-requires-3 c = λ i l. free_means (117 ∷ decimal i) _
    (free_behind kind.Apc 110 32 117 (decimal i) _ _ c.in_ok-name_things-2.ensures refl
    (free_behind kind.Apc 115 32 117 (decimal i) _ _ c.in_ok-name_things.ensures refl
    (free_of_objects 117 (decimal i) _ c.requires refl refl refl)))

pub returns : goal.returns
returns c =
    things_made _ _ _ _ c.requires c.in_ok-name_things.ensures c.in_ok-name_things-2.ensures c.in_ok-name_things-3.ensures
