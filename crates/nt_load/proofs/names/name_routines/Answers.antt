use Rattle.std.proofs.Common.{[], refl, ◌∷◌}
use Rattle.std.specs.Prelude.{decimal}
use Rattle.nt_load.proofs.Spelled.{all_made, free_behind_one, free_means, free_of_things}
use Rattle.nt_load.proofs.names.name_routines.Goals as goal

pub add-requires : goal.add-requires
add-requires c =
    free_means (105 ∷ 100 ∷ 108 ∷ 101 ∷ []) _ (free_of_things 105 (100 ∷ 108 ∷ 101 ∷ []) _ c.requires refl refl refl refl refl refl)

pub name_things-requires : goal.name_things-requires
name_things-requires c = λ i l. free_means (98 ∷ decimal i) _
    (free_behind_one (98 ∷ decimal i) (105 ∷ 100 ∷ 108 ∷ 101 ∷ []) _ _ c.in_ok-add.ensures refl
    (free_of_things 98 (decimal i) _ c.requires refl refl refl refl refl refl))

pub returns : goal.returns
returns c = all_made _ _ _ c.requires c.in_ok-add.ensures c.in_ok-name_things.ensures
