-- What an event leaves of the number of a pending insert.
use Rattle.std.specs.Prelude.{Bool, List, None, Some, false, if◌then◌else◌, length, option_map, refl, true, ◌∷◌, ◌≡◌}
use Rattle.nt_event.specs.declared.events.Event.{Event}
use Rattle.nt_event.specs.declared.numbers.DpcNo.{DpcNo}
use Rattle.nt_event.specs.Objects.{inserted_dpc, is_dpc, queue_for, standing, target_of, used_up_dpc}
use Rattle.nt_left.specs.Walks.{number_after, number_of}

-- an event leaves of the number what it leaves of where the insert stands
pub number_moves : (d : DpcNo) (e : Event) (past : List Event) → number_of d (e ∷ past) ≡ number_after d (length past) e.what (number_of d past)
number_moves d e past = go (is_dpc (inserted_dpc e.what) d) (is_dpc (used_up_dpc e.what) d)
  where
    go : (b c : Bool) → option_map (λ x. x.number) (if b then Some (record { queue = queue_for (target_of d past) e.cpu; number = length past })
        else (if c then None else standing d past))
        ≡ (if b then Some (length past) else (if c then None else option_map (λ x. x.number) (standing d past)))
    go true c = refl
    go false true = refl
    go false false = refl
