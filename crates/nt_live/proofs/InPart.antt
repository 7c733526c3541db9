-- An event of a history stands in its processor's part.
use Rattle.std.proofs.Common.{ap}
use Rattle.std.proofs.lemmas.Bool.{eq-eqb}
use Rattle.std.specs.Prelude.{Bool, List, [], false, if◌then◌else◌, length, refl, true, ◌++◌, ◌∷◌, ◌≡◌}
use Rattle.nt_event.specs.Numbers.{is_of}
use Rattle.nt_compose.specs.Composition.{Placed}
use Rattle.nt_compose.specs.Parts.{IsTail, Numbered, part}

abbrev pub Here : Placed → List Placed → Numbered
Here y past = record { number = length past; placed = y }

-- an event stands in its processor's part
pub in_part : (front past : List Placed) (y : Placed) → IsTail (Here y past ∷ part y.event.cpu past) (part y.event.cpu (front ++ y ∷ past))
in_part [] past y = let h : is_of y.event y.event.cpu ≡ true = eq-eqb y.event.cpu.0 y.event.cpu.0 refl in ([], rw h refl)
in_part (z ∷ front) past y = go (is_of z.event y.event.cpu) (in_part front past y)
  where
    go : (b : Bool) → IsTail (Here y past ∷ part y.event.cpu past) (part y.event.cpu (front ++ y ∷ past)) →
        IsTail (Here y past ∷ part y.event.cpu past) (if b then (Here z (front ++ y ∷ past) ∷ part y.event.cpu (front ++ y ∷ past))
        else part y.event.cpu (front ++ y ∷ past))
    go true t = (Here z (front ++ y ∷ past) ∷ t.0, ap (λ (l : List Numbered). Here z (front ++ y ∷ past) ∷ l) t.1)
    go false t = t
