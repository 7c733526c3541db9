-- What passes keep when they learn, draw, mark and look.
use Rattle.std.proofs.Common.{arith, inl, inr, subst, sym}
use Rattle.std.proofs.lemmas.List.Elements.{Contains-push_cases}
use Rattle.std.specs.Prelude.{Contains, List, [], ℕ, ◌<◌, ◌≡◌, ◌⊎◌}
use Rattle.nt_mark.specs.declared.view.Entry.{Entry}
use Rattle.nt_mark.specs.declared.view.View.{View}
use Rattle.nt_event.specs.declared.events.Event.{Event}
use Rattle.nt_mark.specs.Views.{drawn, entry}
use Rattle.nt_lane.specs.Seats.{AreListed, IsListedOn}
use Rattle.nt_lane_record.specs.Passes.{Grows}

-- the lists that are known may be more
pub listed_grows : (v w : View) → w.entries ≡ v.entries → Grows v w → AreListed v → AreListed w
listed_grows v w same g h e i lane k =
    let o = h e (subst (λ (es : List Entry). Contains es e) same i) lane k in (o.0, g.prefixes o.0 o.1, o.2, o.3)

-- an event that touches no lane
pub listed_drawn : (v : View) (n : ℕ) (event : Event) → AreListed v → AreListed (drawn v n event [])
listed_drawn v n event h e i lane k = go (Contains-push_cases v.entries (entry n event []) e i)
  where
    go : Contains v.entries e ⊎ (entry n event [] ≡ e) → IsListedOn (drawn v n event []) e.number lane
    go (inl a) = h e a lane k
    go (inr a) =
        let none : Contains [] lane = subst (λ (x : Entry). Contains x.lanes lane) (sym a) k in
        absurd (let z : none.0 < 0 = none.1 in omega (arith, z))
