-- Deliveries are eligible.
use Rattle.std.specs.Prelude.{List, Some, true, ℕ, ◌∷◌, ◌≡◌}
use Rattle.nt_event.specs.declared.events.Event.{Event}
use Rattle.nt_event.specs.declared.scripts.Script.{Script}
use Rattle.nt_event.specs.Eligible.{Request, eligible, request_of}
use Rattle.nt_event.specs.Step.{IsRun}

-- in a run each Begin, Expire and Flush delivers a request that was eligible just before it
abbrev pub DeliveriesAreEligible : Type 0
DeliveriesAreEligible = (s : Script) (limit : ℕ) (e : Event) (past : List Event) (r : Request) →
    IsRun s limit (e ∷ past) → request_of s e.what ≡ Some r → eligible s e.cpu r past ≡ true
