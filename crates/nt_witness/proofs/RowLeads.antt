-- The first two turns of the worked row raise-queue-lower, for the tests.
use Rattle.std.proofs.Common.{subst, sym}
use Rattle.std.specs.Prelude.{List, [], refl, ◌∷◌, ◌≡◌}
use Rattle.nt_event.specs.declared.events.Event.{Event}
use Rattle.nt_event.specs.declared.events.Turn.{Turn}
use Rattle.nt_event.specs.declared.events.Turn.TheVariants.{Next, Switch}
use Rattle.nt_event.specs.declared.scripts.Script.{Script}
use Rattle.nt_event.specs.Lists.{table_from}
use Rattle.nt_event.specs.Numbers.{cpu, thread}
use Rattle.nt_rows.specs.RaiseQueueLower.{script}
use Rattle.nt_alike.specs.RaiseQueueLower.{raised}
use Rattle.nt_witness.specs.Leads.{Lead}

-- its thread is taken up, and raises the level
abbrev pub first_turns : List Turn
first_turns = Switch (cpu 0) (thread 0) ∷ Next (cpu 0) ∷ []

-- the first two turns of the worked row raise-queue-lower lead from the start to the raised history
row_leads : Lead script first_turns [] raised
unfolding table_from
row_leads = (_, refl, (_, refl, refl))

-- the first two turns of the worked row raise-queue-lower lead from the start to some history
pub first_turns_lead : (s : Script) → s ≡ script → (h : List Event) × Lead s first_turns [] h
first_turns_lead s e = (raised, subst (λ (x : Script). Lead x first_turns [] raised) (sym e) row_leads)
