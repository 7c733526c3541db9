use Rattle.nt_event.specs.declared.events.Turn.TheVariants.{Switch}
use Rattle.nt_event.specs.Numbers.{thread}
use Rattle.nt_ahead.proofs.Plain.{first_turn, further_turn}
use Rattle.nt_ahead.proofs.turns.add_plain.Goals as goal

pub loop-place-init : goal.loop-place-init
loop-place-init c = first_turn _ _ _ (λ t. Switch c.args.cpu (thread t)) c.in_ok-push.ensures.items

pub loop-place-preserved : goal.loop-place-preserved
loop-place-preserved c = further_turn _ _ _ _ (λ t. Switch c.args.cpu (thread t)) _ c.loop-place.invariant c.in_ok-push-2.ensures.items
