-- What a processor keeps: the questions about its own part of the history.
use Rattle.std.specs.Prelude.{Bool, List, None, Option, Some, [], false, if◌then◌else◌, true, ℕ, ◌+◌, ◌∷◌}
use Rattle.nt_event.specs.declared.commands.TimerKey.TheVariants as keys
use Rattle.nt_event.specs.declared.events.Event.{Event}
use Rattle.nt_event.specs.declared.events.What.{What}
use Rattle.nt_event.specs.declared.jobs.Stand.{Stand}
use Rattle.nt_event.specs.declared.numbers.CpuNo.{CpuNo}
use Rattle.nt_event.specs.declared.numbers.DpcNo.{DpcNo}
use Rattle.nt_event.specs.declared.numbers.ThreadNo.{ThreadNo}
use Rattle.nt_event.specs.declared.scripts.Script.{Script}
use Rattle.nt_event.specs.Frames.{Frames, frames_after, frames_of}
use Rattle.nt_event.specs.Regions.{owes_sweep, stand_of, sweep_after}
use Rattle.nt_event.specs.Requests.{asked, seen, seen_after, served, served_after, told}
use Rattle.nt_event.specs.Routines.{dpc_of}
use Rattle.nt_event.specs.Numbers.{is_of}
use Rattle.nt_event.specs.Lists.{table, value_at}
use Rattle.nt_event.specs.Families.{in_expiry, in_fire, in_rest, in_switch}
use Rattle.nt_event.specs.declared.commands.TimerKey.{TimerKey}

-- how many events the processor has made
abbrev pub made : CpuNo → List Event → ℕ
made p [] = 0
made p (e ∷ past) = if is_of e p then made p past + 1 else made p past

abbrev pub is_rest : What → Bool
is_rest w = in_rest true false w

-- its last event is Rest
abbrev pub rested : CpuNo → List Event → Bool
rested p [] = false
rested p (e ∷ past) = if is_of e p then is_rest e.what else rested p past

abbrev pub took_after : What → Option ThreadNo → Option ThreadNo
took_after w old = in_switch (λ t status. Some t) old w

-- the thread that it took up last
abbrev pub took : CpuNo → List Event → Option ThreadNo
took p [] = None
took p (e ∷ past) = if is_of e p then took_after e.what (took p past) else took p past

abbrev pub fire_of : Script → TimerKey → Option DpcNo
fire_of s (keys.Timer t) = dpc_of s t
fire_of s (keys.Delay t) = None

-- profile: an expiry inserts the timer's DPC by the next event but a Look of that processor
abbrev pub fire_after : Script → What → Option DpcNo → Option DpcNo
fire_after s w old = in_expiry (λ key from. fire_of s key) (in_fire (λ d y. None) old w) w

-- the DPC that it has to fire
abbrev pub fire : Script → CpuNo → List Event → Option DpcNo
fire s p [] = None
fire s p (e ∷ past) = if is_of e p then fire_after s e.what (fire s p past) else fire s p past

-- what a processor keeps: how many events it made, its frames, what it has seen and served of each class, whether its
-- last event is Rest, the thread that it took last, the DPC that it has to fire, whether it owes a sweep of the timers
pub record Own : Type 0 where
  pub made : ℕ
  pub frames : Frames
  pub seen : List ℕ
  pub served : List ℕ
  pub rested : Bool
  pub took : Option ThreadNo
  pub fire : Option DpcNo
  pub sweep : Bool

abbrev pub own_of : Script → CpuNo → List Event → Own
own_of s p past =
    record {
      made = made p past;
      frames = frames_of s p past;
      seen = table 16 (λ c. seen s p c past);
      served = table 16 (λ c. served s p c past);
      rested = rested p past;
      took = took p past;
      fire = fire s p past;
      sweep = owes_sweep p past;
    }

-- what an event of the processor with this number and due time leaves, where it asks for these classes of the processor
-- and touches lanes that tell these values
abbrev pub own_after_event : Script → ℕ → Option ℕ → Event → (ℕ → Bool) → (ℕ → ℕ) → Own → Own
own_after_event s n due e asked told x =
    record {
      made = x.made + 1;
      frames = frames_after s n due e x.frames;
      seen = table 16 (λ c. seen_after n e.what c (asked c) (told c) (value_at x.seen c));
      served = table 16 (λ c. served_after e.what c (seen_after n e.what c (asked c) (told c) (value_at x.seen c))
          (value_at x.served c));
      rested = is_rest e.what;
      took = took_after e.what x.took;
      fire = fire_after s e.what x.fire;
      sweep = sweep_after e.what x.sweep;
    }

-- where the processor stands
abbrev pub stand_in : CpuNo → Own → Stand
stand_in p x = stand_of p x.frames x.sweep
