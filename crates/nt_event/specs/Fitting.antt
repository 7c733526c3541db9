-- Which events name things of the script: each number in the event is that of a thing of the script's list.
use Rattle.std.specs.List.{list_all}
use Rattle.std.specs.Prelude.{Bool, List, true, ◌&&◌}
use Rattle.nt_event.specs.declared.commands.TimerKey.{TimerKey}
use Rattle.nt_event.specs.declared.commands.TimerKey.TheVariants as keys
use Rattle.nt_event.specs.declared.events.Begun.{Begun}
use Rattle.nt_event.specs.declared.events.Begun.TheVariants as begun
use Rattle.nt_event.specs.declared.events.Event.{Event}
use Rattle.nt_event.specs.declared.events.What.{What}
use Rattle.nt_event.specs.declared.events.What.TheVariants as what
use Rattle.nt_event.specs.declared.scripts.Script.{Script}
use Rattle.nt_event.specs.Script.{command_fits, has_apc, has_cpu, has_dpc, has_lock, has_thread, has_timer, where_given}

abbrev pub begun_fits : Script → Begun → Bool
begun_fits s (begun.Int level) = true
begun_fits s (begun.Dpc d) = has_dpc s d
begun_fits s (begun.Threaded d) = has_dpc s d
begun_fits s (begun.Apc a) = has_apc s a

abbrev pub key_fits : Script → TimerKey → Bool
key_fits s (keys.Timer t) = has_timer s t
key_fits s (keys.Delay t) = has_thread s t

abbrev pub what_fits : Script → What → Bool
what_fits s (what.Call frame c reply) = command_fits s c
what_fits s (what.Look rises) = true
what_fits s (what.Begin begun from) = begun_fits s begun
what_fits s (what.Normal frame) = true
what_fits s (what.End frame) = true
what_fits s (what.Expire key from) = key_fits s key
what_fits s (what.Fire d reply) = has_dpc s d
what_fits s (what.Clean class) = true
what_fits s (what.Switch t status) = has_thread s t
what_fits s (what.Rewait frame reply) = true
what_fits s (what.Flush a from) = has_apc s a
what_fits s (what.Gone t) = has_thread s t
what_fits s (what.Free f k) = has_lock s k
what_fits s what.Rest = true

abbrev pub event_fits : Script → Event → Bool
event_fits s e = has_cpu s e.cpu && where_given (has_thread s) e.thread && what_fits s e.what

abbrev pub events_fit : Script → List Event → Bool
events_fit s events = list_all (event_fits s) events
