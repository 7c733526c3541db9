-- Eligible requests: what may be delivered on a processor, in the words of the rules and not in the order of its next
-- event.
use Rattle.std.specs.Option.{option_map_or}
use Rattle.std.specs.Prelude.{Bool, List, None, Option, Some, false, is_none, nat_lt, not, ℕ, ◌&&◌, ◌==◌}
use Rattle.nt_event.specs.declared.commands.ApcKind.{ApcKind}
use Rattle.nt_event.specs.declared.commands.ApcKind.TheVariants.{User as UserApc}
use Rattle.nt_event.specs.declared.commands.Command.{Command}
use Rattle.nt_event.specs.declared.commands.Command.TheVariants as cmd
use Rattle.nt_event.specs.declared.commands.Refusal.{Refusal}
use Rattle.nt_event.specs.declared.commands.TimerKey.{TimerKey}
use Rattle.nt_event.specs.declared.commands.TimerKey.TheVariants as keys
use Rattle.nt_event.specs.declared.events.Begun.{Begun}
use Rattle.nt_event.specs.declared.events.Begun.TheVariants as begun
use Rattle.nt_event.specs.declared.events.Event.{Event}
use Rattle.nt_event.specs.declared.events.What.{What}
use Rattle.nt_event.specs.Frame.{Frame}
use Rattle.nt_event.specs.declared.inserts.Part.{Part}
use Rattle.nt_event.specs.declared.inserts.Part.TheVariants.{Ordinary as OrdinaryPart, Threaded as ThreadedPart}
use Rattle.nt_event.specs.declared.inserts.Pick.{Pick}
use Rattle.nt_event.specs.declared.numbers.ApcNo.{ApcNo}
use Rattle.nt_event.specs.declared.numbers.CpuNo.{CpuNo}
use Rattle.nt_event.specs.declared.numbers.DpcNo.{DpcNo}
use Rattle.nt_event.specs.declared.scripts.Script.{Script}
use Rattle.nt_event.specs.Apcs.{deliverable, first_user, has_kernel, is_of_apc}
use Rattle.nt_event.specs.Commands.{refusal}
use Rattle.nt_event.specs.Frames.{innermost, is_base_body, is_on_thread, thread_part}
use Rattle.nt_event.specs.Classes.{is_interrupt_level}
use Rattle.nt_event.specs.Jobs.{is_due, level_at}
use Rattle.nt_event.specs.Lanes.{Lanes, facts_of, lanes_at, queue_at}
use Rattle.nt_event.specs.Own.{Own, own_of}
use Rattle.nt_event.specs.Queues.{QueueState, first_dpc, is_of_dpc}
use Rattle.nt_event.specs.Regions.{regions_of}
use Rattle.nt_event.specs.Routines.{kind_of, next_command}
use Rattle.nt_event.specs.Timers.{first_due}
use Rattle.nt_event.specs.Lists.{is_null}
use Rattle.nt_event.specs.Families.{in_begin, in_expiry, in_flush}

pub data Request : Type 0 where
  IntRequest : ℕ → Request
  ExpiryRequest : TimerKey → Request
  DpcRequest : DpcNo → Request
  ThreadedRequest : DpcNo → Request
  KernelApcRequest : ApcNo → Request
  UserApcRequest : ApcNo → Request
  FlushRequest : ApcNo → Request

abbrev pub same_key : TimerKey → TimerKey → Bool
same_key (keys.Timer t) (keys.Timer u) = t.0 == u.0
same_key (keys.Delay t) (keys.Delay u) = t.0 == u.0
same_key (keys.Timer t) (keys.Delay u) = false
same_key (keys.Delay t) (keys.Timer u) = false

-- the DPC object is the first of p in its part
abbrev pub is_first_dpc : Part → DpcNo → QueueState → Bool
is_first_dpc part d q = option_map_or (is_of_dpc d) (first_dpc part q.pending) false

abbrev pub is_apc_pick : ApcNo → Option Pick → Bool
is_apc_pick a pick = option_map_or (is_of_apc a) pick false

-- the innermost frame is the base of the running thread
abbrev pub is_at_base : Own → Bool
is_at_base x = option_map_or (λ f. is_base_body f.body) (innermost x.frames) false

-- the frame's next command is `touser`, and it isn't refused
abbrev pub goes_to_user : Option Command → Option Refusal → Bool
goes_to_user (Some cmd.ToUser) refused = is_none refused
goes_to_user _ refused = false

abbrev pub is_at_touser : Script → CpuNo → Own → Frame → Bool
is_at_touser s p x f =
    goes_to_user (next_command s p f) (refusal (level_at x) (not (is_null x.frames.own))
    (regions_of (thread_part x.frames)) f cmd.ToUser)

-- the request may be delivered on p now
abbrev pub is_eligible : Script → CpuNo → Own → Lanes → Request → Bool
is_eligible s p x l (IntRequest level) = is_interrupt_level level && (is_due x level && nat_lt (level_at x) level)
is_eligible s p x l (ExpiryRequest key) =
    x.sweep && (option_map_or (λ k. same_key k.key key) (first_due l.timers) false && nat_lt (level_at x) 2)
is_eligible s p x l (DpcRequest d) = is_first_dpc OrdinaryPart d (queue_at l p) && nat_lt (level_at x) 2
is_eligible s p x l (ThreadedRequest d) =
    is_first_dpc ThreadedPart d (queue_at l p) && ((level_at x == 0) && is_null x.frames.own)
is_eligible s p x l (KernelApcRequest a) =
    is_on_thread x.frames && is_apc_pick a
    (deliverable (facts_of l x.frames.running).apcs (regions_of (thread_part x.frames)) (level_at x))
is_eligible s p x l (UserApcRequest a) =
    is_apc_pick a (first_user (facts_of l x.frames.running).apcs)
    && (is_at_base x && (option_map_or (is_at_touser s p x) (innermost x.frames) false
    && (facts_of l x.frames.running).user_pending))
is_eligible s p x l (FlushRequest a) =
    is_apc_pick a (first_user (facts_of l x.frames.running).apcs)
    && ((facts_of l x.frames.running).leaving
    && (is_at_base x && not (has_kernel (facts_of l x.frames.running).apcs)))

abbrev pub eligible : Script → CpuNo → Request → List Event → Bool
eligible s p r past = is_eligible s p (own_of s p past) (lanes_at s past) r

-- ---- what an event delivers

abbrev pub apc_request : ApcKind → ApcNo → Request
apc_request UserApc a = UserApcRequest a
apc_request kind a = KernelApcRequest a

abbrev pub begun_request : Script → Begun → Request
begun_request s (begun.Int level) = IntRequest level
begun_request s (begun.Dpc d) = DpcRequest d
begun_request s (begun.Threaded d) = ThreadedRequest d
begun_request s (begun.Apc a) = apc_request (kind_of s a) a

abbrev pub request_of : Script → What → Option Request
request_of s w =
    in_begin (λ b from. Some (begun_request s b))
    (in_expiry (λ key from. Some (ExpiryRequest key)) (in_flush (λ a from. Some (FlushRequest a)) None w) w) w
