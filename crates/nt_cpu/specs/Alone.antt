-- Events that touch no lane: which they are, their level, and what they ask for, by where their processor stands.
use Rattle.std.specs.Prelude.{Bool, IfSome, List, None, Option, Some, [], false, if◌then◌else◌, max, not, option_map}
use Rattle.std.specs.Prelude.{true, ℕ, ◌&&◌, ◌+◌, ◌<◌, ◌==◌, ◌||◌, ◌∷◌, ◌≡◌}
use Rattle.nt_event.specs.declared.commands.ApcKind.TheVariants.{User as UserApc}
use Rattle.nt_event.specs.declared.commands.Command.{Command}
use Rattle.nt_event.specs.declared.commands.Reply.{Reply}
use Rattle.nt_event.specs.declared.events.Begun.TheVariants.{Apc, Dpc, Int, Threaded}
use Rattle.nt_event.specs.declared.events.What.{What}
use Rattle.nt_event.specs.declared.events.What.TheVariants.{Begin, Call, Clean, End, Expire, Fire, Flush, Free, Gone}
use Rattle.nt_event.specs.declared.events.What.TheVariants.{Look, Normal, Rest, Rewait, Switch}
use Rattle.nt_event.specs.declared.frames.Body.{Body}
use Rattle.nt_event.specs.declared.frames.Body.TheVariants.{Apc as OnApc, Base as OnBase}
use Rattle.nt_event.specs.declared.jobs.Stand.{Stand}
use Rattle.nt_event.specs.declared.numbers.CpuNo.{CpuNo}
use Rattle.nt_event.specs.Commands.{needs_lane}
use Rattle.nt_event.specs.Frames.{Frames, innermost, is_normal_apc_body, level_in}
use Rattle.nt_event.specs.Regions.{ended_level_in, some_came_to_0}
use Rattle.nt_event.specs.Requests.{Ask}
use Rattle.nt_event.specs.Replies.{is_done, is_refused}
use Rattle.nt_event.specs.Lists.{value_at}
use Rattle.nt_event.specs.declared.events.Event.{Event}
use Rattle.nt_event.specs.Own.{Own, stand_in}
use Rattle.nt_event.specs.Step.{thread_field}
use Rattle.nt_floor.specs.Views.{IsDrawn, IsMarked, View}
use Rattle.nt_event.specs.declared.class.Asked.{Asked}
use Rattle.nt_cpu.specs.Fits.{Allow}
use Rattle.nt_cpu.specs.Leaves.{own_with}
use Rattle.nt_cpu.specs.States.{CpuState}
use Rattle.nt_event.specs.Families.{AdvanceTime, CritEntered, CritLeft, EnterUser, GuardEntered, GuardLeft, LevelCall}
use Rattle.nt_event.specs.Families.{LowerTo, PlainCall, RaiseTo, RegionCall, RequestAt, WriteNote, by_level_call}
use Rattle.nt_event.specs.Families.{by_plain_call, by_region_call}
use Rattle.nt_event.specs.Classes.{apc_class}

-- the end of the frame touches no lane: it is neither a base nor a user APC
abbrev pub ends_alone : Option Body → Bool
ends_alone (Some (OnBase t)) = false
ends_alone (Some (OnApc a UserApc)) = false
ends_alone (Some b) = true
ends_alone None = false

-- the event touches no lane, of a processor in whose innermost frame this runs
abbrev pub is_alone : Option Body → What → Bool
is_alone b (Call f c y) = is_refused y || (not (needs_lane c) && is_done y)
is_alone b (Begin (Int level) from) = true
is_alone b (Normal f) = true
is_alone b (End f) = ends_alone b
is_alone b (Look r) = true
is_alone b (Begin (Dpc d) from) = false
is_alone b (Begin (Threaded d) from) = false
is_alone b (Begin (Apc a) from) = false
is_alone b (Expire key from) = false
is_alone b (Fire d y) = false
is_alone b (Clean class) = false
is_alone b (Switch t status) = false
is_alone b (Rewait f y) = false
is_alone b (Flush a from) = false
is_alone b (Gone t) = false
is_alone b (Free f k) = false
is_alone b Rest = false

abbrev pub level_given : LevelCall → ℕ
level_given (RaiseTo level) = level
level_given (LowerTo level) = level

-- the processor's level after it
abbrev pub call_level : Command → Reply → ℕ → ℕ
call_level c y old = by_level_call (λ k. if is_done y then level_given k else old) old c

abbrev pub alone_level : What → Frames → ℕ
alone_level (Call f c y) x = call_level c y (level_in x)
alone_level (Begin (Int level) from) x = level
alone_level (Normal f) x = 0
alone_level (End f) x = ended_level_in x
alone_level (Look r) x = 0
alone_level (Begin (Dpc d) from) x = level_in x
alone_level (Begin (Threaded d) from) x = level_in x
alone_level (Begin (Apc a) from) x = level_in x
alone_level (Expire key from) x = level_in x
alone_level (Fire d y) x = level_in x
alone_level (Clean class) x = level_in x
alone_level (Switch t status) x = level_in x
alone_level (Rewait f y) x = level_in x
alone_level (Flush a from) x = level_in x
alone_level (Gone t) x = level_in x
alone_level (Free f k) x = level_in x
alone_level Rest x = level_in x

-- ---- what it asks for: nothing, or a class of a processor

abbrev pub ask_when : Bool → CpuNo → ℕ → Option Asked
ask_when true p c = Some (record { cpu = p; class = c })
ask_when false p c = None

abbrev pub region_ask : Stand → RegionCall → Reply → Option Asked
region_ask st CritLeft y = if is_done y then ask_when (st.regions.crit == 1) st.cpu apc_class else None
region_ask st GuardLeft y = if is_done y then ask_when (st.regions.guard == 1) st.cpu apc_class else None
region_ask st CritEntered y = None
region_ask st GuardEntered y = None

abbrev pub plain_ask : PlainCall → Reply → Option Asked
plain_ask (RequestAt q level) y = ask_when (is_done y) q level
plain_ask (AdvanceTime units) y = None
plain_ask EnterUser y = None
plain_ask (WriteNote n) y = None

abbrev pub call_asks : Stand → Command → Reply → Option Asked
call_asks st c y = by_region_call (λ k. region_ask st k y) (by_plain_call (λ k. plain_ask k y) None c) c

abbrev pub is_normal_end : Option Body → Bool
is_normal_end (Some b) = is_normal_apc_body b
is_normal_end None = false

abbrev pub alone_asks : Stand → What → Option Asked
alone_asks st (Call f c y) = call_asks st c y
alone_asks st (Normal f) = ask_when (some_came_to_0 st.regions st.below) st.cpu 1
alone_asks st (End f) = ask_when (is_normal_end st.body || some_came_to_0 st.regions st.below) st.cpu 1
alone_asks st (Look r) = None
alone_asks st (Begin b from) = None
alone_asks st (Expire key from) = None
alone_asks st (Fire d y) = None
alone_asks st (Clean class) = None
alone_asks st (Switch t status) = None
alone_asks st (Rewait f y) = None
alone_asks st (Flush a from) = None
alone_asks st (Gone t) = None
alone_asks st (Free f k) = None
alone_asks st Rest = None

abbrev pub as_list : Option Asked → List Ask
as_list None = []
as_list (Some a) = record { cpu = a.cpu; class = a.class } ∷ []

-- ---- what it leaves

-- its event was marked as asking for this
abbrev pub IsMarkedFor : Option Asked → ℕ → View → View → Type 0
IsMarkedFor None n v w = w ≡ v
IsMarkedFor (Some a) n v w = IsMarked a.cpu a.class n v w

-- what is noticed of a class beside what was seen: the values of a Look, and the processor's own ask
abbrev pub noticed : CpuNo → What → Option Asked → ℕ → ℕ → ℕ
noticed p (Look r) a n k = value_at r.value k
noticed p w None n k = 0
noticed p w (Some a) n k = if (a.cpu.0 == p.0) && (a.class == k) then n + 1 else 0

-- the event of a processor with these frames
abbrev pub alone_event : CpuNo → What → Frames → Event
alone_event p w x = record { cpu = p; thread = thread_field w x.running; level = alone_level w x; what = w }

-- what the processor keeps after its event of this number
abbrev pub alone_then : CpuState → ℕ → What → Own
alone_then c n w =
    own_with c.script n None (alone_event c.cpu w c.own.frames)
    (λ k. max (value_at c.own.seen k) (noticed c.cpu w (alone_asks (stand_in c.cpu c.own) w) n k)) c.own

-- an event that touches no lane happened under this number: it was drawn, and marked as asking for what it asks
pub record IsAlone (c d : CpuState) (w : What) (n : ℕ) (v u z : View) : Type 0 where
  pub drawn : IsDrawn n (alone_event c.cpu w c.own.frames) v u
  pub marked : IsMarkedFor (alone_asks (stand_in c.cpu c.own) w) n u z
  pub state : d ≡ record c { own = alone_then c n w }

-- the processor may make it
pub record MayBe (c : CpuState) (w : What) : Type 0 where
  pub alone : is_alone (option_map (λ f. f.body) (innermost c.own.frames)) w ≡ true
  pub allow : Allow c.script w c.own.frames
  pub asks : IfSome (alone_asks (stand_in c.cpu c.own) w) (λ a. a.cpu.0 < c.script.cpus)
