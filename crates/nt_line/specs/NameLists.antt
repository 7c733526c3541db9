-- The names of a script, for each kind of thing in order of declaration.
use Rattle.std.specs.Prelude.{◌≡◌, ℕ, true, List, [], ◌∷◌, ◌++◌, get_or, Option, Some, None, option_map, is_some}
use Rattle.std.specs.Prelude.{nat_lt, if◌then◌else◌}
use Rattle.nt_text.specs.Fields.{is_name}
use Rattle.nt_event.specs.declared.numbers.DpcNo.{DpcNo}
use Rattle.nt_event.specs.declared.numbers.TimerNo.{TimerNo}
use Rattle.nt_event.specs.declared.numbers.ThreadNo.{ThreadNo}
use Rattle.nt_event.specs.declared.numbers.ApcNo.{ApcNo}
use Rattle.nt_event.specs.declared.numbers.LockNo.{LockNo}
use Rattle.nt_event.specs.declared.numbers.RoutineNo.{RoutineNo}
use Rattle.nt_line.specs.Places.{place}
use Rattle.nt_line.specs.declared.names.Kind.{Kind}
use Rattle.nt_line.specs.declared.names.Kind.TheVariants as kind
use Rattle.nt_line.specs.declared.names.Named.{Named}
use Rattle.nt_line.specs.declared.names.Named.TheVariants as named

pub record NameLists : Type 0 where
  pub dpcs : List (List ℕ)
  pub timers : List (List ℕ)
  pub threads : List (List ℕ)
  pub apcs : List (List ℕ)
  pub locks : List (List ℕ)
  pub routines : List (List ℕ)

abbrev pub no_names : NameLists
no_names = record { dpcs = []; timers = []; threads = []; apcs = []; locks = []; routines = [] }

-- all names, kind by kind
abbrev pub all_names : NameLists → List (List ℕ)
all_names names = names.dpcs ++ (names.timers ++ (names.threads ++ (names.apcs ++ (names.locks ++ names.routines))))

-- the number of a thing at a place; no script has so many things of a kind that two have the same
abbrev pub number : ℕ → ℕ
number place = if nat_lt place 65535 then place else 65535

abbrev pub dpc_at : ℕ → Named
dpc_at place = named.Dpc (record { 0 = number place })

abbrev pub timer_at : ℕ → Named
timer_at place = named.Timer (record { 0 = number place })

abbrev pub thread_at : ℕ → Named
thread_at place = named.Thread (record { 0 = number place })

abbrev pub apc_at : ℕ → Named
apc_at place = named.Apc (record { 0 = number place })

abbrev pub lock_at : ℕ → Named
lock_at place = named.Lock (record { 0 = number place })

abbrev pub routine_at : ℕ → Named
routine_at place = named.Routine (record { 0 = number place })

abbrev pub or_else : {A : Type 0} → Option A → Option A → Option A
or_else (Some x) y = Some x
or_else None y = y

-- the thing that a name names, kind by kind: a lock or a routine, an APC object or one of these, and so on
abbrev pub lock_or_routine : List ℕ → NameLists → Option Named
lock_or_routine name names =
    or_else (option_map lock_at (place name names.locks)) (option_map routine_at (place name names.routines))

abbrev pub apc_or_later : List ℕ → NameLists → Option Named
apc_or_later name names = or_else (option_map apc_at (place name names.apcs)) (lock_or_routine name names)

abbrev pub thread_or_later : List ℕ → NameLists → Option Named
thread_or_later name names = or_else (option_map thread_at (place name names.threads)) (apc_or_later name names)

abbrev pub timer_or_later : List ℕ → NameLists → Option Named
timer_or_later name names = or_else (option_map timer_at (place name names.timers)) (thread_or_later name names)

-- the thing that a name names
abbrev pub meaning : List ℕ → NameLists → Option Named
meaning name names = or_else (option_map dpc_at (place name names.dpcs)) (timer_or_later name names)

-- a name behind those of its kind
abbrev pub with_name : Kind → List ℕ → NameLists → NameLists
with_name kind.Dpc name names = record names { dpcs = names.dpcs ++ name ∷ [] }
with_name kind.Timer name names = record names { timers = names.timers ++ name ∷ [] }
with_name kind.Thread name names = record names { threads = names.threads ++ name ∷ [] }
with_name kind.Apc name names = record names { apcs = names.apcs ++ name ∷ [] }
with_name kind.Lock name names = record names { locks = names.locks ++ name ∷ [] }
with_name kind.Routine name names = record names { routines = names.routines ++ name ∷ [] }

-- a name is added unless it is one already
abbrev pub declared : Kind → List ℕ → NameLists → NameLists
declared kind name names = if is_some (meaning name names) then names else with_name kind name names

-- the name of a thing
abbrev pub show_dpc : NameLists → DpcNo → List ℕ
show_dpc names x = get_or names.dpcs x.0 []

abbrev pub show_timer : NameLists → TimerNo → List ℕ
show_timer names x = get_or names.timers x.0 []

abbrev pub show_thread : NameLists → ThreadNo → List ℕ
show_thread names x = get_or names.threads x.0 []

abbrev pub show_apc : NameLists → ApcNo → List ℕ
show_apc names x = get_or names.apcs x.0 []

abbrev pub show_lock : NameLists → LockNo → List ℕ
show_lock names x = get_or names.locks x.0 []

abbrev pub show_routine : NameLists → RoutineNo → List ℕ
show_routine names x = get_or names.routines x.0 []

-- each is a name, and differs from all before it
abbrev pub AreNew : List (List ℕ) → List (List ℕ) → Type 0
AreNew before [] = Unit {0}
AreNew before (n ∷ ns) = (is_name n ≡ true) × (place n before ≡ None) × AreNew (before ++ n ∷ []) ns
