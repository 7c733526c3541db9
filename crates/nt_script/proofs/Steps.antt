-- What holds of what was read, and what a line adds to it.
use Rattle.std.proofs.Common.{◌≡◌, ℕ, zero, suc, ◌<◌, ◌≤◌, Bool, true, false, cond, List, [], ◌∷◌, ◌++◌, length, get_or, map, Option, None, Ok, Err, refl, sym}
use Rattle.std.proofs.Common.{◌∙◌, subst, append_assoc, arith}
use Rattle.std.specs.Prelude.{◌==◌, nat_lt}
use Rattle.std.proofs.lemmas.List.{append-nil, map-append, length-append}
use Rattle.nt_text.specs.declared.kind.ScriptKind.TheVariants.{BadNumber, TooMany}
use Rattle.nt_text.specs.declared.kind.What10.TheVariants as what
use Rattle.nt_event.specs.declared.commands.Command.{Command}
use Rattle.nt_event.specs.declared.scripts.Isr.{Isr}
use Rattle.nt_event.specs.declared.scripts.DpcDecl.{DpcDecl}
use Rattle.nt_event.specs.declared.scripts.TimerDecl.{TimerDecl}
use Rattle.nt_event.specs.declared.scripts.ThreadDecl.{ThreadDecl}
use Rattle.nt_event.specs.declared.scripts.ApcDecl.{ApcDecl}
use Rattle.nt_line.specs.declared.keywords.Keyword.TheVariants as keyword
use Rattle.nt_line.specs.declared.keywords.Place.{Place}
use Rattle.nt_line.specs.declared.keywords.Place.TheVariants.{Start, HasVersion, HasCpus, HasDepth, HasThreaded, InIsrs, InDpcs, InTimers, InThreads, InApcs}
use Rattle.nt_line.specs.declared.keywords.Place.TheVariants.{InLocks, InRoutines, InRoutine}
use Rattle.nt_script.specs.declared.walk.Walk.{Walk}
use Rattle.nt_line.specs.NameLists.{NameLists}
use Rattle.nt_line.specs.Keywords.{text_of, order}
use Rattle.nt_line.specs.Fields.{on_off_text}
use Rattle.nt_script.specs.Reading.{put_cpus, with_version, with_cpus, with_depth, with_threaded, with_isr, with_dpc, with_timer, with_thread, with_apc}
use Rattle.nt_script.specs.Reading.{with_lock, with_routine, with_exit, with_command}
use Rattle.nt_text.specs.Lines.{Row}
use Rattle.nt_line.specs.Rows.{command_row, number_row, depth_rows, isr_row, dpc_row, timer_row, thread_row, apc_row, lock_row}
use Rattle.nt_script.specs.Text.{version_rows, header_rows, exit_row}
use Rattle.nt_script.specs.Versions.{most_cpus}
use Rattle.nt_script.proofs.SoFar.{heads_at, has_head, heads, isrs, dpcs, timers, threads, apcs, locks, routines, rows_at, part_places, parts, so_far, NoRows}
use Rattle.nt_script.proofs.SoFar.{grow_head, grow_part, declared_more, none_declared, none_opened, routine_more, command_more, exit_more}

-- ---- what was not read yet

-- nothing was read of what the lines at a place give; of a routine: all that began have ended
abbrev pub IsEmpty : Walk → Place → Type 0
IsEmpty w HasDepth = w.script.depth ≡ None
IsEmpty w HasThreaded = w.script.threaded ≡ None
IsEmpty w InIsrs = w.script.isrs ≡ []
IsEmpty w InDpcs = (w.names.dpcs ≡ []) × (w.script.dpcs ≡ [])
IsEmpty w InTimers = (w.names.timers ≡ []) × (w.script.timers ≡ [])
IsEmpty w InThreads = (w.names.threads ≡ []) × (w.script.threads ≡ [])
IsEmpty w InApcs = (w.names.apcs ≡ []) × (w.script.apcs ≡ [])
IsEmpty w InLocks = w.names.locks ≡ []
IsEmpty w InRoutines = (w.names.routines ≡ []) × (w.script.routines ≡ [])
IsEmpty w InRoutine = (w.body ≡ []) × (length w.names.routines ≡ length w.script.routines)
IsEmpty w _ = Unit {0}

-- each place has the number that `order` says
abbrev pub places : List Place
places = Start ∷ HasVersion ∷ HasCpus ∷ HasDepth ∷ HasThreaded ∷ part_places

-- each place of the walk stands in the list of places at its own number
place_there : (p : Place) → get_or places (order p) Start ≡ p
place_there Start = refl
place_there _ = refl

-- nothing was read of those of the places from this number on. At a numeral it says the same of two walks that differ before alone
abbrev pub AreEmpty : List Place → ℕ → Walk → Type 0
AreEmpty [] k w = Unit {0}
AreEmpty (p ∷ ps) zero w = IsEmpty w p × AreEmpty ps zero w
AreEmpty (p ∷ ps) (suc k) w = AreEmpty ps k w

-- so of those from a later one on
empty_later : (ps : List Place) (k n : ℕ) (w : Walk) → k ≤ n → AreEmpty ps k w → AreEmpty ps n w
empty_later [] k n w le all = tt
empty_later (p ∷ ps) zero zero w le all = all
empty_later (p ∷ ps) zero (suc n) w le all = empty_later ps zero n w (omega arith) all.1
empty_later (p ∷ ps) (suc k) zero w le all = absurd (omega arith)
empty_later (p ∷ ps) (suc k) (suc n) w le all = empty_later ps k n w (omega arith) all

-- and of each of them
empty_at : (ps : List Place) (k i : ℕ) (w : Walk) → k ≤ i → i < length ps → AreEmpty ps k w → IsEmpty w (get_or ps i Start)
empty_at [] k i w le lt all = absurd (omega arith)
empty_at (p ∷ ps) zero zero w le lt all = all.0
empty_at (p ∷ ps) zero (suc i) w le lt all = empty_at ps zero i w (omega arith) (omega arith) all.1
empty_at (p ∷ ps) (suc k) zero w le lt all = absurd (omega arith)
empty_at (p ∷ ps) (suc k) (suc i) w le lt all = empty_at ps k i w (omega arith) (omega arith) all

-- no place is after the last
none_after : (ps : List Place) (k : ℕ) (w : Walk) → length ps ≤ k → AreEmpty ps k w
none_after [] k w le = tt
none_after (p ∷ ps) zero w le = absurd (omega arith)
none_after (p ∷ ps) (suc k) w le = none_after ps k w (omega arith)

-- where nothing was read at all
pub all_empty : (ps : List Place) (k : ℕ) (w : Walk) → ((p : Place) → IsEmpty w p) → AreEmpty ps k w
all_empty [] k w each = tt
all_empty (p ∷ ps) zero w each = (each p, all_empty ps zero w each)
all_empty (p ∷ ps) (suc k) w each = all_empty ps k w each

-- nothing was read of what comes after the place with this number
abbrev pub Later : ℕ → Walk → Type 0
Later k w = AreEmpty places (suc k) w

pub record Good (w : Walk) : Type 0 where
  pub version : w.version ≤ 2
  pub dpcs : length w.names.dpcs ≡ length w.script.dpcs
  pub timers : length w.names.timers ≡ length w.script.timers
  pub threads : length w.names.threads ≡ length w.script.threads
  pub apcs : length w.names.apcs ≡ length w.script.apcs
  pub locks : length w.names.locks ≡ w.script.locks
  pub later : Later (order w.place) w
  pub opened : order w.place ≡ 12 → length w.names.routines ≡ suc (length w.script.routines)

-- nothing was read of a place that comes later
pub empty : (w : Walk) → Good w → (p : Place) → order w.place < order p → IsEmpty w p
empty w g p lt = subst (IsEmpty w) (place_there p) (empty_at places (suc (order w.place)) (order p) w lt (few p) g.later)
  where
    few : (p : Place) → order p < length places
    few Start = omega arith
    few _ = omega arith

-- nothing was read after the place with this number
later : (n : ℕ) (w : Walk) → Good w → order w.place ≤ n → Later n w
later n w g le = empty_later places (suc (order w.place)) (suc n) w (omega arith) g.later

-- behind the lines from this number to that
abbrev pub Between : ℕ → ℕ → Place → Type 0
Between low high p = (low ≤ order p) × (order p ≤ high)

-- two lists of the same length stay so if each gets one member more
one_longer : {A B : Type 0} (xs : List A) (ys : List B) (x : A) (y : B) → length xs ≡ length ys → length (xs ++ x ∷ []) ≡ length (ys ++ y ∷ [])
one_longer xs ys x y e = omega (arith, e, length-append xs (x ∷ []), length-append ys (y ∷ []))

-- a list with one more member at its end is longer by one
one_more : {A : Type 0} (xs : List A) (x : A) (n : ℕ) → length xs ≡ n → length (xs ++ x ∷ []) ≡ suc n
one_more xs x n e = omega (arith, e, length-append xs (x ∷ []))

-- where nothing was read there are no rows: a line for each part
no_rows : (all : NameLists) (w : Walk) (p : Place) → IsEmpty w p → rows_at all w p ≡ []
no_rows all w InIsrs e = rw e refl
no_rows all w InDpcs e = none_declared (dpc_row all) w.names.dpcs w.script.dpcs e.0
no_rows all w InTimers e = none_declared (timer_row all) w.names.timers w.script.timers e.0
no_rows all w InThreads e = none_declared (thread_row all) w.names.threads w.script.threads e.0
no_rows all w InApcs e = none_declared (apc_row all) w.names.apcs w.script.apcs e.0
no_rows all w InLocks e = rw e refl
no_rows all w InRoutines e = none_opened all w.body w.names.routines w.script.routines e.0
no_rows all w _ e = refl

-- if nothing was read of the places from a number on, they have no rows from there on
none_from : (all : NameLists) (w : Walk) (ps : List Place) (k : ℕ) → AreEmpty ps k w → NoRows (map (rows_at all w) ps) k
none_from all w [] k empty = tt
none_from all w (p ∷ ps) zero empty = (no_rows all w p empty.0, none_from all w ps zero empty.1)
none_from all w (p ∷ ps) (suc k) empty = none_from all w ps k empty

-- no part has rows whose lines come after the place with this number; the parts begin at number 5
nothing : (k : ℕ) (all : NameLists) (w : Walk) → AreEmpty part_places k w → NoRows (parts all w) k
nothing k all w empty = none_from all w part_places k empty

-- the head stays where a part begins
same_head : (w : Walk) → 2 ≤ order w.place → header_rows w.version w.script.cpus w.script.depth w.script.threaded ≡ heads w.place w
same_head w low = sym (has_head w.place w.version w.script.cpus w.script.depth w.script.threaded low)

-- ---- the head

-- before the version line the head has no rows
at_start : (p : Place) (v n : ℕ) (d : Option ℕ) (t : Option Bool) → order p ≤ 0 → heads_at p v n d t ≡ []
at_start Start v n d t h = refl
at_start _ v n d t h = absurd (omega (arith, h))

-- at the version line the head has the version's rows alone
at_version : (p : Place) (v n : ℕ) (d : Option ℕ) (t : Option Bool) → 1 ≤ order p → order p ≤ 1 → heads_at p v n d t ≡ version_rows v
at_version HasVersion v n d t g h = refl
at_version Start v n d t g h = absurd (omega (arith, g))
at_version _ v n d t g h = absurd (omega (arith, h))

-- what was read stays in order with the version line
pub version_good : (w : Walk) → Between 0 0 w.place → Good w → Good (with_version w)
version_good w at g = record {
  version = g.version;
  dpcs = g.dpcs;
  timers = g.timers;
  threads = g.threads;
  apcs = g.apcs;
  locks = g.locks;
  later = later 1 w g (omega (arith, at.1));
  opened = λ h. absurd (omega (arith, h));
}

-- version 2 is written as one version line
one_version : (v : ℕ) → v ≡ 2 → version_rows v ≡ number_row keyword.Version 2 ∷ []
one_version v e = rw e refl

-- the version line of a text of version 2 adds its row to the rows read so far
pub version_taken : (all : NameLists) (w : Walk) → Between 0 0 w.place → w.version ≡ 2 → Good w → so_far all (with_version w) ≡ so_far all w
    ++ number_row keyword.Version 2 ∷ []
version_taken all w at two g =
    let none = at_start w.place w.version w.script.cpus w.script.depth w.script.threaded at.1 in
    grow_head all w (with_version w) (number_row keyword.Version 2 ∷ []) (rw none (one_version w.version two)) refl
    (nothing 0 all w (later 4 w g (omega (arith, at.1))))

-- a number of processors that is taken is put as it is
pub put_cpus_ok : (w : Walk) (n : ℕ) (new : Walk) → put_cpus w n ≡ Ok new → with_cpus w n ≡ new
put_cpus_ok w n new e = go (n == 0) (nat_lt (most_cpus w.version) n) e
  where
    go : (z big : Bool) → cond z (Err BadNumber) (cond big (Err (TooMany what.Cpus)) (Ok (with_cpus w n))) ≡ Ok new → with_cpus w n ≡ new
    go true big e = absurd cc
    go false true e = absurd cc
    go false false e = cc

-- what was read stays in order with the line of processors
pub cpus_good : (w : Walk) (n : ℕ) → Between 1 1 w.place → Good w → Good (with_cpus w n)
cpus_good w n at g = record {
  version = g.version;
  dpcs = g.dpcs;
  timers = g.timers;
  threads = g.threads;
  apcs = g.apcs;
  locks = g.locks;
  later = later 2 w g (omega (arith, at.1));
  opened = λ h. absurd (omega (arith, h));
}

-- the line of processors adds its row to the rows read so far
pub cpus_taken : (all : NameLists) (w : Walk) (n : ℕ) → Between 1 1 w.place → Good w → so_far all (with_cpus w n) ≡ so_far all w
    ++ number_row keyword.Cpus n ∷ []
cpus_taken all w n at g =
    let before = at_version w.place w.version w.script.cpus w.script.depth w.script.threaded at.0 at.1 in
    grow_head all w (with_cpus w n) (number_row keyword.Cpus n ∷ [])
    (rw (before, empty w g HasDepth (omega (arith, at.1)), empty w g HasThreaded (omega (arith, at.1))) refl) refl
    (nothing 0 all w (later 4 w g (omega (arith, at.1))))

-- what was read stays in order with the line of the depth
pub depth_good : (w : Walk) (n : ℕ) → Between 2 2 w.place → Good w → Good (with_depth w n)
depth_good w n at g = record {
  version = g.version;
  dpcs = g.dpcs;
  timers = g.timers;
  threads = g.threads;
  apcs = g.apcs;
  locks = g.locks;
  later = later 3 w g (omega (arith, at.1));
  opened = λ h. absurd (omega (arith, h));
}

-- the line of the depth adds its row to the rows read so far
pub depth_taken : (all : NameLists) (w : Walk) (n : ℕ) → Between 2 2 w.place → Good w → so_far all (with_depth w n) ≡ so_far all w
    ++ number_row keyword.Depth n ∷ []
depth_taken all w n at g =
    let there = has_head w.place w.version w.script.cpus w.script.depth w.script.threaded at.0 in
    grow_head all w (with_depth w n) (number_row keyword.Depth n ∷ [])
    (rw (there, empty w g HasDepth (omega (arith, at.1)), empty w g HasThreaded (omega (arith, at.1)))
    (sym (append_assoc (version_rows w.version) (number_row keyword.Cpus w.script.cpus ∷ []) (number_row keyword.Depth n ∷ [])))) refl
    (nothing 0 all w (later 4 w g (omega (arith, at.1))))

-- what was read stays in order with the line that turns threaded DPCs on or off
pub threaded_good : (w : Walk) (on : Bool) → Between 2 3 w.place → Good w → Good (with_threaded w on)
threaded_good w on at g = record {
  version = g.version;
  dpcs = g.dpcs;
  timers = g.timers;
  threads = g.threads;
  apcs = g.apcs;
  locks = g.locks;
  later = later 4 w g (omega (arith, at.1));
  opened = λ h. absurd (omega (arith, h));
}

-- a last row of the head
last_head : (v : List Row) (h : Row) (rows : List Row) (r : Row) → v ++ (h ∷ (rows ++ r ∷ [])) ≡ (v ++ (h ∷ (rows ++ []))) ++ r ∷ []
last_head v h rows r = rw (append-nil rows) (sym (append_assoc v (h ∷ rows) (r ∷ [])))

-- the line that turns threaded DPCs on or off adds its row to the rows read so far
pub threaded_taken : (all : NameLists) (w : Walk) (on : Bool) → Between 2 3 w.place → Good w → so_far all (with_threaded w on) ≡ so_far all w
    ++ (text_of keyword.Threaded ∷ on_off_text on ∷ []) ∷ []
threaded_taken all w on at g =
    let there = has_head w.place w.version w.script.cpus w.script.depth w.script.threaded at.0 in
    let row = text_of keyword.Threaded ∷ on_off_text on ∷ [] in
    grow_head all w (with_threaded w on) (row ∷ [])
    (rw (there, empty w g HasThreaded (omega (arith, at.1)))
    (last_head (version_rows w.version) (number_row keyword.Cpus w.script.cpus) (depth_rows w.script.depth) row)) refl
    (nothing 0 all w (later 4 w g (omega (arith, at.1))))

-- ---- the parts

-- what was read stays in order with one interrupt routine more
pub isr_good : (w : Walk) (x : Isr) → Between 2 5 w.place → Good w → Good (with_isr w x)
isr_good w x at g = record {
  version = g.version;
  dpcs = g.dpcs;
  timers = g.timers;
  threads = g.threads;
  apcs = g.apcs;
  locks = g.locks;
  later = later 5 w g (omega (arith, at.1));
  opened = λ h. absurd (omega (arith, h));
}

-- one interrupt routine more adds its row to the rows read so far
pub isr_taken : (all : NameLists) (w : Walk) (x : Isr) → Between 2 5 w.place → Good w → so_far all (with_isr w x) ≡ so_far all w ++ isr_row all x ∷ []
isr_taken all w x at g =
    grow_part 0 all w (with_isr w x) (isrs all (with_isr w x)) (isr_row all x ∷ []) (omega arith) (same_head w at.0) refl
    (map-append (isr_row all) w.script.isrs (x ∷ [])) (nothing 1 all w (later 5 w g at.1))

-- what was read stays in order with one DPC object more
pub dpc_good : (w : Walk) (name : List ℕ) (x : DpcDecl) → Between 2 6 w.place → Good w → Good (with_dpc w name x)
dpc_good w name x at g = record {
  version = g.version;
  dpcs = one_longer w.names.dpcs w.script.dpcs name x g.dpcs;
  timers = g.timers;
  threads = g.threads;
  apcs = g.apcs;
  locks = g.locks;
  later = later 6 w g (omega (arith, at.1));
  opened = λ h. absurd (omega (arith, h));
}

-- one DPC object more adds its row to the rows read so far
pub dpc_taken : (all : NameLists) (w : Walk) (name : List ℕ) (x : DpcDecl) → Between 2 6 w.place → Good w → so_far all (with_dpc w name x) ≡ so_far all w
    ++ dpc_row all name x ∷ []
dpc_taken all w name x at g =
    grow_part 1 all w (with_dpc w name x) (dpcs all (with_dpc w name x)) (dpc_row all name x ∷ []) (omega arith) (same_head w at.0) refl
    (declared_more (dpc_row all) w.names.dpcs w.script.dpcs name x g.dpcs) (nothing 2 all w (later 6 w g at.1))

-- what was read stays in order with one timer more
pub timer_good : (w : Walk) (name : List ℕ) (x : TimerDecl) → Between 2 7 w.place → Good w → Good (with_timer w name x)
timer_good w name x at g = record {
  version = g.version;
  dpcs = g.dpcs;
  timers = one_longer w.names.timers w.script.timers name x g.timers;
  threads = g.threads;
  apcs = g.apcs;
  locks = g.locks;
  later = later 7 w g (omega (arith, at.1));
  opened = λ h. absurd (omega (arith, h));
}

-- one timer more adds its row to the rows read so far
pub timer_taken : (all : NameLists) (w : Walk) (name : List ℕ) (x : TimerDecl) → Between 2 7 w.place → Good w → so_far all (with_timer w name x) ≡ so_far all w
    ++ timer_row all name x ∷ []
timer_taken all w name x at g =
    grow_part 2 all w (with_timer w name x) (timers all (with_timer w name x)) (timer_row all name x ∷ []) (omega arith) (same_head w at.0) refl
    (declared_more (timer_row all) w.names.timers w.script.timers name x g.timers) (nothing 3 all w (later 7 w g at.1))

-- what was read stays in order with one thread more
pub thread_good : (w : Walk) (name : List ℕ) (x : ThreadDecl) → Between 2 8 w.place → Good w → Good (with_thread w name x)
thread_good w name x at g = record {
  version = g.version;
  dpcs = g.dpcs;
  timers = g.timers;
  threads = one_longer w.names.threads w.script.threads name x g.threads;
  apcs = g.apcs;
  locks = g.locks;
  later = later 8 w g (omega (arith, at.1));
  opened = λ h. absurd (omega (arith, h));
}

-- one thread more adds its row to the rows read so far
pub thread_taken : (all : NameLists) (w : Walk) (name : List ℕ) (x : ThreadDecl) → Between 2 8 w.place → Good w → so_far all (with_thread w name x)
    ≡ so_far all w ++ thread_row all name x ∷ []
thread_taken all w name x at g =
    grow_part 3 all w (with_thread w name x) (threads all (with_thread w name x)) (thread_row all name x ∷ []) (omega arith) (same_head w at.0) refl
    (declared_more (thread_row all) w.names.threads w.script.threads name x g.threads) (nothing 4 all w (later 8 w g at.1))

-- what was read stays in order with one APC object more
pub apc_good : (w : Walk) (name : List ℕ) (x : ApcDecl) → Between 2 9 w.place → Good w → Good (with_apc w name x)
apc_good w name x at g = record {
  version = g.version;
  dpcs = g.dpcs;
  timers = g.timers;
  threads = g.threads;
  apcs = one_longer w.names.apcs w.script.apcs name x g.apcs;
  locks = g.locks;
  later = later 9 w g (omega (arith, at.1));
  opened = λ h. absurd (omega (arith, h));
}

-- one APC object more adds its row to the rows read so far
pub apc_taken : (all : NameLists) (w : Walk) (name : List ℕ) (x : ApcDecl) → Between 2 9 w.place → Good w → so_far all (with_apc w name x) ≡ so_far all w
    ++ apc_row all name x ∷ []
apc_taken all w name x at g =
    grow_part 4 all w (with_apc w name x) (apcs all (with_apc w name x)) (apc_row all name x ∷ []) (omega arith) (same_head w at.0) refl
    (declared_more (apc_row all) w.names.apcs w.script.apcs name x g.apcs) (nothing 5 all w (later 9 w g at.1))

-- what was read stays in order with one lock more
pub lock_good : (w : Walk) (name : List ℕ) → Between 2 10 w.place → Good w → Good (with_lock w name)
lock_good w name at g = record {
  version = g.version;
  dpcs = g.dpcs;
  timers = g.timers;
  threads = g.threads;
  apcs = g.apcs;
  locks = omega (arith, g.locks, length-append w.names.locks (name ∷ []));
  later = later 10 w g (omega (arith, at.1));
  opened = λ h. absurd (omega (arith, h));
}

-- one lock more adds its row to the rows read so far
pub lock_taken : (all : NameLists) (w : Walk) (name : List ℕ) → Between 2 10 w.place → Good w → so_far all (with_lock w name) ≡ so_far all w
    ++ lock_row name ∷ []
lock_taken all w name at g =
    grow_part 5 all w (with_lock w name) (locks (with_lock w name)) (lock_row name ∷ []) (omega arith) (same_head w at.0) refl
    (map-append lock_row w.names.locks (name ∷ [])) (nothing 6 all w (later 10 w g at.1))

-- what was read stays in order when a routine begins
pub routine_good : (w : Walk) (name : List ℕ) → Between 2 11 w.place → Good w → Good (with_routine w name)
routine_good w name at g = record {
  version = g.version;
  dpcs = g.dpcs;
  timers = g.timers;
  threads = g.threads;
  apcs = g.apcs;
  locks = g.locks;
  later = tt;
  opened = λ h. one_more w.names.routines name (length w.script.routines) (empty w g InRoutine (omega (arith, at.1))).1;
}

-- a routine that begins adds its first row to the rows read so far
pub routine_taken : (all : NameLists) (w : Walk) (name : List ℕ) → Between 2 11 w.place → Good w → so_far all (with_routine w name) ≡ so_far all w
    ++ (text_of keyword.Routine ∷ name ∷ []) ∷ []
routine_taken all w name at g =
    let closed = empty w g InRoutine (omega (arith, at.1)) in
    grow_part 6 all w (with_routine w name) (routines all (with_routine w name)) ((text_of keyword.Routine ∷ name ∷ []) ∷ []) (omega arith)
    (same_head w at.0) refl
    (rw closed.0 (routine_more all w.names.routines w.script.routines name closed.1)) (refl, tt)

-- in a routine
inside : (w : Walk) → Between 12 12 w.place → Good w → length w.names.routines ≡ suc (length w.script.routines)
inside w at g = g.opened (omega (arith, at.0, at.1))

-- what was read stays in order when a routine ends
pub exit_good : (w : Walk) → Between 12 12 w.place → Good w → Good (with_exit w)
exit_good w at g = record {
  version = g.version;
  dpcs = g.dpcs;
  timers = g.timers;
  threads = g.threads;
  apcs = g.apcs;
  locks = g.locks;
  later = ((refl, inside w at g ∙ sym (one_more w.script.routines (record { commands = w.body }) (length w.script.routines) refl)), tt);
  opened = λ h. absurd (omega (arith, h));
}

-- a routine that ends adds its last row to the rows read so far
pub exit_taken : (all : NameLists) (w : Walk) → Between 12 12 w.place → Good w → so_far all (with_exit w) ≡ so_far all w ++ exit_row ∷ []
exit_taken all w at g =
    grow_part 6 all w (with_exit w) (routines all (with_exit w)) (exit_row ∷ []) (omega arith) (same_head w (omega (arith, at.0))) refl
    (exit_more all w.body w.names.routines w.script.routines (inside w at g)) (refl, tt)

-- what was read stays in order with one command more in a routine
pub command_good : (w : Walk) (c : Command) → Between 12 12 w.place → Good w → Good (with_command w c)
command_good w c at g = record {
  version = g.version;
  dpcs = g.dpcs;
  timers = g.timers;
  threads = g.threads;
  apcs = g.apcs;
  locks = g.locks;
  later = none_after places (suc (order w.place)) (with_command w c) (omega (arith, at.0));
  opened = λ h. inside w at g;
}

-- one command more in a routine adds its row to the rows read so far
pub command_taken : (all : NameLists) (w : Walk) (c : Command) → Between 12 12 w.place → Good w → so_far all (with_command w c) ≡ so_far all w
    ++ command_row all c ∷ []
command_taken all w c at g =
    grow_part 6 all w (with_command w c) (routines all (with_command w c)) (command_row all c ∷ []) (omega arith) refl refl
    (command_more all w.body w.names.routines w.script.routines c (inside w at g)) (refl, tt)
