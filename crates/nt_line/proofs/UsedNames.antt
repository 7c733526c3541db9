-- A name that is read is that of the thing, and a thing's name is read as the thing.
use Rattle.std.proofs.Common.{◌≡◌, ℕ, suc, ◌+◌, ◌<◌, ◌≤◌, Bool, true, false, cond, List, [], ◌∷◌, length, get_or, Option, Some, None, Result, Ok, Err, refl}
use Rattle.std.proofs.Common.{◌∙◌, ap, arith, subst}
use Rattle.std.specs.Prelude.{option_map, is_some, IfSome}
use Rattle.std.specs.Str.{bytes_eq}
use Rattle.std.specs.List.{position_from}
use Rattle.std.proofs.lemmas.Bool.{lt-ltb}
use Rattle.nt_text.specs.declared.kind.ScriptKind.{ScriptKind}
use Rattle.nt_text.specs.declared.kind.ScriptKind.TheVariants.{BadName, UnknownName, NameTwice}
use Rattle.nt_text.specs.Fields.{is_name}
use Rattle.nt_event.specs.declared.numbers.DpcNo.{DpcNo}
use Rattle.nt_event.specs.declared.numbers.TimerNo.{TimerNo}
use Rattle.nt_event.specs.declared.numbers.ThreadNo.{ThreadNo}
use Rattle.nt_event.specs.declared.numbers.ApcNo.{ApcNo}
use Rattle.nt_event.specs.declared.numbers.LockNo.{LockNo}
use Rattle.nt_event.specs.declared.numbers.RoutineNo.{RoutineNo}
use Rattle.nt_line.specs.declared.names.Named.{Named}
use Rattle.nt_line.specs.declared.names.Named.TheVariants as named
use Rattle.nt_line.specs.Places.{place}
use Rattle.nt_line.specs.NameLists.{NameLists, meaning, number, dpc_at, timer_at, thread_at, apc_at, lock_at, routine_at, or_else, show_dpc, show_timer}
use Rattle.nt_line.specs.NameLists.{show_thread, show_apc, show_lock, show_routine}
use Rattle.nt_line.specs.Results.{◌>>=◌, or_error}
use Rattle.nt_line.specs.Fields.{dash, used, as_dpc, as_timer, as_thread, as_apc, as_lock, as_routine, read_dpc, read_timer, read_thread, read_apc, read_lock}
use Rattle.nt_line.specs.Fields.{read_routine, read_timer_dpc, read_rundown, new_name}
use Rattle.nt_line.specs.Rows.{show_unless}
use Rattle.nt_line.proofs.Results.{bind_ok, or_error_ok}
use Rattle.nt_line.proofs.FieldTexts.{Takes, same_text, unless_takes}

-- a text that is found in a list searched from a place on stands at an index of that list
placed_at : (f : List ℕ) (ns : List (List ℕ)) (k i : ℕ) → position_from (bytes_eq f) k ns ≡ Some i → (j : ℕ) × (i ≡ k + j) × (j < length ns) ×
    (f ≡ get_or ns j [])
placed_at f [] k i e = absurd cc
placed_at f (n ∷ ns) k i e = go (bytes_eq f n) refl e (placed_at f ns (k + 1) i)
  where
    go : (b : Bool) → bytes_eq f n ≡ b → cond b (Some k) (position_from (bytes_eq f) (k + 1) ns) ≡ Some i
        → (position_from (bytes_eq f) (k + 1) ns ≡ Some i → (j : ℕ) × (i ≡ k + 1 + j) × (j < length ns) × (f ≡ get_or ns j [])) → (j : ℕ) × (i ≡ k + j) ×
        (j < length (n ∷ ns)) × (f ≡ get_or (n ∷ ns) j [])
    go true is e more = let same : k ≡ i = cc in (0, omega arith, omega arith, same_text f n is)
    go false is e more = let r = more e in (suc r.0, omega (arith, r.1), omega (arith, r.2), r.3)

-- the place of a name in a list is below the list's length and holds that name
pub place_takes : (f : List ℕ) (ns : List (List ℕ)) (i : ℕ) → place f ns ≡ Some i → (i < length ns) × (f ≡ get_or ns i [])
place_takes f ns i e =
    let r = placed_at f ns 0 i e in
    let same : r.0 ≡ i = omega (arith, r.1) in
    (omega (arith, r.2), rw (← same) r.3)

-- few enough names for the numbers
pub record AreFew (names : NameLists) : Type 0 where
  pub dpcs : length names.dpcs ≤ 256
  pub timers : length names.timers ≤ 64
  pub threads : length names.threads ≤ 64
  pub apcs : length names.apcs ≤ 256
  pub locks : length names.locks ≤ 64
  pub routines : length names.routines ≤ 256

-- a thing at a place below 65535 has that place as its number
pub number_is : (i : ℕ) → i < 65535 → number i ≡ i
number_is i lt = rw (lt-ltb i 65535 lt) refl

-- the name of a used thing means it
used_ok : (names : NameLists) (field : List ℕ) (thing : Named) → used names field ≡ Ok thing → meaning field names ≡ Some thing
used_ok names field thing e = go (is_name field) e
  where
    go : (spelled : Bool) → cond spelled (or_error UnknownName (meaning field names)) (Err BadName) ≡ Ok thing → meaning field names ≡ Some thing
    go true e = or_error_ok UnknownName (meaning field names) thing e
    go false e = absurd cc

-- ---- a thing of any kind

-- the names of the things of its kind
abbrev pub names_beside : NameLists → Named → List (List ℕ)
names_beside names (named.Dpc _) = names.dpcs
names_beside names (named.Timer _) = names.timers
names_beside names (named.Thread _) = names.threads
names_beside names (named.Apc _) = names.apcs
names_beside names (named.Lock _) = names.locks
names_beside names (named.Routine _) = names.routines

-- its number among them
abbrev pub number_of : Named → ℕ
number_of (named.Dpc x) = x.0
number_of (named.Timer x) = x.0
number_of (named.Thread x) = x.0
number_of (named.Apc x) = x.0
number_of (named.Lock x) = x.0
number_of (named.Routine x) = x.0

-- no kind has more things than it has numbers
few_beside : (names : NameLists) → AreFew names → (thing : Named) → length (names_beside names thing) < 65535
few_beside names few (named.Dpc _) = omega (arith, few.dpcs)
few_beside names few (named.Timer _) = omega (arith, few.timers)
few_beside names few (named.Thread _) = omega (arith, few.threads)
few_beside names few (named.Apc _) = omega (arith, few.apcs)
few_beside names few (named.Lock _) = omega (arith, few.locks)
few_beside names few (named.Routine _) = omega (arith, few.routines)

-- the name is in the list of the thing's kind, at the thing's number
record IsAt (names : NameLists) (field : List ℕ) (thing : Named) : Type 0 where
  pub place_of : ℕ
  pub there : place field (names_beside names thing) ≡ Some place_of
  pub numbered : number_of thing ≡ number place_of

-- a thing that is made from a place in a list is at that place, where the list is that of its kind
made_at : (make : ℕ → Named) (names : NameLists) (field : List ℕ) (thing : Named) (list : List (List ℕ))
    → ((i : ℕ) → names_beside names (make i) ≡ list) → ((i : ℕ) → number_of (make i) ≡ number i)
    → option_map make (place field list) ≡ Some thing → IsAt names field thing
made_at make names field thing list beside numbered e = go (place field list) refl e
  where
    go : (found : Option ℕ) → place field list ≡ found → option_map make found ≡ Some thing → IsAt names field thing
    go None is e = absurd cc
    go (Some i) is e =
        let same : make i ≡ thing = cc in
        let there : place field (names_beside names (make i)) ≡ Some i = rw (beside i) is in
        subst (IsAt names field) same (record { place_of = i; there = there; numbered = numbered i })

-- what is the first of two is one of them
one_of_two : {A P : Type 0} (first second : Option A) (x : A) → (first ≡ Some x → P) → (second ≡ Some x → P) → or_else first second ≡ Some x → P
one_of_two (Some y) second x here there e = here e
one_of_two None second x here there e = there e

-- a name is in the list of the kind of the thing that it means: a line for each kind
meaning_at : (names : NameLists) (field : List ℕ) (thing : Named) → meaning field names ≡ Some thing → IsAt names field thing
meaning_at names field thing =
    one_of_two _ _ thing (made_at dpc_at names field thing names.dpcs (λ i. refl) (λ i. refl))
    (one_of_two _ _ thing (made_at timer_at names field thing names.timers (λ i. refl) (λ i. refl))
    (one_of_two _ _ thing (made_at thread_at names field thing names.threads (λ i. refl) (λ i. refl))
    (one_of_two _ _ thing (made_at apc_at names field thing names.apcs (λ i. refl) (λ i. refl))
    (one_of_two _ _ thing (made_at lock_at names field thing names.locks (λ i. refl) (λ i. refl))
    (made_at routine_at names field thing names.routines (λ i. refl) (λ i. refl))))))

-- a used thing's name is the one that its kind's list has at its number
used_is : (names : NameLists) → AreFew names → (field : List ℕ) (thing : Named) → used names field ≡ Ok thing
    → (field ≡ get_or (names_beside names thing) (number_of thing) []) × (number_of thing < length (names_beside names thing))
used_is names few field thing e =
    let at = meaning_at names field thing (used_ok names field thing e) in
    let taken = place_takes field (names_beside names thing) at.place_of at.there in
    let small : at.place_of < 65535 = omega (arith, few_beside names few thing, taken.0) in
    let same : number_of thing ≡ at.place_of = at.numbered ∙ number_is at.place_of small in
    rw same (taken.1, taken.0)

-- a field is taken as a thing of one kind, where the reader takes only what is made as one
kind_takes : {X : Type 0} (make : X → Named) (kind_of : Named → Result X ScriptKind) (names : NameLists) → AreFew names
    → ((thing : Named) (x : X) → kind_of thing ≡ Ok x → thing ≡ make x)
    → Takes (λ field. used names field >>= kind_of) (λ x. get_or (names_beside names (make x)) (number_of (make x)) [])
    (λ x. number_of (make x) < length (names_beside names (make x)))
kind_takes {X = X} make kind_of names few only = record { shown = λ field x e. (go field x e).0; fits = λ field x e. (go field x e).1 }
  where
    go : (field : List ℕ) (x : X) → (used names field >>= kind_of) ≡ Ok x
        → (field ≡ get_or (names_beside names (make x)) (number_of (make x)) []) × (number_of (make x) < length (names_beside names (make x)))
    go field x e =
        let bound = bind_ok (used names field) kind_of x e in
        used_is names few field (make x) (bound.is ∙ ap (λ (thing : Named). Ok thing) (only bound.value x bound.then))

-- ---- each kind: what is read as a thing of the kind is one, so its name is taken

-- a thing that is taken as a DPC is that DPC
as_dpc_ok : (thing : Named) (x : DpcNo) → as_dpc thing ≡ Ok x → thing ≡ named.Dpc x
as_dpc_ok (named.Dpc _) x e = cc
as_dpc_ok _ x e = absurd cc

-- a field that is read as a DPC object is that object's name, and the object has one
pub dpc_takes : (names : NameLists) → AreFew names → Takes (read_dpc names) (show_dpc names) (λ x. x.0 < length names.dpcs)
dpc_takes names few = kind_takes (λ (x : DpcNo). named.Dpc x) as_dpc names few as_dpc_ok

-- a thing that is taken as a timer is that timer
as_timer_ok : (thing : Named) (x : TimerNo) → as_timer thing ≡ Ok x → thing ≡ named.Timer x
as_timer_ok (named.Timer _) x e = cc
as_timer_ok _ x e = absurd cc

-- a field that is read as a timer is that timer's name, and the timer has one
pub timer_takes : (names : NameLists) → AreFew names → Takes (read_timer names) (show_timer names) (λ x. x.0 < length names.timers)
timer_takes names few = kind_takes (λ (x : TimerNo). named.Timer x) as_timer names few as_timer_ok

-- a thing that is taken as a thread is that thread
as_thread_ok : (thing : Named) (x : ThreadNo) → as_thread thing ≡ Ok x → thing ≡ named.Thread x
as_thread_ok (named.Thread _) x e = cc
as_thread_ok _ x e = absurd cc

-- a field that is read as a thread is that thread's name, and the thread has one
pub thread_takes : (names : NameLists) → AreFew names → Takes (read_thread names) (show_thread names) (λ x. x.0 < length names.threads)
thread_takes names few = kind_takes (λ (x : ThreadNo). named.Thread x) as_thread names few as_thread_ok

-- a thing that is taken as an APC is that APC
as_apc_ok : (thing : Named) (x : ApcNo) → as_apc thing ≡ Ok x → thing ≡ named.Apc x
as_apc_ok (named.Apc _) x e = cc
as_apc_ok _ x e = absurd cc

-- a field that is read as an APC object is that object's name, and the object has one
pub apc_takes : (names : NameLists) → AreFew names → Takes (read_apc names) (show_apc names) (λ x. x.0 < length names.apcs)
apc_takes names few = kind_takes (λ (x : ApcNo). named.Apc x) as_apc names few as_apc_ok

-- a thing that is taken as a lock is that lock
as_lock_ok : (thing : Named) (x : LockNo) → as_lock thing ≡ Ok x → thing ≡ named.Lock x
as_lock_ok (named.Lock _) x e = cc
as_lock_ok _ x e = absurd cc

-- a field that is read as a lock is that lock's name, and the lock has one
pub lock_takes : (names : NameLists) → AreFew names → Takes (read_lock names) (show_lock names) (λ x. x.0 < length names.locks)
lock_takes names few = kind_takes (λ (x : LockNo). named.Lock x) as_lock names few as_lock_ok

-- a thing that is taken as a routine is that routine
as_routine_ok : (thing : Named) (x : RoutineNo) → as_routine thing ≡ Ok x → thing ≡ named.Routine x
as_routine_ok (named.Routine _) x e = cc
as_routine_ok _ x e = absurd cc

-- a field that is read as a routine is that routine's name, and the routine has one
pub routine_takes : (names : NameLists) → AreFew names → Takes (read_routine names) (show_routine names) (λ x. x.0 < length names.routines)
routine_takes names few = kind_takes (λ (x : RoutineNo). named.Routine x) as_routine names few as_routine_ok

-- ---- names that may be left out, and new ones

-- a field that is read as a timer's DPC is a dash for none, or the name of that DPC object
pub timer_dpc_takes : (names : NameLists) → AreFew names →
    Takes (read_timer_dpc names) (show_unless dash (show_dpc names)) (λ o. IfSome o (λ d. d.0 < length names.dpcs))
timer_dpc_takes names few = unless_takes dash (dpc_takes names few)

-- a field that is read as a rundown routine is a dash for none, or the name of that routine
pub rundown_takes : (names : NameLists) → AreFew names →
    Takes (read_rundown names) (show_unless dash (show_routine names)) (λ o. IfSome o (λ r. r.0 < length names.routines))
rundown_takes names few = unless_takes dash (routine_takes names few)

-- a field that is read as a new name is that name, well formed and not yet the name of a thing
pub new_name_takes : (names : NameLists) → Takes (new_name names) (λ f. f) (λ f. (is_name f ≡ true) × (is_some (meaning f names) ≡ false))
new_name_takes names = record {
  shown = λ f x e. (go f x (is_name f) (is_some (meaning f names)) refl refl e).0;
  fits = λ f x e. (go f x (is_name f) (is_some (meaning f names)) refl refl e).1;
}
  where
    go : (f x : List ℕ) (b there : Bool) → is_name f ≡ b → is_some (meaning f names) ≡ there → cond b (cond there (Err NameTwice) (Ok f)) (Err BadName)
        ≡ Ok x → (f ≡ x) × ((is_name x ≡ true) × (is_some (meaning x names) ≡ false))
    go f x false there p q e = absurd cc
    go f x true true p q e = absurd cc
    go f x true false p q e = let same : f ≡ x = cc in (same, (rw (← same) p, rw (← same) q))
