-- Names of a letter and a number: all different, and where they stand.
use Rattle.std.proofs.Common.{Bool, List, None, Option, Some, [], ap, append_assoc, arith, cond, false, refl, subst, suc, sym, true, zero, ℕ, ◌++◌, ◌+◌, ◌<◌}
use Rattle.std.proofs.Common.{◌^◌, ◌∙◌, ◌∷◌, ◌≡◌, ◌≤◌}
use Rattle.std.proofs.lemmas.Fmt.{decimal_injective}
use Rattle.std.proofs.lemmas.List.{append-nil, append_cancel_left}
use Rattle.std.specs.List.{position_from}
use Rattle.std.specs.Prelude.{codes, decimal, option_map, ◌==◌}
use Rattle.std.specs.Str.{bytes_eq}
use Rattle.nt_event.specs.Lists.{table, table_from}
use Rattle.nt_line.proofs.FieldTexts.{same_text}
use Rattle.nt_line.specs.NameLists.{NameLists, apc_at, dpc_at, lock_at, meaning, no_names, or_else, routine_at, thread_at, timer_at, with_name}
use Rattle.nt_line.specs.Places.{place}
use Rattle.nt_line.specs.declared.names.Kind.TheVariants as kind
use Rattle.nt_line.specs.declared.names.Kind.{Kind}
use Rattle.nt_event.proofs.Tables.{table_more}
use Rattle.nt_load.specs.Load.{load_names, object_names, spelled, spelled_names, thing_names, with_spelled}

-- a name that differs from each of a table's stands nowhere in it
pub nowhere_from : (name : List ℕ) (f : ℕ → List ℕ) (k n j : ℕ) →
    ((i : ℕ) → i < n → bytes_eq name (f (k + i)) ≡ false) → position_from (bytes_eq name) j (table_from k n f) ≡ None
unfolding table_from
nowhere_from name f k zero j differs = refl
nowhere_from name f k (suc n) j differs =
    let here : bytes_eq name (f k) ≡ false = first in
    rw here (nowhere_from name f (suc k) n (j + 1) rest)
  where
    first : bytes_eq name (f k) ≡ false
    first = let e : k + 0 ≡ k = omega arith in rw e at (differs 0 (omega arith))

    rest : (i : ℕ) → i < n → bytes_eq name (f (suc k + i)) ≡ false
    rest i l = let e : k + suc i ≡ suc k + i = omega arith in rw e at (differs (suc i) (omega arith))

-- a name that differs from each value of a table has no place in the table
pub nowhere_in_table : (name : List ℕ) (f : ℕ → List ℕ) (n : ℕ) →
    ((i : ℕ) → i < n → bytes_eq name (f i) ≡ false) → place name (table n f) ≡ None
nowhere_in_table name f n differs =
    nowhere_from name f 0 n 0 (λ i l. let e : 0 + i ≡ i = omega arith in rw e (differs i l))

-- two texts that are not the same
pub differ : (f g : List ℕ) → (f ≡ g → ⊥) → bytes_eq f g ≡ false
differ f g ne = go (bytes_eq f g) refl
  where
    go : (b : Bool) → bytes_eq f g ≡ b → b ≡ false
    go true e = absurd (ne (same_text f g e))
    go false e = refl

-- names of the same letter with different numbers differ
pub other_number : (letter : List ℕ) (i j : ℕ) → i < j → j < 2 ^ 64 → bytes_eq (spelled letter j) (spelled letter i) ≡ false
other_number letter i j l h =
    differ (spelled letter j) (spelled letter i) same
  where
    same : spelled letter j ≡ spelled letter i → ⊥
    same e =
        let n : j ≡ i = decimal_injective j i h (omega arith) (append_cancel_left letter (decimal j) (decimal i) e) in
        omega arith

-- in neither of two lists
pub in_neither : (n : List ℕ) (xs ys : List (List ℕ)) → place n xs ≡ None → ((k : ℕ) → position_from (bytes_eq n) k ys ≡ None) → place n (xs ++ ys) ≡ None
in_neither n xs ys a b = from 0 xs a
  where
    from : (k : ℕ) (xs : List (List ℕ)) → position_from (bytes_eq n) k xs ≡ None → position_from (bytes_eq n) k (xs ++ ys) ≡ None
    from k [] e = b k
    from k (x ∷ xs) e = go (bytes_eq n x) e (from (k + 1) xs)
      where
        go : (t : Bool) → cond t (Some k) (position_from (bytes_eq n) (k + 1) xs) ≡ None →
            (position_from (bytes_eq n) (k + 1) xs ≡ None → position_from (bytes_eq n) (k + 1) (xs ++ ys) ≡ None) →
            cond t (Some k) (position_from (bytes_eq n) (k + 1) (xs ++ ys)) ≡ None
        go true e more = absurd cc
        go false e more = more e

-- a name that means nothing stands in no list of names
pub record IsFree (name : List ℕ) (names : NameLists) : Type 0 where
  pub dpcs : place name names.dpcs ≡ None
  pub timers : place name names.timers ≡ None
  pub threads : place name names.threads ≡ None
  pub apcs : place name names.apcs ≡ None
  pub locks : place name names.locks ≡ None
  pub routines : place name names.routines ≡ None

-- a name that means nothing has no place in any of the six lists of names
parts : (d t h a l r : Option ℕ) → or_else (option_map dpc_at d)
    (or_else (option_map timer_at t)
    (or_else (option_map thread_at h) (or_else (option_map apc_at a) (or_else (option_map lock_at l) (option_map routine_at r))))) ≡ None →
    (d ≡ None) × (t ≡ None) × (h ≡ None) × (a ≡ None) × (l ≡ None) × (r ≡ None)
parts None None None None None None e = (refl, refl, refl, refl, refl, refl)
parts (Some d) t h a l r e = absurd cc
parts None (Some t) h a l r e = absurd cc
parts None None (Some h) a l r e = absurd cc
parts None None None (Some a) l r e = absurd cc
parts None None None None (Some l) r e = absurd cc
parts None None None None None (Some r) e = absurd cc

-- a name that names no thing is in the list of no kind
pub free_of : (name : List ℕ) (names : NameLists) → meaning name names ≡ None → IsFree name names
free_of name names e =
    let p = parts (place name names.dpcs) (place name names.timers) (place name names.threads) (place name names.apcs) (place name names.locks)
    (place name names.routines) e in
    record { dpcs = p.0; timers = p.1; threads = p.2; apcs = p.3; locks = p.4; routines = p.5 }

-- a name that is in the list of no kind names no thing
pub free_means : (name : List ℕ) (names : NameLists) → IsFree name names → meaning name names ≡ None
free_means name names f = rw (f.dpcs, f.timers, f.threads, f.apcs, f.locks, f.routines) refl

-- the next name of a letter is free where the ones before it were added
pub still_free : (k : Kind) (letter : List ℕ) (n i : ℕ) (names : NameLists) → n ≤ i → i < 2 ^ 64 → meaning (spelled letter i) names ≡ None →
    meaning (spelled letter i) (with_spelled k letter n names) ≡ None
unfolding with_spelled
still_free k letter n i names l h e =
    free_means (spelled letter i) (with_spelled k letter n names) (go k (free_of (spelled letter i) names e))
  where
    more : (xs : List (List ℕ)) → place (spelled letter i) xs ≡ None → place (spelled letter i) (xs ++ spelled_names letter n) ≡ None
    more xs a = in_neither (spelled letter i) xs (spelled_names letter n) a
        (λ at. nowhere_from (spelled letter i) (spelled letter) 0 n at (λ j m. other_number letter (0 + j) i (omega arith) h))

    go : (k : Kind) → IsFree (spelled letter i) names → IsFree (spelled letter i) (with_spelled k letter n names)
    go kind.Dpc f = record { dpcs = more names.dpcs f.dpcs; timers = f.timers; threads = f.threads; apcs = f.apcs; locks = f.locks; routines = f.routines }
    go kind.Timer f = record { dpcs = f.dpcs; timers = more names.timers f.timers; threads = f.threads; apcs = f.apcs; locks = f.locks; routines = f.routines }
    go kind.Thread f = record {
      dpcs = f.dpcs;
      timers = f.timers;
      threads = more names.threads f.threads;
      apcs = f.apcs;
      locks = f.locks;
      routines = f.routines;
    }
    go kind.Apc f = record { dpcs = f.dpcs; timers = f.timers; threads = f.threads; apcs = more names.apcs f.apcs; locks = f.locks; routines = f.routines }
    go kind.Lock f = record { dpcs = f.dpcs; timers = f.timers; threads = f.threads; apcs = f.apcs; locks = more names.locks f.locks; routines = f.routines }
    go kind.Routine f = record {
      dpcs = f.dpcs;
      timers = f.timers;
      threads = f.threads;
      apcs = f.apcs;
      locks = f.locks;
      routines = more names.routines f.routines;
    }

-- no names of a letter put behind those of a kind change nothing
pub none_spelled : (k : Kind) (letter : List ℕ) (names : NameLists) → with_spelled k letter 0 names ≡ names
unfolding table_from with_spelled
none_spelled kind.Dpc letter names = ap (λ (xs : List (List ℕ)). record names { dpcs = xs }) (append-nil names.dpcs)
none_spelled kind.Timer letter names = ap (λ (xs : List (List ℕ)). record names { timers = xs }) (append-nil names.timers)
none_spelled kind.Thread letter names = ap (λ (xs : List (List ℕ)). record names { threads = xs }) (append-nil names.threads)
none_spelled kind.Apc letter names = ap (λ (xs : List (List ℕ)). record names { apcs = xs }) (append-nil names.apcs)
none_spelled kind.Lock letter names = ap (λ (xs : List (List ℕ)). record names { locks = xs }) (append-nil names.locks)
none_spelled kind.Routine letter names = ap (λ (xs : List (List ℕ)). record names { routines = xs }) (append-nil names.routines)

-- the next name of a letter put behind the first n of them makes n + 1 of them
pub more_spelled : (k : Kind) (letter : List ℕ) (n : ℕ) (names : NameLists) →
    with_name k (spelled letter n) (with_spelled k letter n names) ≡ with_spelled k letter (n + 1) names
unfolding with_spelled
more_spelled k letter n names = go k
  where
    more : (xs : List (List ℕ)) → (xs ++ spelled_names letter n) ++ spelled letter n ∷ [] ≡ xs ++ spelled_names letter (n + 1)
    more xs =
        append_assoc xs (spelled_names letter n) (spelled letter n ∷ [])
        ∙ ap (λ (ys : List (List ℕ)). xs ++ ys) (sym (table_more n (spelled letter)))

    go : (k : Kind) → with_name k (spelled letter n) (with_spelled k letter n names) ≡ with_spelled k letter (n + 1) names
    go kind.Dpc = ap (λ (xs : List (List ℕ)). record names { dpcs = xs }) (more names.dpcs)
    go kind.Timer = ap (λ (xs : List (List ℕ)). record names { timers = xs }) (more names.timers)
    go kind.Thread = ap (λ (xs : List (List ℕ)). record names { threads = xs }) (more names.threads)
    go kind.Apc = ap (λ (xs : List (List ℕ)). record names { apcs = xs }) (more names.apcs)
    go kind.Lock = ap (λ (xs : List (List ℕ)). record names { locks = xs }) (more names.locks)
    go kind.Routine = ap (λ (xs : List (List ℕ)). record names { routines = xs }) (more names.routines)

-- a name that begins with another letter stands nowhere in the names of a letter, nor in them behind a list
pub place_beside : (xs : List (List ℕ)) (letter n head : ℕ) (rest : List ℕ) → (head == letter) ≡ false → place (head ∷ rest) xs ≡ None →
    place (head ∷ rest) (xs ++ spelled_names (letter ∷ []) n) ≡ None
place_beside xs letter n head rest ne a =
    in_neither (head ∷ rest) xs (spelled_names (letter ∷ []) n) a
    (λ at. nowhere_from (head ∷ rest) (spelled (letter ∷ [])) 0 n at (λ i m. differs (0 + i)))
  where
    differs : (i : ℕ) → bytes_eq (head ∷ rest) (spelled (letter ∷ []) i) ≡ false
    differs i = rw ne refl

-- so it is free beside them
free_beside : (k : Kind) (letter n head : ℕ) (rest : List ℕ) (names : NameLists) → (head == letter) ≡ false → IsFree (head ∷ rest) names →
    IsFree (head ∷ rest) (with_spelled k (letter ∷ []) n names)
unfolding with_spelled
free_beside k letter n head rest names ne f = go k
  where
    more : (xs : List (List ℕ)) → place (head ∷ rest) xs ≡ None → place (head ∷ rest) (xs ++ spelled_names (letter ∷ []) n) ≡ None
    more xs a = place_beside xs letter n head rest ne a

    go : (k : Kind) → IsFree (head ∷ rest) (with_spelled k (letter ∷ []) n names)
    go kind.Dpc = record { dpcs = more names.dpcs f.dpcs; timers = f.timers; threads = f.threads; apcs = f.apcs; locks = f.locks; routines = f.routines }
    go kind.Timer = record { dpcs = f.dpcs; timers = more names.timers f.timers; threads = f.threads; apcs = f.apcs; locks = f.locks; routines = f.routines }
    go kind.Thread = record { dpcs = f.dpcs; timers = f.timers; threads = more names.threads f.threads; apcs = f.apcs; locks = f.locks; routines = f.routines }
    go kind.Apc = record { dpcs = f.dpcs; timers = f.timers; threads = f.threads; apcs = more names.apcs f.apcs; locks = f.locks; routines = f.routines }
    go kind.Lock = record { dpcs = f.dpcs; timers = f.timers; threads = f.threads; apcs = f.apcs; locks = more names.locks f.locks; routines = f.routines }
    go kind.Routine = record {
      dpcs = f.dpcs;
      timers = f.timers;
      threads = f.threads;
      apcs = f.apcs;
      locks = f.locks;
      routines = more names.routines f.routines;
    }

-- each name is free as long as there are no names at all
pub free_first : (name : List ℕ) (names : NameLists) → names ≡ no_names → IsFree name names
free_first name names e = subst (λ (n : NameLists). IsFree name n) (sym e) none
  where
    none : IsFree name no_names
    none = record { dpcs = refl; timers = refl; threads = refl; apcs = refl; locks = refl; routines = refl }

-- names of one letter put behind others leave a free name with another first letter free
pub free_behind : (k : Kind) (letter n head : ℕ) (rest : List ℕ) (names new : NameLists) → new ≡ with_spelled k (letter ∷ []) n names →
    (head == letter) ≡ false → IsFree (head ∷ rest) names → IsFree (head ∷ rest) new
free_behind k letter n head rest names new e ne f =
    subst (λ (m : NameLists). IsFree (head ∷ rest) m) (sym e) (free_beside k letter n head rest names ne f)

-- and beside the name of a routine that differs
pub free_behind_one : (name other : List ℕ) (names new : NameLists) → new ≡ with_name kind.Routine other names → bytes_eq name other ≡ false →
    IsFree name names → IsFree name new
free_behind_one name other names new e ne f = subst (λ (m : NameLists). IsFree name m) (sym e) beside
  where
    nowhere : (at : ℕ) → position_from (bytes_eq name) at (other ∷ []) ≡ None
    nowhere at = rw ne refl

    beside : IsFree name (with_name kind.Routine other names)
    beside = record {
      dpcs = f.dpcs;
      timers = f.timers;
      threads = f.threads;
      apcs = f.apcs;
      locks = f.locks;
      routines = in_neither name names.routines (other ∷ []) f.routines nowhere;
    }

-- ---- the names of the load, as they are added

-- names put behind none for DPC objects, timers and threads, in this order, are the names of the objects
pub objects_made : (a b d e : NameLists) → a ≡ no_names → b ≡ with_spelled kind.Dpc (100 ∷ []) 32 a → d ≡ with_spelled kind.Timer (107 ∷ []) 8 b →
    e ≡ with_spelled kind.Thread (116 ∷ []) 32 d → e ≡ object_names
unfolding object_names with_spelled
objects_made a b d e ea eb ed ee =
    ee ∙ ap (with_spelled kind.Thread (116 ∷ []) 32) (ed ∙ ap (with_spelled kind.Timer (107 ∷ []) 8)
    (eb ∙ ap (with_spelled kind.Dpc (100 ∷ []) 32) ea))

-- names put behind those of the objects for APC objects, kind by kind, are the names of the things
pub things_made : (a b d e : NameLists) → a ≡ object_names → b ≡ with_spelled kind.Apc (115 ∷ []) 32 a → d ≡ with_spelled kind.Apc (110 ∷ []) 32 b →
    e ≡ with_spelled kind.Apc (117 ∷ []) 32 d → e ≡ thing_names
unfolding object_names thing_names with_spelled
things_made a b d e ea eb ed ee =
    ee ∙ ap (with_spelled kind.Apc (117 ∷ []) 32) (ed ∙ ap (with_spelled kind.Apc (110 ∷ []) 32)
    (eb ∙ ap (with_spelled kind.Apc (115 ∷ []) 32) ea))

-- names put behind those of the things for the idle routine and 32 others are the names of the load
pub all_made : (a b d : NameLists) → a ≡ thing_names → b ≡ with_name kind.Routine (codes "idle") a → d ≡ with_spelled kind.Routine (98 ∷ []) 32 b →
    d ≡ load_names
unfolding object_names thing_names load_names with_spelled
all_made a b d ea eb ed =
    ed ∙ ap (with_spelled kind.Routine (98 ∷ []) 32) (eb ∙ ap (with_name kind.Routine (codes "idle")) ea)

-- a name that begins with another letter is free beside the objects, and beside all things
pub free_of_objects : (head : ℕ) (rest : List ℕ) (names : NameLists) → names ≡ object_names → (head == 100) ≡ false → (head == 107) ≡ false →
    (head == 116) ≡ false → IsFree (head ∷ rest) names
unfolding object_names
free_of_objects head rest names e d k t = subst (λ (n : NameLists). IsFree (head ∷ rest) n) (sym e) free
  where
    free : IsFree (head ∷ rest) object_names
    free = record {
      dpcs = place_beside [] 100 32 head rest d refl;
      timers = place_beside [] 107 8 head rest k refl;
      threads = place_beside [] 116 32 head rest t refl;
      apcs = refl;
      locks = refl;
      routines = refl;
    }

-- a name with a first letter that no kind of thing has is free among the names of the things
pub free_of_things : (head : ℕ) (rest : List ℕ) (names : NameLists) → names ≡ thing_names → (head == 100) ≡ false → (head == 107) ≡ false →
    (head == 116) ≡ false → (head == 115) ≡ false → (head == 110) ≡ false → (head == 117) ≡ false → IsFree (head ∷ rest) names
unfolding object_names thing_names
free_of_things head rest names e d k t s n u = subst (λ (m : NameLists). IsFree (head ∷ rest) m) (sym e) free
  where
    of_s : place (head ∷ rest) ([] ++ spelled_names (115 ∷ []) 32) ≡ None
    of_s = place_beside [] 115 32 head rest s refl

    of_n : place (head ∷ rest) (spelled_names (115 ∷ []) 32 ++ spelled_names (110 ∷ []) 32) ≡ None
    of_n = place_beside (spelled_names (115 ∷ []) 32) 110 32 head rest n of_s

    free : IsFree (head ∷ rest) thing_names
    free = record {
      dpcs = place_beside [] 100 32 head rest d refl;
      timers = place_beside [] 107 8 head rest k refl;
      threads = place_beside [] 116 32 head rest t refl;
      apcs = place_beside (spelled_names (115 ∷ []) 32 ++ spelled_names (110 ∷ []) 32) 117 32 head rest u of_n;
      locks = refl;
      routines = refl;
    }
