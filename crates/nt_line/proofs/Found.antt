-- Names that all differ are found where they stand.
use Rattle.std.proofs.Common.{◌≡◌, ℕ, zero, suc, ◌+◌, ◌<◌, Bool, true, false, cond, List, [], ◌∷◌, ◌++◌, length, get_or, Option, Some, None, refl, sym, ◌∙◌, ap}
use Rattle.std.proofs.Common.{subst, append_assoc, arith}
use Rattle.std.proofs.lemmas.List.{append-nil}
use Rattle.std.specs.Str.{bytes_eq}
use Rattle.std.specs.List.{position_from}
use Rattle.std.specs.Prelude.{IfSome, Ok}
use Rattle.nt_text.specs.Fields.{is_name}
use Rattle.nt_line.specs.Places.{place}
use Rattle.nt_line.specs.NameLists.{NameLists, all_names, show_dpc, show_timer, show_thread, show_apc, show_lock, show_routine}
use Rattle.nt_line.specs.Fields.{dash, read_unless, read_dpc, read_timer, read_thread, read_apc, read_lock, read_routine}
use Rattle.nt_line.specs.Rows.{show_unless}
use Rattle.nt_event.specs.declared.numbers.DpcNo.{DpcNo}
use Rattle.nt_event.specs.declared.numbers.TimerNo.{TimerNo}
use Rattle.nt_event.specs.declared.numbers.ThreadNo.{ThreadNo}
use Rattle.nt_event.specs.declared.numbers.ApcNo.{ApcNo}
use Rattle.nt_event.specs.declared.numbers.LockNo.{LockNo}
use Rattle.nt_event.specs.declared.numbers.RoutineNo.{RoutineNo}
use Rattle.nt_line.specs.NameLists.{AreNew}
use Rattle.nt_line.proofs.FieldTexts.{same_text, text_same, unless_again}
use Rattle.nt_line.proofs.UsedNames.{AreFew, number_is}
use Rattle.nt_line.proofs.Spelled.{AreRead}

-- not in a list, from whatever number the places are counted
pub nowhere : (x : List ℕ) (xs : List (List ℕ)) (k j : ℕ) → position_from (bytes_eq x) k xs ≡ None → position_from (bytes_eq x) j xs ≡ None
nowhere x [] k j e = refl
nowhere x (n ∷ ns) k j e = go (bytes_eq x n) e (nowhere x ns (k + 1) (j + 1))
  where
    go : (b : Bool) → cond b (Some k) (position_from (bytes_eq x) (k + 1) ns) ≡ None →
        (position_from (bytes_eq x) (k + 1) ns ≡ None → position_from (bytes_eq x) (j + 1) ns ≡ None) → cond b (Some j) (position_from (bytes_eq x) (j + 1) ns)
        ≡ None
    go true e more = absurd cc
    go false e more = more e

-- a name that is not in two joined lists is in neither of them
pub nowhere_both : (x : List ℕ) (xs ys : List (List ℕ)) (k : ℕ) → position_from (bytes_eq x) k (xs ++ ys) ≡ None → (position_from (bytes_eq x) k xs ≡ None) ×
    (place x ys ≡ None)
nowhere_both x [] ys k e = (refl, nowhere x ys k 0 e)
nowhere_both x (n ∷ ns) ys k e = go (bytes_eq x n) e (nowhere_both x ns ys (k + 1))
  where
    go : (b : Bool) → cond b (Some k) (position_from (bytes_eq x) (k + 1) (ns ++ ys)) ≡ None →
        (position_from (bytes_eq x) (k + 1) (ns ++ ys) ≡ None → (position_from (bytes_eq x) (k + 1) ns ≡ None) × (place x ys ≡ None)) →
        (cond b (Some k) (position_from (bytes_eq x) (k + 1) ns) ≡ None) × (place x ys ≡ None)
    go true e more = absurd cc
    go false e more = more e

-- a new name is not among those before
pub is_new : (before xs : List (List ℕ)) (i : ℕ) → AreNew before xs → i < length xs → (is_name (get_or xs i []) ≡ true) × (place (get_or xs i []) before ≡ None)
is_new before [] i h lt = absurd (omega arith)
is_new before (n ∷ ns) zero h lt = (h.0, h.1)
is_new before (n ∷ ns) (suc i) h lt =
    let r = is_new (before ++ n ∷ []) ns i h.2 (omega arith) in
    (r.0, (nowhere_both (get_or ns i []) before (n ∷ []) 0 r.1).0)

-- a name that has no place in the list of one other name differs from that name
other_than : (x n : List ℕ) → place x (n ∷ []) ≡ None → bytes_eq x n ≡ false
other_than x n e = go (bytes_eq x n) e
  where
    go : (b : Bool) → cond {A = Option ℕ} b (Some 0) None ≡ None → b ≡ false
    go true e = absurd cc
    go false e = refl

-- and it stands where it stands
pub stands_at : (before xs : List (List ℕ)) (i k : ℕ) → AreNew before xs → i < length xs → position_from (bytes_eq (get_or xs i [])) k xs ≡ Some (k + i)
stands_at before [] i k h lt = absurd (omega arith)
stands_at before (n ∷ ns) zero k h lt = rw (text_same n) (ap (λ (m : ℕ). Some m) (omega arith))
stands_at before (n ∷ ns) (suc i) k h lt =
    let r = is_new (before ++ n ∷ []) ns i h.2 (omega arith) in
    let differs = other_than (get_or ns i []) n (nowhere_both (get_or ns i []) before (n ∷ []) 0 r.1).1 in
    rw differs (stands_at (before ++ n ∷ []) ns i (k + 1) h.2 (omega arith) ∙ ap (λ (m : ℕ). Some m) (omega arith))

-- in a list of new names each name is found at its own place
stands_here : (before xs : List (List ℕ)) (i : ℕ) → AreNew before xs → i < length xs → place (get_or xs i []) xs ≡ Some i
stands_here before xs i h lt = stands_at before xs i 0 h lt ∙ ap (λ (m : ℕ). Some m) (omega arith)

-- for each kind: each is a name, and differs from all before it and from all of the kinds before
pub record NamesFit (names : NameLists) : Type 0 where
  pub dpcs : AreNew [] names.dpcs
  pub timers : AreNew names.dpcs names.timers
  pub threads : AreNew (names.dpcs ++ names.timers) names.threads
  pub apcs : AreNew ((names.dpcs ++ names.timers) ++ names.threads) names.apcs
  pub locks : AreNew (((names.dpcs ++ names.timers) ++ names.threads) ++ names.apcs) names.locks
  pub routines : AreNew ((((names.dpcs ++ names.timers) ++ names.threads) ++ names.apcs) ++ names.locks) names.routines

-- a list of new names in two parts
pub new_parts : (before xs ys : List (List ℕ)) → AreNew before (xs ++ ys) → AreNew before xs × AreNew (before ++ xs) ys
new_parts before [] ys h = (tt, subst (λ (b : List (List ℕ)). AreNew b ys) (sym (append-nil before)) h)
new_parts before (n ∷ ns) ys h =
    let r = new_parts (before ++ n ∷ []) ns ys h.2 in
    ((h.0, h.1, r.0), subst (λ (b : List (List ℕ)). AreNew b ys) (append_assoc before (n ∷ []) ns) r.1)

-- new names, followed by names that are new after them, are new names as one list
pub new_from : (before xs ys : List (List ℕ)) → AreNew before xs → AreNew (before ++ xs) ys → AreNew before (xs ++ ys)
new_from before [] ys h k = subst (λ (b : List (List ℕ)). AreNew b ys) (append-nil before) k
new_from before (n ∷ ns) ys h k = (
  h.0,
  h.1,
  new_from (before ++ n ∷ []) ns ys h.2
      (subst (λ (b : List (List ℕ)). AreNew b ys) (sym (append_assoc before (n ∷ []) ns)) k),
)

-- if all names of a script differ, those of each kind are new after those of the kinds before
pub names_fit : (names : NameLists) → AreNew [] (all_names names) → NamesFit names
names_fit names h =
    let a = new_parts [] names.dpcs (names.timers ++ (names.threads ++ (names.apcs ++ (names.locks ++ names.routines)))) h in
    let b = new_parts names.dpcs names.timers (names.threads ++ (names.apcs ++ (names.locks ++ names.routines))) a.1 in
    let c = new_parts (names.dpcs ++ names.timers) names.threads (names.apcs ++ (names.locks ++ names.routines)) b.1 in
    let d = new_parts ((names.dpcs ++ names.timers) ++ names.threads) names.apcs (names.locks ++ names.routines) c.1 in
    let e = new_parts (((names.dpcs ++ names.timers) ++ names.threads) ++ names.apcs) names.locks names.routines d.1 in
    record { dpcs = a.0; timers = b.0; threads = c.0; apcs = d.0; locks = e.0; routines = e.1 }

-- if the names of each kind are new after those of the kinds before, all names of a script differ
pub all_new : (names : NameLists) → NamesFit names → AreNew [] (all_names names)
all_new names f =
    let e = new_from (((names.dpcs ++ names.timers) ++ names.threads) ++ names.apcs) names.locks names.routines f.locks f.routines in
    let d = new_from ((names.dpcs ++ names.timers) ++ names.threads) names.apcs (names.locks ++ names.routines) f.apcs e in
    let c = new_from (names.dpcs ++ names.timers) names.threads (names.apcs ++ (names.locks ++ names.routines)) f.threads d in
    let b = new_from names.dpcs names.timers (names.threads ++ (names.apcs ++ (names.locks ++ names.routines))) f.timers c in
    new_from [] names.dpcs (names.timers ++ (names.threads ++ (names.apcs ++ (names.locks ++ names.routines)))) f.dpcs b

-- a name is no dash
name_no_dash : (f : List ℕ) → is_name f ≡ true → bytes_eq f dash ≡ false
name_no_dash f named = go (bytes_eq f dash) refl
  where
    go : (b : Bool) → bytes_eq f dash ≡ b → b ≡ false
    go true e = let dash_named : is_name dash ≡ true = ap is_name (sym (same_text f dash e)) ∙ named in absurd cc
    go false e = refl

-- things that are read by their names
record AreNamed (names : NameLists) : Type 0 where
  pub dpcs : (x : DpcNo) → x.0 < length names.dpcs → read_dpc names (show_dpc names x) ≡ Ok x
  pub timers : (x : TimerNo) → x.0 < length names.timers → read_timer names (show_timer names x) ≡ Ok x
  pub threads : (x : ThreadNo) → x.0 < length names.threads → read_thread names (show_thread names x) ≡ Ok x
  pub apcs : (x : ApcNo) → x.0 < length names.apcs → read_apc names (show_apc names x) ≡ Ok x
  pub locks : (x : LockNo) → x.0 < length names.locks → read_lock names (show_lock names x) ≡ Ok x
  pub routines : (x : RoutineNo) → x.0 < length names.routines → read_routine names (show_routine names x) ≡ Ok x

-- names that are few and fit are read as the things that they name
are_named : (names : NameLists) → AreFew names → NamesFit names → AreNamed names
are_named names few fit = record {
  dpcs = λ x lt.
      let f = get_or names.dpcs x.0 [] in
      let n = is_new [] names.dpcs x.0 fit.dpcs lt in
      rw (n.0, stands_here [] names.dpcs x.0 fit.dpcs lt, number_is x.0 (omega (arith, few.dpcs))) refl;
  timers = λ x lt.
      let f = get_or names.timers x.0 [] in
      let n = is_new names.dpcs names.timers x.0 fit.timers lt in
      rw (n.0, n.1, stands_here names.dpcs names.timers x.0 fit.timers lt, number_is x.0 (omega (arith, few.timers))) refl;
  threads = λ x lt.
      let f = get_or names.threads x.0 [] in
      let n = is_new (names.dpcs ++ names.timers) names.threads x.0 fit.threads lt in
      let m1 = nowhere_both f names.dpcs names.timers 0 n.1 in
      rw (n.0, m1.0, m1.1, stands_here (names.dpcs ++ names.timers) names.threads x.0 fit.threads lt, number_is x.0 (omega (arith, few.threads))) refl;
  apcs = λ x lt.
      let f = get_or names.apcs x.0 [] in
      let n = is_new ((names.dpcs ++ names.timers) ++ names.threads) names.apcs x.0 fit.apcs lt in
      let m2 = nowhere_both f (names.dpcs ++ names.timers) names.threads 0 n.1 in
      let m1 = nowhere_both f names.dpcs names.timers 0 m2.0 in
      rw (
        n.0,
        m1.0,
        m1.1,
        m2.1,
        stands_here ((names.dpcs ++ names.timers) ++ names.threads) names.apcs x.0 fit.apcs lt,
        number_is x.0 (omega (arith, few.apcs)),
      ) refl;
  locks = λ x lt.
      let f = get_or names.locks x.0 [] in
      let n = is_new (((names.dpcs ++ names.timers) ++ names.threads) ++ names.apcs) names.locks x.0 fit.locks lt in
      let m3 = nowhere_both f ((names.dpcs ++ names.timers) ++ names.threads) names.apcs 0 n.1 in
      let m2 = nowhere_both f (names.dpcs ++ names.timers) names.threads 0 m3.0 in
      let m1 = nowhere_both f names.dpcs names.timers 0 m2.0 in
      rw (
        n.0,
        m1.0,
        m1.1,
        m2.1,
        m3.1,
        stands_here (((names.dpcs ++ names.timers) ++ names.threads) ++ names.apcs) names.locks x.0 fit.locks lt,
        number_is x.0 (omega (arith, few.locks)),
      ) refl;
  routines = λ x lt.
      let f = get_or names.routines x.0 [] in
      let n = is_new ((((names.dpcs ++ names.timers) ++ names.threads) ++ names.apcs) ++ names.locks) names.routines x.0 fit.routines lt in
      let m4 = nowhere_both f (((names.dpcs ++ names.timers) ++ names.threads) ++ names.apcs) names.locks 0 n.1 in
      let m3 = nowhere_both f ((names.dpcs ++ names.timers) ++ names.threads) names.apcs 0 m4.0 in
      let m2 = nowhere_both f (names.dpcs ++ names.timers) names.threads 0 m3.0 in
      let m1 = nowhere_both f names.dpcs names.timers 0 m2.0 in
      rw (
        n.0,
        m1.0,
        m1.1,
        m2.1,
        m3.1,
        m4.1,
        stands_here ((((names.dpcs ++ names.timers) ++ names.threads) ++ names.apcs) ++ names.locks) names.routines x.0 fit.routines lt,
        number_is x.0 (omega (arith, few.routines)),
      ) refl;
}

-- an optional DPC is read from its name, or from the dash if there is none
optional_dpc : (names : NameLists) → NamesFit names → AreNamed names → (o : Option DpcNo) → IfSome o (λ x. x.0 < length names.dpcs) →
    read_unless dash (read_dpc names) (show_unless dash (show_dpc names) o) ≡ Ok o
optional_dpc names fit named None h = refl
optional_dpc names fit named (Some x) h = unless_again dash (read_dpc names) (show_dpc names) x
    (name_no_dash (get_or names.dpcs x.0 []) (is_new [] names.dpcs x.0 fit.dpcs h).0) (named.dpcs x h)

-- an optional routine is read from its name, or from the dash if there is none
optional_routine : (names : NameLists) → NamesFit names → AreNamed names → (o : Option RoutineNo) → IfSome o (λ x. x.0 < length names.routines) →
    read_unless dash (read_routine names) (show_unless dash (show_routine names) o) ≡ Ok o
optional_routine names fit named None h = refl
optional_routine names fit named (Some x) h = unless_again dash (read_routine names) (show_routine names) x
    (name_no_dash (get_or names.routines x.0 [])
    (is_new ((((names.dpcs ++ names.timers) ++ names.threads) ++ names.apcs) ++ names.locks) names.routines x.0 fit.routines h).0)
    (named.routines x h)

-- if names are few and all differ, each thing is read from its name
pub are_read : (names : NameLists) → AreFew names → NamesFit names → AreRead names
are_read names few fit =
    let named = are_named names few fit in
    record {
      dpcs = named.dpcs;
      timers = named.timers;
      threads = named.threads;
      apcs = named.apcs;
      locks = named.locks;
      routines = named.routines;
      timer_dpcs = λ o h. optional_dpc names fit named o h;
      rundowns = λ o h. optional_routine names fit named o h;
    }
