-- Keys that are set, taken back and moved stand where they should.
use Rattle.std.proofs.Common.{◌≡◌, ◌⊎◌, ◌<◌, ◌≤◌, ◌+◌, ◌-◌, ◌^◌, Bool, true, false, List, Option, Some, None, ℕ, ap, arith, cond, eqb, leb, inl, inr, get_or}
use Rattle.std.proofs.Common.{length, refl, set, subst, suc}
use Rattle.std.proofs.Common.{[], ◌∷◌, sym, zero, ◌∙◌}
use Rattle.nt_event.specs.declared.inserts.Setting.{Setting}
use Rattle.nt_event.specs.Timers.{setting_in}
use Rattle.nt_timer.specs.declared.due.DueKey.{DueKey}
use Rattle.nt_timer.specs.declared.rings.TheConstants.{HEADS}
use Rattle.nt_timer.specs.Due.{AreSorted, EachOnce, IsIn, placed, without}
use Rattle.nt_timer.specs.Rings.{IsOfRing}
use Rattle.nt_timer.specs.Slots.{slot_index}
use Rattle.nt_timer.specs.Wheel.{IsKept, IsListed, IsPassed, IsTurned, IsWheel, Stands, Waits, due_key, due_with, due_without, home_of}
use Rattle.nt_timer.proofs.DueLists.{gone_without, in_placed, in_without, kept_without, new_placed, old_placed, once_placed, once_without, room_left}
use Rattle.nt_timer.proofs.DueLists.{sorted_placed}
use Rattle.nt_timer.proofs.DueLists.{sorted_without}
use Rattle.nt_timer.proofs.Places.{moves, stays, within}
use Rattle.std.proofs.lemmas.Bool.{cases_eq, cases_lt, eq-eqb, le-leb, leb-false, leb-true, lt-leb, lt-ltb, le-ltb, ne_eqb}
use Rattle.std.proofs.lemmas.List.{get_or-set_other, get_or-set_same, length-set, set-set}

-- ---- the home of a key

-- a key whose due time is reached belongs in no slot's ring
pub home_due : (now due k : ℕ) → due ≤ now → home_of now due k ≡ HEADS + k
home_due now due k h = rw (le-leb due now h) refl

-- a key whose due time is to come belongs in the ring of its slot, where that is one of the wheel's
pub home_slot : (now due k : ℕ) → now < due → slot_index now due < HEADS → home_of now due k ≡ slot_index now due
home_slot now due k h less = rw (lt-leb due now h, lt-ltb (slot_index now due) HEADS less) refl

-- a key whose slot is beyond those of the wheel belongs in no slot's ring
pub home_far : (now due k : ℕ) → now < due → HEADS ≤ slot_index now due → home_of now due k ≡ HEADS + k
home_far now due k h most = rw (lt-leb due now h, le-ltb (slot_index now due) HEADS most) refl

-- ---- the due keys with one more

-- setting a key puts it in the list of due keys if it is due, else leaves the list as it was
with_cases : (now k : ℕ) (s : Setting) (due : List DueKey) → ((s.due ≤ now) × (due_with now k s due ≡ placed (due_key k s) due)) ⊎
    ((now < s.due) × (due_with now k s due ≡ due))
with_cases now k s due = go (leb s.due now) refl
  where
    go : (t : Bool) → leb s.due now ≡ t → ((s.due ≤ now) × (due_with now k s due ≡ placed (due_key k s) due)) ⊎ ((now < s.due) × (due_with now k s due ≡ due))
    go true e = inl (leb-true s.due now e, rw e refl)
    go false e = inr (leb-false s.due now e, rw e refl)

-- a due key after a key is set is that key, which is due, or was there before
in_with : (now k : ℕ) (s : Setting) (due : List DueKey) (e : DueKey) → IsIn e (due_with now k s due) → ((e ≡ due_key k s) × (s.due ≤ now)) ⊎ IsIn e due
in_with now k s due e h =
    elim (with_cases now k s due) [
      | inl new ↦ elim (in_placed (due_key k s) e due (subst (λ (ys : List DueKey). IsIn e ys) new.1 h)) [
        | inl is ↦ inl (is, new.0)
        | inr old ↦ inr old
      ]
      | inr same ↦ inr (subst (λ (ys : List DueKey). IsIn e ys) same.1 h)
    ]

-- a due key stays in the list when a key is set
old_with : (now k : ℕ) (s : Setting) (due : List DueKey) (e : DueKey) → IsIn e due → IsIn e (due_with now k s due)
old_with now k s due e h =
    elim (with_cases now k s due) [
      | inl new ↦ subst (λ (ys : List DueKey). IsIn e ys) (sym new.1) (old_placed (due_key k s) e due h)
      | inr same ↦ subst (λ (ys : List DueKey). IsIn e ys) (sym same.1) h
    ]

-- a key that is set and due is in the list of due keys
new_with : (now k : ℕ) (s : Setting) (due : List DueKey) → s.due ≤ now → IsIn (due_key k s) (due_with now k s due)
new_with now k s due r =
    elim (with_cases now k s due) [
      | inl new ↦ subst (λ (ys : List DueKey). IsIn (due_key k s) ys) (sym new.1) (new_placed (due_key k s) due)
      | inr same ↦ absurd (omega (arith, same.0))
    ]

-- the list of due keys stays sorted when a key that isn't in it is set
sorted_with : (now k : ℕ) (s : Setting) (due : List DueKey) → AreSorted due → ((e : DueKey) → IsIn e due → e.key ≡ k → ⊥) → AreSorted (due_with now k s due)
sorted_with now k s due h apart =
    elim (with_cases now k s due) [
      | inl new ↦ subst AreSorted (sym new.1) (sorted_placed (due_key k s) due h apart)
      | inr same ↦ subst AreSorted (sym same.1) h
    ]

-- the list of due keys has each key once after a key that isn't in it is set
once_with : (now k : ℕ) (s : Setting) (due : List DueKey) → EachOnce due → ((e : DueKey) → IsIn e due → e.key ≡ k → ⊥) → EachOnce (due_with now k s due)
once_with now k s due h apart =
    elim (with_cases now k s due) [
      | inl new ↦ subst EachOnce (sym new.1) (once_placed (due_key k s) due h apart)
      | inr same ↦ subst EachOnce (sym same.1) h
    ]

-- ---- a key is put where its setting says

-- a key that stands where its setting says still does when another key is set
grown : (now k j : ℕ) (s : Setting) (due : List DueKey) (o : Option Setting) (h : ℕ) → Stands now due j o h → Stands now (due_with now k s due) j o h
grown now k j s due None h st = st
grown now k j s due (Some t) h st = (st.0, λ r. old_with now k s due (due_key j t) (st.1 r))

-- the home of a key after its home is written is what was written
own_home : (homes : List ℕ) (k h : ℕ) → HEADS + k < length homes → get_or (set homes (HEADS + k) h) (HEADS + k) 0 ≡ h
own_home homes k h less = get_or-set_same homes (HEADS + k) h 0 less

-- writing the home of a key leaves another key's home as it was
other_home : (homes : List ℕ) (k j h : ℕ) → (j ≡ k → ⊥) → get_or (set homes (HEADS + k) h) (HEADS + j) 0 ≡ get_or homes (HEADS + j) 0
other_home homes k j h ne =
    get_or-set_other homes (HEADS + k) (HEADS + j) h 0 (λ e. ne (omega arith))

-- a key that was set stands where its setting says
stands_set : (now k : ℕ) (s : Setting) (due : List DueKey) (o : Option Setting) (h : ℕ) → o ≡ Some s → h ≡ home_of now s.due k →
    Stands now (due_with now k s due) k o h
stands_set now k s due o h e at =
    subst (λ (p : Option Setting). Stands now (due_with now k s due) k p h) (sym e) (at, new_with now k s due)

-- each due key after a key is set is one that is set, due and in no slot
listed_with : (now k : ℕ) (s : Setting) (settings : List (Option Setting)) (homes : List ℕ) (due : List DueKey) → k < length settings →
    length homes ≡ HEADS + length settings → setting_in settings k ≡ Some s → ((e : DueKey) → IsIn e due → IsListed now settings homes e) →
    ((e : DueKey) → IsIn e due → e.key ≡ k → ⊥) → (e : DueKey) → ((e ≡ due_key k s) × (s.due ≤ now)) ⊎ IsIn e due →
    IsListed now settings (set homes (HEADS + k) (home_of now s.due k)) e
listed_with now k s settings homes due less nodes at listed apart e (inl new) =
    let own : IsListed now settings (set homes (HEADS + k) (home_of now s.due k)) (due_key k s) = record {
      below = less;
      setting = s;
      set = at;
      same = refl;
      reached = new.1;
      alone = own_home homes k (home_of now s.due k) (omega arith) ∙ home_due now s.due k new.1;
    } in
    subst (λ (x : DueKey). IsListed now settings (set homes (HEADS + k) (home_of now s.due k)) x) (sym new.0) own
listed_with now k s settings homes due less nodes at listed apart e (inr old) =
    let x = listed e old in
    record {
      below = x.below;
      setting = x.setting;
      set = x.set;
      same = x.same;
      reached = x.reached;
      alone = other_home homes k e.key (home_of now s.due k) (apart e old) ∙ x.alone;
    }

-- a set key that isn't listed as due, put where its setting says, stands right where that ring is allowed
pub stood : (now : ℕ) (Allowed : ℕ → Type 0) (Excepted Excepted' : ℕ → ℕ → Type 0) (settings : List (Option Setting)) (homes : List ℕ) (due : List DueKey)
    (k : ℕ) (s : Setting) → IsKept now Allowed Excepted settings homes due → k < length settings → setting_in settings k ≡ Some s →
    ((e : DueKey) → IsIn e due → e.key ≡ k → ⊥) → Allowed (home_of now s.due k) → ((j h : ℕ) → (j ≡ k → ⊥) → Excepted j h → Excepted' j h) →
    IsKept now Allowed Excepted' settings (set homes (HEADS + k) (home_of now s.due k)) (due_with now k s due)
stood now Allowed Excepted Excepted' settings homes due k s x less at apart ok rest =
    let nodes = x.nodes in
    record {
      nodes = length-set homes (HEADS + k) (home_of now s.due k) ∙ nodes;
      sorted = sorted_with now k s due x.sorted apart;
      once = once_with now k s due x.once apart;
      listed = λ e h. listed_with now k s settings homes due less nodes at x.listed apart e (in_with now k s due e h);
      stands = λ j lower. elim (cases_eq j k) [
        | inl e ↦ inl (own j e)
        | inr ne ↦ other j lower ne
      ];
    }
  where
    own : (j : ℕ) → j ≡ k → Stands now (due_with now k s due) j (setting_in settings j) (get_or (set homes (HEADS + k) (home_of now s.due k)) (HEADS + j) 0) ×
        Allowed (get_or (set homes (HEADS + k) (home_of now s.due k)) (HEADS + j) 0)
    own j e =
        let here : get_or (set homes (HEADS + k) (home_of now s.due k)) (HEADS + k) 0 ≡ home_of now s.due k =
        own_home homes k (home_of now s.due k) (let n = x.nodes in omega arith) in
        rw e (
          stands_set now k s due (setting_in settings k) (get_or (set homes (HEADS + k) (home_of now s.due k)) (HEADS + k) 0) at here,
          subst Allowed (sym here) ok,
        )

    other : (j : ℕ) → j < length settings → (j ≡ k → ⊥) → (Stands now (due_with now k s due) j (setting_in settings j)
        (get_or (set homes (HEADS + k) (home_of now s.due k)) (HEADS + j) 0) × Allowed (get_or (set homes (HEADS + k) (home_of now s.due k)) (HEADS + j) 0)) ⊎
        Excepted' j (get_or (set homes (HEADS + k) (home_of now s.due k)) (HEADS + j) 0)
    other j lower ne =
        rw (other_home homes k j (home_of now s.due k) ne) (elim (x.stands j lower) [
          | inl st ↦ inl (grown now k j s due (setting_in settings j) (get_or homes (HEADS + j) 0) st.0, st.1)
          | inr out ↦ inr (rest j (get_or homes (HEADS + j) 0) ne out)
        ])

-- a ring that was allowed still is
pub weaker : (now : ℕ) (Allowed Allowed' : ℕ → Type 0) (Excepted : ℕ → ℕ → Type 0) (settings : List (Option Setting)) (homes : List ℕ) (due : List DueKey) →
    ((h : ℕ) → Allowed h → Allowed' h) → IsKept now Allowed Excepted settings homes due → IsKept now Allowed' Excepted settings homes due
weaker now Allowed Allowed' Excepted settings homes due f x =
    record {
      nodes = x.nodes;
      sorted = x.sorted;
      once = x.once;
      listed = x.listed;
      stands = λ k lower. elim (x.stands k lower) [
        | inl st ↦ inl (st.0, f (get_or homes (HEADS + k) 0) st.1)
        | inr out ↦ inr out
      ];
    }

-- ---- a key is taken out of where it stands

-- a due key that is left after a key is taken back was there before
fewer_in : (now k : ℕ) (old : Option Setting) (due : List DueKey) (e : DueKey) → IsIn e (due_without now k old due) → IsIn e due
fewer_in now k None due e h = h
fewer_in now k (Some s) due e h = go (leb s.due now) h
  where
    go : (t : Bool) → IsIn e (cond t (without k due) due) → IsIn e due
    go true h = in_without k e due h
    go false h = h

-- a due key of another number stays when a key is taken back
kept_in : (now k : ℕ) (old : Option Setting) (due : List DueKey) (e : DueKey) → (e.key ≡ k → ⊥) → IsIn e due → IsIn e (due_without now k old due)
kept_in now k None due e ne h = h
kept_in now k (Some s) due e ne h = go (leb s.due now)
  where
    go : (t : Bool) → IsIn e (cond t (without k due) due)
    go true = kept_without k e due ne h
    go false = h

-- the list of due keys stays sorted as a key with its old setting is taken out
pub fewer_sorted : (now k : ℕ) (old : Option Setting) (due : List DueKey) → AreSorted due → AreSorted (due_without now k old due)
fewer_sorted now k None due h = h
fewer_sorted now k (Some s) due h = go (leb s.due now)
  where
    go : (t : Bool) → AreSorted (cond t (without k due) due)
    go true = sorted_without k due h
    go false = h

-- the list of due keys has each key once after a key is taken back
fewer_once : (now k : ℕ) (old : Option Setting) (due : List DueKey) → EachOnce due → EachOnce (due_without now k old due)
fewer_once now k None due h = h
fewer_once now k (Some s) due h = go (leb s.due now)
  where
    go : (t : Bool) → EachOnce (cond t (without k due) due)
    go true = once_without k due h
    go false = h

-- no due key has the number of a key that was taken back
apart_without : (now k : ℕ) (old : Option Setting) (settings : List (Option Setting)) (homes : List ℕ) (due : List DueKey) → EachOnce due →
    ((e : DueKey) → IsIn e due → IsListed now settings homes e) → setting_in settings k ≡ old → (e : DueKey) → IsIn e (due_without now k old due) →
    e.key ≡ k → ⊥
apart_without now k None settings homes due once listed at e h same =
    let x = listed e h in
    let here : setting_in settings k ≡ Some x.setting = sym (ap (setting_in settings) same) ∙ x.set in cc
apart_without now k (Some s) settings homes due once listed at e h same = go (leb s.due now) refl h
  where
    go : (t : Bool) → leb s.due now ≡ t → IsIn e (cond t (without k due) due) → ⊥
    go true r h = gone_without k e due once h same
    go false r h =
        let x = listed e h in
        let here : setting_in settings k ≡ Some x.setting = sym (ap (setting_in settings) same) ∙ x.set in
        let is : x.setting ≡ s = cc in
        let late : now < s.due = leb-false s.due now r in
        let d : x.setting.due ≡ s.due = ap (λ (z : Setting). z.due) is in
        omega (arith, x.reached)

-- after a key with its setting is taken out of a wheel's due keys, none of these has its number
pub lifted_apart : (low now k : ℕ) (old : Option Setting) (settings : List (Option Setting)) (homes : List ℕ) (due : List DueKey) →
    IsWheel low now settings homes due → setting_in settings k ≡ old → (e : DueKey) → IsIn e (due_without now k old due) → e.key ≡ k → ⊥
lifted_apart low now k old settings homes due x at e h same =
    apart_without now k old settings homes due x.once x.listed at e h same

-- another key that stands where its setting says still does after a key is taken back
fewer_stands : (now k j : ℕ) (old : Option Setting) (due : List DueKey) (o : Option Setting) (h : ℕ) → (j ≡ k → ⊥) → Stands now due j o h →
    Stands now (due_without now k old due) j o h
fewer_stands now k j old due None h ne st = st
fewer_stands now k j old due (Some t) h ne st = (st.0, λ r. kept_in now k old due (due_key j t) ne (st.1 r))

-- a wheel in which all keys but one must stand where their settings say
pub IsLifted : ℕ → ℕ → ℕ → List (Option Setting) → List ℕ → List DueKey → Type 0
IsLifted low now k settings homes due = IsKept now (λ home. low ≤ home) (λ j home. j ≡ k) settings homes due

-- a key taken out of its ring and of the due keys leaves the others standing, whatever its new setting is
pub lifted : (low now k : ℕ) (old new : Option Setting) (settings : List (Option Setting)) (homes : List ℕ) (due : List DueKey) →
    IsWheel low now settings homes due → setting_in settings k ≡ old →
    IsLifted low now k (set settings k new) (set homes (HEADS + k) (HEADS + k)) (due_without now k old due)
unfolding IsLifted
lifted low now k old new settings homes due x at =
    record {
      nodes = length-set homes (HEADS + k) (HEADS + k) ∙ x.nodes ∙ ap (λ (n : ℕ). HEADS + n) (sym (length-set settings k new));
      sorted = fewer_sorted now k old due x.sorted;
      once = fewer_once now k old due x.once;
      listed = λ e h.
          let y = x.listed e (fewer_in now k old due e h) in
          let ne : e.key ≡ k → ⊥ = apart_without now k old settings homes due x.once x.listed at e h in
          record {
            below = let n = length-set settings k new in let b = y.below in omega arith;
            setting = y.setting;
            set = get_or-set_other settings k e.key new None ne ∙ y.set;
            same = y.same;
            reached = y.reached;
            alone = other_home homes k e.key (HEADS + k) ne ∙ y.alone;
          };
      stands = λ j lower. elim (cases_eq j k) [ inl e ↦ inr e | inr ne ↦ inl (other j (let n = length-set settings k new in omega arith) ne) ];
    }
  where
    other : (j : ℕ) → j < length settings → (j ≡ k → ⊥) → Stands now (due_without now k old due) j (setting_in (set settings k new) j)
        (get_or (set homes (HEADS + k) (HEADS + k)) (HEADS + j) 0) × (low ≤ get_or (set homes (HEADS + k) (HEADS + k)) (HEADS + j) 0)
    other j lower ne =
        rw (other_home homes k j (HEADS + k) ne, get_or-set_other settings k j new None ne) (elim (x.stands j lower) [
          | inl st ↦ (fewer_stands now k j old due (setting_in settings j) (get_or homes (HEADS + j) 0) ne st.0, st.1)
          | inr out ↦ absurd out
        ])

-- a key without a setting whose node is its own home stands where it should
stands_none : (now j : ℕ) (due : List DueKey) (o : Option Setting) (h : ℕ) → o ≡ None → h ≡ HEADS + j → Stands now due j o h
stands_none now j due o h e at = subst (λ (p : Option Setting). Stands now due j p h) (sym e) at

-- a lifted key that isn't set and stands alone makes the wheel whole
pub settled_none : (low now k : ℕ) (settings : List (Option Setting)) (homes : List ℕ) (due : List DueKey) → IsLifted low now k settings homes due →
    low ≤ HEADS → setting_in settings k ≡ None → get_or homes (HEADS + k) 0 ≡ HEADS + k →
    IsWheel low now settings homes due
unfolding IsLifted
settled_none low now k settings homes due x small none alone =
    record {
      nodes = x.nodes;
      sorted = x.sorted;
      once = x.once;
      listed = x.listed;
      stands = λ j lower. elim (x.stands j lower) [
        | inl st ↦ inl st
        | inr e ↦
            let own : get_or homes (HEADS + j) 0 ≡ HEADS + j =
            ap (λ (n : ℕ). get_or homes (HEADS + n) 0) e ∙ alone ∙ ap (λ (n : ℕ). HEADS + n) (sym e) in
            inl (stands_none now j due (setting_in settings j) (get_or homes (HEADS + j) 0) (ap (setting_in settings) e ∙ none) own, omega arith)
      ];
    }

-- a lifted key that is set and is put where its setting says makes the wheel whole
pub settled_some : (low low' now k : ℕ) (s : Setting) (settings : List (Option Setting)) (homes : List ℕ) (due : List DueKey) →
    IsLifted low now k settings homes due → k < length settings → setting_in settings k ≡ Some s → ((e : DueKey) → IsIn e due → e.key ≡ k → ⊥) → low' ≤ low →
    low' ≤ home_of now s.due k → IsWheel low' now settings (set homes (HEADS + k) (home_of now s.due k)) (due_with now k s due)
unfolding IsLifted
settled_some low low' now k s settings homes due x less at apart fewer under =
    stood now (λ home. low' ≤ home) (λ j home. j ≡ k) (λ j home. ⊥) settings homes due k s
    (weaker now (λ home. low ≤ home) (λ home. low' ≤ home) (λ j home. j ≡ k) settings homes due (λ h l. omega arith) x) less at apart under (λ j h ne e. ne e)

-- ---- there is room among the due keys

-- if some key isn't listed as due, the due keys are fewer than the keys
pub room : (now : ℕ) (Allowed : ℕ → Type 0) (Excepted : ℕ → ℕ → Type 0) (settings : List (Option Setting)) (homes : List ℕ) (due : List DueKey) (k : ℕ) →
    IsKept now Allowed Excepted settings homes due → k < length settings → ((e : DueKey) → IsIn e due → e.key ≡ k → ⊥) → length due < length settings
room now Allowed Excepted settings homes due k x less apart =
    room_left (length settings) (record { due = 0; number = 0; key = k }) due x.once (λ e h. (x.listed e h).below) less apart

-- ---- the time goes on

-- a key not due at the old time stands as set, its slot after the new time's, or waits to be moved
not_yet : (past now from k : ℕ) (s : Setting) (due : List DueKey) (h : ℕ) → past < now → now < 2 ^ 50 → from ≤ h → past < s.due → h ≡ home_of past s.due k →
    (slot_index past now < slot_index past s.due) ⊎ (slot_index past s.due ≤ slot_index past now) →
    (Stands now due k (Some s) h × (slot_index past now < h)) ⊎ Waits past now from (Some s) h
not_yet past now from k s due h less few least late at (inl later) =
    let st = stays past now s.due less late later in
    let end = within past now less few in
    inl (elim (cases_lt (slot_index past s.due) HEADS) [
      | inl small ↦
          let a : home_of past s.due k ≡ slot_index past s.due = home_slot past s.due k late small in
          let b : home_of now s.due k ≡ slot_index now s.due = home_slot now s.due k st.0 (omega (arith, st.1)) in
          ((at ∙ a ∙ sym st.1 ∙ sym b, λ r. absurd (omega (arith, st.0))), omega (arith, a))
      | inr large ↦
          let a : home_of past s.due k ≡ HEADS + k = home_far past s.due k late large in
          let b : home_of now s.due k ≡ HEADS + k = home_far now s.due k st.0 (omega (arith, st.1)) in
          ((at ∙ a ∙ sym b, λ r. absurd (omega (arith, st.0))), omega (arith, a))
    ])
not_yet past now from k s due h less few least late at (inr sooner) =
    let end = within past now less few in
    let a : home_of past s.due k ≡ slot_index past s.due = home_slot past s.due k late (omega arith) in
    inr (late, at ∙ a, least, omega (arith, a))

-- a key that stood as set at the old time does so at the new one, after its slot, or waits to be moved
begins : (past now from k : ℕ) (due : List DueKey) (o : Option Setting) (h : ℕ) → past < now → now < 2 ^ 50 → from ≤ h → Stands past due k o h →
    (Stands now due k o h × (slot_index past now < h)) ⊎ Waits past now from o h
begins past now from k due None h less few least st = let end = within past now less few in inl (st, omega arith)
begins past now from k due (Some s) h less few least st =
    elim (cases_lt past s.due) [
      | inl late ↦ not_yet past now from k s due h less few least late st.0 (cases_lt (slot_index past now) (slot_index past s.due))
      | inr reached ↦
          let end = within past now less few in
          let a : home_of past s.due k ≡ HEADS + k = home_due past s.due k reached in
          let b : home_of now s.due k ≡ HEADS + k = home_due now s.due k (omega arith) in
          inl ((st.0 ∙ a ∙ sym b, λ r. st.1 reached), omega (arith, st.0, a))
    ]

-- a key that is due stays due when time goes on
listed_on : (past now : ℕ) (settings : List (Option Setting)) (homes : List ℕ) (e : DueKey) → past < now → IsListed past settings homes e →
    IsListed now settings homes e
listed_on past now settings homes e less x =
    record {
      below = x.below;
      setting = x.setting;
      set = x.set;
      same = x.same;
      reached = let r = x.reached in omega arith;
      alone = x.alone;
    }

-- as the time starts to advance, each key stands right or waits in a slot from the lowest to the new time's
pub turned_start : (low low' past now : ℕ) (settings : List (Option Setting)) (homes : List ℕ) (due : List DueKey) → past < now → now < 2 ^ 50 →
    ((h : ℕ) → low ≤ h → slot_index past now < h → low' ≤ h) → IsWheel low past settings homes due → IsTurned low' past now low settings homes due
turned_start low low' past now settings homes due less few raised x =
    record {
      nodes = x.nodes;
      sorted = x.sorted;
      once = x.once;
      listed = λ e h. listed_on past now settings homes e less (x.listed e h);
      stands = λ k lower. elim (x.stands k lower) [
        | inl st ↦ elim (begins past now low k due (setting_in settings k) (get_or homes (HEADS + k) 0) less few st.1 st.0) [
          | inl stays ↦ inl (stays.0, (raised (get_or homes (HEADS + k) 0) st.1 stays.1, inr stays.1))
          | inr w ↦ inr w
        ]
        | inr out ↦ absurd out
      ];
    }

-- after the slot of the new time no key waits to be moved
ended : (past now from : ℕ) (o : Option Setting) (h : ℕ) → slot_index past now < from → Waits past now from o h → ⊥
ended past now from None h end w = w
ended past now from (Some s) h end w = omega (arith, w.2, w.3)

-- after the slots up to that of the new time are passed, the wheel is whole at the new time
pub turned_end : (low past now from : ℕ) (settings : List (Option Setting)) (homes : List ℕ) (due : List DueKey) → slot_index past now < from →
    IsTurned low past now from settings homes due → IsWheel low now settings homes due
turned_end low past now from settings homes due end x =
    record {
      nodes = x.nodes;
      sorted = x.sorted;
      once = x.once;
      listed = x.listed;
      stands = λ k lower. elim (x.stands k lower) [
        | inl st ↦ inl (st.0, st.1.0)
        | inr w ↦ absurd (ended past now from (setting_in settings k) (get_or homes (HEADS + k) 0) end w)
      ];
    }

-- ---- a slot is emptied

-- a key that waits to be moved and isn't in the current slot waits in a later one
waits_on : (past now from k : ℕ) (o : Option Setting) (h : ℕ) → (h ≡ from → ⊥) → Waits past now from o h → Waits past now (from + 1) o h
waits_on past now from k None h ne w = w
waits_on past now from k (Some s) h ne w = (w.0, w.1, (let a = w.2 in omega arith), w.3)

-- a home outside the slots that are still to turn is so when one slot fewer is to turn
passed_on : (past now from h : ℕ) → IsPassed past now from h → IsPassed past now (from + 1) h
passed_on past now from h (inl less) = inl (omega arith)
passed_on past now from h (inr more) = inr more

-- a slot in which no key stands is passed, so the turn goes on from the next slot
pub emptied : (low past now from : ℕ) (settings : List (Option Setting)) (homes : List ℕ) (due : List DueKey) → from < HEADS →
    ((i : ℕ) → i < length homes → get_or homes i 0 ≡ from → i ≡ from) → IsTurned low past now from settings homes due →
    IsTurned low past now (from + 1) settings homes due
emptied low past now from settings homes due small none x =
    let nodes = x.nodes in
    record {
      nodes = nodes;
      sorted = x.sorted;
      once = x.once;
      listed = x.listed;
      stands = λ k lower.
          let ne : get_or homes (HEADS + k) 0 ≡ from → ⊥ = λ e. let is = none (HEADS + k) (omega arith) e in omega arith in
          elim (x.stands k lower) [
            | inl st ↦ inl (st.0, (st.1.0, passed_on past now from (get_or homes (HEADS + k) 0) st.1.1))
            | inr w ↦ inr (waits_on past now from k (setting_in settings k) (get_or homes (HEADS + k) 0) ne w)
          ];
    }

-- a key that stands in the slot waits there
pub record IsWaiting (past now slot : ℕ) (o : Option Setting) : Type 0 where
  pub setting : Setting
  pub set : o ≡ Some setting
  pub late : past < setting.due
  pub slot_is : slot ≡ slot_index past setting.due

-- a key that waits and whose home is the current slot is one that waits in this slot
waiting_from : (past now slot : ℕ) (o : Option Setting) (h : ℕ) → h ≡ slot → Waits past now slot o h → IsWaiting past now slot o
waiting_from past now slot None h e w = absurd w
waiting_from past now slot (Some s) h e w = record { setting = s; set = refl; late = w.0; slot_is = sym e ∙ w.1 }

-- a key that stands in the slot being emptied is set, and that slot is the one of its due time at the old time
pub waiting : (lowest past now slot k : ℕ) (settings : List (Option Setting)) (homes : List ℕ) (due : List DueKey) →
    IsTurned lowest past now slot settings homes due → slot ≤ slot_index past now → k < length settings → get_or homes (HEADS + k) 0 ≡ slot →
    IsWaiting past now slot (setting_in settings k)
waiting lowest past now slot k settings homes due x top less at =
    elim (x.stands k less) [
      | inl st ↦ absurd (elim st.1.1 [ inl low ↦ omega arith | inr high ↦ omega arith ])
      | inr w ↦ waiting_from past now slot (setting_in settings k) (get_or homes (HEADS + k) 0) at w
    ]

-- a key moved from the current slot has its new home outside the slots that are still to turn
passed_home : (past now slot k : ℕ) (s : Setting) → past < now → now < 2 ^ 50 → slot ≤ slot_index past now → past < s.due → slot ≡ slot_index past s.due →
    IsPassed past now slot (home_of now s.due k)
passed_home past now slot k s less few top late is =
    let end = within past now less few in
    elim (cases_lt now s.due) [
      | inl more ↦ elim (moves past now s.due less late (omega arith)) [
        | inl reached ↦ absurd (omega arith)
        | inr down ↦ let a = home_slot now s.due k more (omega arith) in inl (omega arith)
      ]
      | inr reached ↦ let a = home_due now s.due k reached in inr (omega arith)
    ]

-- a key that is moved out of a slot up to that of the new time doesn't come back into the same slot
pub other_slot : (past now slot k : ℕ) (s : Setting) → past < now → now < 2 ^ 50 → slot ≤ slot_index past now → past < s.due → slot ≡ slot_index past s.due →
    home_of now s.due k ≡ slot → ⊥
other_slot past now slot k s less few top late is e =
    elim (passed_home past now slot k s less few top late is) [ inl low ↦ omega arith | inr high ↦ omega arith ]

-- a key that stands in a slot isn't listed as due
pub waiting_apart : (low past now slot k : ℕ) (settings : List (Option Setting)) (homes : List ℕ) (due : List DueKey) →
    IsTurned low past now slot settings homes due → slot < HEADS → get_or homes (HEADS + k) 0 ≡ slot → (e : DueKey) → IsIn e due → e.key ≡ k → ⊥
waiting_apart low past now slot k settings homes due x small at e h same =
    let y = (x.listed e h).alone in
    let z : get_or homes (HEADS + k) 0 ≡ HEADS + k = rw (← same) y in omega arith

-- moving a key that waits in a slot to where its setting says at the new time goes on with the turn
pub moved : (low low' past now slot k : ℕ) (s : Setting) (settings : List (Option Setting)) (homes : List ℕ) (due : List DueKey) →
    IsTurned low past now slot settings homes due → past < now → now < 2 ^ 50 → slot ≤ slot_index past now → k < length settings →
    get_or homes (HEADS + k) 0 ≡ slot → setting_in settings k ≡ Some s → past < s.due → slot ≡ slot_index past s.due → low' ≤ low →
    low' ≤ home_of now s.due k →
    IsTurned low' past now slot settings (set (set homes (HEADS + k) (HEADS + k)) (HEADS + k) (home_of now s.due k)) (due_with now k s due)
moved low low' past now slot k s settings homes due x less few top lower at set late is fewer under =
    let end = within past now less few in
    rw (set-set homes (HEADS + k) (HEADS + k) (home_of now s.due k))
    (stood now (λ home. (low' ≤ home) × IsPassed past now slot home) (λ j home. Waits past now slot (setting_in settings j) home)
    (λ j home. Waits past now slot (setting_in settings j) home) settings homes due k s
    (weaker now (λ home. (low ≤ home) × IsPassed past now slot home) (λ home. (low' ≤ home) × IsPassed past now slot home)
    (λ j home. Waits past now slot (setting_in settings j) home) settings homes due (λ h ok. (let l = ok.0 in omega arith, ok.1)) x) lower set
    (waiting_apart low past now slot k settings homes due x (omega arith) at) (under, passed_home past now slot k s less few top late is) (λ j h ne w. w))

-- ---- fewer nodes in the ring of the slot

abbrev pub how_many : ℕ → List ℕ → ℕ
how_many slot [] = 0
how_many slot (x ∷ xs) = cond (eqb x slot) 1 0 + how_many slot xs

-- overwriting an entry that has the slot's number with another number lowers how many have it
pub count_falls : (slot node h : ℕ) (xs : List ℕ) → node < length xs → get_or xs node 0 ≡ slot → (h ≡ slot → ⊥) →
    how_many slot (set xs node h) < how_many slot xs
count_falls slot node h [] less e d = absurd (omega arith)
count_falls slot zero h (x ∷ xs) less e d = rw (eq-eqb x slot e, ne_eqb h slot d) (omega arith)
count_falls slot (suc node) h (x ∷ xs) less e d = let r = count_falls slot node h xs (omega arith) e d in omega arith

-- ---- the calls

-- after a key is taken out of the due keys for a new setting, these are fewer than the keys
pub put_room : (low now k : ℕ) (old : Option Setting) (settings : List (Option Setting)) (homes : List ℕ) (due due' : List DueKey) →
    IsWheel low now settings homes due → setting_in settings k ≡ old → k < length settings → due' ≡ due_without now k old due → length due' < length settings
put_room low now k old settings homes due due' x at less e =
    rw e (room_left (length settings) (record { due = 0; number = 0; key = k }) (due_without now k old due) (fewer_once now k old due x.once)
    (λ y h. (x.listed y (fewer_in now k old due y h)).below) less (lifted_apart low now k old settings homes due x at))

-- a key that is taken out and set anew leaves a whole wheel
pub put_some : (low low' now k : ℕ) (old new : Option Setting) (s : Setting) (settings : List (Option Setting)) (homes homes' homes'' : List ℕ)
    (due due' due'' : List DueKey) → IsWheel low now settings homes due → setting_in settings k ≡ old → k < length settings → new ≡ Some s →
    homes' ≡ set homes (HEADS + k) (HEADS + k) → due' ≡ due_without now k old due → homes'' ≡ set homes' (HEADS + k) (home_of now s.due k) →
    due'' ≡ due_with now k s due' → low' ≤ low → low' ≤ home_of now s.due k → IsWheel low' now (set settings k new) homes'' due''
put_some low low' now k old new s settings homes homes' homes'' due due' due'' x at less is h d h' d' fewer under =
    let l = length-set settings k new in
    rw (h', d', h, d) (settled_some low low' now k s (set settings k new) (set homes (HEADS + k) (HEADS + k)) (due_without now k old due)
    (lifted low now k old new settings homes due x at) (omega arith) (get_or-set_same settings k new None less ∙ is)
    (lifted_apart low now k old settings homes due x at) fewer under)

-- a key that is taken out and cleared leaves a whole wheel
pub put_none : (low now k : ℕ) (old new : Option Setting) (settings : List (Option Setting)) (homes homes' : List ℕ) (due due' : List DueKey) →
    IsWheel low now settings homes due → setting_in settings k ≡ old → k < length settings → new ≡ None → homes' ≡ set homes (HEADS + k) (HEADS + k) →
    due' ≡ due_without now k old due → low ≤ HEADS → IsWheel low now (set settings k new) homes' due'
put_none low now k old new settings homes homes' due due' x at less is h d small =
    let n = x.nodes in
    rw (h, d) (settled_none low now k (set settings k new) (set homes (HEADS + k) (HEADS + k)) (due_without now k old due)
    (lifted low now k old new settings homes due x at) small (get_or-set_same settings k new None less ∙ is) (own_home homes k (HEADS + k) (omega arith)))

-- a node that isn't a head is that of a key below the number of settings
node_key : (settings homes node : ℕ) → homes ≡ HEADS + settings → HEADS ≤ node → node < homes → (HEADS + (node - HEADS) ≡ node) × (node - HEADS < settings)
node_key settings homes node e h less = (omega arith, omega arith)

-- moving a node out of the slot being emptied goes on with the turn, and fewer nodes are left in the slot
pub stepped : (low low' past now slot node : ℕ) (s : Setting) (settings : List (Option Setting)) (homes homes' homes'' : List ℕ) (due due' : List DueKey) →
    IsTurned low past now slot settings homes due → past < now → now < 2 ^ 50 → slot ≤ slot_index past now → IsOfRing homes slot node →
    setting_in settings (node - HEADS) ≡ Some s → homes' ≡ set homes node node →
    homes'' ≡ set homes' (HEADS + (node - HEADS)) (home_of now s.due (node - HEADS)) → due' ≡ due_with now (node - HEADS) s due → low' ≤ low →
    low' ≤ home_of now s.due (node - HEADS) → IsTurned low' past now slot settings homes'' due' × (how_many slot homes'' < how_many slot homes)
stepped low low' past now slot node s settings homes homes' homes'' due due' x less few top ring at h h' d fewer under =
    let k : ℕ = node - HEADS in
    let nk = node_key (length settings) (length homes) node x.nodes ring.other ring.below in
    let here : get_or homes (HEADS + k) 0 ≡ slot = rw nk.0 ring.here in
    let w = waiting low past now slot k settings homes due x top nk.1 here in
    let same : s ≡ w.setting = let e : Some s ≡ Some w.setting = sym at ∙ w.set in cc in
    let late : past < s.due = rw same w.late in
    let is : slot ≡ slot_index past s.due = rw same w.slot_is in
    let whole : homes'' ≡ set (set homes (HEADS + k) (HEADS + k)) (HEADS + k) (home_of now s.due k) =
    h' ∙ ap (λ (xs : List ℕ). set xs (HEADS + k) (home_of now s.due k)) (h ∙ ap (λ (n : ℕ). set homes n n) (sym nk.0)) in
    let once : homes'' ≡ set homes (HEADS + k) (home_of now s.due k) = whole ∙ set-set homes (HEADS + k) (HEADS + k) (home_of now s.due k) in (
      rw (whole, d) (moved low low' past now slot k s settings homes due x less few top nk.1 here at late is fewer under),
      rw once (count_falls slot (HEADS + k) (home_of now s.due k) homes (let b = x.nodes in let c = nk.1 in omega arith) here
          (other_slot past now slot k s less few top late is)),
    )

-- while a node is left in the slot being emptied, the due keys are fewer than the keys
pub step_room : (low past now slot node : ℕ) (settings : List (Option Setting)) (homes : List ℕ) (due : List DueKey) →
    IsTurned low past now slot settings homes due → slot < HEADS → IsOfRing homes slot node →
    length due < length settings
step_room low past now slot node settings homes due x small ring =
    let nk = node_key (length settings) (length homes) node x.nodes ring.other ring.below in
    let here : get_or homes (HEADS + (node - HEADS)) 0 ≡ slot = rw nk.0 ring.here in
    room now (λ home. (low ≤ home) × IsPassed past now slot home) (λ j home. Waits past now slot (setting_in settings j) home) settings homes due (node - HEADS)
    x nk.1
    (waiting_apart low past now slot (node - HEADS) settings homes due x small here)
