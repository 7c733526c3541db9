-- The rule at the start, and the keepers that are dealt then.
use Rattle.std.proofs.Common.{◌≡◌, ℕ, zero, suc, ◌+◌, ◌-◌, ◌*◌, ◌<◌, ◌≤◌, List, [], ◌∷◌, ◌++◌, length, get_or, refl, sym, ap, ◌∙◌, subst, inl, ⊎_elim, arith}
use Rattle.std.proofs.Common.{zero-le, replicate, length-append, All, Contains, sum_by}
use Rattle.std.proofs.lemmas.List.{length-replicate, get_or_append_left, get_or_push}
use Rattle.std.proofs.lemmas.List.Elements.{Contains-get_or}
use Rattle.std.proofs.lemmas.List.Sums.{sum_by-cons}
use Rattle.std.specs.List.Sorted.{IsStrictlyIncreasing}
use Rattle.nt_event.specs.declared.limits.TheConstants.{EVENTS}
use mathlib.Core.Logic.{dite}
use native.Mathlib.Decide.{ℕ_discrete}
use mathlib.Core.Option.{some, some-ne-none, some-injective}
use lib.ListN.{get_elem?}
use Rattle.atomic_table.specs.Table.{Me, opening}
use Rattle.atomic_table.specs.Seated.{TableId}
use Rattle.nt_mark.specs.declared.view.Note.{Note}
use Rattle.nt_mark.specs.declared.view.LaneList.{LaneList}
use Rattle.nt_mark.specs.declared.view.View.{View}
use Rattle.nt_mark.specs.declared.view.Sizes.{Sizes}
use Rattle.nt_mark.specs.declared.seats.Keeper.{Keeper}
use Rattle.nt_mark.specs.Views.{request_word, lane_word, note_numbers, first_notes, first_kept, other_kept, keeping}
use Rattle.nt_mark.specs.Rule.{sum_below, empty_lists, opening_view, Fits, Holds}
use Rattle.nt_mark.specs.Closing.{IsNewKeeper, AreNewKeepers}
use Rattle.nt_mark.proofs.Sums.{in_none, first_or_rest}

-- so many empty lists of notes
nils : ℕ → List (List Note)
nils zero = []
nils (suc n) = [] ∷ nils n

-- each of so many empty lists is empty, also beyond the end
nil_at : (n x : ℕ) → get_or (nils n) x [] ≡ []
unfolding nils
nil_at zero x = refl
nil_at (suc n) zero = refl
nil_at (suc n) (suc x) = nil_at n x

-- so many empty lists are so many
length_nils : (n : ℕ) → length (nils n) ≡ n
unfolding nils
length_nils zero = refl
length_nils (suc n) = ap suc (length_nils n)

-- each word of a list of zeros is zero, also beyond the end
zero_at : (n i : ℕ) → ◌≡◌ {A = ℕ} (get_or (replicate n 0) i 0) 0
zero_at zero i = refl
zero_at (suc n) zero = refl
zero_at (suc n) (suc i) = zero_at n i

-- a sum over the empty lists of consecutive lanes is that over the numbers of these lanes
lanes_sum : (h : ℕ → ℕ) (cpus lane n : ℕ) → sum_by (λ (k : LaneList). h k.lane) (empty_lists cpus lane n) + sum_below h lane ≡ sum_below h (lane + n)
lanes_sum h cpus lane zero = let e : sum_below h lane ≡ sum_below h (lane + 0) = (let d : lane ≡ lane + 0 = omega arith in ap (sum_below h) d) in
    let z : sum_by (λ (k : LaneList). h k.lane) [] ≡ 0 = refl in omega arith
lanes_sum h cpus lane (suc n) =
    let a = lanes_sum h cpus (lane + 1) n in
    let b : sum_below h (lane + 1) ≡ sum_below h lane + h lane = (let d : lane + 1 ≡ suc lane = omega arith in ap (sum_below h) d) in
    let c : sum_below h (lane + suc n) ≡ sum_below h ((lane + 1) + n) = (let d : lane + suc n ≡ (lane + 1) + n = omega arith in ap (sum_below h) d) in
    let k : LaneList = record { lane = lane; word = lane_word cpus lane; notes = [] } in
    let e = sum_by-cons (λ (k : LaneList). h k.lane) k (empty_lists cpus (lane + 1) n) in
    omega arith

-- each empty list that is dealt has a lane in range, no notes and that lane's word
empty_fits : (cpus lane n : ℕ) (k : LaneList) → Contains (empty_lists cpus lane n) k → (k.lane < lane + n) × (k.notes ≡ []) × (k.word ≡ lane_word cpus k.lane)
empty_fits cpus lane zero k h = absurd (in_none k h)
empty_fits cpus lane (suc n) k h = ⊎_elim
    (λ e.
    let a : k.lane ≡ lane = ap (λ (q : LaneList). q.lane) e in
    let b : k.word ≡ lane_word cpus lane = ap (λ (q : LaneList). q.word) e in
    (omega arith, ap (λ (q : LaneList). q.notes) e, omega arith))
    (λ r. let a = empty_fits cpus (lane + 1) n k r in (let b = a.0 in omega arith, a.1, a.2)) (first_or_rest _ (empty_lists cpus (lane + 1) n) k h)

-- the rule holds at the start, with all words zero and one seat that has all parts and keeps all lanes
pub opens : (S : Type 0) (key : Sizes) (words : List ℕ) → words ≡ replicate (1 + 16 * key.cpus + key.lanes) 0 → key.limit * key.parts ≤ EVENTS →
    Holds {S = S} key (opening words [] (opening_view key))
opens S key words is small =
    let lists = nils key.lanes in
    let zeros : (i : ℕ) → get_or words i 0 ≡ 0 = λ i. rw is (zero_at (1 + 16 * key.cpus + key.lanes) i) in (
      [],
      lists,
      record {
        wide = rw is (length-replicate (1 + 16 * key.cpus + key.lanes) 0);
        small = small;
        steps = zeros 0;
        drawn_once = λ h. refl;
        parts = omega arith;
        kept_once = λ h. let a = lanes_sum h key.cpus 0 key.lanes in let b : sum_below h (0 + key.lanes)
            ≡ sum_below h key.lanes = (let d : 0 + key.lanes ≡ key.lanes = omega arith in ap (sum_below h) d) in omega arith;
        lane_words = λ x l. zeros (lane_word key.cpus x) ∙ ap length (sym (nil_at key.lanes x));
        all_lists = length_nils key.lanes;
        rise = λ x l. subst (λ (q : List Note). IsStrictlyIncreasing (note_numbers q)) (sym (nil_at key.lanes x)) (λ k lt. absurd (omega arith));
        of_entries = λ x n l h. absurd (in_none n (subst (λ (q : List Note). Contains q n) (nil_at key.lanes x) h));
        asked = λ p class c d. inl (zeros (request_word p class));
        each = one;
      },
    )
  where
    one : (j : ℕ) (u : View) → get_elem? (opening_view key ∷ []) j ≡ some u → Fits key words (opening_view key ∷ []) [] (nils key.lanes) u
    one (suc j) u e = absurd (some-ne-none u (sym e))
    one zero u e = subst (Fits key words (opening_view key ∷ []) [] (nils key.lanes)) (some-injective _ _ e) record {
      few = zero-le;
      own = λ x h. absurd (in_none x h);
      marks = λ x h. absurd (in_none x h);
      known = λ x h. absurd (in_none x h);
      prefixes = λ x h. absurd (in_none x h);
      kept = λ k h. let a = empty_fits key.cpus 0 key.lanes k h in (let b = a.0 in omega arith, a.1 ∙ sym (nil_at key.lanes k.lane), a.2);
      reached = λ x h. absurd (in_none x h);
      looks = λ x h. absurd (in_none x h);
    }

-- what is kept after the first lane was given away, and the list of that lane
pub next_kept : (ks : List LaneList) (cpus lane n : ℕ) → ks ≡ empty_lists cpus lane n → 0 < n → (other_kept ks ≡ empty_lists cpus (lane + 1) (n - 1)) ×
    (first_notes (first_kept ks) ≡ [])
next_kept ks cpus lane zero is pos = absurd (omega arith)
next_kept ks cpus lane (suc n) is pos =
    let m : n ≡ suc n - 1 = omega arith in
    (ap other_kept is ∙ ap (empty_lists cpus (lane + 1)) m, ap (λ (q : List LaneList). first_notes (first_kept q)) is)

-- what is left after the first lane was given away
pub one_given : {S : Type 0} (key : Sizes) (lane n m : ℕ) (me me' : Me S View) → me
    ≡ (keeping (opening_view key) key.parts (empty_lists key.cpus lane n), []) → 0 < n → m ≡ n - 1
    → me' ≡ (keeping me.0 me.0.parts (other_kept me.0.kept), []) → me' ≡ (keeping (opening_view key) key.parts (empty_lists key.cpus (lane + 1) m), [])
one_given {S} key lane n m me me' is pos less next =
    let rest = (next_kept me.0.kept key.cpus lane n (ap (λ (x : Me S View). x.0.kept) is) pos).0 ∙ ap (empty_lists key.cpus (lane + 1)) (sym less) in
    let given : View → Me S View = λ v. (keeping v v.parts (empty_lists key.cpus (lane + 1) m), []) in
    next ∙ (ap (λ (ks : List LaneList). (keeping me.0 me.0.parts ks, [])) rest ∙ ap (λ (x : Me S View). given x.0) is)

-- all lists that are kept at first are empty
pub all_empty : (cpus lane n : ℕ) → All (λ (q : LaneList). q.notes ≡ []) (empty_lists cpus lane n)
all_empty cpus lane n k d lt = (empty_fits cpus lane n (get_or (empty_lists cpus lane n) k d) (Contains-get_or (empty_lists cpus lane n) k d lt)).1

-- new keepers and the new keeper of the next lane are new keepers together
pub AreNewKeepers-push : (table : TableId) (ks : List Keeper) (k : Keeper) → AreNewKeepers table ks → IsNewKeeper table (length ks) k →
    AreNewKeepers table (ks ++ k ∷ [])
AreNewKeepers-push table ks k all new x d lt =
    let long = length-append ks (k ∷ []) in
    dite (ℕ_discrete x (length ks))
    (λ e. subst (λ (z : Keeper). IsNewKeeper table x z) (sym (get_or_push ks k d x (sym e))) (subst (λ (y : ℕ). IsNewKeeper table y k) (sym e) new))
    (λ ne. let below : x < length ks = omega arith in subst (λ (z : Keeper). IsNewKeeper table x z) (sym (get_or_append_left ks (k ∷ []) d x below))
    (all x d below))
