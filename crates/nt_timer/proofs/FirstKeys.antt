-- The first of the due keys comes before every other.
use Rattle.std.proofs.Common.{◌≡◌, ◌⊎◌, ◌<◌, ◌≤◌, ◌+◌, List, [], ◌∷◌, Option, Some, None, ℕ, ap, get_or, inl, inr, length, refl, subst}
use Rattle.nt_event.specs.declared.inserts.Setting.{Setting}
use Rattle.nt_event.specs.Timers.{setting_in}
use Rattle.nt_timer.specs.declared.due.DueKey.{DueKey}
use Rattle.nt_timer.specs.declared.rings.TheConstants.{HEADS}
use Rattle.nt_timer.specs.Due.{IsBefore, IsIn}
use Rattle.nt_timer.specs.Wheel.{IsFirstKey, IsWheel, Stands, due_key}
use Rattle.std.specs.List.{slice_get}
use Rattle.std.specs.Option.{MatchOption}
use Rattle.std.proofs.lemmas.Bool.{cases_lt}
use Rattle.std.proofs.lemmas.List.{get_or_past}

-- a key that is set, due and stands where its setting says is in the list of due keys
listed_if : (now k : ℕ) (due : List DueKey) (o : Option Setting) (h : ℕ) (s : Setting) → o ≡ Some s → Stands now due k o h → s.due ≤ now →
    IsIn (due_key k s) due
listed_if now k due None h s e st r = absurd (cc)
listed_if now k due (Some t) h s e st r =
    let same : t ≡ s = cc in subst (λ (z : Setting). IsIn (due_key k z) due) same (st.1 (rw same r))

-- a key that is set and due is among the due keys
pub is_listed : (low now k : ℕ) (s : Setting) (settings : List (Option Setting)) (homes : List ℕ) (due : List DueKey) → IsWheel low now settings homes due →
    setting_in settings k ≡ Some s → s.due ≤ now → IsIn (due_key k s) due
is_listed low now k s settings homes due x at r =
    elim (cases_lt k (length settings)) [
      | inl less ↦ elim (x.stands k less) [
        | inl st ↦ listed_if now k due (setting_in settings k) (get_or homes (HEADS + k) 0) s at st.0 r
        | inr out ↦ absurd out
      ]
      | inr past ↦ absurd (let none : setting_in settings k ≡ None = get_or_past settings k None past in cc)
    ]

-- the time is before the due time of a setting that isn't due
none_due : (now k : ℕ) (s : Setting) → (s.due ≤ now → ⊥) → (now < s.due) ⊎ (s.due ≤ now) → now < s.due
none_due now k s h (inl late) = late
none_due now k s h (inr r) = absurd (h r)

-- a key in a list whose head is before the rest is the head or comes after it
either : (e : DueKey) (es : List DueKey) (k : ℕ) (s : Setting) → ((x : DueKey) → IsIn x es → IsBefore e x) → IsIn (due_key k s) (e ∷ es) →
    (k ≡ e.key) ⊎ IsBefore e (due_key k s)
either e es k s sorted (inl is) = inl (ap (λ (z : DueKey). z.key) is)
either e es k s sorted (inr later) = inr (sorted (due_key k s) later)

-- the head of a wheel's due list is the first due key, and if the list is empty no set key is due
pub first_is : (low now : ℕ) (settings : List (Option Setting)) (homes : List ℕ) (due : List DueKey) → IsWheel low now settings homes due →
    MatchOption (slice_get due 0) ((k : ℕ) (s : Setting) → setting_in settings k ≡ Some s → now < s.due) (IsFirstKey now settings)
first_is low now settings homes [] x =
    λ k s at. none_due now k s (λ r. is_listed low now k s settings homes [] x at r) (cases_lt now s.due)
first_is low now settings homes (e ∷ es) x =
    let y = x.listed e (inl refl) in
    record {
      setting = y.setting;
      set = y.set;
      same = y.same;
      reached = y.reached;
      first = λ k s at r. either e es k s x.sorted.0 (is_listed low now k s settings homes (e ∷ es) x at r);
    }
