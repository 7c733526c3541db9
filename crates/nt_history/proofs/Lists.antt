-- The events of a list of briefs to which one was added.
use Rattle.std.proofs.Common.{List, [], slice_set, ap, arith, length, refl, subst, sym, ◌∙◌, ◌++◌, ◌+◌, ◌∷◌, ◌≡◌, ◌<◌}
use Rattle.std.specs.Prelude.{get_or, length, suc, zero, ℕ}
use Rattle.nt_event.specs.declared.events.Event.{Event}
use Rattle.nt_event.specs.declared.events.Rises.{Rises}
use Rattle.nt_event.specs.declared.events.What.{What}
use Rattle.nt_event.specs.declared.events.What.TheVariants as what
use Rattle.nt_history.specs.declared.brief.Brief.{Brief}
use Rattle.nt_history.specs.declared.brief.Did.{Did}
use Rattle.nt_history.specs.declared.brief.Did.TheVariants as did
use Rattle.nt_history.specs.declared.brief.Noticed.{Noticed}
use Rattle.nt_history.specs.declared.brief.Noticed.TheVariants.{One, Several}
use Rattle.nt_history.proofs.Meaning.{meant_again}
use Rattle.nt_history.specs.Briefs.{HasEach, HasValues, IsAmong, IsLook, Stands, beside, brief_of, did_of, event_in, event_of, events_in, no_rises, nothing}
use Rattle.nt_history.specs.Briefs.{noticed_of, values_at, what_of}

-- ---- places of a list that grew

-- the elements of a list stay at their places if a list is appended
before : {A : Type 0} (xs ys : List A) (i : ℕ) (d : A) → i < length xs → get_or (xs ++ ys) i d ≡ get_or xs i d
before [] ys i d h = absurd (omega (arith, h))
before (x ∷ xs) ys zero d h = refl
before (x ∷ xs) ys (suc i) d h = before xs ys i d (omega (arith, h))

-- an element appended to a list is at the place after its last
behind : {A : Type 0} (xs : List A) (y d : A) → get_or (xs ++ y ∷ []) (length xs) d ≡ y
behind [] y d = refl
behind (x ∷ xs) y d = behind xs y d

-- the length of two lists appended is the sum of their lengths
grown : {A : Type 0} (xs ys : List A) → length (xs ++ ys) ≡ length xs + length ys
grown [] ys = omega arith
grown (x ∷ xs) ys = let h = grown xs ys in omega arith

-- the last place was written over
pub written_last : {A : Type 0} (xs : List A) (x y : A) → slice_set (xs ++ x ∷ []) (length xs) y ≡ xs ++ y ∷ []
written_last [] x y = refl
written_last (z ∷ xs) x y = ap (λ ys. z ∷ ys) (written_last xs x y)

-- ---- the events of before

-- the values that are kept so are the same where values were added
pub values_still : (rises more : List Rises) (k : Noticed) → IsAmong (length rises) k →
    IsAmong (length (rises ++ more)) k × (values_at (rises ++ more) k ≡ values_at rises k)
values_still rises more (One class value) h = (_, refl)
values_still rises more (Several at) h = (omega (arith, h, grown rises more), before rises more at no_rises h)

-- what an event did is the same where values were added
did_still : (rises more : List Rises) (d : Did) → Stands (length rises) d →
    (Stands (length (rises ++ more)) d)
    × (what_of (values_at (rises ++ more) (noticed_of d)) d ≡ what_of (values_at rises (noticed_of d)) d)
did_still rises more (did.Look k) h = let s = values_still rises more k h in (s.0, ap (λ (r : Rises). what.Look r) s.1)
did_still rises more (did.Call c y f) h = (h, refl)
did_still rises more (did.Begin b from) h = (h, refl)
did_still rises more (did.Normal f) h = (h, refl)
did_still rises more (did.End f) h = (h, refl)
did_still rises more (did.Expire key from) h = (h, refl)
did_still rises more (did.Fire d y) h = (h, refl)
did_still rises more (did.Clean class) h = (h, refl)
did_still rises more (did.Switch t status) h = (h, refl)
did_still rises more (did.Rewait f y) h = (h, refl)
did_still rises more (did.Flush a from) h = (h, refl)
did_still rises more (did.Gone t) h = (h, refl)
did_still rises more (did.Free f l) h = (h, refl)
did_still rises more did.Rest h = (h, refl)

-- the event of a brief, by what it did
abbrev with_what : Brief → What → Event
with_what b w = record { cpu = b.cpu; thread = b.thread; level = b.level; what = w }

-- values appended to the stored rises leave each brief its values and the events as they were
still : (bs : List Brief) (rises more : List Rises) → HasEach bs rises →
    HasEach bs (rises ++ more) × (events_in bs (rises ++ more) ≡ events_in bs rises)
still [] rises more h = (h, refl)
still (b ∷ bs) rises more h =
    let d = did_still rises more b.did h.0 in
    let t = still bs rises more h.1 in
    ((d.0, t.0), ap (λ (w : What). with_what b w ∷ events_in bs (rises ++ more)) d.1 ∙ ap (λ (es : List Event). event_in rises b ∷ es) t.1)

-- ---- the event that was added

-- a brief behind others
added : (bs : List Brief) (b : Brief) (rises : List Rises) → HasEach bs rises → Stands (length rises) b.did →
    HasEach (bs ++ b ∷ []) rises × (events_in (bs ++ b ∷ []) rises ≡ events_in bs rises ++ event_in rises b ∷ [])
added [] b rises h k = ((k, h), refl)
added (x ∷ bs) b rises h k = let t = added bs b rises h.1 k in ((h.0, t.0), ap (λ (es : List Event). event_in rises x ∷ es) t.1)

-- what is kept of an event was put behind the others, and its values behind the others where there were any to put
pub one_put : (e : Event) (k : Noticed) (bs : List Brief) (rises more : List Rises) → HasEach bs rises →
    Stands (length (rises ++ more)) (did_of k e.what) → HasValues (values_at (rises ++ more) (noticed_of (did_of k e.what))) e.what →
    HasEach (bs ++ brief_of k e ∷ []) (rises ++ more)
    × (events_in (bs ++ brief_of k e ∷ []) (rises ++ more) ≡ events_in bs rises ++ e ∷ [])
one_put e k bs rises more h stands values =
    let s = still bs rises more h in
    let a = added bs (brief_of k e) (rises ++ more) s.0 stands in
    let w = meant_again (values_at (rises ++ more) (noticed_of (did_of k e.what))) k e.what values in (
      a.0,
      a.1 ∙ (ap (λ (es : List Event). es ++ event_in (rises ++ more) (brief_of k e) ∷ []) s.1
          ∙ ap (λ (x : What). events_in bs rises ++ with_what (brief_of k e) x ∷ []) w),
    )

-- how a look is kept tells its values, once what is kept beside was put there
pub look_kept : (rises : List Rises) (k : Noticed) (r : Rises) → IsLook (length rises) k r →
    IsAmong (length (rises ++ beside k r)) k × (values_at (rises ++ beside k r) k ≡ r)
look_kept rises (One class value) r h = (_, h)
look_kept rises (Several at) r h = (
  (let g = grown rises (r ∷ []) in omega (arith, h)),
  ap (λ (i : ℕ). get_or (rises ++ r ∷ []) i no_rises) h ∙ behind rises r no_rises,
)

-- a look was put behind the others
pub look_put : (e : Event) (r : Rises) (k : Noticed) (bs new : List Brief) (rises values : List Rises) →
    e.what ≡ what.Look r → IsLook (length rises) k r → new ≡ bs ++ brief_of k e ∷ [] → values ≡ rises ++ beside k r →
    HasEach bs rises → HasEach new values × (events_in new values ≡ events_in bs rises ++ e ∷ [])
look_put e r k bs new rises values look kept n v h =
    let all = rises ++ beside k r in
    let l = look_kept rises k r kept in
    let stands = subst (λ (w : What). Stands (length all) (did_of k w)) (sym look) l.0 in
    let has = subst (λ (w : What). HasValues (values_at all (noticed_of (did_of k w))) w) (sym look) l.1 in
    let put = one_put e k bs rises (beside k r) h stands has in (
      subst (λ (x : List Brief). HasEach x values) (sym n) (subst (λ (y : List Rises). HasEach (bs ++ brief_of k e ∷ []) y) (sym v) put.0),
      ap (λ (x : List Brief). events_in x values) n ∙ (ap (events_in (bs ++ brief_of k e ∷ [])) v ∙ put.1),
    )

-- in a look where nothing rose nothing is needed
bare_values : (n : ℕ) (rises : List Rises) (d : Did) →
    Stands n (did_of nothing (what_of no_rises d))
    × HasValues (values_at rises (noticed_of (did_of nothing (what_of no_rises d)))) (what_of no_rises d)
bare_values n rises (did.Look k) = (_, refl)
bare_values n rises (did.Call c y f) = (_, _)
bare_values n rises (did.Begin b from) = (_, _)
bare_values n rises (did.Normal f) = (_, _)
bare_values n rises (did.End f) = (_, _)
bare_values n rises (did.Expire key from) = (_, _)
bare_values n rises (did.Fire d y) = (_, _)
bare_values n rises (did.Clean class) = (_, _)
bare_values n rises (did.Switch t status) = (_, _)
bare_values n rises (did.Rewait f y) = (_, _)
bare_values n rises (did.Flush a from) = (_, _)
bare_values n rises (did.Gone t) = (_, _)
bare_values n rises (did.Free f l) = (_, _)
bare_values n rises did.Rest = (_, _)

-- what is no look needs no values
no_values : (n : ℕ) (r : Rises) (w : What) → ((x : Rises) → w ≡ what.Look x → ⊥) → Stands n (did_of nothing w) × HasValues r w
no_values n r (what.Look x) h = absurd (h x refl)
no_values n r (what.Call f c y) h = (_, _)
no_values n r (what.Begin b from) h = (_, _)
no_values n r (what.Normal f) h = (_, _)
no_values n r (what.End f) h = (_, _)
no_values n r (what.Expire key from) h = (_, _)
no_values n r (what.Fire d y) h = (_, _)
no_values n r (what.Clean class) h = (_, _)
no_values n r (what.Switch t status) h = (_, _)
no_values n r (what.Rewait f y) h = (_, _)
no_values n r (what.Flush a from) h = (_, _)
no_values n r (what.Gone t) h = (_, _)
no_values n r (what.Free f l) h = (_, _)
no_values n r what.Rest h = (_, _)

-- the brief of an event was put behind the others, and nothing beside
brief_put : (e : Event) (bs new : List Brief) (rises : List Rises) → new ≡ bs ++ brief_of nothing e ∷ [] → HasEach bs rises →
    Stands (length rises) (did_of nothing e.what) → HasValues (values_at rises (noticed_of (did_of nothing e.what))) e.what →
    HasEach new rises × (events_in new rises ≡ events_in bs rises ++ e ∷ [])
brief_put e bs new rises n h stands values =
    let a = added bs (brief_of nothing e) rises h stands in
    let w = meant_again (values_at rises (noticed_of (did_of nothing e.what))) nothing e.what values in (
      subst (λ (x : List Brief). HasEach x rises) (sym n) a.0,
      ap (λ (x : List Brief). events_in x rises) n ∙ (a.1 ∙ ap (λ (x : What). events_in bs rises ++ with_what (brief_of nothing e) x ∷ []) w),
    )

-- what is no look was put behind the others
pub other_put : (e : Event) (bs new : List Brief) (rises : List Rises) → ((x : Rises) → e.what ≡ what.Look x → ⊥) →
    new ≡ bs ++ brief_of nothing e ∷ [] → HasEach bs rises → HasEach new rises × (events_in new rises ≡ events_in bs rises ++ e ∷ [])
other_put e bs new rises other n h =
    let v = no_values (length rises) (values_at rises (noticed_of (did_of nothing e.what))) e.what other in
    brief_put e bs new rises n h v.0 v.1

-- the event of a brief was put behind the others, where in a look nothing rose
pub bare_put : (b : Brief) (bs new : List Brief) (rises : List Rises) → new ≡ bs ++ brief_of nothing (event_of no_rises b) ∷ [] → HasEach bs rises →
    HasEach new rises × (events_in new rises ≡ events_in bs rises ++ event_of no_rises b ∷ [])
bare_put b bs new rises n h =
    let v = bare_values (length rises) rises b.did in
    brief_put (event_of no_rises b) bs new rises n h v.0 v.1

-- as many events as briefs
pub as_many : (bs : List Brief) (rises : List Rises) → length (events_in bs rises) ≡ length bs
as_many [] rises = refl
as_many (b ∷ bs) rises = let h = as_many bs rises in omega arith

-- one brief more
pub one_more : (bs new : List Brief) (b : Brief) → new ≡ bs ++ b ∷ [] → length new ≡ 1 + length bs
one_more bs new b n = let g = grown bs (b ∷ []) in omega (arith, ap length n)
