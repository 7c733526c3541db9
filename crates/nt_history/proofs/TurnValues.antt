-- The values of looks to which those of one were added.
use Rattle.std.proofs.Common.{List, [], ap, length, refl, subst, sym, ◌∙◌, ◌++◌, ◌∷◌, ◌≡◌}
use Rattle.nt_event.specs.declared.events.Rises.{Rises}
use Rattle.nt_history.specs.declared.brief.Noticed.{Noticed}
use Rattle.nt_history.specs.Briefs.{IsAmong, IsLook, beside, values_at}
use Rattle.nt_history.proofs.Lists.{look_kept, values_still}
use Rattle.nt_history.specs.Values.{AreAmong, rises_in}

-- the values of before
still : (ks : List Noticed) (several more : List Rises) → AreAmong ks several →
    AreAmong ks (several ++ more) × (rises_in ks (several ++ more) ≡ rises_in ks several)
still [] several more h = (h, refl)
still (k ∷ ks) several more h =
    let v = values_still several more k h.0 in
    let t = still ks several more h.1 in
    ((v.0, t.0), ap (λ (r : Rises). r ∷ rises_in ks (several ++ more)) v.1 ∙ ap (λ (rs : List Rises). values_at several k ∷ rs) t.1)

-- a look behind the others
added : (ks : List Noticed) (k : Noticed) (several : List Rises) → AreAmong ks several → IsAmong (length several) k →
    AreAmong (ks ++ k ∷ []) several × (rises_in (ks ++ k ∷ []) several ≡ rises_in ks several ++ values_at several k ∷ [])
added [] k several h a = ((a, h), refl)
added (x ∷ ks) k several h a = let t = added ks k several h.1 a in ((h.0, t.0), ap (λ (rs : List Rises). values_at several x ∷ rs) t.1)

-- where the values of a look are kept was put behind the others, and the values beside where several classes rose
pub look_put : (r : Rises) (k : Noticed) (ks new : List Noticed) (several all : List Rises) → IsLook (length several) k r →
    new ≡ ks ++ k ∷ [] → all ≡ several ++ beside k r → AreAmong ks several →
    AreAmong new all × (rises_in new all ≡ rises_in ks several ++ r ∷ [])
look_put r k ks new several all is n a h =
    let kept = look_kept several k r is in
    let s = still ks several (beside k r) h in
    let t = added ks k (several ++ beside k r) s.0 kept.0 in (
      subst (λ (x : List Noticed). AreAmong x all) (sym n) (subst (λ (y : List Rises). AreAmong (ks ++ k ∷ []) y) (sym a) t.0),
      ap (λ (x : List Noticed). rises_in x all) n
          ∙ (ap (rises_in (ks ++ k ∷ [])) a
          ∙ (t.1
          ∙ (ap (λ (rs : List Rises). rs ++ values_at (several ++ beside k r) k ∷ []) s.1
          ∙ ap (λ (x : Rises). rises_in ks several ++ x ∷ []) kept.1))),
    )
