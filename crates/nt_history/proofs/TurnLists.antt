-- The turns of two lists of entries behind each other, and how many there are.
use Rattle.std.proofs.Common.{List, [], ap, arith, length, length-append, refl, ◌∙◌, ◌++◌, ◌+◌, ◌∷◌, ◌≡◌}
use Rattle.nt_event.specs.declared.events.Rises.{Rises}
use Rattle.nt_event.specs.declared.events.Turn.{Turn}
use Rattle.nt_event.specs.declared.events.Turn.TheVariants as turn
use Rattle.nt_history.specs.declared.kept.Kept.{Kept}
use Rattle.nt_history.specs.declared.kept.Kept.TheVariants as kept
use Rattle.nt_history.specs.Kept.{HasEach, kept_of, looks, rises_of, turns_in}

-- the looks of both
pub looks_of_both : (ks more : List Kept) → looks (ks ++ more) ≡ looks ks + looks more
looks_of_both [] more = omega arith
looks_of_both (kept.Next p ∷ ks) more = looks_of_both ks more
looks_of_both (kept.Look p ∷ ks) more = let h = looks_of_both ks more in omega arith
looks_of_both (kept.Switch p t ∷ ks) more = looks_of_both ks more

-- where there are values for each look, those behind them go to the entries behind
pub turns_of_both : (ks more : List Kept) (rises others : List Rises) → HasEach ks rises →
    turns_in (ks ++ more) (rises ++ others) ≡ turns_in ks rises ++ turns_in more others
turns_of_both [] more [] others h = refl
turns_of_both [] more (r ∷ rises) others h = absurd (omega (arith, h))
turns_of_both (kept.Next p ∷ ks) more rises others h = ap (λ (ts : List Turn). turn.Next p ∷ ts) (turns_of_both ks more rises others h)
turns_of_both (kept.Look p ∷ ks) more [] others h = absurd (omega (arith, h))
turns_of_both (kept.Look p ∷ ks) more (r ∷ rises) others h =
    ap (λ (ts : List Turn). turn.Look p r ∷ ts) (turns_of_both ks more rises others (omega (arith, h)))
turns_of_both (kept.Switch p t ∷ ks) more rises others h = ap (λ (ts : List Turn). turn.Switch p t ∷ ts) (turns_of_both ks more rises others h)

-- as many turns as entries
pub as_many : (ks : List Kept) (rises : List Rises) → HasEach ks rises → length (turns_in ks rises) ≡ length ks
as_many [] rises h = refl
as_many (kept.Next p ∷ ks) rises h = let n = as_many ks rises h in omega arith
as_many (kept.Look p ∷ ks) [] h = absurd (omega (arith, h))
as_many (kept.Look p ∷ ks) (r ∷ rises) h = let n = as_many ks rises (omega (arith, h)) in omega arith
as_many (kept.Switch p t ∷ ks) rises h = let n = as_many ks rises h in omega arith

-- a turn alone
one : (t : Turn) → (looks (kept_of t ∷ []) ≡ length (rises_of t)) × (turns_in (kept_of t ∷ []) (rises_of t) ≡ t ∷ [])
one (turn.Next p) = (refl, refl)
one (turn.Look p r) = (refl, refl)
one (turn.Switch p t) = (refl, refl)

-- what is kept of a turn was put behind the others, and its values behind the others
pub one_put : (t : Turn) (ks new : List Kept) (rises values : List Rises) → new ≡ ks ++ kept_of t ∷ [] → values ≡ rises ++ rises_of t → HasEach ks rises →
    HasEach new values × (turns_in new values ≡ turns_in ks rises ++ t ∷ [])
one_put t ks new rises values e f h = (
  ap looks e ∙ (looks_of_both ks (kept_of t ∷ []) ∙ omega (arith, h, (one t).0, ap length f, length-append rises (rises_of t))),
  ap (λ (es : List Kept). turns_in es values) e
      ∙ (ap (turns_in (ks ++ kept_of t ∷ [])) f
      ∙ (turns_of_both ks (kept_of t ∷ []) rises (rises_of t) h ∙ ap (λ (ts : List Turn). turns_in ks rises ++ ts) (one t).1)),
)
