-- Whether a brief's event begins a routine doesn't depend on the values of looks.
use Rattle.std.proofs.Common.{ap, sym, ◌∙◌}
use Rattle.std.proofs.lemmas.List.{reverse-append}
use Rattle.std.proofs.lemmas.List.Folds.{list_any-append}
use Rattle.std.specs.List.{list_any}
use Rattle.std.specs.Prelude.{Bool, List, [], false, refl, reverse, true, ◌||◌, ◌∷◌, ◌≡◌}
use Rattle.nt_event.specs.declared.events.Event.{Event}
use Rattle.nt_event.specs.declared.events.Rises.{Rises}
use Rattle.nt_history.specs.declared.brief.Brief.{Brief}
use Rattle.nt_history.specs.declared.brief.Did.{Did}
use Rattle.nt_history.specs.declared.brief.Did.TheVariants as did
use Rattle.nt_history.specs.Briefs.{events_in, no_rises, values_of, what_of}
use Rattle.nt_shrink.specs.declared.goals.Goal.{Goal}
use Rattle.nt_shrink.specs.Goals.{begins, delivers}

-- whether a brief's event begins a goal's routine is the same for any two values of looks
same_begin : (g : Goal) (r q : Rises) (d : Did) → begins g (what_of r d) ≡ begins g (what_of q d)
same_begin g r q (did.Call c y f) = refl
same_begin g r q (did.Look k) = refl
same_begin g r q (did.Begin b from) = refl
same_begin g r q (did.Normal f) = refl
same_begin g r q (did.End f) = refl
same_begin g r q (did.Expire key from) = refl
same_begin g r q (did.Fire d y) = refl
same_begin g r q (did.Clean class) = refl
same_begin g r q (did.Switch t status) = refl
same_begin g r q (did.Rewait f y) = refl
same_begin g r q (did.Flush a from) = refl
same_begin g r q (did.Gone t) = refl
same_begin g r q (did.Free f l) = refl
same_begin g r q did.Rest = refl

-- some event begins the goal's routine exactly if one does with the values of all looks left out
pub met : (g : Goal) (briefs : List Brief) (rises : List Rises) → list_any (λ b. begins g (what_of no_rises b.did)) briefs
    ≡ delivers g (events_in briefs rises)
met g [] rises = refl
met g (b ∷ bs) rises =
    ap (λ (x : Bool). x || list_any (λ (c : Brief). begins g (what_of no_rises c.did)) bs) (same_begin g no_rises (values_of rises b) b.did)
    ∙ ap (λ (x : Bool). begins g (what_of (values_of rises b) b.did) || x) (met g bs rises)

-- ---- in either order

-- a disjunction swapped, with a test that always fails put in, is the same
or_swapped : (a b : Bool) → (a || b) ≡ (b || (a || false))
or_swapped true true = refl
or_swapped true false = refl
or_swapped false true = refl
or_swapped false false = refl

-- a test passes some event of a list exactly if it passes some event of the reversed list
any_reversed : (test : Event → Bool) (es : List Event) → list_any test es ≡ list_any test (reverse es)
any_reversed test [] = refl
any_reversed test (e ∷ es) =
    or_swapped (test e) (list_any test es)
    ∙ (ap (λ (b : Bool). b || (test e || false)) (any_reversed test es)
    ∙ sym (ap (list_any test) (reverse-append (e ∷ []) es) ∙ list_any-append test (reverse es) (e ∷ [])))

-- a history delivers the request in either order of its events
pub delivered_so : (g : Goal) (es : List Event) → delivers g es ≡ delivers g (reverse es)
delivered_so g es = any_reversed (λ e. begins g e.what) es
