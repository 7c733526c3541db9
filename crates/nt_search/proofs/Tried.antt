-- A list of histories that were tried is closed, and what none of their turns shows no event shows.
use Rattle.std.proofs.Common.{arith, inl, inr}
use Rattle.std.specs.Prelude.{Contains, List, [], get_or, length, refl, suc, zero, ℕ, ◌<◌, ◌∷◌, ◌≡◌}
use Rattle.nt_event.specs.declared.events.Event.{Event}
use Rattle.nt_event.specs.declared.scripts.Script.{Script}
use Rattle.nt_alike.specs.Free.{MayCome}
use Rattle.nt_alike.specs.Lists.{Among, Each}
use Rattle.nt_alike.proofs.Relation.{alike_self, alike_trans}
use Rattle.nt_ahead.specs.Like.{HasTurnOf}
use Rattle.nt_ahead.proofs.Like.{has_turn}
use Rattle.nt_expect.specs.declared.expectations.Expectation.{Expectation}
use Rattle.nt_expect.specs.declared.expectations.Watched.{Watched}
use Rattle.nt_expect.specs.Meaning.{ShowsAt}
use Rattle.nt_verdict.specs.Closed.{AlikeWatching, CameAlike, IsClosed, LeadsTo, watched_by}
use Rattle.nt_verdict.proofs.Events.{all_came_same, all_came_trans}
use Rattle.nt_verdict.proofs.Verdicts.{show_alike}
use Rattle.nt_search.specs.Tried.{IsLikeOne, IsTried, Keeps}

-- the same came in a history and in itself
pub came_self : (watched : List Watched) (h : List Event) → Each (CameAlike h h) watched
came_self [] h = tt
came_self (x ∷ watched) h = ((λ m. m, λ m. m), came_self watched h)

-- histories that are alike to one are alike
watching_trans : (s : Script) (watched : List Watched) (g h k : List Event) → AlikeWatching s watched g h → AlikeWatching s watched h k →
    AlikeWatching s watched g k
watching_trans s watched g h k a b = (alike_trans s g h k a.0 b.0, all_came_trans watched g h k a.1 b.1)

-- what holds of the one at a place holds of one of them
among_at : {S : Type 0} (P : S → Type 0) (xs : List S) (n : ℕ) (d : S) → n < length xs → P (get_or xs n d) → Among P xs
among_at P [] n d low p = absurd (omega (arith, low))
among_at P (x ∷ xs) zero d low p = inl p
among_at P (x ∷ xs) (suc n) d low p = inr (among_at P xs n d (omega (arith, low)) p)

-- what holds of the one at each place holds of each
pub each_at : {S : Type 0} (P : S → Type 0) (xs : List S) (d : S) → ((n : ℕ) → n < length xs → P (get_or xs n d)) → Each P xs
each_at P [] d all = tt
each_at P (x ∷ xs) d all = (all 0 (omega arith), each_at P xs d (λ n low. all (suc n) (omega (arith, low))))

module _ (s : Script) (watched : List Watched) (all : List (List Event)) where
  -- a history that was tried leads to one of these states, whatever event comes
  pub leads_to : (targets : List ℕ) (past : List Event) → IsTried s watched all targets past → (f : Event) → MayCome s f past →
      (number : ℕ) × Contains targets number × IsLikeOne s watched all (f ∷ past) number
  leads_to targets past tried f may = one (has_turn s past tried.turns f tried.whole may)
    where
      one : HasTurnOf s past tried.turns f → (number : ℕ) × Contains targets number × IsLikeOne s watched all (f ∷ past) number
      one has =
          let e = has.event in
          let same = all_came_same watched f e past past has.same (came_self watched past) in
          let to = tried.lead has.turn e has.among has.gives in (
            to.0,
            to.1,
            record {
              low = to.2.low;
              alike = watching_trans s watched (f ∷ past) (e ∷ past) (get_or all to.0 []) (has.alike, same) to.2.alike;
            },
          )

  -- so where each of a list was tried, it is closed
  pub closed : (targets : List (List ℕ)) → 0 < length all → AlikeWatching s watched [] (get_or all 0 []) →
      ((n : ℕ) → n < length all → IsTried s watched all (get_or targets n []) (get_or all n [])) → IsClosed s watched all
  closed targets some first tried = record {
    opening = among_at (AlikeWatching s watched []) all 0 [] some first;
    each = each_at (LeadsTo s watched all) all [] (λ n low. (
      (tried n low).run,
      λ f may.
          let to = leads_to (get_or targets n []) (get_or all n []) (tried n low) f may in
          among_at (AlikeWatching s watched (f ∷ get_or all n [])) all to.0 [] to.2.low to.2.alike,
    ));
  }

-- each of a list is one of it
pub each_among : (more watched : List Watched) → ((y : Watched) → Among (λ z. y ≡ z) watched → Among (λ z. y ≡ z) more) →
    Each (λ y. Among (λ z. y ≡ z) more) watched
each_among more [] into = tt
each_among more (x ∷ watched) into = (into x (inl refl), each_among more watched (λ y a. into y (inr a)))

-- an expectation that a history keeps is shown by no event that may come after it
pub kept : (s : Script) (x : Expectation) (past : List Event) → Keeps s x past → (f : Event) → MayCome s f past → ShowsAt s x f past → ⊥
kept s x past keeps f may shows = one (has_turn s past keeps.turns f keeps.whole may)
  where
    watched : List Watched
    watched = watched_by x

    one : HasTurnOf s past keeps.turns f → ⊥
    one has =
        let same : AlikeWatching s watched past past = (alike_self s past, came_self watched past) in
        let are = each_among watched watched (λ y a. a) in
        keeps.none has.turn has.event has.among has.gives
        (show_alike s watched x past past f has.event are same has.same has.alike shows)
