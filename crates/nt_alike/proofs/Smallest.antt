-- On the smallest script nothing but Rest ever comes: its two histories are a line.
use Rattle.std.proofs.Common.{ap, arith, inl, inr, sym, ◌∙◌}
use Rattle.std.proofs.lemmas.Bool.{ltb-true}
use Rattle.std.specs.Prelude.{Bool, Err, List, Ok, Result, [], false, not, refl, ◌∷◌, ◌≡◌}
use Rattle.nt_event.specs.declared.events.Event.{Event}
use Rattle.nt_event.specs.declared.events.ScheduleKind.{ScheduleKind}
use Rattle.nt_event.specs.declared.events.ScheduleKind.TheVariants.{NothingToDo}
use Rattle.nt_event.specs.declared.events.What.{What}
use Rattle.nt_event.specs.declared.events.What.TheVariants.{Call}
use Rattle.nt_event.specs.Lanes.{lanes_at}
use Rattle.nt_event.specs.Lists.{table_from}
use Rattle.nt_event.specs.Own.{is_rest, own_of}
use Rattle.nt_event.specs.Step.{next_step}
use Rattle.nt_event.proofs.Options.{not_false}
use Rattle.nt_alike.specs.Bare.{bare_event, bare_what}
use Rattle.nt_alike.specs.Closed.{IsClosedList, NoneShows}
use Rattle.nt_alike.specs.Free.{IsFreeRun, MayCome}
use Rattle.nt_alike.specs.Smallest.{OnlyRests, empty, histories, rest}
use Rattle.nt_alike.proofs.Closed.{closed_without, never_in_runs, nothing}
use Rattle.nt_alike.proofs.Line.{EndsAt, GoesTo, Line, OnlyTo, ToNone, line_ranked, none_found}
use Rattle.nt_alike.proofs.OneCpu.{comes, only}
use Rattle.nt_alike.proofs.Ranks.{closed_of}

-- there is no thread, so what may come is the next event
next_one : (past : List Event) (f : Event) → IsFreeRun empty past → MayCome empty f past →
    next_step empty only (own_of empty only past) (lanes_at empty past) ≡ Ok f
next_one past f r m =
    elim (comes empty refl past f r m) [
      | inl k ↦ k
      | inr k ↦ absurd (let l = ltb-true k.0.0 0 k.1 in omega (arith, l))
    ]

-- the history of one Rest is a free run of the smallest script
rest_comes : IsFreeRun empty (rest ∷ [])
unfolding table_from
rest_comes = ((refl, tt), tt)

-- the next event is a Rest, and then there is none
first_next : next_step empty only (own_of empty only []) (lanes_at empty []) ≡ Ok rest
unfolding table_from
first_next = refl

-- after one Rest the smallest script's processor has nothing to do
then_none : next_step empty only (own_of empty only (rest ∷ [])) (lanes_at empty (rest ∷ [])) ≡ Err NothingToDo
unfolding table_from
then_none = refl

-- from the empty history of the smallest script only Rest may come
from_opening : OnlyTo empty [] (rest ∷ [])
from_opening f m = ap (λ (g : Event). g ∷ []) (same_ok (sym first_next ∙ next_one [] f tt m))
  where
    same_ok : {a b : Event} → ◌≡◌ {A = Result Event ScheduleKind} (Ok a) (Ok b) → b ≡ a
    same_ok h = cc

-- after one Rest of the smallest script no event may come
from_rest : ToNone empty (rest ∷ [])
from_rest f m = clash (sym then_none ∙ next_one (rest ∷ []) f rest_comes m)
  where
    clash : ◌≡◌ {A = Result Event ScheduleKind} (Err NothingToDo) (Ok f) → ⊥
    clash h = cc

-- the smallest script's histories are a line that goes to one Rest and ends there
line : Line empty [] ((rest ∷ []) ∷ [])
line = GoesTo tt from_opening (EndsAt rest_comes from_rest)

-- the smallest script's histories are a closed list
closed : IsClosedList empty histories
closed = closed_without empty nothing histories (closed_of empty nothing _ 1 histories (line_ranked empty nothing 1 ((rest ∷ []) ∷ []) line (refl, tt)))

-- whether an event is no Rest
is_other : Event → Bool
is_other e = not (is_rest e.what)

-- that the newest event isn't a Rest
shows : List Event → Bool
shows [] = false
shows (e ∷ past) = is_other (bare_event e)

-- no history of the smallest script goes on by an event other than Rest
none_other : NoneShows empty is_other histories
unfolding is_other shows
none_other = none_found empty shows [] ((rest ∷ []) ∷ []) line (refl, tt)

-- the smallest script's two histories are a closed list, and each event of its runs is Rest
pub only_rests : OnlyRests
unfolding is_other
only_rests =
    record {
      closed = closed;
      rests = λ limit e past r l. bare e.what
          ∙ not_false (is_rest (bare_what e.what)) (never_in_runs empty is_other histories closed none_other limit e past r l);
    }
  where
    bare : (w : What) → is_rest w ≡ is_rest (bare_what w)
    bare (Call f c y) = refl
    bare w = refl
