-- Which events deliver a request.
use Rattle.std.specs.List.{list_any}
use Rattle.std.specs.Prelude.{Bool, List, false, ◌==◌}
use Rattle.nt_event.specs.declared.events.Begun.{Begun}
use Rattle.nt_event.specs.declared.events.Begun.TheVariants as begun
use Rattle.nt_event.specs.declared.events.Event.{Event}
use Rattle.nt_event.specs.declared.events.What.{What}
use Rattle.nt_event.specs.Families.{in_begin}
use Rattle.nt_shrink.specs.declared.goals.Goal.{Goal}
use Rattle.nt_shrink.specs.declared.goals.Goal.TheVariants.{Apc, Dpc}

-- it is the routine of this object; a DPC's, threaded or not
abbrev pub is_routine_of : Goal → Begun → Bool
is_routine_of (Dpc d) (begun.Int level) = false
is_routine_of (Dpc d) (begun.Dpc e) = d.0 == e.0
is_routine_of (Dpc d) (begun.Threaded e) = d.0 == e.0
is_routine_of (Dpc d) (begun.Apc a) = false
is_routine_of (Apc a) (begun.Int level) = false
is_routine_of (Apc a) (begun.Dpc d) = false
is_routine_of (Apc a) (begun.Threaded d) = false
is_routine_of (Apc a) (begun.Apc b) = a.0 == b.0

-- a routine of the object begins
abbrev pub begins : Goal → What → Bool
begins g w = in_begin (λ b from. is_routine_of g b) false w

-- some event of the history begins a routine of the object
abbrev pub delivers : Goal → List Event → Bool
delivers g past = list_any (λ e. begins g e.what) past
