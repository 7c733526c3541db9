-- Which values of looks are kept so.
use Rattle.std.specs.Prelude.{List, [], ◌∷◌, length, map}
use Rattle.nt_event.specs.declared.events.Rises.{Rises}
use Rattle.nt_history.specs.declared.brief.Noticed.{Noticed}
use Rattle.nt_history.specs.Briefs.{IsAmong, values_at}

-- the values of the looks, where several has those of the looks in which several classes rose
abbrev pub rises_in : List Noticed → List Rises → List Rises
rises_in noticed several = map (values_at several) noticed

-- the values of each look are kept in it or stand among these
abbrev pub AreAmong : List Noticed → List Rises → Type 0
AreAmong [] several = Unit {0}
AreAmong (k ∷ more) several = IsAmong (length several) k × AreAmong more several
