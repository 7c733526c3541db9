-- The faults and rows of a whole parse.
use Rattle.std.proofs.Common.{◌≡◌, ◌∙◌, Bool, true, false, refl, ap, ap₂, List, [], ◌∷◌, Option, None}
use Rattle.std.specs.Prelude.{fold, is_some}
use Rattle.clap.specs.Kinds.{or_else}
use Rattle.clap.specs.Walk.{Row, Rule, Text, Walk, finished, has_row, idle, nothing_held, settled, walked, with_default}
use Rattle.clap.specs.Simple.{built, entered, matches_of}
use Rattle.clap.specs.Faults.{check_fault, defaults_fault, entered_fault, fault_of, level_fault}
use Rattle.nt_words.specs.Pieces.{Piece, command_words}
use Rattle.nt_words.proofs.Rows.{command_given, has_some, rows_for}
use Rattle.nt_words.proofs.Parser.{app, rules, shape, walk_at}
use Rattle.nt_words.proofs.Walks.{Ends, Passes, both_empty}

-- the walk at its start, and over all the words
abbrev pub start : Walk
start = walk_at [] None idle 1

abbrev pub over : List Text → Walk
over ws = fold (walked rules []) start ws

-- ---- no option has a usual value for the parser

-- an argument without a default leaves the rows
no_default : (rows : List Row) (a : Rule) → a.defaults ≡ [] → with_default rows a ≡ rows
no_default rows a none = go (has_row a.id rows) refl
  where
    go : (b : Bool) → has_row a.id rows ≡ b → with_default rows a ≡ rows
    go true is = rw is refl
    go false is = rw (is, none) refl

-- an argument without a default has no fault in its default
no_default_fault : (rows : List Row) (a : Rule) (more : List Rule) → a.defaults ≡ [] → defaults_fault rows (a ∷ more) ≡ defaults_fault rows more
unfolding defaults_fault
no_default_fault rows a more none = go (has_row a.id rows) refl
  where
    go : (b : Bool) → has_row a.id rows ≡ b → defaults_fault rows (a ∷ more) ≡ defaults_fault rows more
    go true is = rw is refl
    go false is = rw (is, none) refl

-- none of these arguments has a usual value
abbrev HasNone : List Rule → Type 0
HasNone [] = Unit {0}
HasNone (a ∷ more) = (a.defaults ≡ []) × HasNone more

-- arguments without defaults leave the rows and have no fault in their defaults
no_defaults : (args : List Rule) (rows : List Row) → HasNone args → (fold with_default rows args ≡ rows) × (defaults_fault rows args ≡ [])
unfolding defaults_fault
no_defaults [] rows none = (refl, refl)
no_defaults (a ∷ args) rows none =
    let more = no_defaults args rows none.1 in
    (ap (λ (rs : List Row). fold with_default rs args) (no_default rows a none.0) ∙ more.0, no_default_fault rows a args none.0 ∙ more.1)

-- no argument of the program has a default
none_here : HasNone rules
none_here = (refl, (refl, (refl, (refl, (refl, tt)))))

-- ---- what a parse comes to

-- the words pass where the parse has no fault
pub passes : (ws : List Text) → fault_of app ws ≡ [] → Passes start ws
passes ws e =
    let whole = both_empty _ _ e in
    let after = both_empty _ _ whole.1 in
    let end = both_empty _ _ after.1 in
    record { walk = whole.0; end = end.0 }

-- and the rows of the parse are those at the end of the walk
pub rows_are : (all : List Piece) (ws : List Text) → Ends all start ws → matches_of app ws ≡ rows_for all
rows_are all ws ends =
    (no_defaults rules (settled rules (over ws).held).rows none_here).0 ∙ ends.rows

-- with a command word the parse has no fault
pub no_fault : (all : List Piece) (ws : List Text) → Ends all start ws → has_some (command_words all) ≡ true → fault_of app ws ≡ []
no_fault all ws ends given =
    let rows = (settled rules (over ws).held).rows in
    let kept : finished rules (over ws).held ≡ rows = (no_defaults rules rows none_here).0 in
    let checked : check_fault shape (finished rules (over ws).held) false ≡ [] =
    rw (kept, ends.rows) (rw (command_given all ∙ given) refl) in
    ap (λ (stop : Option (Text × List Text)). level_fault shape [] nothing_held ws (is_some (entered (built app) stop)) (entered_fault (built app) stop))
    ends.stopped
    ∙ (ap₂ or_else ends.passes.walk (ap₂ or_else ends.passes.end (ap₂ or_else (no_defaults rules rows none_here).1 checked)))
