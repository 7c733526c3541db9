-- The rows of what was read so far.
use Rattle.std.proofs.Common.{◌≡◌, ℕ, zero, suc, ◌<◌, ◌≤◌, Bool, List, [], ◌∷◌, ◌++◌, length, get_or, map, Option, refl, sym, ◌∙◌, ap, append_assoc, arith}
use Rattle.std.proofs.lemmas.List.{map-append, append-nil}
use Rattle.nt_event.specs.declared.scripts.Routine.{Routine}
use Rattle.nt_event.specs.declared.commands.Command.{Command}
use Rattle.nt_line.specs.declared.keywords.Keyword.TheVariants as keyword
use Rattle.nt_line.specs.declared.keywords.Place.{Place}
use Rattle.nt_line.specs.declared.keywords.Place.TheVariants.{Start, HasVersion, InIsrs, InDpcs, InTimers, InThreads, InApcs}
use Rattle.nt_line.specs.declared.keywords.Place.TheVariants.{InLocks, InRoutines, InRoutine}
use Rattle.nt_script.specs.declared.walk.Walk.{Walk}
use Rattle.nt_line.specs.NameLists.{NameLists}
use Rattle.nt_line.specs.Keywords.{text_of, order}
use Rattle.nt_text.specs.Lines.{Row}
use Rattle.nt_line.specs.Rows.{command_row, isr_row, dpc_row, timer_row, thread_row, apc_row, lock_row}
use Rattle.nt_script.specs.Text.{version_rows, header_rows, declared_rows, begun_rows, exit_row, routine_rows}

abbrev pub heads_at : Place → ℕ → ℕ → Option ℕ → Option Bool → List Row
heads_at Start version cpus depth threaded = []
heads_at HasVersion version cpus depth threaded = version_rows version
heads_at _ version cpus depth threaded = header_rows version cpus depth threaded

-- after the line cpus the head is whole
pub has_head : (p : Place) (v cpus : ℕ) (depth : Option ℕ) (threaded : Option Bool) → 2 ≤ order p → heads_at p v cpus depth threaded
    ≡ header_rows v cpus depth threaded
has_head Start v c d t h = absurd (omega (arith, h))
has_head HasVersion v c d t h = absurd (omega (arith, h))
has_head _ v c d t h = refl

-- the rows of the routines, of which the last may be open
abbrev pub open_rows : NameLists → List Command → List (List ℕ) → List Routine → List Row
open_rows all body (n ∷ ns) (r ∷ rs) = (begun_rows all n r.commands ++ exit_row ∷ []) ++ open_rows all body ns rs
open_rows all body (n ∷ ns) [] = begun_rows all n body
open_rows all body [] rs = []

-- ---- the parts, one after another

abbrev pub heads : Place → Walk → List Row
heads p w = heads_at p w.version w.script.cpus w.script.depth w.script.threaded

abbrev pub isrs : NameLists → Walk → List Row
isrs all w = map (isr_row all) w.script.isrs

abbrev pub dpcs : NameLists → Walk → List Row
dpcs all w = declared_rows (dpc_row all) w.names.dpcs w.script.dpcs

abbrev pub timers : NameLists → Walk → List Row
timers all w = declared_rows (timer_row all) w.names.timers w.script.timers

abbrev pub threads : NameLists → Walk → List Row
threads all w = declared_rows (thread_row all) w.names.threads w.script.threads

abbrev pub apcs : NameLists → Walk → List Row
apcs all w = declared_rows (apc_row all) w.names.apcs w.script.apcs

abbrev pub locks : Walk → List Row
locks w = map lock_row w.names.locks

abbrev pub routines : NameLists → Walk → List Row
routines all w = open_rows all w.body w.names.routines w.script.routines

-- the rows that the lines at a place give: those of the head are not a part, and a routine's are in the part of all routines
abbrev pub rows_at : NameLists → Walk → Place → List Row
rows_at all w InIsrs = isrs all w
rows_at all w InDpcs = dpcs all w
rows_at all w InTimers = timers all w
rows_at all w InThreads = threads all w
rows_at all w InApcs = apcs all w
rows_at all w InLocks = locks w
rows_at all w InRoutines = routines all w
rows_at all w _ = []

-- the places of the parts, in order: one for each kind of declaration
abbrev pub part_places : List Place
part_places = InIsrs ∷ InDpcs ∷ InTimers ∷ InThreads ∷ InApcs ∷ InLocks ∷ InRoutines ∷ InRoutine ∷ []

-- the rows of each part
abbrev pub parts : NameLists → Walk → List (List Row)
parts all w = map (rows_at all w) part_places

abbrev pub joined : List (List Row) → List Row
joined [] = []
joined (rows ∷ more) = rows ++ joined more

abbrev pub so_far : NameLists → Walk → List Row
so_far all w = heads w.place w ++ joined (parts all w)

-- ---- a part grows, and the parts after it are empty

-- no rows from the part with this number on
abbrev pub NoRows : List (List Row) → ℕ → Type 0
NoRows [] k = Unit {0}
NoRows (rows ∷ more) zero = (rows ≡ []) × NoRows more zero
NoRows (rows ∷ more) (suc k) = NoRows more k

-- the parts with other rows in the one with this number
abbrev pub replaced : List (List Row) → ℕ → List Row → List (List Row)
replaced [] k new = []
replaced (rows ∷ more) zero new = new ∷ more
replaced (rows ∷ more) (suc k) new = rows ∷ replaced more k new

-- parts that all have no rows have none together
none_joined : (olds : List (List Row)) → NoRows olds zero → joined olds ≡ []
none_joined [] none = refl
none_joined (old ∷ olds) none = rw (none.0, none_joined olds none.1) refl

-- the last part that has rows grows at the end of all
grow_joined : (olds : List (List Row)) (k : ℕ) (x : List Row) → k < length olds → NoRows olds (suc k) →
    joined (replaced olds k (get_or olds k [] ++ x)) ≡ joined olds ++ x
grow_joined [] k x lt none = absurd (omega arith)
grow_joined (old ∷ olds) zero x lt none = rw (none_joined olds none) (simp append-nil)
grow_joined (old ∷ olds) (suc k) x lt none =
    ap (λ (rows : List Row). old ++ rows) (grow_joined olds k x (omega arith) none) ∙ sym (append_assoc old (joined olds) x)

-- the head grows, before any part has rows
pub grow_head : (all : NameLists) (w new : Walk) (x : List Row) → heads new.place new ≡ heads w.place w ++ x → parts all new ≡ parts all w →
    NoRows (parts all w) 0 → so_far all new ≡ so_far all w ++ x
grow_head all w new x head same none =
    let nothing = none_joined (parts all w) none in
    let old : so_far all w ≡ heads w.place w = ap (λ (rows : List Row). heads w.place w ++ rows) nothing ∙ append-nil (heads w.place w) in
    let grown : so_far all new ≡ heads w.place w ++ x =
    ap (λ (rows : List Row). heads new.place new ++ rows) (ap joined same ∙ nothing) ∙ append-nil (heads new.place new) ∙ head in
    grown ∙ ap (λ (rows : List Row). rows ++ x) (sym old)

-- the part with this number grows, and no later one has rows
pub grow_part : (k : ℕ) (all : NameLists) (w new : Walk) (rows x : List Row) → k < 8 → heads new.place new ≡ heads w.place w →
    parts all new ≡ replaced (parts all w) k rows → rows ≡ get_or (parts all w) k [] ++ x → NoRows (parts all w) (suc k) →
    so_far all new ≡ so_far all w ++ x
grow_part k all w new rows x lt head same grown none =
    let there : parts all new ≡ replaced (parts all w) k (get_or (parts all w) k [] ++ x) = same ∙ ap (replaced (parts all w) k) grown in
    let more : joined (parts all new) ≡ joined (parts all w) ++ x = ap joined there ∙ grow_joined (parts all w) k x lt none in
    ap (λ (h : List Row). h ++ joined (parts all new)) head ∙ ap (λ (rows : List Row). heads w.place w ++ rows) more
    ∙ sym (append_assoc (heads w.place w) (joined (parts all w)) x)

-- ---- one more

-- the rows of things with one more at the end are the rows of those before and the row of that one
pub declared_more : {A : Type 0} (row : List ℕ → A → Row) (ns : List (List ℕ)) (xs : List A) (n : List ℕ) (x : A) → length ns ≡ length xs →
    declared_rows row (ns ++ n ∷ []) (xs ++ x ∷ []) ≡ declared_rows row ns xs ++ row n x ∷ []
declared_more row [] [] n x e = refl
declared_more row [] (y ∷ ys) n x e = absurd (omega arith)
declared_more row (m ∷ ns) [] n x e = absurd (omega arith)
declared_more row (m ∷ ns) (y ∷ ys) n x e = ap (λ (rows : List Row). row m y ∷ rows) (declared_more row ns ys n x (omega arith))

-- where there are no names there are no rows of things with names
pub none_declared : {A : Type 0} (row : List ℕ → A → Row) (ns : List (List ℕ)) (xs : List A) → ns ≡ [] → declared_rows row ns xs ≡ []
none_declared row ns xs e = rw e refl

-- where there are no names of routines there are no rows of routines, ended or not
pub none_opened : (all : NameLists) (body : List Command) (ns : List (List ℕ)) (rs : List Routine) → ns ≡ [] → open_rows all body ns rs ≡ []
none_opened all body ns rs e = rw e refl

-- a routine begins
pub routine_more : (all : NameLists) (ns : List (List ℕ)) (rs : List Routine) (n : List ℕ) → length ns ≡ length rs → open_rows all [] (ns ++ n ∷ []) rs
    ≡ open_rows all [] ns rs ++ (text_of keyword.Routine ∷ n ∷ []) ∷ []
routine_more all [] [] n e = refl
routine_more all [] (r ∷ rs) n e = absurd (omega arith)
routine_more all (n' ∷ ns) [] n e = absurd (omega arith)
routine_more all (n' ∷ ns) (r ∷ rs) n e = rw (routine_more all ns rs n (omega arith))
    (sym (append_assoc (begun_rows all n' r.commands ++ exit_row ∷ []) (open_rows all [] ns rs) ((text_of keyword.Routine ∷ n ∷ []) ∷ [])))

-- a command more
pub command_more : (all : NameLists) (body : List Command) (ns : List (List ℕ)) (rs : List Routine) (c : Command) → length ns ≡ suc (length rs) →
    open_rows all (body ++ c ∷ []) ns rs ≡ open_rows all body ns rs ++ command_row all c ∷ []
command_more all body [] rs c e = absurd (omega arith)
command_more all body (n ∷ ns) [] c e = ap (λ (rows : List Row). (text_of keyword.Routine ∷ n ∷ []) ∷ rows) (map-append (command_row all) body (c ∷ []))
command_more all body (n ∷ ns) (r ∷ rs) c e = rw (command_more all body ns rs c (omega arith))
    (sym (append_assoc (begun_rows all n r.commands ++ exit_row ∷ []) (open_rows all body ns rs) (command_row all c ∷ [])))

-- a routine ends
pub exit_more : (all : NameLists) (body : List Command) (ns : List (List ℕ)) (rs : List Routine) → length ns ≡ suc (length rs) →
    open_rows all [] ns (rs ++ record { commands = body } ∷ []) ≡ open_rows all body ns rs ++ exit_row ∷ []
exit_more all body [] rs e = absurd (omega arith)
exit_more all body (n ∷ []) [] e = append-nil (begun_rows all n body ++ exit_row ∷ [])
exit_more all body (n ∷ n' ∷ ns) [] e = absurd (omega arith)
exit_more all body (n ∷ ns) (r ∷ rs) e = rw (exit_more all body ns rs (omega arith))
    (sym (append_assoc (begun_rows all n r.commands ++ exit_row ∷ []) (open_rows all body ns rs) (exit_row ∷ [])))

-- where each routine has ended
pub all_ended : (all : NameLists) (ns : List (List ℕ)) (rs : List Routine) (body : List Command) → length ns ≡ length rs → open_rows all body ns rs
    ≡ routine_rows all ns rs
all_ended all [] [] body e = refl
all_ended all [] (r ∷ rs) body e = refl
all_ended all (n ∷ ns) [] body e = absurd (omega arith)
all_ended all (n ∷ ns) (r ∷ rs) body e = ap (λ (rows : List Row). (begun_rows all n r.commands ++ exit_row ∷ []) ++ rows)
    (all_ended all ns rs body (omega arith))
