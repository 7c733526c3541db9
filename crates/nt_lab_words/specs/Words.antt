-- The words of the command line, without the program's name: which task they are.
use Rattle.std.specs.Prelude.{◌∷◌, ◌&&◌, ◌||◌, ◌-◌, ◌==◌, ℕ, List, [], Option, Some, None, Bool, true, false}
use Rattle.std.specs.Prelude.{codes, option_map}
use Rattle.std.specs.Prelude.{get_or, length, not, option_and_then, take, is_some, if◌then◌else◌, ◌≤◌, IfSome}
use Rattle.std.specs.Str.{bytes_eq}
use Rattle.nt_ask.specs.declared.words.Form.{Form}
use Rattle.nt_ask.specs.Words.{IsWithin, form_of}
use Rattle.nt_event.specs.declared.limits.TheConstants.{EVENTS, TURNS}
use Rattle.nt_text.specs.Fields.{number_up_to}
use Rattle.nt_lab_words.specs.declared.options.Options.{Options}
use Rattle.nt_lab_words.specs.declared.options.OrderName.{OrderName}
use Rattle.nt_lab_words.specs.declared.options.OrderName.TheVariants as name
use Rattle.nt_lab_words.specs.declared.words.Call.{Call}
use Rattle.nt_lab_words.specs.declared.words.How.{How}
use Rattle.nt_lab_words.specs.declared.words.Order.{Order}
use Rattle.nt_lab_words.specs.declared.words.Order.TheVariants as order
use Rattle.nt_lab_words.specs.declared.words.Task.{Task}
use Rattle.nt_lab_words.specs.declared.words.Task.TheVariants.{Do, Help, Version}
use Rattle.nt_lab_words.specs.declared.words.ThingKind.{ThingKind}
use Rattle.nt_lab_words.specs.declared.words.ThingKind.TheVariants.{Apc, Dpc, Interrupt, Thread, Timer}
use Rattle.nt_lab_words.specs.declared.words.Work.{Work}
use Rattle.nt_lab_words.specs.declared.words.Work.TheVariants.{Ask, Draw, Left, Run, Tidy, Why}
use Rattle.nt_lab_words.specs.Options.{options_of}

-- the order by its name and a seed: only a random order has one, 1 where it is not given
abbrev pub order_by : Option OrderName → Option ℕ → Option Order
order_by (Some name.Random) (Some seed) = Some (order.Random seed)
order_by (Some name.Random) None = Some (order.Random 1)
order_by (Some name.Robin) (Some seed) = None
order_by (Some name.Robin) None = Some order.Robin
order_by None (Some seed) = None
order_by None None = Some order.Robin

-- how a run is made by this order and these options
abbrev pub how : Order → Options → How
how by o = record { order = by; turns = o.turns; goes_on = o.goes_on }

-- how the turns are chosen is given
abbrev pub is_chosen : Options → Bool
is_chosen o = is_some o.order || is_some o.seed || is_some o.turns

-- `run` with these options: behind a schedule it goes on by the robin rule, with the schedule's turn limit
abbrev pub run_of : Options → Option Work
run_of o = if is_some o.from || is_some o.to || o.as_text then None else
    (if o.goes_on && is_chosen o then None else
    option_and_then (λ x. Some (Run (how x o) o.as_schedule)) (order_by o.order o.seed))

-- `draw` with these options
abbrev pub draw_of : Options → Option Work
draw_of o = if is_chosen o then None else
    (if o.as_schedule || o.goes_on then None else Some (Draw o.from o.to o.as_text))

abbrev pub kind_word : ThingKind → List ℕ
kind_word Dpc = codes "dpc"
kind_word Apc = codes "apc"
kind_word Thread = codes "thread"
kind_word Timer = codes "timer"
kind_word Interrupt = codes "int"

-- the kind of a thing by its word
abbrev pub kind_of : List ℕ → Option ThingKind
kind_of word = if bytes_eq word (kind_word Dpc) then Some Dpc else
    (if bytes_eq word (kind_word Apc) then Some Apc else
    (if bytes_eq word (kind_word Thread) then Some Thread else
    (if bytes_eq word (kind_word Timer) then Some Timer else
    (if bytes_eq word (kind_word Interrupt) then Some Interrupt else None))))

-- two words name an interrupt, its processor and its level; one word names another thing
abbrev pub has_two_words : ThingKind → Bool
has_two_words Dpc = false
has_two_words Apc = false
has_two_words Thread = false
has_two_words Timer = false
has_two_words Interrupt = true

-- a level of an interrupt, 0 to 15
abbrev pub is_level : List ℕ → Bool
is_level word = is_some (number_up_to 15 word)

-- the words behind the name of a thing, of one word or of two, of which the second is a level
abbrev pub behind_name : Bool → List (List ℕ) → Option (List (List ℕ))
behind_name two [] = None
behind_name false (a ∷ rest) = Some rest
behind_name true (a ∷ []) = None
behind_name true (a ∷ b ∷ rest) = if is_level b then Some rest else None

-- the number of events, where a word says one
abbrev pub after_in : List (List ℕ) → Option (Option ℕ)
after_in [] = Some None
after_in (a ∷ []) = option_map Some (number_up_to EVENTS a)
after_in (a ∷ b ∷ more) = None

-- `why` of a thing of this kind, with these words behind that of the kind
abbrev pub why_by : List (List ℕ) → ThingKind → Option Work
why_by words kind = option_and_then (λ rest. option_map (Why kind) (after_in rest))
    (behind_name (has_two_words kind) words)

-- `why` with these words behind it: a thing, and perhaps a number of events
abbrev pub why_of : List (List ℕ) → Option Work
why_of [] = None
why_of (a ∷ rest) = option_and_then (why_by rest) (kind_of a)

-- the task of a word that stands alone
abbrev pub plain_task : List ℕ → Option Task
plain_task word = if bytes_eq word (codes "tidy") then Some (Do Tidy) else
    (if bytes_eq word (codes "left") then Some (Do Left) else
    (if bytes_eq word (codes "--help") || bytes_eq word (codes "help") then Some Help else
    (if bytes_eq word (codes "--version") then Some Version else None)))

-- the task of what is done with a text
abbrev pub done : Option Work → Option Task
done None = None
done (Some work) = Some (Do work)

-- the task of a word and the words behind it
abbrev pub task_by : List ℕ → List (List ℕ) → Option Task
task_by first rest = if bytes_eq first (codes "run") then done (option_and_then run_of (options_of rest)) else
    (if bytes_eq first (codes "draw") then done (option_and_then draw_of (options_of rest)) else
    (if bytes_eq first (codes "why") then done (why_of rest) else
    (if length rest == 0 then plain_task first else None)))

-- the task that words are which are no form of `ask` or `witness`
abbrev pub other_task : List (List ℕ) → Option Task
other_task [] = None
other_task (first ∷ rest) = task_by first rest

abbrev pub asked_or : List (List ℕ) → Option Form → Option Task
asked_or words (Some form) = Some (Do (Ask form))
asked_or words None = other_task words

-- the task that words are
abbrev pub task_of : List (List ℕ) → Option Task
task_of words = asked_or words (form_of words)

-- a word that may be the name of a file: it has a byte, and the first is no `-`
abbrev pub is_file : List ℕ → Bool
is_file [] = false
is_file (first ∷ more) = not (first == 45)

abbrev pub call : Bool → Task → Option Call
call has_file task = Some (record { task = task; has_file = has_file })

-- the task of all words but the last one, which is the name of a file
abbrev pub with_file : List (List ℕ) → Option Call
with_file words = if is_file (get_or words (length words - 1) [])
    then option_and_then (call true) (task_of (take (length words - 1) words)) else None

abbrev pub call_or : List (List ℕ) → Option Task → Option Call
call_or words (Some task) = call false task
call_or words None = with_file words

-- what the words ask for
abbrev pub call_of : List (List ℕ) → Option Call
call_of words = call_or words (task_of words)

-- the turn limit lies in its range
abbrev pub IsHow : How → Type 0
IsHow by = IfSome by.turns (λ n. (1 ≤ n) × (n ≤ TURNS))

-- the numbers of what is asked lie in their ranges
abbrev pub IsWork : Work → Type 0
IsWork (Ask form) = IsWithin form
IsWork Tidy = Unit {0}
IsWork (Run by as_schedule) = IsHow by
IsWork (Why kind after) = Unit {0}
IsWork Left = Unit {0}
IsWork (Draw since until as_text) = Unit {0}

abbrev pub IsTask : Task → Type 0
IsTask (Do work) = IsWork work
IsTask Help = Unit {0}
IsTask Version = Unit {0}

-- the last word, if there is one
abbrev pub last_of : List (List ℕ) → Option (List ℕ)
last_of [] = None
last_of (w ∷ more) = Some (get_or (w ∷ more) (length more) [])

-- the file that the words name: the last one
abbrev pub file_of : List (List ℕ) → Option Call → Option (List ℕ)
file_of words None = None
file_of words (Some c) = if c.has_file then last_of words else None
