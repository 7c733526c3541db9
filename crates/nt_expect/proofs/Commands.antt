-- A command is read from as many fields as its verb has, whatever stands behind them.
use Rattle.std.proofs.Common.{◌≡◌, ◌∙◌, ℕ, zero, suc, ◌≤◌, true, List, [], ◌∷◌, ◌++◌, length, take, Option, Some, Result, Ok, refl, ap, arith}
use Rattle.std.specs.List.{list_all}
use Rattle.std.proofs.lemmas.Bool.{and_from}
use Rattle.nt_text.specs.declared.kind.ScriptKind.{ScriptKind}
use Rattle.nt_text.specs.Lines.{IsRow, Row, is_field}
use Rattle.nt_event.specs.declared.commands.Command.{Command}
use Rattle.nt_event.specs.declared.commands.Command.TheVariants as cmd
use Rattle.nt_event.specs.Script.{command_fits}
use Rattle.nt_line.specs.declared.keywords.Keyword.{Keyword}
use Rattle.nt_line.specs.declared.keywords.Keyword.TheVariants as keyword
use Rattle.nt_line.specs.declared.keywords.Verb.{Verb}
use Rattle.nt_line.specs.declared.keywords.Verb.TheVariants as verb
use Rattle.nt_line.specs.Keywords.{keyword_of, since, text_of, verb_arity}
use Rattle.nt_line.specs.Results.{◌>>=◌}
use Rattle.nt_line.specs.NameLists.{NameLists}
use Rattle.nt_line.specs.Commands.{behind, command_of, next_field, read1, read2, read3}
use Rattle.nt_line.specs.Fields.{read_alertable, read_apc, read_cpu, read_dpc, read_importance, read_interrupt, read_level, read_lock, read_mode, read_number}
use Rattle.nt_line.specs.Fields.{read_target, read_thread, read_timer}
use Rattle.nt_line.specs.Fits.{HasRange}
use Rattle.nt_line.specs.Rows.{command_args, command_row, command_verb}
use Rattle.nt_line.proofs.Results.{bind_ok}
use Rattle.nt_line.proofs.Spelled.{args_count, command_again, command_takes}
use Rattle.nt_line.proofs.Words.{command_since, keyword_again, keyword_is}
use Rattle.nt_script.specs.declared.walk.Input.{Input}
use Rattle.nt_script.proofs.Clean.{command_clean}
use Rattle.nt_script.proofs.Soundness.{command_from, command_to}
use Rattle.nt_expect.specs.Fields.{command, read_verb, verb_of}
use Rattle.nt_expect.proofs.Known.{Known}
use Rattle.nt_expect.proofs.Parses.{Parses, Shown}
use Rattle.nt_expect.proofs.Steps.{made, ok, through}

-- the fields of a command are there, and they alone give it
abbrev Fronts : {C : Type 0} → (Row → Result C ScriptKind) → ℕ → Row → C → Type 0
Fronts read n args c = (read (take n args) ≡ Ok c) × (length (take n args) ≡ n)

-- what is read from no field is read from the first none of the fields alone
front0 : {C : Type 0} (x c : C) (args : Row) → ok x ≡ Ok c → Fronts (λ args. ok x) 0 args c
front0 x c [] e = (e, refl)
front0 x c (a ∷ args) e = (e, refl)

-- what is read from one field is read from the first field alone, and it is there
front1 : {A C : Type 0} (f : List ℕ → Result A ScriptKind) (make : A → C) (args : Row) (c : C) → read1 f make args ≡ Ok c → Fronts (read1 f make) 1 args c
front1 f make [] c e = absurd cc
front1 f make (a ∷ []) c e = (e, refl)
front1 f make (a ∷ b ∷ args) c e = (e, refl)

-- what is read from two fields is read from the first two alone, and they are there
front2 : {A B C : Type 0} (f : List ℕ → Result A ScriptKind) (g : List ℕ → Result B ScriptKind) (make : A → B → C) (args : Row) (c : C) →
    read2 f g make args ≡ Ok c → Fronts (read2 f g make) 2 args c
front2 f g make [] c e = absurd cc
front2 {A = A} {B = B} {C = C} f g make (a ∷ []) c e =
    through (λ (c : C). Fronts (read2 f g make) 2 (a ∷ []) c) (f a) (λ x. next_field g [] >>= λ y. ok (make x y)) c e (λ x is then. absurd cc)
front2 f g make (a ∷ b ∷ []) c e = (e, refl)
front2 f g make (a ∷ b ∷ d ∷ args) c e = (e, refl)

-- what is read from three fields is read from the first three alone, and they are there
front3 : {A B D C : Type 0} (f : List ℕ → Result A ScriptKind) (g : List ℕ → Result B ScriptKind) (h : List ℕ → Result D ScriptKind) (make : A → B → D → C)
    (args : Row) (c : C) → read3 f g h make args ≡ Ok c → Fronts (read3 f g h make) 3 args c
front3 f g h make [] c e = absurd cc
front3 {C = C} f g h make (a ∷ []) c e =
    through (λ (c : C). Fronts (read3 f g h make) 3 (a ∷ []) c) (f a) (λ x. next_field g [] >>= λ y. next_field h [] >>= λ z. ok (make x y z)) c e
    (λ x is then. absurd cc)
front3 {C = C} f g h make (a ∷ b ∷ []) c e =
    through (λ (c : C). Fronts (read3 f g h make) 3 (a ∷ b ∷ []) c) (f a) (λ x. g b >>= λ y. next_field h [] >>= λ z. ok (make x y z)) c e
    (λ x is then. through (λ (c : C). Fronts (read3 f g h make) 3 (a ∷ b ∷ []) c) (g b) (λ y. next_field h [] >>= λ z. ok (make x y z)) c then
    (λ y is' then'. absurd cc))
front3 f g h make (a ∷ b ∷ d ∷ []) c e = (e, refl)
front3 f g h make (a ∷ b ∷ d ∷ i ∷ args) c e = (e, refl)

-- a command is read from as many first fields as its verb has, and they are there
command_front : (names : NameLists) (cpus : ℕ) (v : Verb) (args : Row) (c : Command) → command_of names cpus v args ≡ Ok c →
    Fronts (command_of names cpus v) (verb_arity v) args c
command_front names cpus verb.Raise args c e = front1 read_level cmd.Raise args c e
command_front names cpus verb.Lower args c e = front1 read_level cmd.Lower args c e
command_front names cpus verb.Queue args c e = front1 (read_dpc names) cmd.Queue args c e
command_front names cpus verb.Unqueue args c e = front1 (read_dpc names) cmd.Unqueue args c e
command_front names cpus verb.SetImportance args c e = front2 (read_dpc names) read_importance cmd.SetImportance args c e
command_front names cpus verb.SetTarget args c e = front2 (read_dpc names) (read_target cpus) cmd.SetTarget args c e
command_front names cpus verb.SetTimer args c e = front3 (read_timer names) (read_number 4294967295) (read_number 4294967295) cmd.SetTimer args c e
command_front names cpus verb.CancelTimer args c e = front1 (read_timer names) cmd.CancelTimer args c e
command_front names cpus verb.InsertApc args c e = front1 (read_apc names) cmd.InsertApc args c e
command_front names cpus verb.RemoveApc args c e = front1 (read_apc names) cmd.RemoveApc args c e
command_front names cpus verb.EnterCrit args c e = front0 cmd.EnterCrit c args e
command_front names cpus verb.EnterGuard args c e = front0 cmd.EnterGuard c args e
command_front names cpus verb.LeaveCrit args c e = front0 cmd.LeaveCrit c args e
command_front names cpus verb.LeaveGuard args c e = front0 cmd.LeaveGuard c args e
command_front names cpus verb.StartWait args c e = front2 read_mode read_alertable cmd.StartWait args c e
command_front names cpus verb.Delay args c e = front3 read_mode read_alertable (read_number 4294967295) cmd.Delay args c e
command_front names cpus verb.Release args c e = front1 (read_thread names) cmd.Release args c e
command_front names cpus verb.Alert args c e = front2 (read_thread names) read_mode cmd.Alert args c e
command_front names cpus verb.TestAlert args c e = front1 read_mode cmd.TestAlert args c e
command_front names cpus verb.Interrupt args c e = front2 (read_cpu cpus) read_interrupt cmd.Interrupt args c e
command_front names cpus verb.Clock args c e = front1 (read_number 4294967295) cmd.Clock args c e
command_front names cpus verb.ToUser args c e = front0 cmd.ToUser c args e
command_front names cpus verb.Yield args c e = front0 cmd.Yield c args e
command_front names cpus verb.Acquire args c e = front1 (read_lock names) cmd.Acquire args c e
command_front names cpus verb.Unlock args c e = front1 (read_lock names) cmd.Unlock args c e
command_front names cpus verb.Note args c e = front1 (read_number 4294967295) cmd.Note args c e

-- ---- what stands behind a command's fields

-- a reader of one field gives the same if more fields stand after that one
more1 : {A C : Type 0} (f : List ℕ → Result A ScriptKind) (make : A → C) (args more : Row) → length args ≡ 1 → read1 f make (args ++ more)
    ≡ read1 f make args
more1 f make [] more e = absurd (omega (arith, e))
more1 f make (a ∷ []) more e = refl
more1 f make (a ∷ b ∷ args) more e = absurd (omega (arith, e))

-- a reader of two fields gives the same if more fields stand after the two
more2 : {A B C : Type 0} (f : List ℕ → Result A ScriptKind) (g : List ℕ → Result B ScriptKind) (make : A → B → C) (args more : Row) → length args ≡ 2 →
    read2 f g make (args ++ more) ≡ read2 f g make args
more2 f g make [] more e = absurd (omega (arith, e))
more2 f g make (a ∷ []) more e = absurd (omega (arith, e))
more2 f g make (a ∷ b ∷ []) more e = refl
more2 f g make (a ∷ b ∷ c ∷ args) more e = absurd (omega (arith, e))

-- a reader of three fields gives the same if more fields stand after the three
more3 : {A B D C : Type 0} (f : List ℕ → Result A ScriptKind) (g : List ℕ → Result B ScriptKind) (h : List ℕ → Result D ScriptKind) (make : A → B → D → C)
    (args more : Row) → length args ≡ 3 → read3 f g h make (args ++ more) ≡ read3 f g h make args
more3 f g h make [] more e = absurd (omega (arith, e))
more3 f g h make (a ∷ []) more e = absurd (omega (arith, e))
more3 f g h make (a ∷ b ∷ []) more e = absurd (omega (arith, e))
more3 f g h make (a ∷ b ∷ c ∷ []) more e = refl
more3 f g h make (a ∷ b ∷ c ∷ d ∷ args) more e = absurd (omega (arith, e))

-- a command with all fields of its verb is read the same if more fields stand after them
command_more : (names : NameLists) (cpus : ℕ) (v : Verb) (args more : Row) → length args ≡ verb_arity v → command_of names cpus v (args ++ more)
    ≡ command_of names cpus v args
command_more names cpus verb.Raise args more e = more1 read_level _ args more e
command_more names cpus verb.Lower args more e = more1 read_level _ args more e
command_more names cpus verb.Queue args more e = more1 (read_dpc names) _ args more e
command_more names cpus verb.Unqueue args more e = more1 (read_dpc names) _ args more e
command_more names cpus verb.SetImportance args more e = more2 (read_dpc names) read_importance _ args more e
command_more names cpus verb.SetTarget args more e = more2 (read_dpc names) (read_target cpus) _ args more e
command_more names cpus verb.SetTimer args more e = more3 (read_timer names) (read_number 4294967295) (read_number 4294967295) _ args more e
command_more names cpus verb.CancelTimer args more e = more1 (read_timer names) _ args more e
command_more names cpus verb.InsertApc args more e = more1 (read_apc names) _ args more e
command_more names cpus verb.RemoveApc args more e = more1 (read_apc names) _ args more e
command_more names cpus verb.EnterCrit args more e = refl
command_more names cpus verb.EnterGuard args more e = refl
command_more names cpus verb.LeaveCrit args more e = refl
command_more names cpus verb.LeaveGuard args more e = refl
command_more names cpus verb.StartWait args more e = more2 read_mode read_alertable _ args more e
command_more names cpus verb.Delay args more e = more3 read_mode read_alertable (read_number 4294967295) _ args more e
command_more names cpus verb.Release args more e = more1 (read_thread names) _ args more e
command_more names cpus verb.Alert args more e = more2 (read_thread names) read_mode _ args more e
command_more names cpus verb.TestAlert args more e = more1 read_mode _ args more e
command_more names cpus verb.Interrupt args more e = more2 (read_cpu cpus) read_interrupt _ args more e
command_more names cpus verb.Clock args more e = more1 (read_number 4294967295) _ args more e
command_more names cpus verb.ToUser args more e = refl
command_more names cpus verb.Yield args more e = refl
command_more names cpus verb.Acquire args more e = more1 (read_lock names) _ args more e
command_more names cpus verb.Unlock args more e = more1 (read_lock names) _ args more e
command_more names cpus verb.Note args more e = more1 (read_number 4294967295) _ args more e

-- after the fields of a row stand just those that were put after it
behind_more : (n : ℕ) (args more : Row) → length args ≡ n → behind n (args ++ more) ≡ more
behind_more zero [] more e = refl
behind_more zero (a ∷ args) more e = absurd (omega (arith, e))
behind_more (suc n) [] more e = absurd (omega (arith, e))
behind_more (suc n) (a ∷ args) more e = behind_more n args more (omega (arith, e))

-- ---- verbs

-- a keyword that is taken as a verb is the keyword of that verb
verb_ok : (o : Option Keyword) (v : Verb) → verb_of o ≡ Ok v → o ≡ Some (keyword.Call v)
verb_ok (Some (keyword.Call u)) v e = let same : u ≡ v = cc in ap (λ (u : Verb). Some (keyword.Call u)) same
verb_ok _ v e = absurd cc

-- a field that is read as a verb is the verb's text
verb_is : (version : ℕ) (f : List ℕ) (v : Verb) → read_verb version f ≡ Ok v → f ≡ text_of (keyword.Call v)
verb_is version f v e = (keyword_is version f (keyword.Call v) (verb_ok (keyword_of version f) v e)).0

-- a verb's text is read as the verb in each version that has it
verb_again : (version : ℕ) (v : Verb) → since (keyword.Call v) ≤ version → read_verb version (text_of (keyword.Call v)) ≡ Ok v
verb_again version v le = rw (keyword_again version (keyword.Call v) le) refl

-- ---- the whole

-- a command of the script, with numbers of their types
abbrev pub CommandIsPlain : Input → Command → Type 0
CommandIsPlain input c = (command_fits input.script c ≡ true) × HasRange c

-- a row with enough fields is its first fields and those after them
parts_behind : (n : ℕ) (args : Row) → length (take n args) ≡ n → args ≡ take n args ++ behind n args
parts_behind zero args e = refl
parts_behind (suc n) [] e = absurd (omega (arith, e))
parts_behind (suc n) (a ∷ args) e = ap (λ (r : Row). a ∷ r) (parts_behind n args (omega (arith, e)))

-- fields that are read as a command are its row and what is left, and it is one that a text may have
command_shown : (input : Input) → Known input → (row : Row) (y : Command × Row) → command input row ≡ Ok y →
    Shown (command_row input.names) (CommandIsPlain input) row y
command_shown input k [] y e = absurd cc
command_shown input k (f ∷ args) y e =
    let names = input.names in
    let cpus = input.script.cpus in
    let P = Shown (command_row names) (CommandIsPlain input) (f ∷ args) in
    through P (read_verb input.version f >>= λ v. ok (v, args)) (λ (v : Verb × Row). command_of names cpus v.0 v.1 >>= λ c. ok (c, behind (verb_arity v.0) v.1))
    y e
    (λ w is then.
    let b = bind_ok (read_verb input.version f) (λ (v : Verb). ok (v, args)) w is in
    made (λ (w : Verb × Row). (command_of names cpus w.0 w.1 >>= λ c. ok (c, behind (verb_arity w.0) w.1)) ≡ Ok y → P y) (b.value, args) w b.then
    (λ then. through P (command_of names cpus b.value args) (λ (c : Command). ok (c, behind (verb_arity b.value) args)) y then
    (λ c reads ends. made P (c, behind (verb_arity b.value) args) y ends (shown b.value c b.is reads))) then)
  where
    shown : (v : Verb) (c : Command) → read_verb input.version f ≡ Ok v → command_of input.names input.script.cpus v args ≡ Ok c →
        Shown (command_row input.names) (CommandIsPlain input) (f ∷ args) (c, behind (verb_arity v) args)
    shown v c is reads =
        let names = input.names in
        let front = command_front names input.script.cpus v args c reads in
        let t = command_takes names input.script.cpus k.fit.few v (take (verb_arity v) args) c front.0 front.1 in
        let word : f ≡ text_of (keyword.Call (command_verb c)) = verb_is input.version f v is ∙ ap text_of t.keyword in (
          ap (λ (g : List ℕ). g ∷ args) word
              ∙ ap (λ (r : Row). text_of (keyword.Call (command_verb c)) ∷ r)
              (parts_behind (verb_arity v) args front.1 ∙ ap (λ (r : Row). r ++ behind (verb_arity v) args) t.spelled),
          command_to input.script names k.counts c t.fits,
        )

-- the row of a command that a text may have, with more after it, is read as that command
command_read : (input : Input) → Known input → (c : Command) (more : Row) → CommandIsPlain input c →
    command input (command_row input.names c ++ more) ≡ Ok (c, more)
command_read input k c more h =
    let names = input.names in
    let cpus = input.script.cpus in
    let args = command_args names c in
    let fits = command_from input.script names k.counts c h.0 h.1 in
    let verb = command_verb c in
    let count : length args ≡ verb_arity verb = args_count names c in
    let again : command_of names cpus verb (args ++ more) ≡ Ok c =
    command_more names cpus verb args more count ∙ command_again names cpus k.are k.fit.cpus.1 c fits in
    let known : since (keyword.Call verb) ≤ input.version = command_since names cpus input.version k.fit.words c fits in
    go verb (args ++ more) (verb_again input.version verb known) again (behind_more (verb_arity verb) args more count)
  where
    go : (v : Verb) (args : Row) → read_verb input.version (text_of (keyword.Call v)) ≡ Ok v → command_of input.names input.script.cpus v args ≡ Ok c →
        behind (verb_arity v) args ≡ more → command input (text_of (keyword.Call v) ∷ args) ≡ Ok (c, more)
    go v args e f g = rw (e, f, g) refl

-- all members of a row of fields pass the test of a field
fields_of : (row : Row) → IsRow row → list_all is_field row ≡ true
fields_of [] h = absurd h
fields_of (f ∷ []) h = and_from (is_field f) true h.0 refl
fields_of (f ∷ g ∷ fs) h = and_from (is_field f) (list_all is_field (g ∷ fs)) h.0 (fields_of (g ∷ fs) h.1)

-- a command is read from just the fields of its row, and its row is read as the command
pub commands : (input : Input) → Known input → Parses (command input) (command_row input.names) (CommandIsPlain input)
commands input k = record {
  takes = record { from = command_shown input k };
  again = command_read input k;
  clean = λ c h. fields_of (command_row input.names c)
      (command_clean input.names k.fit.names input.script.cpus k.fit.cpus.1 c (command_from input.script input.names k.counts c h.0 h.1));
}
