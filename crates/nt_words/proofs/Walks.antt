-- The parser's walk over the words of pieces: where it finds no fault, the words are those of pieces, and of which.
use Rattle.std.proofs.Common.{◌≡◌, ◌∙◌, ◌≤◌, ℕ, Bool, true, false, refl, sym, ap, ap₂, subst}
use Rattle.std.proofs.Common.{arith, List, [], ◌∷◌, ◌++◌, length, Option, Some, None, codes, append_assoc, append-nil}
use Rattle.std.specs.Prelude.{fold}
use Rattle.std.specs.List.{list_all}
use Rattle.clap.specs.Kinds.{Kinds, or_else}
use Rattle.clap.specs.Walk.{Row, Text, Walk, has_row, idle, option, settled, settled_rows, used, walked}
use Rattle.clap.specs.Faults.{settle_fault, turn_fault, use_fault, walk_fault}
use Rattle.clap.specs.declared.error.kind.ErrorKind.TheVariants.{InvalidValue, UnknownArgument}
use Rattle.nt_words.specs.declared.option_name.OptionName.{OptionName}
use Rattle.nt_words.specs.declared.option_name.OptionName.TheVariants.{Goal, Seed, Turns, Workers}
use Rattle.nt_words.specs.Pieces.{Piece, word, apart, joined, command_words, dashed, dashed_equals, option_text, values_of, words_of}
use Rattle.nt_words.specs.Tidy.{has_hyphen, is_known}
use Rattle.nt_words.proofs.Words.{Kind, no_flag, flag, given, kind_of_word}
use Rattle.nt_words.proofs.Rows.{has_some, no_command_row, no_option_row, put_new, row, rows-append, rows_for}
use Rattle.nt_words.proofs.Parser.{shape, rules, held_at, walk_at, rule_for, word_step, word_fault}
use Rattle.nt_words.proofs.Parser.{stray_word, value_step, value_fault, flag_step, flag_fault, given_step, given_fault}
use Rattle.nt_words.proofs.Counts.{ArePlain, AreOnce, command_words-append, no_command_before, no_value_before}

-- the walk over the words and its end have no fault
pub record Passes (w : Walk) (ws : List Text) : Type 0 where
  pub walk : walk_fault shape [] w ws ≡ []
  pub end : settle_fault rules false (fold (walked rules []) w ws).held ≡ []

-- if two lists of faults have no first fault together, both are empty
pub both_empty : (a b : Kinds) → or_else a b ≡ [] → (a ≡ []) × (b ≡ [])
both_empty [] b e = (refl, e)
both_empty (k ∷ ks) b e = cc

-- if words pass, the first has no fault and the others pass after it
next : (w : Walk) (x : Text) (xs : List Text) → Passes w (x ∷ xs) → (turn_fault shape [] w x ≡ []) × Passes (walked rules [] w x) xs
unfolding walk_fault
next w x xs p =
    let b = both_empty _ _ p.walk in
    (b.0, record { walk = b.1; end = p.end })

-- an option that waits for its value has none
no_value : (name : OptionName) (rows : List Row) → settle_fault rules false (held_at rows (Some (option_text name, []))) ≡ InvalidValue ∷ []
no_value Turns rows = refl
no_value Seed rows = refl
no_value Goal rows = refl
no_value Workers rows = refl

-- ---- words that pass are those of pieces

-- the place of the next command word, and how many may come
abbrev pub position : Bool → ℕ
position false = 1
position true = 2

abbrev pub MayHave : Bool → List (List ℕ) → Type 0
MayHave false xs = length xs ≤ 1
MayHave true xs = xs ≡ []

pub record Reads (seen : Bool) (ws : List Text) : Type 0 where
  pub pieces : List Piece
  pub spelled : ws ≡ words_of pieces
  pub plain : ArePlain pieces
  pub once : MayHave seen (command_words pieces)

-- the walk waits for no value, or for one of an option
abbrev pub state : Option OptionName → Bool → List Row → Option (Text × List Text) → Walk
state None seen rows pending = walk_at rows pending idle (position seen)
state (Some name) seen rows pending = walk_at rows (Some (option_text name, [])) (option (option_text name)) (position seen)

pub record ReadsValue (seen : Bool) (ws : List Text) : Type 0 where
  pub value : Text
  pub rest : List Text
  pub is : ws ≡ value ∷ rest
  pub plain : has_hyphen value ≡ false
  pub reads : Reads seen rest

abbrev pub ReadsFrom : Option OptionName → Bool → List Text → Type 0
ReadsFrom None seen ws = Reads seen ws
ReadsFrom (Some name) seen ws = ReadsValue seen ws

-- what the words behind are read as, from each state
abbrev pub ReadsRest : List Text → Type 0
ReadsRest ws = (wait : Option OptionName) (seen : Bool) (rows : List Row) (pending : Option (Text × List Text)) → Passes
    (state wait seen rows pending) ws → ReadsFrom wait seen ws

-- case: the first word has no hyphen and is read as a word by itself
read_word : (rows : List Row) (pending : Option (Text × List Text)) (w : Text) (ws : List Text) → has_hyphen w ≡ false
    → Passes (state None false rows pending) (w ∷ ws) → ReadsRest ws → Reads false (w ∷ ws)
read_word rows pending w ws h p more =
    let after = subst (λ (x : Walk). Passes x ws) (word_step rows pending w h) (next _ w ws p).1 in
    let r = more None true _ _ after in
    let none : command_words r.pieces ≡ [] = r.once in
    record { pieces = word w ∷ r.pieces; spelled = ap (λ (xs : List Text). w ∷ xs) r.spelled; plain = (h, r.plain); once = rw none (omega arith) }

-- case: the first word is an option whose value is the next word
read_flag : (name : OptionName) (seen : Bool) (rows : List Row) (pending : Option (Text × List Text)) (ws : List Text)
    → Passes (state None seen rows pending) (dashed name ∷ ws) → ReadsRest ws → Reads seen (dashed name ∷ ws)
read_flag name seen rows pending ws p more =
    let after = subst (λ (x : Walk). Passes x ws) (flag_step name rows pending idle (position seen)) (next _ (dashed name) ws p).1 in
    let r = more (Some name) seen _ None after in
    record {
      pieces = apart name r.value ∷ r.reads.pieces;
      spelled = ap (λ (xs : List Text). dashed name ∷ xs) (r.is ∙ ap (λ (xs : List Text). r.value ∷ xs) r.reads.spelled);
      plain = (r.plain, r.reads.plain);
      once = r.reads.once;
    }

-- case: the first word is an option joined with its value
read_given : (name : OptionName) (value : Text) (seen : Bool) (rows : List Row) (pending : Option (Text × List Text)) (ws : List Text)
    → Passes (state None seen rows pending) ((dashed_equals name ++ value) ∷ ws) → ReadsRest ws → Reads seen ((dashed_equals name ++ value) ∷ ws)
read_given name value seen rows pending ws p more =
    let after = subst (λ (x : Walk). Passes x ws) (given_step name value rows pending idle (position seen)) (next _ (dashed_equals name ++ value) ws p).1 in
    let r = more None seen _ None after in
    record {
      pieces = joined name value ∷ r.pieces;
      spelled = ap (λ (xs : List Text). (dashed_equals name ++ value) ∷ xs) r.spelled;
      plain =
          (tt, r.plain);
      once = r.once;
    }

-- case: the first word is the value for which an option waits
read_value : (name : OptionName) (seen : Bool) (rows : List Row) (w : Text) (ws : List Text) → has_hyphen w ≡ false
    → Passes (state (Some name) seen rows None) (w ∷ ws) → ReadsRest ws → ReadsValue seen (w ∷ ws)
read_value name seen rows w ws h p more =
    let after = subst (λ (x : Walk). Passes x ws) (value_step name rows (position seen) w h) (next _ w ws p).1 in
    record { value = w; rest = ws; is = refl; plain = h; reads = more None seen rows _ after }

-- a known word that passes is read with the words after it, in each state of the walk
step : (wait : Option OptionName) (seen : Bool) (rows : List Row) (pending : Option (Text × List Text)) (w : Text) (ws : List Text) → Kind w
    → Passes (state wait seen rows pending) (w ∷ ws) → ReadsRest ws → ReadsFrom wait seen (w ∷ ws)
step None false rows pending w ws (no_flag h) p more = read_word rows pending w ws h p more
step None true rows pending w ws (no_flag h) p more =
    let bad : UnknownArgument ∷ [] ≡ [] = sym (stray_word rows pending w h) ∙ (next _ w ws p).0 in
    cc
step None seen rows pending w ws (flag name e) p more =
    subst (λ (x : Text). Reads seen (x ∷ ws)) (sym e) (read_flag name seen rows pending ws
    (subst (λ (x : Text). Passes (state None seen rows pending) (x ∷ ws)) e p) more)
step None seen rows pending w ws (given name value e) p more =
    subst (λ (x : Text). Reads seen (x ∷ ws)) (sym e) (read_given name value seen rows pending ws
    (subst (λ (x : Text). Passes (state None seen rows pending) (x ∷ ws)) e p) more)
step (Some name) seen rows pending w ws (no_flag h) p more = read_value name seen rows w ws h p more
step (Some name) seen rows pending w ws (flag other e) p more =
    let at = subst (λ (x : Text). turn_fault shape [] (state (Some name) seen rows pending) x ≡ []) e (next _ w ws p).0 in
    let bad : InvalidValue ∷ [] ≡ [] = sym (flag_fault other rows _ (option (option_text name)) (position seen) ∙ no_value name rows) ∙ at in
    cc
step (Some name) seen rows pending w ws (given other value e) p more =
    let at = subst (λ (x : Text). turn_fault shape [] (state (Some name) seen rows pending) x ≡ []) e (next _ w ws p).0 in
    let none = both_empty _ _ (sym (given_fault other value rows _ (option (option_text name)) (position seen)) ∙ at) in
    let bad : InvalidValue ∷ [] ≡ [] = sym (no_value name rows) ∙ none.0 in
    cc

-- no words at all may be read, whether a command word was seen or not
none_read : (seen : Bool) → MayHave seen []
none_read false = omega arith
none_read true = refl

-- if all words are known, the first is and the others are
known_parts : (w : Text) (ws : List Text) → list_all is_known (w ∷ ws) ≡ true → (is_known w ≡ true) × (list_all is_known ws ≡ true)
known_parts w ws e = go (is_known w) refl
  where
    go : (b : Bool) → is_known w ≡ b → (is_known w ≡ true) × (list_all is_known ws ≡ true)
    go true is = (is, rw is at e)
    go false is =
        let bad : false ≡ true = rw is at e in
        cc

-- known words that pass are those of plain pieces, with one command word at most
pub reads : (ws : List Text) → list_all is_known ws ≡ true → ReadsRest ws
reads [] known None seen rows pending p = record { pieces = []; spelled = refl; plain = tt; once = none_read seen }
reads [] known (Some name) seen rows pending p =
    let bad : InvalidValue ∷ [] ≡ [] = sym (no_value name rows) ∙ p.end in
    cc
reads (w ∷ ws) known wait seen rows pending p =
    let parts = known_parts w ws known in
    step wait seen rows pending w ws (kind_of_word w parts.0) p (reads ws parts.1)

-- ---- the words of pieces pass, and their rows are those of the pieces

-- what is held stands for these pieces
pub record Stands (ps : List Piece) (held : List Row) (pending : Option (Text × List Text)) : Type 0 where
  pub rows : settled_rows rules pending held ≡ rows_for ps
  pub sound : settle_fault rules false (held_at held pending) ≡ []

pub record Ends (all : List Piece) (w : Walk) (ws : List Text) : Type 0 where
  pub passes : Passes w ws
  pub rows : (settled rules (fold (walked rules []) w ws).held).rows ≡ rows_for all
  pub stopped : (fold (walked rules []) w ws).stopped ≡ None

-- a word without a fault, after which the walk ends well, may stand in front
before : (all : List Piece) (w after : Walk) (x : Text) (xs : List Text) → turn_fault shape [] w x ≡ [] → walked rules [] w x ≡ after → Ends all after xs
    → Ends all w (x ∷ xs)
unfolding walk_fault
before all w after x xs none is ends =
    let e = subst (λ (v : Walk). Ends all v xs) (sym is) ends in
    record { passes = record { walk = rw none e.passes.walk; end = e.passes.end }; rows = e.rows; stopped = e.stopped }

-- a first command word that is held stands for the pieces with that word at the end
word_stands : (ps : List Piece) (rows : List Row) (w : Text) → rows ≡ rows_for ps → command_words ps ≡ []
    → Stands (ps ++ word w ∷ []) rows (Some (codes "command", w ∷ []))
word_stands ps rows w e none =
    let no_row : has_row (codes "command") rows ≡ false = rw e (no_command_row ps none) in
    record {
      rows = put_new (codes "command") w rows no_row ∙ (ap (λ (rs : List Row). rs ++ row (codes "command") w ∷ []) e ∙ sym (rows-append ps (word w ∷ [])));
      sound = rw no_row refl;
    }

-- an option that was given no value has no row yet
fresh_row : (name : OptionName) (ps : List Piece) (rows : List Row) → rows ≡ rows_for ps → values_of name ps ≡ [] → has_row (option_text name) rows ≡ false
fresh_row name ps rows e none = rw e (no_option_row name ps none)

-- a value that is put for an option
used_new : (name : OptionName) (ps : List Piece) (p : Piece) (rows : List Row) (value : Text) → rows ≡ rows_for ps → has_row (option_text name) rows ≡ false
    → rows_for (p ∷ []) ≡ row (option_text name) value ∷ [] → used (rule_for name) (value ∷ []) rows ≡ rows_for (ps ++ p ∷ [])
used_new Turns ps p rows value e none is = put_new (codes "turns") value rows none ∙ (ap₂ ◌++◌ e (sym is) ∙ sym (rows-append ps (p ∷ [])))
used_new Seed ps p rows value e none is = put_new (codes "seed") value rows none ∙ (ap₂ ◌++◌ e (sym is) ∙ sym (rows-append ps (p ∷ [])))
used_new Goal ps p rows value e none is = put_new (codes "goal") value rows none ∙ (ap₂ ◌++◌ e (sym is) ∙ sym (rows-append ps (p ∷ [])))
used_new Workers ps p rows value e none is = put_new (codes "workers") value rows none ∙ (ap₂ ◌++◌ e (sym is) ∙ sym (rows-append ps (p ∷ [])))

-- using an option that has no row yet is no fault
no_use_fault : (name : OptionName) (rows : List Row) (value : Text) → has_row (option_text name) rows ≡ false
    → use_fault false (rule_for name) (value ∷ []) rows ≡ []
no_use_fault Turns rows value none = rw none refl
no_use_fault Seed rows value none = rw none refl
no_use_fault Goal rows value none = rw none refl
no_use_fault Workers rows value none = rw none refl

-- what is pending of an option is its use
pending_rows : (name : OptionName) (rows : List Row) (value : Text)
    → settled_rows rules (Some (option_text name, value ∷ [])) rows ≡ used (rule_for name) (value ∷ []) rows
pending_rows Turns rows value = refl
pending_rows Seed rows value = refl
pending_rows Goal rows value = refl
pending_rows Workers rows value = refl

-- the fault of an option's pending value is the fault of its use
pending_fault : (name : OptionName) (rows : List Row) (value : Text)
    → settle_fault rules false (held_at rows (Some (option_text name, value ∷ []))) ≡ use_fault false (rule_for name) (value ∷ []) rows
pending_fault Turns rows value = refl
pending_fault Seed rows value = refl
pending_fault Goal rows value = refl
pending_fault Workers rows value = refl

-- an option that waits with its first value stands for the pieces with both words at the end
apart_stands : (name : OptionName) (ps : List Piece) (rows : List Row) (value : Text) → rows ≡ rows_for ps → values_of name ps ≡ []
    → Stands (ps ++ apart name value ∷ []) rows (Some (option_text name, value ∷ []))
apart_stands name ps rows value e none =
    let no_row = fresh_row name ps rows e none in
    record {
      rows = pending_rows name rows value ∙ used_new name ps (apart name value) rows value e no_row refl;
      sound = pending_fault name rows value ∙ no_use_fault name rows value no_row;
    }

-- a first value joined with its option stands, once used, for the pieces with that word at the end
joined_stands : (name : OptionName) (ps : List Piece) (rows : List Row) (value : Text) → rows ≡ rows_for ps → values_of name ps ≡ []
    → Stands (ps ++ joined name value ∷ []) (used (rule_for name) (value ∷ []) rows) None
joined_stands name ps rows value e none =
    record { rows = used_new name ps (joined name value) rows value e (fresh_row name ps rows e none) refl; sound = refl }

-- one more piece was read
more_read : (all ps qs : List Piece) (p : Piece) → all ≡ ps ++ p ∷ qs → all ≡ (ps ++ p ∷ []) ++ qs
more_read all ps qs p e = e ∙ sym (append_assoc ps (p ∷ []) qs)

-- whether a command word was read
seen_after : (ps : List Piece) (w : Text) → true ≡ has_some (command_words (ps ++ word w ∷ []))
seen_after ps w = sym (ap has_some (command_words-append ps (word w ∷ [])) ∙ some_last (command_words ps) w)
  where
    some_last : (xs : List (List ℕ)) (x : List ℕ) → has_some (xs ++ x ∷ []) ≡ true
    some_last [] x = refl
    some_last (y ∷ ys) x = refl

-- a piece without a command word leaves whether a command word was seen
seen_option : (ps : List Piece) (p : Piece) (seen : Bool) → command_words (p ∷ []) ≡ [] → seen ≡ has_some (command_words ps)
    → seen ≡ has_some (command_words (ps ++ p ∷ []))
seen_option ps p seen none e =
    e ∙ ap has_some (sym (command_words-append ps (p ∷ []) ∙ (ap (λ (xs : List (List ℕ)). command_words ps ++ xs) none ∙ append-nil (command_words ps))))

-- the walk over the rest of plain pieces, each given once at most, ends with no fault and the rows of all
pub ends : (qs all ps : List Piece) (seen : Bool) (rows : List Row) (pending : Option (Text × List Text)) → all ≡ ps ++ qs → seen ≡ has_some (command_words ps)
    → Stands ps rows pending → ArePlain qs → AreOnce all → Ends all (walk_at rows pending idle (position seen)) (words_of qs)
unfolding walk_fault
ends [] all ps seen rows pending e s stands plain once =
    record { passes = record { walk = refl; end = stands.sound }; rows = stands.rows ∙ ap rows_for (sym (e ∙ append-nil ps)); stopped = refl }
ends (word w ∷ qs) all ps true rows pending e s stands plain once =
    let none = no_command_before all ps qs w e once in
    let bad : true ≡ false = s ∙ ap has_some none in
    cc
ends (word w ∷ qs) all ps false rows pending e s stands plain once =
    let none = no_command_before all ps qs w e once in
    let rest = ends qs all (ps ++ word w ∷ []) true (settled_rows rules pending rows) (Some (codes "command", w ∷ [])) (more_read all ps qs (word w) e)
    (seen_after ps w)
    (word_stands ps _ w stands.rows none) plain.1 once in
    before all _ _ w _ (word_fault rows pending w plain.0 ∙ stands.sound) (word_step rows pending w plain.0) rest
ends (apart name value ∷ qs) all ps seen rows pending e s stands plain once =
    let none = no_value_before name all ps qs (apart name value) value e refl once in
    let rest = ends qs all (ps ++ apart name value ∷ []) seen (settled_rows rules pending rows) (Some (option_text name, value ∷ []))
    (more_read all ps qs (apart name value) e)
    (seen_option ps (apart name value) seen refl s) (apart_stands name ps _ value stands.rows none) plain.1 once in
    before all _ _ (dashed name) _ (flag_fault name rows pending idle (position seen) ∙ stands.sound) (flag_step name rows pending idle (position seen))
    (before all _ _ value _ (value_fault name _ (position seen) value plain.0) (value_step name _ (position seen) value plain.0) rest)
ends (joined name value ∷ qs) all ps seen rows pending e s stands plain once =
    let none = no_value_before name all ps qs (joined name value) value e refl once in
    let no_row = fresh_row name ps (settled_rows rules pending rows) stands.rows none in
    let rest = ends qs all (ps ++ joined name value ∷ []) seen (used (rule_for name) (value ∷ []) (settled_rows rules pending rows)) None
    (more_read all ps qs (joined name value) e)
    (seen_option ps (joined name value) seen refl s) (joined_stands name ps _ value stands.rows none) plain.1 once in
    before all _ _ (dashed_equals name ++ value) _ (given_fault name value rows pending idle (position seen)
    ∙ (ap₂ or_else stands.sound (no_use_fault name _ value no_row)))
    (given_step name value rows pending idle (position seen)) rest
