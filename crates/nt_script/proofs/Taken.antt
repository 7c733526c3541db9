-- A line that is taken: its keyword may stand there, and it has as many fields as its keyword wants.
use Rattle.std.proofs.Common.{◌≡◌, ℕ, suc, ◌<◌, ◌≤◌, Bool, true, false, cond, List, [], ◌∷◌, length, Option, Some, None, Result, Ok, Err, refl, ◌∙◌, ap, subst}
use Rattle.std.proofs.Common.{arith, lit<}
use Rattle.std.specs.Prelude.{nat_lt, nat_le, is_some}
use Rattle.std.proofs.lemmas.Bool.{ltb-false, and_parts, and_from, leb-true, le-leb}
use Rattle.nt_text.specs.declared.kind.ScriptKind.{ScriptKind}
use Rattle.nt_text.specs.declared.kind.ScriptKind.TheVariants.{MissingField, ExtraField}
use Rattle.nt_text.specs.Lines.{first, rest}
use Rattle.nt_text.specs.Fields.{is_name}
use Rattle.nt_event.specs.declared.commands.ApcKind.TheVariants.{Special, Normal, User}
use Rattle.nt_line.specs.declared.keywords.Verb.{Verb}
use Rattle.nt_line.specs.declared.keywords.Verb.TheVariants as verb
use Rattle.nt_line.specs.declared.keywords.Keyword.{Keyword}
use Rattle.nt_line.specs.declared.keywords.Keyword.TheVariants as keyword
use Rattle.nt_line.specs.declared.keywords.Place.{Place}
use Rattle.nt_script.specs.declared.walk.Walk.{Walk}
use Rattle.nt_line.specs.NameLists.{NameLists, meaning}
use Rattle.nt_line.specs.Keywords.{keyword_of, text_of, arity, since, verb_text, order, earliest, latest, stands}
use Rattle.nt_line.specs.Results.{◌>>=◌}
use Rattle.nt_line.specs.Fields.{new_name}
use Rattle.nt_script.specs.Reading.{counted, step, misplaced, keyword_at, declaration, act}
use Rattle.nt_text.specs.Lines.{Row}
use Rattle.nt_line.proofs.Results.{bind_ok, ok_if_ok}
use Rattle.nt_line.proofs.Words.{keyword_is}
use Rattle.nt_line.proofs.UsedNames.{new_name_takes}

-- ---- the keyword

-- the keyword may stand behind what was read last
abbrev pub At : Place → Keyword → Type 0
At p wd = (earliest wd ≤ order p) × (order p ≤ latest wd)

-- a keyword that is taken at a place is the one that was read, and may stand there
pub at_ok : (p : Place) (o : Option Keyword) (wd : Keyword) → keyword_at p o ≡ Ok wd → (o ≡ Some wd) × At p wd
at_ok p None wd e = absurd cc
at_ok p (Some v) wd e =
    let r = ok_if_ok (stands p v) v (misplaced p) wd e in
    let b = and_parts (nat_le (earliest v) (order p)) (nat_le (order p) (latest v)) r.0 in
    (ap (λ (u : Keyword). Some u) r.1, subst (At p) r.1 (leb-true (earliest v) (order p) b.0, leb-true (order p) (latest v) b.1))

-- a keyword that may stand at a place is taken there
pub at_again : (p : Place) (wd : Keyword) → At p wd → keyword_at p (Some wd) ≡ Ok wd
at_again p wd h = let b : stands p wd ≡ true = and_from (nat_le (earliest wd) (order p)) (nat_le (order p) (latest wd)) (le-leb (earliest wd) (order p) h.0)
    (le-leb (order p) (latest wd) h.1) in rw b refl

-- if the count of fields is taken, there are as many as wanted
pub counted_ok : (there wanted : ℕ) (b : Bool) → counted there wanted ≡ Ok b → there ≡ wanted
counted_ok there wanted b e = go (nat_lt there wanted) (nat_lt wanted there) refl refl e
  where
    go : (x y : Bool) → nat_lt there wanted ≡ x → nat_lt wanted there ≡ y → cond x (Err MissingField) (cond y (Err ExtraField) (Ok true)) ≡ Ok b → there
        ≡ wanted
    go true y p q e = absurd cc
    go false true p q e = absurd cc
    go false false p q e = let low = ltb-false there wanted p in let high = ltb-false wanted there q in omega arith

-- the text of a verb is not empty
verb_there : (v : Verb) → 0 < length (verb_text v)
verb_there verb.Raise = lit< tt
verb_there verb.Lower = lit< tt
verb_there verb.Queue = lit< tt
verb_there verb.Unqueue = lit< tt
verb_there verb.SetImportance = lit< tt
verb_there verb.SetTarget = lit< tt
verb_there verb.SetTimer = lit< tt
verb_there verb.CancelTimer = lit< tt
verb_there verb.InsertApc = lit< tt
verb_there verb.RemoveApc = lit< tt
verb_there verb.EnterCrit = lit< tt
verb_there verb.EnterGuard = lit< tt
verb_there verb.LeaveCrit = lit< tt
verb_there verb.LeaveGuard = lit< tt
verb_there verb.StartWait = lit< tt
verb_there verb.Delay = lit< tt
verb_there verb.Release = lit< tt
verb_there verb.Alert = lit< tt
verb_there verb.TestAlert = lit< tt
verb_there verb.Interrupt = lit< tt
verb_there verb.Clock = lit< tt
verb_there verb.ToUser = lit< tt
verb_there verb.Yield = lit< tt
verb_there verb.Acquire = lit< tt
verb_there verb.Unlock = lit< tt
verb_there verb.Note = lit< tt

-- the text of a keyword is not empty
text_there : (w : Keyword) → 0 < length (text_of w)
text_there keyword.Version = lit< tt
text_there keyword.Cpus = lit< tt
text_there keyword.Depth = lit< tt
text_there keyword.Threaded = lit< tt
text_there keyword.Isr = lit< tt
text_there (keyword.Dpc false) = lit< tt
text_there (keyword.Dpc true) = lit< tt
text_there keyword.Timer = lit< tt
text_there keyword.Thread = lit< tt
text_there (keyword.Apc Special) = lit< tt
text_there (keyword.Apc Normal) = lit< tt
text_there (keyword.Apc User) = lit< tt
text_there keyword.Spinlock = lit< tt
text_there keyword.Routine = lit< tt
text_there keyword.Exit = lit< tt
text_there (keyword.Call v) = verb_there v

-- a row whose first field is a keyword's text is that text and the row's other fields
row_parts : (row : Row) (w : Keyword) → first row ≡ text_of w → row ≡ text_of w ∷ rest row
row_parts [] w e = absurd (let none : 0 ≡ length (text_of w) = ap length e in omega (arith, text_there w))
row_parts (f ∷ fs) w e = ap (λ (g : List ℕ). g ∷ fs) e

-- what a line says that is taken
pub record Line (all : NameLists) (w : Walk) (row : Row) (new : Walk) : Type 0 where
  pub keyword : Keyword
  pub is : keyword_of w.version (first row) ≡ Some keyword
  pub since : since keyword ≤ w.version
  pub row_is : row ≡ text_of keyword ∷ rest row
  pub at : At w.place keyword
  pub count : length (rest row) ≡ arity keyword
  pub acts : act all w keyword (rest row) ≡ Ok new

-- a line that is taken has a keyword of its version that may stand there, and as many fields as it wants
pub step_ok : (all : NameLists) (w : Walk) (row : Row) (new : Walk) → step all w row ≡ Ok new → Line all w row new
step_ok all w row new e =
    let b = bind_ok (keyword_at w.place (keyword_of w.version (first row)))
    (λ (keyword : Keyword). counted (length (rest row)) (arity keyword) >>= λ (b : Bool). act all w keyword (rest row)) new e in
    let keyword = b.value in
    let o = at_ok w.place (keyword_of w.version (first row)) keyword b.is in
    let i = keyword_is w.version (first row) keyword o.0 in
    let k = bind_ok (counted (length (rest row)) (arity keyword)) (λ (b : Bool). act all w keyword (rest row)) new b.then in
    record {
      keyword = keyword;
      is = o.0;
      since = i.1;
      row_is = row_parts row keyword i.0;
      at = o.1;
      count = counted_ok (length (rest row)) (arity keyword) k.value k.is;
      acts = k.then;
    }

-- ---- a name and what it is the name of

pub record Declared {A : Type 0} (names : NameLists) (read : Row → Result A ScriptKind) (put : List ℕ → A → Result Walk ScriptKind) (args : Row)
    (new : Walk) : Type 0 where
  pub name : List ℕ
  pub thing : A
  pub first_is : first args ≡ name
  pub named : is_name name ≡ true
  pub none : is_some (meaning name names) ≡ false
  pub read_is : read (rest args) ≡ Ok thing
  pub made : put name thing ≡ Ok new

-- a declaration that is taken has a new name, and behind it fields that are read as the thing
pub declared_ok : {A : Type 0} (names : NameLists) (read : Row → Result A ScriptKind) (put : List ℕ → A → Result Walk ScriptKind) (args : Row) (new : Walk) →
    declaration names read put args ≡ Ok new → Declared names read put args new
declared_ok {A = A} names read put args new e =
    let b = bind_ok (new_name names (first args)) (λ (name : List ℕ). read (rest args) >>= λ (x : A). put name x) new e in
    let t = new_name_takes names in
    let d = bind_ok (read (rest args)) (λ (x : A). put b.value x) new b.then in
    record {
      name = b.value;
      thing = d.value;
      first_is = t.shown (first args) b.value b.is;
      named = (t.fits (first args) b.value b.is).0;
      none = (t.fits (first args) b.value b.is).1;
      read_is = d.is;
      made = d.then;
    }

-- some fields are the first one and the others
pub args_parts : (args : Row) (n : ℕ) → length args ≡ suc n → (args ≡ first args ∷ rest args) × (length (rest args) ≡ n)
args_parts [] n e = absurd (omega arith)
args_parts (a ∷ args) n e = (refl, omega arith)

-- a row of one field is its first field alone
pub one_field : (args : Row) → length args ≡ 1 → args ≡ first args ∷ []
one_field [] e = absurd (omega arith)
one_field (a ∷ []) e = refl
one_field (a ∷ b ∷ args) e = absurd (omega arith)

-- a row with this first field and these fields behind it is the two put together
pub field_and : (args : Row) (name : List ℕ) (more : Row) → args ≡ first args ∷ rest args → first args ≡ name → rest args ≡ more → args ≡ name ∷ more
field_and args name more e f g = e ∙ ap (λ (n : List ℕ). n ∷ rest args) f ∙ ap (λ (r : Row). name ∷ r) g
