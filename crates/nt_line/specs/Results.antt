-- Steps that may fail.
use Rattle.std.specs.Prelude.{Bool, true, false, Option, Some, None, Result, Ok, Err}
use Rattle.nt_text.specs.declared.kind.ScriptKind.{ScriptKind}

infixl 10 ◌>>=◌
abbrev pub ◌>>=◌ : {A B : Type 0} → Result A ScriptKind → (A → Result B ScriptKind) → Result B ScriptKind
Ok x >>= f = f x
Err kind >>= f = Err kind

-- what is there, or this error
abbrev pub or_error : {A : Type 0} → ScriptKind → Option A → Result A ScriptKind
or_error kind (Some x) = Ok x
or_error kind None = Err kind

-- a value that is taken where a test holds, else this error
abbrev pub ok_if : {A : Type 0} → Bool → A → ScriptKind → Result A ScriptKind
ok_if true x kind = Ok x
ok_if false x kind = Err kind
