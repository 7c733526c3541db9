-- The first of each kind, in words of the whole run.
use Rattle.std.specs.Prelude.{All, List, MatchOption, false, ◌++◌, ◌≡◌, ◌≢◌, ◌≤◌, ◌∷◌}
use Rattle.nt_event.specs.declared.commands.ApcKind.{ApcKind}
use Rattle.nt_event.specs.declared.inserts.Pick.{Pick}
use Rattle.nt_event.specs.Apcs.{first_of_kind}
use Rattle.nt_apc.specs.Runs.{Act, Inserts, NumbersRise, queues_of, uses}

-- the insert was made, and no later act uses it up
pub record IsPending (x : Pick) (acts : List Act) : Type 0 where
  pub later : List Act
  pub earlier : List Act
  pub made : acts ≡ later ++ Inserts x ∷ earlier
  pub unused : All (λ act. uses x.apc act ≡ false) later

-- of the pending inserts of this kind it is the one of least number
pub record IsLeast (kind : ApcKind) (x : Pick) (acts : List Act) : Type 0 where
  pub pending : IsPending x acts
  pub of_kind : x.kind ≡ kind
  pub least : (y : Pick) → IsPending y acts → y.kind ≡ kind → x.number ≤ y.number

-- the first of a kind is the pending one of least number, and there is none exactly where none of the kind is pending
abbrev pub FirstsAreLeast : Type 0
FirstsAreLeast =
    (acts : List Act) → NumbersRise acts → (kind : ApcKind) →
    MatchOption (first_of_kind kind (queues_of acts)) ((y : Pick) → IsPending y acts → y.kind ≢ kind)
    (λ x. IsLeast kind x acts)
