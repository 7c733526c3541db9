-- Refusals as they are handed up.
use Rattle.std.proofs.Common.{◌≡◌, [], Result, Ok, Err, inl, inr, subst}
use Rattle.clap.specs.Kinds.{Kinds, HasKind, IsAmong}
use Rattle.clap.specs.Values.{kind_of}
use Rattle.clap.specs.declared.error.Error.{Error}
use Rattle.clap.specs.declared.error.kind.ErrorKind.TheVariants.{OutOfMemory}
use Rattle.nt_words.specs.declared.reading.WordsRefusal.{WordsRefusal}
use Rattle.nt_words.specs.declared.reading.WordsRefusal.TheVariants.{NoForm, NoMemory}
use Rattle.nt_words.specs.Refusals.{OnNoForm, WhereNoForm}

-- a refusal that stands for an error of the parser, which has a fault where it is no want of memory
pub refused_by : (r : WordsRefusal) (e : Error) (kinds : Kinds) → (kind_of e ≡ OutOfMemory → r ≡ NoMemory) → HasKind kinds e
    → WhereNoForm r (kinds ≡ [] → ⊥)
refused_by NoMemory e kinds memory has = tt
refused_by NoForm e kinds memory has = λ none. fails none has
  where
    fails : kinds ≡ [] → HasKind kinds e → ⊥
    fails none (inl k) =
        let bad : NoForm ≡ NoMemory = memory k in
        cc
    fails none (inr among) = subst (IsAmong (kind_of e)) none among

-- `?` hands a refusal up as it is
pub refused_up : {U : Type 0} (r : Result U WordsRefusal) (e : WordsRefusal) (P Q : Type 0) → r ≡ Err e → (P → Q) → WhereNoForm e P → OnNoForm r Q
refused_up (Ok x) e P Q is f h = tt
refused_up (Err NoMemory) e P Q is f h = tt
refused_up (Err NoForm) e P Q is f h =
    let same : e ≡ NoForm = cc in
    f (subst (λ (x : WordsRefusal). WhereNoForm x P) same h)
