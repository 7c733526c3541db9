-- The two sides of a call as it finds or leaves them: a source and a sink.
use Rattle.std.specs.Prelude.{List, Option, length, ℕ, ◌≡◌, ◌≤◌}
use Rattle.std.specs.Io.KnownBytes.{IsAtEnd, prepend_known}
use Rattle.nt_outside.specs.Counts.{counted}

-- a source: the bytes that are left, where it tells them, and its counts of bytes taken and of faults
pub record Supply : Type 0 where
  pub left : Option (List ℕ)
  pub taken : ℕ
  pub faults : ℕ

abbrev pub supply : Option (List ℕ) → ℕ → ℕ → Supply
supply left taken faults = record { left = left; taken = taken; faults = faults }

-- a sink: the bytes that it holds, where it tells them, and its count of faults
pub record Store : Type 0 where
  pub held : Option (List ℕ)
  pub faults : ℕ

abbrev pub store : Option (List ℕ) → ℕ → Store
store held faults = record { held = held; faults = faults }

-- the source gave these bytes, at most so many, and is at its end
pub record GaveWithin (limit : ℕ) (bytes : List ℕ) (old new : Supply) : Type 0 where
  pub left : old.left ≡ prepend_known bytes new.left
  pub end : IsAtEnd new.left
  pub few : length bytes ≤ limit
  pub taken : new.taken ≡ counted old.taken (length bytes)
