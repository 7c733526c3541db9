-- The source of one call and its sink.
use Rattle.std.specs.Prelude.{List, [], ℕ}

-- the bytes that are left, and how many were taken
pub record Input : Type 0 where
  pub left : List ℕ
  pub taken : ℕ

abbrev pub new_input : List ℕ → Input
new_input bytes = record { left = bytes; taken = 0 }

-- the text that was given, and how often memory was wanting
pub record Text : Type 0 where
  pub held : List ℕ
  pub faults : ℕ

abbrev pub new_text : Text
new_text = record { held = []; faults = 0 }
