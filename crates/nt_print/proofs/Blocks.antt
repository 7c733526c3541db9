-- Flags of which none is set, block by block.
use Rattle.std.proofs.Common.{◌≡◌, ◌∙◌, ℕ, ◌+◌, ◌-◌, ◌<◌, ◌≤◌, Bool, false, List, length, get_or, take, drop, sym, ap, arith, eq-zero-or-pos, inl, inr}
use Rattle.std.proofs.lemmas.List.{get_or-drop, get_or-take, length-drop, length-take-le}
use Rattle.nt_print.specs.Flags.{AreClear}

-- the flags from one place to another inside the list are as many as the difference of the places
pub block_length : (flags : List Bool) (a e : ℕ) → a ≤ e → e ≤ length flags → length (take (e - a) (drop a flags)) ≡ e - a
block_length flags a e le within = length-take-le (e - a) (drop a flags) (omega (arith, length-drop a flags, le, within))

-- none is set before a block, and none of the first in it
pub clear_on : (flags : List Bool) (from a e d : ℕ) → AreClear flags from a → AreClear (take (e - a) (drop a flags)) 0 d → d ≤ e - a →
    AreClear flags from (a + d)
clear_on flags from a e d before here few n lo lt =
    elim (eq-zero-or-pos (a - n)) [
      | inl z ↦
          let i : ℕ = n - a in
          let place : n ≡ a + i = omega (arith, z) in
          let inside : i < e - a = omega (arith, place, lt, few) in
          let first : i < d = omega (arith, place, lt) in
          ap (λ (k : ℕ). get_or flags k false) place ∙ sym (get_or-drop a flags i false)
          ∙ sym (get_or-take (e - a) (drop a flags) i false inside) ∙ here i (omega arith) first
      | inr g ↦ before n lo (omega (arith, g))
    ]
