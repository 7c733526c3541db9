-- A part has a first entry exactly where it isn't empty.
use Rattle.std.proofs.Common.{◌≡◌, Bool, true, List, [], ◌∷◌, Option, Some, None, reverse, refl, sym, ◌∙◌, inl, inr}
use Rattle.nt_event.specs.declared.inserts.Insert.{Insert}
use Rattle.nt_event.specs.declared.inserts.Part.{Part}
use Rattle.nt_event.specs.Queues.{first_dpc, is_high_in, is_in}
use Rattle.nt_event.proofs.Reversed.{is_some-find, list_any-reverse}
use Rattle.std.specs.List.{find, list_any}
use Rattle.std.specs.Option.{is_some, option_or}
use Rattle.std.proofs.lemmas.Bool.{and_parts, or_cases, or_left, or_right}

-- if some insert is a High one of the part, some insert is in the part
high_is_in : (part : Part) (xs : List Insert) → list_any (is_high_in part) xs ≡ true → list_any (is_in part) xs ≡ true
high_is_in part [] h = h
high_is_in part (x ∷ xs) h =
    elim (or_cases (is_high_in part x) (list_any (is_high_in part) xs) h) [
      | inl here ↦ or_left (is_in part x) (list_any (is_in part) xs) (and_parts x.high (is_in part x) here).1
      | inr there ↦ or_right (is_in part x) (list_any (is_in part) xs) (high_is_in part xs there)
    ]

-- one of two options has a value exactly if a test passes, if the second does so and the first only then
either : (a b : Option Insert) (any : Bool) → (is_some a ≡ true → any ≡ true) → is_some b ≡ any → is_some (option_or a b) ≡ any
either (Some x) b any h k = sym (h refl)
either None b any h k = k

-- a part has a first entry exactly if some pending insert is in the part
pub is_some-first_dpc : (part : Part) (xs : List Insert) → is_some (first_dpc part xs) ≡ list_any (is_in part) xs
is_some-first_dpc part xs =
    either (find (is_high_in part) xs) (find (is_in part) (reverse xs)) (list_any (is_in part) xs)
    (λ e. high_is_in part xs (sym (is_some-find (is_high_in part) xs) ∙ e))
    (is_some-find (is_in part) (reverse xs) ∙ list_any-reverse (is_in part) xs)
