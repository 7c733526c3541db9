-- A path along which a round is looked for.
use Rattle.std.specs.Prelude.{All, List, get_or, length, ℕ, ◌+◌, ◌<◌, ◌≡◌}
use Rattle.nt_rounds.specs.Depths.{Leads}
use Rattle.nt_rounds.specs.Known.{known_count}

-- states each of which leads to the next one, and the last to this one; of each of them is known where it stands
pub record IsPath (closed : List (List ℕ)) (path places : List ℕ) (at : ℕ) : Type 0 where
  pub states : length places ≡ length closed
  pub counted : known_count places ≡ length path
  pub placed : (n : ℕ) → n < length places → get_or places n 0 < length places →
      (get_or places n 0 < length path) × (get_or path (get_or places n 0) 0 ≡ n)
  pub inside : All (λ n. n < length closed) path
  pub on : (i : ℕ) → i + 1 < length path → Leads closed (get_or path i 0) (get_or path (i + 1) 0)
  pub last : (i : ℕ) → i + 1 ≡ length path → Leads closed (get_or path i 0) at
