-- What lanes tell together, one lane after another.
use Rattle.std.proofs.Common.{add-one, ap, arith, drop-cons, get_or, ◌∙◌}
use Rattle.std.proofs.lemmas.List.{drop_all}
use Rattle.std.specs.Prelude.{List, drop, length, max, ℕ, ◌+◌, ◌<◌, ◌∷◌, ◌≡◌, ◌≤◌}
use Rattle.nt_event.specs.declared.jobs.Lane.{Lane}
use Rattle.nt_event.specs.declared.numbers.CpuNo.{CpuNo}
use Rattle.nt_event.specs.Lists.{table, value_at}
use Rattle.nt_event.proofs.Tables.{get_or-table}
use Rattle.nt_event.specs.Acts.{Told, told_over}
use Rattle.nt_states.specs.Reads.{AreHeld}

-- the lanes from a place on are the one at that place and those after it
rest_of : (lanes : List Lane) (i : ℕ) (d : Lane) → i < length lanes → drop i lanes ≡ get_or lanes i d ∷ drop (i + 1) lanes
rest_of lanes i d h = rw add-one (drop-cons lanes i d h)

-- one lane more
pub over_next : (told : Told) (lanes : List Lane) (p : CpuNo) (i : ℕ) (d : Lane) (values new : List ℕ) → i < length lanes →
    new ≡ table 16 (λ c. max (told (get_or lanes i d) p c) (value_at values c)) →
    ((c : ℕ) → c < 16 → max (told_over told (drop i lanes) p c) (value_at values c) ≡ told_over told lanes p c) → (c : ℕ) →
    c < 16 → max (told_over told (drop (i + 1) lanes) p c) (value_at new c) ≡ told_over told lanes p c
over_next told lanes p i d values new h e before c k =
    let y : Lane = get_or lanes i d in
    let read : value_at new c ≡ max (told y p c) (value_at values c) = ap (λ (v : List ℕ). value_at v c) e
    ∙ get_or-table 16 c (λ k. max (told y p k) (value_at values k)) 0 k in
    let old : max (max (told y p c) (told_over told (drop (i + 1) lanes) p c)) (value_at values c) ≡ told_over told lanes p c =
    rw (rest_of lanes i d h) at (before c k) in
    omega (arith, read, old)

-- when no lane is left, the value gathered for a class is what the lanes tell of it together
pub nothing_left : (told : Told) (lanes : List Lane) (p : CpuNo) (i : ℕ) (values : List ℕ) (c : ℕ) → length lanes ≤ i →
    max (told_over told (drop i lanes) p c) (value_at values c) ≡ told_over told lanes p c → value_at values c ≡ told_over told lanes p c
nothing_left told lanes p i values c h e =
    let k : max 0 (value_at values c) ≡ told_over told lanes p c = rw (drop_all i lanes h) at e in omega (arith, k)

-- the next lane is held, and those behind it
pub held_next : (held : Lane → Type 0) (lanes : List Lane) (i : ℕ) (d : Lane) → i < length lanes → AreHeld held (drop i lanes) →
    held (get_or lanes i d) × AreHeld held (drop (i + 1) lanes)
held_next held lanes i d h k = rw (rest_of lanes i d h) at k
