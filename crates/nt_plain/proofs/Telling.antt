-- What lanes tell, loop by loop.
use Rattle.std.proofs.Common.{add-one, ap, arith, drop-cons, get_or, ◌∙◌}
use Rattle.std.proofs.lemmas.List.{drop_all, length-set}
use Rattle.std.specs.List.{list_any}
use Rattle.std.specs.Prelude.{Bool, List, [], drop, false, if◌then◌else◌, length, max, refl, set, true, ℕ, ◌*◌, ◌+◌, ◌<◌, ◌∷◌, ◌||◌, ◌≡◌, ◌≤◌}
use Rattle.nt_event.specs.declared.jobs.Lane.{Lane}
use Rattle.nt_event.specs.declared.numbers.CpuNo.{CpuNo}
use Rattle.nt_event.specs.declared.scripts.Script.{Script}
use Rattle.nt_event.specs.Lanes.{lane_number}
use Rattle.nt_event.specs.Requests.{Ask, is_ask}
use Rattle.nt_event.specs.Lists.{table, value_at}
use Rattle.nt_event.proofs.Tables.{get_or-table}
use Rattle.nt_event.specs.Acts.{Told, told_over}
use Rattle.nt_event.specs.declared.class.Asked.{Asked}
use Rattle.nt_states.specs.LaneLists.{as_ask, as_asks}
use Rattle.nt_plain.specs.Made.{tell_lane, tell_lanes}
use Rattle.nt_plain.specs.Places.{row_of, row_value, told_place}

-- telling of the requests for one lane leaves the number of told values
pub length-tell_lane : (s : Script) (to : ℕ) (x : Lane) (asks : List Ask) (told : List ℕ) → length (tell_lane s to x asks told) ≡ length told
length-tell_lane s to x [] told = refl
length-tell_lane s to x (a ∷ asks) told =
    length-tell_lane s to x asks (set told (told_place s x a.cpu a.class) to) ∙ length-set told (told_place s x a.cpu a.class) to

-- dropping the entries before a place leaves the entry there and the rest after it
rest_of : (lanes : List Lane) (i : ℕ) (d : Lane) → i < length lanes → drop i lanes ≡ get_or lanes i d ∷ drop (i + 1) lanes
rest_of lanes i d h = rw add-one (drop-cons lanes i d h)

-- one lane more
pub over_next : (s : Script) (told : List ℕ) (lanes : List Lane) (p : CpuNo) (i : ℕ) (d : Lane) (number row : ℕ) (values new : List ℕ) (c all : ℕ) →
    i < length lanes → number ≡ lane_number s (get_or lanes i d) → row ≡ row_of s.cpus number p → new
    ≡ table 16 (λ k. max (value_at values k) (get_or told (row * 16 + k) 0)) → c < 16 →
    max (value_at values c) (told_over (row_value s told) (drop i lanes) p c) ≡ all →
    max (value_at new c) (told_over (row_value s told) (drop (i + 1) lanes) p c) ≡ all
over_next s told lanes p i d number row values new c all h at place e k before =
    let y : Lane = get_or lanes i d in
    let where_it_is : row ≡ row_of s.cpus (lane_number s y) p = place ∙ ap (λ (n : ℕ). row_of s.cpus n p) at in
    let read : value_at new c ≡ max (value_at values c) (row_value s told y p c) = ap (λ (v : List ℕ). value_at v c) e
    ∙ (get_or-table 16 c (λ k. max (value_at values k) (get_or told (row * 16 + k) 0)) 0 k
    ∙ ap (λ (r : ℕ). max (value_at values c) (get_or told (r * 16 + c) 0)) where_it_is) in
    let old : max (value_at values c) (max (row_value s told y p c) (told_over (row_value s told) (drop (i + 1) lanes) p c)) ≡ all = rw
    (rest_of lanes i d h) at before in
    omega (arith, read, old)

-- telling of the lane at a place and then of the lanes after it is telling of the lanes from the place on
pub tell_next : (s : Script) (to : ℕ) (lanes : List Lane) (asks : List Ask) (i : ℕ) (d : Lane) (old new all : List ℕ) → i < length lanes → new
    ≡ tell_lane s to (get_or lanes i d) asks old → tell_lanes s to (drop i lanes) asks old ≡ all → tell_lanes s to (drop (i + 1) lanes) asks new ≡ all
tell_next s to lanes asks i d old new all h e before = rw e (rw (rest_of lanes i d h) at before)

-- when no lane is left, the greatest told value is the one found so far
pub nothing_left : (f : Told) (lanes : List Lane) (p : CpuNo) (i c v all : ℕ) → length lanes ≤ i → max v (told_over f (drop i lanes) p c) ≡ all → v ≡ all
nothing_left f lanes p i c v all h e =
    let k : max v 0 ≡ all = rw (drop_all i lanes h) at e in omega (arith, k)

-- one request more
pub own_next : (asks : List Asked) (i : ℕ) (d : Asked) (p : CpuNo) (c to old new all : ℕ) → i < length asks → new
    ≡ max old (if is_ask p c (as_ask (get_or asks i d)) then to else 0) → max old (if list_any (is_ask p c) (as_asks (drop i asks)) then to else 0) ≡ all →
    max new (if list_any (is_ask p c) (as_asks (drop (i + 1) asks)) then to else 0) ≡ all
own_next asks i d p c to old new all h e before =
    let rest : drop i asks ≡ get_or asks i d ∷ drop (i + 1) asks = rw add-one (drop-cons asks i d h) in
    let whole = rw rest at before in
    go (is_ask p c (as_ask (get_or asks i d))) (list_any (is_ask p c) (as_asks (drop (i + 1) asks))) e whole
  where
    go : (a b : Bool) → new ≡ max old (if a then to else 0) → max old (if a || b then to else 0) ≡ all → max new (if b then to else 0) ≡ all
    go true true f k = omega (arith, f, k)
    go true false f k = omega (arith, f, k)
    go false b f k = let n : new ≡ old = omega (arith, f) in rw n k

-- when no request is left, the value of the class is the one found so far
pub none_asked : (asks : List Asked) (i : ℕ) (p : CpuNo) (c to v all : ℕ) → length asks ≤ i →
    max v (if list_any (is_ask p c) (as_asks (drop i asks)) then to else 0) ≡ all → v ≡ all
none_asked asks i p c to v all h e =
    let k : max v 0 ≡ all = rw (drop_all i asks h) at e in omega (arith, k)

-- telling of the lane at a place keeps the told values at their given length
pub tell_kept : (s : Script) (to : ℕ) (lanes : List Lane) (asks : List Ask) (i : ℕ) (d : Lane) (old new : List ℕ) (n : ℕ) → new
    ≡ tell_lane s to (get_or lanes i d) asks old → length old ≡ n → length new ≡ n
tell_kept s to lanes asks i d old new n e l = rw e (length-tell_lane s to (get_or lanes i d) asks old ∙ l)
