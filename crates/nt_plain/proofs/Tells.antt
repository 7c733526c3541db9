-- What a list of requests leaves of the told values, read by lane, processor and class.
use Rattle.std.proofs.Common.{ap, arith, inl, inr, length, set, sym, ◌∙◌}
use Rattle.std.proofs.lemmas.Bool.{and_cases, and_parts, eqb-false, eqb-true, ltb-true}
use Rattle.std.proofs.lemmas.List.{length-set}
use Rattle.std.specs.List.{list_any}
use Rattle.std.specs.Prelude.{All, Bool, List, [], false, if◌then◌else◌, refl, true, ℕ, ◌&&◌, ◌*◌, ◌+◌, ◌<◌, ◌||◌, ◌∷◌, ◌≡◌, ◌⊎◌}
use Rattle.nt_event.specs.declared.jobs.Lane.{Lane}
use Rattle.nt_event.specs.declared.jobs.Lane.TheVariants.{Lock as LockLane, Object as ObjectLane, Queue as QueueLane, Threads as ThreadsLane}
use Rattle.nt_event.specs.declared.jobs.Lane.TheVariants.{Timers as TimersLane}
use Rattle.nt_event.specs.declared.numbers.CpuNo.{CpuNo}
use Rattle.nt_event.specs.declared.scripts.Script.{Script}
use Rattle.nt_event.specs.Lanes.{lane_count, lane_number, same_lane}
use Rattle.nt_event.specs.Requests.{Ask, is_ask, raised}
use Rattle.nt_event.specs.Acts.{is_among}
use Rattle.nt_states.specs.LaneLists.{lane_fits}
use Rattle.nt_plain.specs.Made.{tell_lane, tell_lanes}
use Rattle.nt_plain.specs.Places.{row_of, row_value, told_in, told_place}
use Rattle.nt_plain.proofs.Apart.{below_values, same_row, same_value}
use Rattle.nt_plain.proofs.Telling.{length-tell_lane}
use Rattle.nt_states.proofs.Requests.{all_head, all_tail, as_raised, is_ask_true}
use Rattle.nt_plain.proofs.Writes.{AskWithin, is_ask_false, written}

-- ---- lanes and their numbers

-- the number of a lane that fits the script is below the count of its lanes
pub number_below : (s : Script) (x : Lane) → lane_fits s x ≡ true → lane_number s x < lane_count s
number_below s (ObjectLane d) h = let k = ltb-true d.0 (length s.dpcs) h in omega arith
number_below s (QueueLane p) h = let k = ltb-true p.0 s.cpus h in omega arith
number_below s (ThreadsLane p) h = let k = ltb-true p.0 s.cpus h in omega arith
number_below s TimersLane h = omega arith
number_below s (LockLane k) h = let e = ltb-true k.0 s.locks h in omega arith

-- lanes that test equal have the same number
one_number : (s : Script) (y x : Lane) → same_lane y x ≡ true → lane_number s y ≡ lane_number s x
one_number s (ObjectLane d) (ObjectLane e) h = sym (eqb-true e.0 d.0 h)
one_number s (QueueLane p) (QueueLane q) h = ap (λ (n : ℕ). length s.dpcs + n) (sym (eqb-true q.0 p.0 h))
one_number s (ThreadsLane p) (ThreadsLane q) h =
    ap (λ (n : ℕ). length s.dpcs + (s.cpus + n)) (sym (eqb-true q.0 p.0 h))
one_number s TimersLane TimersLane h = refl
one_number s (LockLane k) (LockLane j) h =
    ap (λ (n : ℕ). length s.dpcs + (s.cpus + (s.cpus + (1 + n)))) (sym (eqb-true j.0 k.0 h))
one_number s (ObjectLane d) (QueueLane p) h = absurd (cc)
one_number s (ObjectLane d) (ThreadsLane p) h = absurd (cc)
one_number s (ObjectLane d) TimersLane h = absurd (cc)
one_number s (QueueLane d) (ObjectLane p) h = absurd (cc)
one_number s (QueueLane d) (ThreadsLane p) h = absurd (cc)
one_number s (QueueLane d) TimersLane h = absurd (cc)
one_number s (ThreadsLane d) (ObjectLane p) h = absurd (cc)
one_number s (ThreadsLane d) (QueueLane p) h = absurd (cc)
one_number s (ThreadsLane d) TimersLane h = absurd (cc)
one_number s TimersLane (ObjectLane p) h = absurd (cc)
one_number s TimersLane (QueueLane p) h = absurd (cc)
one_number s TimersLane (ThreadsLane p) h = absurd (cc)
one_number s (ObjectLane d) (LockLane k) h = absurd (cc)
one_number s (LockLane k) (ObjectLane d) h = absurd (cc)
one_number s (QueueLane p) (LockLane k) h = absurd (cc)
one_number s (LockLane k) (QueueLane p) h = absurd (cc)
one_number s (ThreadsLane p) (LockLane k) h = absurd (cc)
one_number s (LockLane k) (ThreadsLane p) h = absurd (cc)
one_number s TimersLane (LockLane k) h = absurd (cc)
one_number s (LockLane k) TimersLane h = absurd (cc)

-- two lanes of the script have one number only where they are one
two_numbers : (s : Script) (y x : Lane) → lane_fits s y ≡ true → lane_fits s x ≡ true → same_lane y x ≡ false → lane_number s y ≡ lane_number s x → ⊥
two_numbers s (ObjectLane d) (ObjectLane e) f g h same = eqb-false e.0 d.0 h (sym same)
two_numbers s (QueueLane p) (QueueLane q) f g h same = eqb-false q.0 p.0 h (omega arith)
two_numbers s (ThreadsLane p) (ThreadsLane q) f g h same = eqb-false q.0 p.0 h (omega arith)
two_numbers s TimersLane TimersLane f g h same = cc
two_numbers s (ObjectLane d) (QueueLane p) f g h same = let k = ltb-true d.0 (length s.dpcs) f in omega arith
two_numbers s (ObjectLane d) (ThreadsLane p) f g h same = let k = ltb-true d.0 (length s.dpcs) f in omega arith
two_numbers s (ObjectLane d) TimersLane f g h same = let k = ltb-true d.0 (length s.dpcs) f in omega arith
two_numbers s (QueueLane p) (ObjectLane d) f g h same = let k = ltb-true d.0 (length s.dpcs) g in omega arith
two_numbers s (QueueLane p) (ThreadsLane q) f g h same = let k = ltb-true p.0 s.cpus f in omega arith
two_numbers s (QueueLane p) TimersLane f g h same = let k = ltb-true p.0 s.cpus f in omega arith
two_numbers s (ThreadsLane p) (ObjectLane d) f g h same = let k = ltb-true d.0 (length s.dpcs) g in omega arith
two_numbers s (ThreadsLane p) (QueueLane q) f g h same = let k = ltb-true q.0 s.cpus g in omega arith
two_numbers s (ThreadsLane p) TimersLane f g h same = let k = ltb-true p.0 s.cpus f in omega arith
two_numbers s TimersLane (ObjectLane d) f g h same = let k = ltb-true d.0 (length s.dpcs) g in omega arith
two_numbers s TimersLane (QueueLane q) f g h same = let k = ltb-true q.0 s.cpus g in omega arith
two_numbers s TimersLane (ThreadsLane p) f g h same = let k = ltb-true p.0 s.cpus g in omega arith
two_numbers s (LockLane k) (LockLane j) f g h same = eqb-false j.0 k.0 h (omega arith)
two_numbers s (ObjectLane d) (LockLane j) f g h same = let k = ltb-true d.0 (length s.dpcs) f in omega arith
two_numbers s (LockLane j) (ObjectLane d) f g h same = let k = ltb-true d.0 (length s.dpcs) g in omega arith
two_numbers s (QueueLane p) (LockLane j) f g h same = let k = ltb-true p.0 s.cpus f in omega arith
two_numbers s (LockLane j) (QueueLane p) f g h same = let k = ltb-true p.0 s.cpus g in omega arith
two_numbers s (ThreadsLane p) (LockLane j) f g h same = let k = ltb-true p.0 s.cpus f in omega arith
two_numbers s (LockLane j) (ThreadsLane p) f g h same = let k = ltb-true p.0 s.cpus g in omega arith
two_numbers s TimersLane (LockLane j) f g h same = omega arith
two_numbers s (LockLane j) TimersLane f g h same = omega arith

-- a lane equal to one that fits the script fits too
same_fits : (s : Script) (y x : Lane) → same_lane y x ≡ true → lane_fits s x ≡ true → lane_fits s y ≡ true
same_fits s (ObjectLane d) (ObjectLane e) h g = rw (← eqb-true e.0 d.0 h) g
same_fits s (QueueLane p) (QueueLane q) h g = rw (← eqb-true q.0 p.0 h) g
same_fits s (ThreadsLane p) (ThreadsLane q) h g = rw (← eqb-true q.0 p.0 h) g
same_fits s TimersLane TimersLane h g = refl
same_fits s (LockLane k) (LockLane j) h g = rw (← eqb-true j.0 k.0 h) g
same_fits s (ObjectLane d) (QueueLane p) h g = absurd (cc)
same_fits s (ObjectLane d) (ThreadsLane p) h g = absurd (cc)
same_fits s (ObjectLane d) TimersLane h g = absurd (cc)
same_fits s (QueueLane d) (ObjectLane p) h g = absurd (cc)
same_fits s (QueueLane d) (ThreadsLane p) h g = absurd (cc)
same_fits s (QueueLane d) TimersLane h g = absurd (cc)
same_fits s (ThreadsLane d) (ObjectLane p) h g = absurd (cc)
same_fits s (ThreadsLane d) (QueueLane p) h g = absurd (cc)
same_fits s (ThreadsLane d) TimersLane h g = absurd (cc)
same_fits s TimersLane (ObjectLane p) h g = absurd (cc)
same_fits s TimersLane (QueueLane p) h g = absurd (cc)
same_fits s TimersLane (ThreadsLane p) h g = absurd (cc)
same_fits s (ObjectLane d) (LockLane k) h g = absurd (cc)
same_fits s (LockLane k) (ObjectLane d) h g = absurd (cc)
same_fits s (QueueLane p) (LockLane k) h g = absurd (cc)
same_fits s (LockLane k) (QueueLane p) h g = absurd (cc)
same_fits s (ThreadsLane p) (LockLane k) h g = absurd (cc)
same_fits s (LockLane k) (ThreadsLane p) h g = absurd (cc)
same_fits s TimersLane (LockLane k) h g = absurd (cc)
same_fits s (LockLane k) TimersLane h g = absurd (cc)

-- a lane that does not fit the script is not equal to one that fits
apart : (s : Script) (y x : Lane) → lane_fits s x ≡ true → lane_fits s y ≡ false → same_lane y x ≡ false
apart s y x fits out = go (same_lane y x) refl
  where
    go : (b : Bool) → same_lane y x ≡ b → b ≡ false
    go true e = let k : lane_fits s y ≡ true = same_fits s y x e fits in absurd (cc)
    go false e = refl

-- ---- values

-- what is told of a lane, processor and class
pub record IsRead (s : Script) (y : Lane) (q : CpuNo) (d : ℕ) : Type 0 where
  pub lane : lane_fits s y ≡ true
  pub cpu : q.0 < s.cpus
  pub class : d < 16

-- a request told to a lane sets that lane's value of its processor and class, and no other value
told_one : (s : Script) (to : ℕ) (x : Lane) (a : Ask) (told : List ℕ) (y : Lane) (q : CpuNo) (d : ℕ) → length told ≡ lane_count s * s.cpus * 16 → lane_fits s x
    ≡ true → AskWithin s.cpus a → IsRead s y q d → row_value s (set told (told_place s x a.cpu a.class) to) y q d
    ≡ (if same_lane y x && is_ask q d a then to else row_value s told y q d)
told_one s to x a told y q d len fits within read =
    written told (told_place s x a.cpu a.class) (told_place s y q d) to (same_lane y x && is_ask q d a)
    (rw len (below_values s.cpus (lane_count s) (lane_number s x) a.cpu.0 a.class (number_below s x fits) within.cpu within.class)) same other
  where
    same : (same_lane y x && is_ask q d a) ≡ true → told_place s y q d ≡ told_place s x a.cpu a.class
    same h =
        let p = and_parts (same_lane y x) (is_ask q d a) h in
        let number = one_number s y x p.0 in
        let word = is_ask_true q d a p.1 in
        rw (number, word.0, word.1) refl

    other : (same_lane y x && is_ask q d a) ≡ false → told_place s y q d ≡ told_place s x a.cpu a.class → ⊥
    other h e =
        let value = same_value (row_of s.cpus (lane_number s y) q) (row_of s.cpus (lane_number s x) a.cpu) d a.class read.class within.class e in
        let row = same_row s.cpus (lane_number s y) (lane_number s x) q.0 a.cpu.0 read.cpu within.cpu value.0 in
        go (and_cases (same_lane y x) (is_ask q d a) h) row.0 (sym row.1) (sym value.1)
      where
        go : (same_lane y x ≡ false) ⊎ (is_ask q d a ≡ false) → lane_number s y ≡ lane_number s x → a.cpu.0 ≡ q.0 → a.class ≡ d → ⊥
        go (inl k) number cpu class = two_numbers s y x read.lane fits k number
        go (inr k) number cpu class = is_ask_false q d a k cpu class

-- a value set by a later request or else by this one is set if either request sets it
and_more : (b x more : Bool) (to old : ℕ) → (if b && more then to else (if b && x then to else old)) ≡ (if b && (x || more) then to else old)
and_more false x more to old = refl
and_more true true true to old = refl
and_more true true false to old = refl
and_more true false more to old = refl

-- a value set for a later lane or else for this one is set if it is for either, where asked
or_more : (b x more : Bool) (to old : ℕ) → (if more && x then to else (if b && x then to else old)) ≡ (if (b || more) && x then to else old)
or_more true true true to old = refl
or_more true true false to old = refl
or_more false true more to old = refl
or_more true false true to old = refl
or_more true false false to old = refl
or_more false false true to old = refl
or_more false false false to old = refl

-- no request at all leaves the value as it was
nothing : (b : Bool) (to old : ℕ) → old ≡ (if b && false then to else old)
nothing true to old = refl
nothing false to old = refl

-- one lane
tell_lane_after : (s : Script) (to : ℕ) (x : Lane) (asks : List Ask) (told : List ℕ) (y : Lane) (q : CpuNo) (d : ℕ) → length told
    ≡ lane_count s * s.cpus * 16 → lane_fits s x ≡ true → All (AskWithin s.cpus) asks → IsRead s y q d → row_value s (tell_lane s to x asks told) y q d
    ≡ (if same_lane y x && list_any (is_ask q d) asks then to else row_value s told y q d)
tell_lane_after s to x [] told y q d len fits within read =
    nothing (same_lane y x) to (row_value s told y q d)
tell_lane_after s to x (a ∷ asks) told y q d len fits within read =
    let new : List ℕ = set told (told_place s x a.cpu a.class) to in
    let size : length new ≡ lane_count s * s.cpus * 16 = length-set told (told_place s x a.cpu a.class) to ∙ len in
    tell_lane_after s to x asks new y q d size fits (all_tail (AskWithin s.cpus) a asks within) read
    ∙ (ap (λ (v : ℕ). if same_lane y x && list_any (is_ask q d) asks then to else v)
    (told_one s to x a told y q d len fits (all_head (AskWithin s.cpus) a asks within) read)
    ∙ and_more (same_lane y x) (is_ask q d a) (list_any (is_ask q d) asks) to (row_value s told y q d))

-- several lanes
rows_after : (s : Script) (to : ℕ) (lanes : List Lane) (asks : List Ask) (told : List ℕ) (y : Lane) (q : CpuNo) (d : ℕ) → length told
    ≡ lane_count s * s.cpus * 16 → All (λ x. lane_fits s x ≡ true) lanes → All (AskWithin s.cpus) asks → IsRead s y q d →
    row_value s (tell_lanes s to lanes asks told) y q d ≡ (if is_among y lanes && list_any (is_ask q d) asks then to else row_value s told y q d)
rows_after s to [] asks told y q d len fits within read = refl
rows_after s to (x ∷ lanes) asks told y q d len fits within read =
    let new : List ℕ = tell_lane s to x asks told in
    let size : length new ≡ lane_count s * s.cpus * 16 = length-tell_lane s to x asks told ∙ len in
    rows_after s to lanes asks new y q d size (all_tail (λ z. lane_fits s z ≡ true) x lanes fits) within read
    ∙ (ap (λ (v : ℕ). if is_among y lanes && list_any (is_ask q d) asks then to else v)
    (tell_lane_after s to x asks told y q d len (all_head (λ z. lane_fits s z ≡ true) x lanes fits) within read)
    ∙ or_more (same_lane y x) (list_any (is_ask q d) asks) (is_among y lanes) to (row_value s told y q d))

-- telling of the requests for all touched lanes leaves the number of told values
pub length-tell_lanes : (s : Script) (to : ℕ) (lanes : List Lane) (asks : List Ask) (told : List ℕ) → length (tell_lanes s to lanes asks told) ≡ length told
length-tell_lanes s to [] asks told = refl
length-tell_lanes s to (x ∷ lanes) asks told =
    length-tell_lanes s to lanes asks (tell_lane s to x asks told) ∙ length-tell_lane s to x asks told

-- a lane that isn't the script's is none of those that an event touches
not_among : (s : Script) (lanes : List Lane) (y : Lane) → All (λ x. lane_fits s x ≡ true) lanes → lane_fits s y ≡ false → is_among y lanes ≡ false
not_among s [] y fits out = refl
not_among s (x ∷ lanes) y fits out =
    let here : same_lane y x ≡ false = apart s y x (all_head (λ z. lane_fits s z ≡ true) x lanes fits) out in
    rw (here, not_among s lanes y (all_tail (λ z. lane_fits s z ≡ true) x lanes fits) out) refl

-- what the lanes tell after the event of a number that touches these and asks for these
pub told_after_event : (s : Script) (n : ℕ) (lanes : List Lane) (asks : List Ask) (told : List ℕ) (y : Lane) (q : CpuNo) (d : ℕ) → length told
    ≡ lane_count s * s.cpus * 16 → All (λ x. lane_fits s x ≡ true) lanes → All (AskWithin s.cpus) asks → q.0 < s.cpus → d < 16 →
    told_in s (tell_lanes s (n + 1) lanes asks told) y q d ≡ raised (is_among y lanes && list_any (is_ask q d) asks) n (told_in s told y q d)
told_after_event s n lanes asks told y q d len fits within cpu class = go (lane_fits s y) refl
  where
    go : (b : Bool) → lane_fits s y ≡ b → (if b then row_value s (tell_lanes s (n + 1) lanes asks told) y q d else 0)
        ≡ raised (is_among y lanes && list_any (is_ask q d) asks) n (if b then row_value s told y q d else 0)
    go true e =
        rows_after s (n + 1) lanes asks told y q d len fits within (record { lane = e; cpu = cpu; class = class })
        ∙ as_raised (is_among y lanes && list_any (is_ask q d) asks) n (row_value s told y q d)
    go false e = rw (not_among s lanes y fits e) refl
