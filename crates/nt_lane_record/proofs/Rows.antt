-- What a lane tells of requests, as a list of values and as rows.
use Rattle.std.proofs.Common.{ap, arith, get_or, inl, inr, length, set, sym, ◌∙◌}
use Rattle.std.proofs.lemmas.Bool.{and_cases, and_parts, cases_lt, eqb-false, eqb-true, ltb-true}
use Rattle.std.proofs.lemmas.List.{drop_all, get_or-map, get_or-replicate, get_or-set_other, get_or-set_same, get_or_past, length-map, length-replicate}
use Rattle.std.proofs.lemmas.List.{length-set}
use Rattle.std.specs.List.{list_any}
use Rattle.std.specs.Prelude.{All, Bool, List, [], drop, false, if◌then◌else◌, refl, replicate, suc, true, ℕ, ◌*◌, ◌+◌, ◌<◌, ◌==◌, ◌||◌, ◌∷◌, ◌≡◌, ◌≤◌, ◌⊎◌}
use Rattle.nt_event.specs.declared.numbers.CpuNo.{CpuNo}
use Rattle.nt_event.specs.declared.scripts.Script.{Script}
use Rattle.nt_event.specs.declared.jobs.Lane.{Lane}
use Rattle.nt_event.specs.LaneStates.{told_at, told_table}
use Rattle.nt_event.specs.Lists.{table, value_at}
use Rattle.nt_event.specs.Numbers.{cpu}
use Rattle.nt_event.specs.Requests.{Ask, is_ask, raised, told_by}
use Rattle.nt_event.proofs.Tables.{get_or-table, length-table_from, table-same}
use Rattle.nt_mark.specs.declared.view.View.{View}
use Rattle.nt_mark.specs.Views.{reach, request_word, step_word}
use Rattle.nt_event.specs.declared.class.Asked.{Asked}
use Rattle.nt_states.specs.LaneLists.{AskFits, as_ask, as_asks}
use Rattle.nt_lane_record.specs.Records.{AreKnown, IsAskKnown, raised_list, told_place, told_rows, told_then}

-- the processor is below the count, and the class one of the sixteen
pub record AskWithin (cpus : ℕ) (a : Ask) : Type 0 where
  pub cpu : a.cpu.0 < cpus
  pub class : a.class < 16

-- what holds of all of a list holds of its first element
all_head : {A : Type 0} (P : A → Type 0) (x : A) (xs : List A) → All P (x ∷ xs) → P x
all_head P x xs h = h 0 x (omega arith)

-- what holds of all of a list holds of the rest after the first
all_tail : {A : Type 0} (P : A → Type 0) (x : A) (xs : List A) → All P (x ∷ xs) → All P xs
all_tail P x xs h k d l = h (suc k) d (omega arith)

-- asks that fit the script name a processor below the count and one of the sixteen classes
pub all_within : (s : Script) (asks : List Ask) → All (AskFits s) asks → All (AskWithin s.cpus) asks
all_within s asks h k d l =
    let fits = h k d l in record { cpu = ltb-true (get_or asks k d).cpu.0 s.cpus fits.cpu; class = fits.class }

-- choosing one more than the number or the old value is raising the value
as_raised : (b : Bool) (n old : ℕ) → (if b then n + 1 else old) ≡ raised b n old
as_raised true n old = refl
as_raised false n old = refl

-- an ask that tests as for a processor and class is of that processor and class
is_ask_true : (q : CpuNo) (d : ℕ) (a : Ask) → is_ask q d a ≡ true → (a.cpu.0 ≡ q.0) × (a.class ≡ d)
is_ask_true q d a h =
    let p = and_parts (a.cpu.0 == q.0) (a.class == d) h in
    (eqb-true a.cpu.0 q.0 p.0, eqb-true a.class d p.1)

-- an ask for a processor and class can't fail the test for these
is_ask_false : (q : CpuNo) (d : ℕ) (a : Ask) → is_ask q d a ≡ false → a.cpu.0 ≡ q.0 → a.class ≡ d → ⊥
is_ask_false q d a h e f = go (and_cases (a.cpu.0 == q.0) (a.class == d) h)
  where
    go : ((a.cpu.0 == q.0) ≡ false) ⊎ ((a.class == d) ≡ false) → ⊥
    go (inl k) = eqb-false a.cpu.0 q.0 k e
    go (inr k) = eqb-false a.class d k f

-- equal places in the list of told values are of the same processor and the same class
pub same_place : (p c q d : ℕ) → c < 16 → d < 16 → p * 16 + c ≡ q * 16 + d → (p ≡ q) × (c ≡ d)
same_place p c q d h k e = (omega arith, omega arith)

-- one ask
one : (n : ℕ) (a : Ask) (xs : List ℕ) (q : CpuNo) (d : ℕ) → a.cpu.0 * 16 + a.class < length xs → a.class < 16 → d < 16 →
    get_or (set xs (told_place a.cpu a.class) (n + 1)) (told_place q d) 0 ≡ raised (is_ask q d a) n (get_or xs (told_place q d) 0)
one n a xs q d room low k = go (is_ask q d a) refl
  where
    go : (b : Bool) → is_ask q d a ≡ b → get_or (set xs (told_place a.cpu a.class) (n + 1)) (told_place q d) 0
        ≡ raised b n (get_or xs (told_place q d) 0)
    go true e =
        let s = is_ask_true q d a e in
        let at : told_place a.cpu a.class ≡ told_place q d = omega (arith, s) in
        let there : told_place q d < length xs = omega (arith, at, room) in
        rw at (get_or-set_same xs (told_place q d) (n + 1) 0 there)
    go false e =
        get_or-set_other xs (told_place a.cpu a.class) (told_place q d) (n + 1) 0
        (λ i. let s = same_place q.0 d a.cpu.0 a.class k low i in is_ask_false q d a e (sym s.0) (sym s.1))

-- raising twice with the same number is raising once if either asks
twice : (b more : Bool) (n old : ℕ) → raised more n (raised b n old) ≡ raised (b || more) n old
twice true true n old = refl
twice true false n old = refl
twice false more n old = refl

-- several
several : (cpus n : ℕ) (asks : List Ask) (xs : List ℕ) (q : CpuNo) (d : ℕ) → length xs ≡ cpus * 16 → All (AskWithin cpus) asks → d < 16 →
    get_or (raised_list n asks xs) (told_place q d) 0 ≡ raised (list_any (is_ask q d) asks) n (get_or xs (told_place q d) 0)
several cpus n [] xs q d len fits k = refl
several cpus n (a ∷ asks) xs q d len fits k =
    let here : AskWithin cpus a = all_head (AskWithin cpus) a asks fits in
    let room : a.cpu.0 * 16 + a.class < length xs = let x = here.cpu in let y = here.class in omega (arith, len) in
    several cpus n asks (set xs (told_place a.cpu a.class) (n + 1)) q d (length-set xs (told_place a.cpu a.class) (n + 1) ∙ len)
    (all_tail (AskWithin cpus) a asks fits) k
    ∙ (ap (λ (v : ℕ). raised (list_any (is_ask q d) asks) n v) (one n a xs q d room here.class k)
    ∙ twice (is_ask q d a) (list_any (is_ask q d) asks) n (get_or xs (told_place q d) 0))

-- raising told values by asks leaves their list as long as it was
pub length-raised_list : (n : ℕ) (asks : List Ask) (xs : List ℕ) → length (raised_list n asks xs) ≡ length xs
length-raised_list n [] xs = refl
length-raised_list n (a ∷ asks) xs =
    length-raised_list n asks (set xs (told_place a.cpu a.class) (n + 1)) ∙ length-set xs (told_place a.cpu a.class) (n + 1)

-- what the rows tell
pub rows_tell : (cpus : ℕ) (xs : List ℕ) (q : CpuNo) (d : ℕ) → q.0 < cpus → d < 16 → told_at (told_rows cpus xs) q d ≡ get_or xs (told_place q d) 0
rows_tell cpus xs q d h k =
    ap (λ (row : List ℕ). value_at row d) (get_or-table cpus q.0 (λ p. table 16 (λ c. get_or xs (told_place (cpu p) c) 0)) [] h)
    ∙ get_or-table 16 d (λ c. get_or xs (told_place q c) 0) 0 k

-- the asks of an event are told
pub rows_then : (cpus n : ℕ) (asks : List Ask) (xs : List ℕ) → length xs ≡ cpus * 16 → All (AskWithin cpus) asks →
    told_rows cpus (raised_list n asks xs) ≡ told_then cpus n asks (told_rows cpus xs)
rows_then cpus n asks xs len fits =
    table-same cpus (λ p. table 16 (λ c. get_or (raised_list n asks xs) (told_place (cpu p) c) 0))
    (λ p. table 16 (λ c. raised (list_any (is_ask (cpu p) c) asks) n (told_at (told_rows cpus xs) (cpu p) c)))
    (λ p h. table-same 16 (λ c. get_or (raised_list n asks xs) (told_place (cpu p) c) 0)
    (λ c. raised (list_any (is_ask (cpu p) c) asks) n (told_at (told_rows cpus xs) (cpu p) c))
    (λ c k. several cpus n asks xs (cpu p) c len fits k
    ∙ ap (λ (v : ℕ). raised (list_any (is_ask (cpu p) c) asks) n v) (sym (rows_tell cpus xs (cpu p) c h k))))

-- ---- asks within the list

-- each ask that fits the script has its place within the list of told values
pub places_within : (s : Script) (asked : List Asked) (told : List ℕ) → length told ≡ s.cpus * 16 → All (AskFits s) (as_asks asked) →
    All (λ (a : Asked). a.cpu.0 * 16 + a.class < length told) asked
places_within s asked told len h k d l =
    let size : length (as_asks asked) ≡ length asked = length-map asked as_ask in
    let fits : AskWithin s.cpus (get_or (as_asks asked) k (as_ask d)) = all_within s (as_asks asked) h k (as_ask d) (omega (arith, size)) in
    let at : get_or (as_asks asked) k (as_ask d) ≡ as_ask (get_or asked k d) = get_or-map as_ask asked k d (as_ask d) l in
    let here : AskWithin s.cpus (as_ask (get_or asked k d)) = rw at at fits in
    let x = here.cpu in let y = here.class in omega (arith, len)

-- ---- what is told is known

-- a pass that knows all of an event's asks knows of a request after that event where one of them asks
asked_known : (n : ℕ) (v : View) (p : CpuNo) (c : ℕ) (asks : List Ask) → list_any (is_ask p c) asks ≡ true → All (IsAskKnown n v) asks →
    n + 1 ≤ reach (request_word p c) v
asked_known n v p c [] h k = cc
asked_known n v p c (a ∷ asks) h k = go (is_ask p c a) refl h (λ i. asked_known n v p c asks i (all_tail (IsAskKnown n v) a asks k))
  where
    go : (b : Bool) → is_ask p c a ≡ b → (b || list_any (is_ask p c) asks) ≡ true →
        (list_any (is_ask p c) asks ≡ true → n + 1 ≤ reach (request_word p c) v) → n + 1 ≤ reach (request_word p c) v
    go true e i more =
        let s = is_ask_true p c a e in
        let here : n + 1 ≤ reach (request_word a.cpu a.class) v = all_head (IsAskKnown n v) a asks k in
        let at : request_word a.cpu a.class ≡ request_word p c = omega (arith, s) in
        rw at at here
    go false e i more = more i

-- what is told of a processor and class in range is raised by an event's asks if one of them is for these
within : (cpus n : ℕ) (asks : List Ask) (old : List (List ℕ)) (p : CpuNo) (c : ℕ) → p.0 < cpus → c < 16 → told_at (told_then cpus n asks old) p c
    ≡ raised (list_any (is_ask p c) asks) n (told_at old p c)
within cpus n asks old p c h k =
    ap (λ (row : List ℕ). value_at row c)
    (get_or-table cpus p.0 (λ q. table 16 (λ d. raised (list_any (is_ask (cpu q) d) asks) n (told_at old (cpu q) d))) [] h)
    ∙ get_or-table 16 c (λ d. raised (list_any (is_ask p d) asks) n (told_at old p d)) 0 k

-- a raised value is at most a bound that the old one is at most and that the number is below
raised_known : (b : Bool) (n old a s : ℕ) → (b ≡ true → n + 1 ≤ a) → old ≤ a → n + 1 ≤ s → old ≤ s → (raised b n old ≤ a) × (raised b n old ≤ s)
raised_known true n old a s h i j k = (h refl, j)
raised_known false n old a s h i j k = (i, k)

-- if what was told and the asks of an event are known, what is told after it is known
pub known_then : (cpus n : ℕ) (asks : List Ask) (old : List (List ℕ)) (v : View) → AreKnown old v → All (IsAskKnown n v) asks → n + 1 ≤ reach step_word v →
    AreKnown (told_then cpus n asks old) v
known_then cpus n asks old v h k drawn p c = go (cases_lt p.0 cpus) (cases_lt c 16)
  where
    rows : List (List ℕ)
    rows = told_then cpus n asks old

    none : told_at rows p c ≡ 0 → (told_at rows p c ≤ reach (request_word p c) v) × (told_at rows p c ≤ reach step_word v)
    none e = (omega (arith, e), omega (arith, e))

    go : (p.0 < cpus) ⊎ (cpus ≤ p.0) → (c < 16) ⊎ (16 ≤ c) → (told_at rows p c ≤ reach (request_word p c) v) × (told_at rows p c ≤ reach step_word v)
    go (inl a) (inl b) =
        rw (within cpus n asks old p c a b)
        (raised_known (list_any (is_ask p c) asks) n (told_at old p c) (reach (request_word p c) v) (reach step_word v)
        (λ t. asked_known n v p c asks t k) (h p c).0 drawn (h p c).1)
    go (inl a) (inr b) =
        none (ap (λ (row : List ℕ). value_at row c)
        (get_or-table cpus p.0 (λ q. table 16 (λ d. raised (list_any (is_ask (cpu q) d) asks) n (told_at old (cpu q) d))) [] a)
        ∙ get_or_past (table 16 (λ d. raised (list_any (is_ask p d) asks) n (told_at old p d))) c 0
        (let e = length-table_from 0 16 (λ d. raised (list_any (is_ask p d) asks) n (told_at old p d)) in omega (arith, b, e)))
    go (inr a) b =
        none (ap (λ (row : List ℕ). value_at row c)
        (get_or_past rows p.0 []
        (let e = length-table_from 0 cpus (λ q. table 16 (λ d. raised (list_any (is_ask (cpu q) d) asks) n (told_at old (cpu q) d))) in omega (arith, a, e))))

-- ---- the loop

-- when no asks are left to raise by, the told values are those of all asks
pub all_told : (asks : List Asked) (i n : ℕ) (now all : List ℕ) → length asks ≤ i → raised_list n (as_asks (drop i asks)) now ≡ all → now ≡ all
all_told asks i n now all h e = rw (drop_all i asks h) at e

-- ---- nothing told

-- rows of zeros tell that nothing was asked
none_told : (cpus n : ℕ) (p : CpuNo) (c : ℕ) → told_at (told_rows cpus (replicate n 0)) p c ≡ 0
none_told cpus n p c = go (cases_lt p.0 cpus) (cases_lt c 16)
  where
    zero_at : (i : ℕ) → value_at (replicate n 0) i ≡ 0
    zero_at i =
        elim (cases_lt i n) [
          | inl l ↦ get_or-replicate n i 0 0 l
          | inr l ↦ get_or_past (replicate n 0) i 0
              (let zeros : List ℕ = replicate n 0 in let e : length zeros ≡ n = length-replicate n 0 in omega (arith, l, e))
        ]

    go : (p.0 < cpus) ⊎ (cpus ≤ p.0) → (c < 16) ⊎ (16 ≤ c) → told_at (told_rows cpus (replicate n 0)) p c ≡ 0
    go (inl a) (inl b) = rows_tell cpus (replicate n 0) p c a b ∙ zero_at (told_place p c)
    go (inl a) (inr b) =
        ap (λ (row : List ℕ). value_at row c)
        (get_or-table cpus p.0 (λ q. table 16 (λ d. value_at (replicate n 0) (told_place (cpu q) d))) [] a)
        ∙ get_or_past (table 16 (λ d. value_at (replicate n 0) (told_place p d))) c 0
        (let e = length-table_from 0 16 (λ d. value_at (replicate n 0) (told_place p d)) in omega (arith, b, e))
    go (inr a) b =
        ap (λ (row : List ℕ). value_at row c)
        (get_or_past (told_rows cpus (replicate n 0)) p.0 []
        (let e = length-table_from 0 cpus (λ q. table 16 (λ d. value_at (replicate n 0) (told_place (cpu q) d))) in omega (arith, a, e)))

-- a list of zeros tells of no request, and so what it tells is known to every seat
pub nothing_known : (cpus n : ℕ) (told : List ℕ) (v : View) → told ≡ replicate n 0 → AreKnown (told_rows cpus told) v
nothing_known cpus n told v e p c =
    let z : told_at (told_rows cpus told) p c ≡ 0 = ap (λ (xs : List ℕ). told_at (told_rows cpus xs) p c) e ∙ none_told cpus n p c in
    (omega (arith, z), omega (arith, z))

-- the rows of nothing told are those of a lane that no event touched
pub rows_opening : (s : Script) (x : Lane) (n : ℕ) → told_rows s.cpus (replicate n 0) ≡ told_table s x []
rows_opening s x n =
    table-same s.cpus (λ p. table 16 (λ c. value_at (replicate n 0) (told_place (cpu p) c))) (λ p. table 16 (λ c. told_by s x (cpu p) c []))
    (λ p h. table-same 16 (λ c. value_at (replicate n 0) (told_place (cpu p) c)) (λ c. told_by s x (cpu p) c [])
    (λ c k. sym (rows_tell s.cpus (replicate n 0) (cpu p) c h k) ∙ none_told s.cpus n (cpu p) c))
