-- Lanes and requests of the script stand within the lists of a floor.
use Rattle.std.proofs.Common.{ap, arith, length, max, subst, sym, ◌∙◌}
use Rattle.std.proofs.Math.Nat.{mul-le-mul_right}
use Rattle.std.proofs.lemmas.Bool.{ltb-true}
use Rattle.std.specs.List.{list_any}
use Rattle.std.specs.Prelude.{All, Bool, List, [], false, get_or, if◌then◌else◌, refl, true, ℕ, ◌*◌, ◌+◌, ◌<◌, ◌^◌, ◌∷◌, ◌≡◌, ◌≤◌}
use Rattle.nt_event.specs.declared.limits.TheConstants.{EVENTS}
use Rattle.nt_event.specs.declared.events.What.{What}
use Rattle.nt_event.specs.declared.jobs.Lane.{Lane}
use Rattle.nt_event.specs.declared.jobs.Stand.{Stand}
use Rattle.nt_event.specs.declared.numbers.CpuNo.{CpuNo}
use Rattle.nt_event.specs.declared.scripts.Script.{Script}
use Rattle.nt_event.specs.Lanes.{lane_count, lane_number, what_lanes}
use Rattle.nt_event.specs.Requests.{Ask, asks_in, is_ask, raised, what_asks}
use Rattle.nt_event.specs.Lists.{table, value_at}
use Rattle.nt_event.proofs.Tables.{get_or-table, is_table}
use Rattle.nt_event.specs.Acts.{Told, told_over}
use Rattle.nt_event.specs.declared.class.Asked.{Asked}
use Rattle.nt_states.specs.LaneLists.{AskFits, LaneFits, as_asks, lane_fits}
use Rattle.nt_plain.specs.Classes.{is_told_class}
use Rattle.nt_plain.specs.Made.{IsKept, told_values}
use Rattle.nt_plain.specs.Places.{row_of, row_value, told_in, told_place, value_in, word_place}
use Rattle.nt_plain.specs.States.{PlainState}
use Rattle.nt_plain.proofs.Apart.{below_rows, below_values}
use Rattle.nt_plain.proofs.Tells.{number_below}
use Rattle.nt_states.proofs.Requests.{all_head, all_tail, each_asked}
use Rattle.nt_plain.proofs.Writes.{AskWithin}

-- ---- requests

-- requests that fit the script are of a processor below its count and of one of the sixteen classes
pub all_within : (s : Script) (asks : List Ask) → All (AskFits s) asks → All (AskWithin s.cpus) asks
all_within s asks h k d l =
    let fits = h k d l in record { cpu = ltb-true (get_or asks k d).cpu.0 s.cpus fits.cpu; class = fits.class }

-- ---- lanes

-- the sixteen values of a processor's row fit in a list of so many rows
pub row_room : (cpus n p rows : ℕ) → n < rows → p < cpus → (n * cpus + p) * 16 + 16 ≤ rows * cpus * 16
row_room cpus n p rows h k =
    let row : n * cpus + p < rows * cpus = below_rows cpus rows n p h k in omega (arith, row)

-- the row of a processor for each lane that fits the script stands within the told values
pub rows_within : (s : Script) (told : List ℕ) (lanes : List Lane) (p : CpuNo) → length told ≡ lane_count s * s.cpus * 16 → All (LaneFits s) lanes →
    p.0 < s.cpus → All (λ x. row_of s.cpus (lane_number s x) p * 16 + 16 ≤ length told) lanes
rows_within s told lanes p len fits cpu k d l =
    rw len (row_room s.cpus (lane_number s (get_or lanes k d)) p.0 (lane_count s) (number_below s (get_or lanes k d) (fits k d l)) cpu)

-- the numbers of lanes that fit a script of at most 1024 lanes fit 32 bits
pub numbers_within : (s : Script) (lanes : List Lane) → lane_count s ≤ 1024 → All (LaneFits s) lanes → All (λ x. lane_number s x < 2 ^ 32) lanes
numbers_within s lanes small fits k d l =
    let low = number_below s (get_or lanes k d) (fits k d l) in omega (arith, low)

-- the place of each request for each lane, both fitting the script, stands within the told values
pub places_within : (s : Script) (told : List ℕ) (lanes : List Lane) (asked : List Asked) (asks : List Ask) → length told ≡ lane_count s * s.cpus * 16 →
    All (LaneFits s) lanes → as_asks asked ≡ asks → All (AskFits s) asks → All (λ x. All (λ a. told_place s x a.cpu a.class < length told) asked) lanes
places_within s told lanes asked asks len fits e within k d l i b j =
    let ask = each_asked (AskWithin s.cpus) asked asks e (all_within s asks within) i b j in
    rw len (below_values s.cpus (lane_count s) (lane_number s (get_or lanes k d)) (get_or asked i b).cpu.0 (get_or asked i b).class
    (number_below s (get_or lanes k d) (fits k d l)) ask.cpu ask.class)

-- the list of told values is short
pub told_room : (n cpus : ℕ) (told : List ℕ) → length told ≡ n * cpus * 16 → n ≤ 1024 → cpus ≤ 64 → length told < 2 ^ 32
told_room n cpus told len small few =
    let most : n * cpus ≤ 1024 * cpus = mul-le-mul_right cpus small in omega (arith, most, len)

-- so are the marks
pub marks_room : (limit cpus : ℕ) (marks : List ℕ) → length marks ≡ limit * cpus → limit ≤ EVENTS → cpus ≤ 64 → length marks < 2 ^ 32
marks_room limit cpus marks len small few =
    let most : limit * cpus ≤ EVENTS * cpus = mul-le-mul_right cpus small in omega (arith, most, len)

-- ---- what the lanes tell

-- their rows have nothing of the classes that lanes don't tell of
pub others_untold : (s : Script) (told : List ℕ) (lanes : List Lane) (p : CpuNo) → All (LaneFits s) lanes →
    ((x : Lane) (c : ℕ) → c < 16 → is_told_class x c ≡ false → told_in s told x p c ≡ 0) →
    All (λ x. (c : ℕ) → c < 16 → is_told_class x c ≡ false → row_value s told x p c ≡ 0) lanes
others_untold s told lanes p fits untold k d l c h other =
    let here : lane_fits s (get_or lanes k d) ≡ true = fits k d l in
    rw here at (untold (get_or lanes k d) c h other)

-- lanes that fit the script tell what their rows have
lanes_tell : (s : Script) (told : List ℕ) (lanes : List Lane) (p : CpuNo) (c : ℕ) → All (LaneFits s) lanes → told_over (row_value s told) lanes p c
    ≡ told_over (told_in s told) lanes p c
lanes_tell s told [] p c fits = refl
lanes_tell s told (x ∷ lanes) p c fits =
    let rest : told_over (row_value s told) lanes p c ≡ told_over (told_in s told) lanes p c = lanes_tell s told lanes p c
    (all_tail (LaneFits s) x lanes fits) in
    let here : lane_fits s x ≡ true = all_head (LaneFits s) x lanes fits in
    rw (here, rest) refl

-- the greatest value told by some lanes is at most a bound that holds for each lane
pub over_below : (told : Told) (lanes : List Lane) (p : CpuNo) (c v : ℕ) → ((x : Lane) → told x p c ≤ v) → told_over told lanes p c ≤ v
over_below told [] p c v h = omega arith
over_below told (x ∷ lanes) p c v h =
    let here : told x p c ≤ v = h x in
    let rest : told_over told lanes p c ≤ v = over_below told lanes p c v h in
    omega (arith, here, rest)

-- a processor's own value is the raised told one if it noticed its own request as well
own_told : (asked : Bool) (n told old over own : ℕ) → told ≤ n → over ≡ max old told → own ≡ max over (if asked then n + 1 else 0) → own
    ≡ max old (raised asked n told)
own_told true n told old over own l e f = omega (arith, l, e, f)
own_told false n told old over own l e f = omega (arith, e, f)

-- the values seen after a call that the lanes told of these, by the states of the floor
pub told_of : (f : PlainState) (st : Stand) (w : What) (s : Script) (slice lanes : List Lane) (asked : List Asked) (asks : List Ask) (old over own : List ℕ) → s
    ≡ f.script → slice ≡ lanes → lanes ≡ what_lanes f.script st w f.lanes → as_asks asked ≡ asks → asks ≡ what_asks f.script st w f.lanes →
    All (LaneFits f.script) lanes → IsKept f → st.cpu.0 < f.script.cpus → length own ≡ 16 →
    ((c : ℕ) → c < 16 → value_at over c ≡ max (value_at old c) (told_over (row_value s f.told) slice st.cpu c)) →
    ((c : ℕ) → c < 16 → value_at own c ≡ max (value_at over c) (if list_any (is_ask st.cpu c) (as_asks asked) then f.next + 1 else 0)) → own
    ≡ table 16 (λ c. max (value_at old c) (value_at (told_values f st w) c))
told_of f st w s slice lanes asked asks old over own script same_lanes touched same_asks requests fits kept cpu l e o =
    is_table own 16 (λ c. max (value_at old c) (value_at (told_values f st w) c)) l each
  where
    told : ℕ → ℕ
    told c = told_over (told_in f.script f.told) (what_lanes f.script st w f.lanes) st.cpu c

    all_fit : All (LaneFits f.script) (what_lanes f.script st w f.lanes)
    all_fit = subst (λ (x : List Lane). All (LaneFits f.script) x) touched fits

    below : (c : ℕ) → c < 16 → told c ≤ f.next
    below c h =
        let most = kept.asked st.cpu c cpu h in
        let over = over_below (told_in f.script f.told) (what_lanes f.script st w f.lanes) st.cpu c (value_in f.asked st.cpu c)
        (λ x. kept.told x st.cpu c cpu h) in
        omega (arith, most, over)

    by_lanes : (c : ℕ) → c < 16 → value_at over c ≡ max (value_at old c) (told c)
    by_lanes c h =
        e c h ∙ ap (λ (v : ℕ). max (value_at old c) v)
        (ap (λ (t : Script). told_over (row_value t f.told) slice st.cpu c) script
        ∙ (ap (λ (x : List Lane). told_over (row_value f.script f.told) x st.cpu c) (same_lanes ∙ touched)
        ∙ lanes_tell f.script f.told (what_lanes f.script st w f.lanes) st.cpu c all_fit))

    by_own : (c : ℕ) → c < 16 → value_at own c ≡ max (value_at over c) (if asks_in f.script st w f.lanes st.cpu c then f.next + 1 else 0)
    by_own c h =
        o c h ∙ ap (λ (x : List Ask). max (value_at over c) (if list_any (is_ask st.cpu c) x then f.next + 1 else 0)) (same_asks ∙ requests)

    each : (c : ℕ) → c < 16 → value_at own c ≡ max (value_at old c) (value_at (told_values f st w) c)
    each c h =
        own_told (asks_in f.script st w f.lanes st.cpu c) f.next (told c) (value_at old c) (value_at over c) (value_at own c) (below c h)
        (by_lanes c h) (by_own c h)
        ∙ ap (λ (v : ℕ). max (value_at old c) v) (sym (get_or-table 16 c (λ k. raised (asks_in f.script st w f.lanes st.cpu k) f.next (told k)) 0 h))

-- the word of each request that fits the script stands within the words
pub words_within : (s : Script) (words : List ℕ) (asked : List Asked) (asks : List Ask) → length words ≡ 16 * s.cpus → as_asks asked ≡ asks →
    All (AskFits s) asks → All (λ a. word_place a.cpu a.class < length words) asked
words_within s words asked asks len e within k d l =
    let ask = each_asked (AskWithin s.cpus) asked asks e (all_within s asks within) k d l in
    omega (arith, len, ask.cpu, ask.class)

-- the row in which an event below the limit marks each fitting request stands within the marks
pub marks_within : (s t : Script) (limit n : ℕ) (marks : List ℕ) (asked : List Asked) (asks : List Ask) → length marks ≡ limit * s.cpus → n < limit → t ≡ s →
    as_asks asked ≡ asks → All (AskFits s) asks → All (λ a. row_of t.cpus n a.cpu < length marks) asked
marks_within s t limit n marks asked asks len low script e within k d l =
    let ask = each_asked (AskWithin s.cpus) asked asks e (all_within s asks within) k d l in
    rw (len, script) (below_rows s.cpus limit n (get_or asked k d).cpu.0 low ask.cpu)
