-- Lists of requests, one request after another.
use Rattle.std.proofs.Common.{arith, drop, length, subst}
use Rattle.std.proofs.lemmas.Bool.{and_parts, eqb-true, lt-ltb}
use Rattle.std.proofs.lemmas.List.{drop_all, get_or-map, length-map}
use Rattle.std.specs.List.{list_any}
use Rattle.std.specs.Prelude.{All, Bool, List, [], false, get_or, if◌then◌else◌, refl, suc, true, zero, ℕ, ◌+◌, ◌==◌, ◌∷◌, ◌≡◌, ◌≤◌}
use Rattle.nt_event.specs.declared.numbers.CpuNo.{CpuNo}
use Rattle.nt_event.specs.declared.scripts.Script.{Script}
use Rattle.nt_event.specs.Requests.{Ask, is_ask, raised, spinner_asks}
use Rattle.nt_event.specs.declared.class.Asked.{Asked}
use Rattle.nt_states.specs.LaneLists.{AskFits, as_ask, as_asks}

-- if a property holds of each element of a list, it holds of the first
pub all_head : {A : Type 0} (P : A → Type 0) (x : A) (xs : List A) → All P (x ∷ xs) → P x
all_head P x xs h = h 0 x (omega arith)

-- if a property holds of each element of a list, it holds of each after the first
pub all_tail : {A : Type 0} (P : A → Type 0) (x : A) (xs : List A) → All P (x ∷ xs) → All P xs
all_tail P x xs h k d l = h (suc k) d (omega arith)

-- if a property holds of an element and of each of a list, it holds of each of the list with it in front
all_more : {A : Type 0} (P : A → Type 0) (x : A) (xs : List A) → P x → All P xs → All P (x ∷ xs)
all_more P x xs h t zero d l = h
all_more P x xs h t (suc k) d l = t k d (omega arith)

-- where none spins, a release asks for nothing
pub none_spin : (n : ℕ) (flags : List Bool) → list_any (λ b. b) flags ≡ false → spinner_asks n flags ≡ []
none_spin n [] e = refl
none_spin n (true ∷ flags) e = absurd cc
none_spin n (false ∷ flags) e = none_spin (suc n) flags e

-- each processor that spins is one of the script's
pub spinners_named : (s : Script) (n : ℕ) (flags : List Bool) → n + length flags ≤ s.cpus → All (AskFits s) (spinner_asks n flags)
spinners_named s n [] h = λ k d l. absurd (omega arith)
spinners_named s n (true ∷ flags) h =
    all_more (AskFits s) _ (spinner_asks (suc n) flags) (record { cpu = lt-ltb n s.cpus (omega arith); class = omega arith })
    (spinners_named s (suc n) flags (omega arith))
spinners_named s n (false ∷ flags) h = spinners_named s (suc n) flags (omega arith)

-- one more than an event's number under a test, else the old value, is the raised value
pub as_raised : (b : Bool) (n old : ℕ) → (if b then n + 1 else old) ≡ raised b n old
as_raised true n old = refl
as_raised false n old = refl

-- a request that passes the test for a processor and a class is for this processor and this class
pub is_ask_true : (q : CpuNo) (d : ℕ) (a : Ask) → is_ask q d a ≡ true → (a.cpu.0 ≡ q.0) × (a.class ≡ d)
is_ask_true q d a h =
    let p = and_parts (a.cpu.0 == q.0) (a.class == d) h in
    (eqb-true a.cpu.0 q.0 p.0, eqb-true a.class d p.1)

-- what holds of each request as a list of the definitions holds of each
pub each_asked : (P : Ask → Type 0) (asked : List Asked) (asks : List Ask) → as_asks asked ≡ asks → All P asks → All (λ a. P (as_ask a)) asked
each_asked P asked asks e h k d l =
    let size : length (as_asks asked) ≡ length asked = length-map asked as_ask in
    let all : All P (as_asks asked) = rw e h in
    let at : P (get_or (as_asks asked) k (as_ask d)) = all k (as_ask d) (omega (arith, size)) in
    subst P (get_or-map as_ask asked k d (as_ask d) l) at

-- once no request is left to go through, the value so far is the final one
pub none_left : (asks : List Asked) (i : ℕ) (p : CpuNo) (c to v all : ℕ) → length asks ≤ i → (if list_any (is_ask p c) (as_asks (drop i asks)) then to else v)
    ≡ all → v ≡ all
none_left asks i p c to v all h e = rw (drop_all i asks h) at e
