-- What is found in a script has names.
use Rattle.std.proofs.Common.{◌≡◌, ◌+◌, ◌++◌, ◌<◌, ℕ, Bool, true, false, suc, zero, arith, refl, sym, ap, subst, List, [], ◌∷◌, Option, Some, None, length, map}
use Rattle.std.proofs.lemmas.List.Elements.{All-append, All-cons, All-head, All-map, All-nil, All-same, All-tail, All-weaker}
use Rattle.std.specs.List.{All, filter_map, flat_map}
use Rattle.std.specs.Prelude.{is_some, option_map}
use Rattle.nt_event.specs.declared.inserts.Part.{Part}
use Rattle.nt_event.specs.declared.inserts.Part.TheVariants.{Ordinary as OrdinaryPart, Threaded as ThreadedPart}
use Rattle.nt_event.specs.declared.numbers.DpcNo.{DpcNo}
use Rattle.nt_event.specs.declared.scripts.Isr.{Isr}
use Rattle.nt_event.specs.declared.scripts.Script.{Script}
use Rattle.nt_event.specs.Lists.{table, table_from}
use Rattle.nt_event.specs.Numbers.{apc, dpc, thread}
use Rattle.nt_event.specs.Routines.{part_of, rundown_of}
use Rattle.nt_line.specs.NameLists.{NameLists}
use Rattle.nt_script.specs.declared.walk.Input.{Input}
use Rattle.nt_script.specs.Sound.{IsSound}
use Rattle.nt_verify.specs.declared.expected.Expected.{Expected}
use Rattle.nt_verify.specs.declared.finding.Finding.{Finding}
use Rattle.nt_verify.specs.declared.site.Site.{Site}
use Rattle.nt_verify.specs.declared.site.Site.TheVariants as at
use Rattle.nt_verify.specs.Findings.{finding_at, findings, findings_at, places_at}
use Rattle.nt_verify.specs.Sites.{apc_sites, dpc_sites, has_normal, isr_site, part_site, site_if, sites, thread_sites}
use Rattle.nt_verify.specs.Walks.{expected_at}
use Rattle.nt_top.specs.Verified.{IsNamed}

-- ---- lists

-- what holds at each place below the end of a table holds of all of the table
all_table : {X : Type 0} (P : X → Type 0) (f : ℕ → X) (k n m : ℕ) → k + n ≡ m → ((j : ℕ) → j < m → P (f j)) → All P (table_from k n f)
unfolding table_from
all_table P f k zero m e each = All-nil P
all_table P f k (suc n) m e each = All-cons P (f k) (table_from (suc k) n f) (each k (omega (arith, e))) (all_table P f (suc k) n m (omega (arith, e)) each)

-- what holds of all that each element gives holds of all of the lists put together
all_flat : {X A : Type 0} (P : A → Type 0) (f : X → List A) (xs : List X) → All (λ x. All P (f x)) xs → All P (flat_map f xs)
all_flat P f [] each = All-nil P
all_flat P f (x ∷ xs) each =
    All-append P (f x) (flat_map f xs) (All-head (λ y. All P (f y)) x xs each) (all_flat P f xs (All-tail (λ y. All P (f y)) x xs each))

-- what holds of each value that a function gives holds of all that it keeps of a list
all_kept : {X Y : Type 0} (P : Y → Type 0) (h : X → Option Y) (xs : List X) → ((x : X) (y : Y) → h x ≡ Some y → P y) → All P (filter_map h xs)
all_kept P h [] each = All-nil P
all_kept {X} {Y} P h (x ∷ xs) each = go (h x) refl (all_kept P h xs each)
  where
    go : (o : Option Y) → h x ≡ o → All P (filter_map h xs) → All P (filter_map h (x ∷ xs))
    go None e rest = rw e rest
    go (Some y) e rest = rw e (All-cons P y (filter_map h xs) (each x y e) rest)

-- ---- sites

-- as many names as things
record HasNames (s : Script) (names : NameLists) : Type 0 where
  pub dpcs : length names.dpcs ≡ length s.dpcs
  pub threads : length names.threads ≡ length s.threads
  pub apcs : length names.apcs ≡ length s.apcs

-- a place in a part of a DPC has names, if the DPC has one
part_named : (names : NameLists) (d : DpcNo) (part : Part) → d.0 < length names.dpcs → IsNamed names (part_site d part)
part_named names d OrdinaryPart h = h
part_named names d ThreadedPart h = h

-- the places of interrupt routines have names
isrs_named : (names : NameLists) (isrs : List Isr) → All (IsNamed names) (map isr_site isrs)
isrs_named names [] = All-nil (IsNamed names)
isrs_named names (x ∷ xs) = All-cons (IsNamed names) (isr_site x) (map isr_site xs) tt (isrs_named names xs)

-- a place that is there only under a condition has names, if the place has
if_named : (names : NameLists) (b : Bool) (x : Site) → IsNamed names x → All (IsNamed names) (site_if b x)
if_named names true x h = All-cons (IsNamed names) x [] h (All-nil (IsNamed names))
if_named names false x h = All-nil (IsNamed names)

-- the places of an APC have names, if the APC has one
apc_named : (s : Script) (names : NameLists) (j : ℕ) → j < length names.apcs → All (IsNamed names) (apc_sites s (apc j))
apc_named s names j h =
    let normal = site_if (has_normal s (apc j)) (at.Normal (apc j)) in
    let rundown = site_if (is_some (rundown_of s (apc j))) (at.Rundown (apc j)) in
    All-append (IsNamed names) (at.Kernel (apc j) ∷ normal) rundown
    (All-cons (IsNamed names) (at.Kernel (apc j)) normal h (if_named names (has_normal s (apc j)) (at.Normal (apc j)) h))
    (if_named names (is_some (rundown_of s (apc j))) (at.Rundown (apc j)) h)

-- all places of a script have names, if its objects have
sites_named : (s : Script) (names : NameLists) → HasNames s names → All (IsNamed names) (sites s)
sites_named s names has =
    let dpcs = has.dpcs in
    let threads = has.threads in
    let apcs = has.apcs in
    All-append (IsNamed names) (map isr_site s.isrs ++ dpc_sites s ++ thread_sites s) (flat_map (apc_sites s) (table (length s.apcs) apc))
    (All-append (IsNamed names) (map isr_site s.isrs ++ dpc_sites s) (thread_sites s)
    (All-append (IsNamed names) (map isr_site s.isrs) (dpc_sites s) (isrs_named names s.isrs)
    (all_table (IsNamed names) (λ j. part_site (dpc j) (part_of s (dpc j))) 0 (length s.dpcs) (length s.dpcs) (omega arith)
    (λ j lt. part_named names (dpc j) (part_of s (dpc j)) (omega (arith, dpcs, lt)))))
    (all_table (IsNamed names) (λ j. at.Base (thread j)) 0 (length s.threads) (length s.threads) (omega arith) (λ j lt. omega (arith, threads, lt))))
    (all_flat (IsNamed names) (apc_sites s) (table (length s.apcs) apc)
    (all_table (λ a. All (IsNamed names) (apc_sites s a)) apc 0 (length s.apcs) (length s.apcs) (omega arith)
    (λ j lt. apc_named s names j (omega (arith, apcs, lt)))))

-- ---- findings

-- what is found at a site names that site
found_here : (s : Script) (x : Site) (k : ℕ) (f : Finding) → finding_at s x k ≡ Some f → f.site ≡ x
found_here s x k f e = go (expected_at s x k) e
  where
    go : (o : Option Expected) → option_map (λ r. record { site = x; place = k; refusal = r.refusal; level = r.level }) o ≡ Some f → f.site ≡ x
    go None h = cc
    go (Some r) h =
        let same : record { site = x; place = k; refusal = r.refusal; level = r.level } ≡ f = cc in
        sym (ap (λ (g : Finding). g.site) same)

-- what is found at a place that has names is at a place that has names
site_found : (s : Script) (names : NameLists) (x : Site) → IsNamed names x → All (λ f. IsNamed names f.site) (findings_at s x)
site_found s names x named =
    all_kept (λ f. IsNamed names f.site) (finding_at s x) (places_at s x) (λ k f e. subst (IsNamed names) (sym (found_here s x k f e)) named)

-- what is found in the script of a sound input is at sites whose objects have names
pub findings_named : (input : Input) → IsSound input → All (λ f. IsNamed input.names f.site) (findings input.script)
findings_named input sound =
    let s = input.script in
    let names = input.names in
    all_flat (λ f. IsNamed names f.site) (findings_at s) (sites s)
    (All-weaker (IsNamed names) (λ x. All (λ f. IsNamed names f.site) (findings_at s x)) (site_found s names) (sites s)
    (sites_named s names (record { dpcs = sound.dpcs; threads = sound.threads; apcs = sound.apcs })))
