-- The site of a frame that has a next command is one of the script's.
use Rattle.std.proofs.Common.{ap, inl, inr, subst, sym, ◌∙◌}
use Rattle.std.proofs.lemmas.Bool.{eqb-true}
use Rattle.std.proofs.lemmas.List.Elements.{Contains-append_left, Contains-append_right}
use Rattle.std.proofs.lemmas.Option.{slice_get_within}
use Rattle.std.specs.List.{Contains, flat_map}
use Rattle.std.specs.Prelude.{Bool, List, None, Option, Some, [], false, find, is_some, length, map, option_and_then, option_map, refl}
use Rattle.std.specs.Prelude.{slice_get}
use Rattle.std.specs.Prelude.{true, ℕ, ◌++◌, ◌<◌, ◌==◌, ◌∷◌, ◌≡◌}
use Rattle.nt_event.proofs.Elements.{contains_cases, contains_here, contains_mapped, contains_none, found_contains}
use Rattle.nt_event.proofs.Options.{both}
use Rattle.nt_event.specs.declared.commands.Command.{Command}
use Rattle.nt_event.specs.declared.frames.Body.{Body}
use Rattle.nt_event.specs.declared.frames.Body.TheVariants as on
use Rattle.nt_event.specs.declared.numbers.ApcNo.{ApcNo}
use Rattle.nt_event.specs.declared.numbers.CpuNo.{CpuNo}
use Rattle.nt_event.specs.declared.numbers.DpcNo.{DpcNo}
use Rattle.nt_event.specs.declared.numbers.RoutineNo.{RoutineNo}
use Rattle.nt_event.specs.declared.scripts.ApcDecl.{ApcDecl}
use Rattle.nt_event.specs.declared.scripts.Isr.{Isr}
use Rattle.nt_event.specs.declared.scripts.Script.{Script}
use Rattle.nt_event.specs.Frame.{Frame}
use Rattle.nt_event.specs.Lists.{table}
use Rattle.nt_event.specs.Numbers.{apc, dpc, thread}
use Rattle.nt_event.specs.Routines.{apc_routine, commands_of, next_command, rundown_of}
use Rattle.nt_event.specs.Script.{is_isr_of, isr_of}
use Rattle.nt_verify.proofs.Agreeing.{Agrees, IsOfPart, next_at}
use Rattle.nt_verify.proofs.Lists.{table_contains}
use Rattle.nt_verify.specs.declared.site.Site.{Site}
use Rattle.nt_verify.specs.declared.site.Site.TheVariants as at
use Rattle.nt_verify.specs.Sites.{apc_sites, dpc_site, dpc_sites, has_normal, isr_site, part_site, routine_at, site_if, site_in, site_of, sites}
use Rattle.nt_verify.specs.Sites.{thread_sites}

-- ---- lists

-- what a piece of one element of a list contains, all the pieces together contain
pub flat_contains : {A B : Type 0} (f : A → List B) (xs : List A) (x : A) (y : B) → Contains xs x → Contains (f x) y → Contains (flat_map f xs) y
flat_contains f [] x y h k = contains_none x h
flat_contains {A} {B} f (z ∷ xs) x y h k =
    elim (contains_cases z xs x h) [
      | inl e ↦ Contains-append_left (f z) (flat_map f xs) y (subst (λ (v : A). Contains (f v) y) (sym e) k)
      | inr d ↦ Contains-append_right (f z) (flat_map f xs) y (flat_contains f xs x y d k)
    ]

-- an option that is equal to some value is there
some_when : {A : Type 0} (o : Option A) (x : A) → o ≡ Some x → is_some o ≡ true
some_when None x h = cc
some_when (Some y) x h = refl

-- an index at which a list has an element is below its length
within_when : {A : Type 0} (xs : List A) (i : ℕ) → is_some (slice_get xs i) ≡ true → i < length xs
within_when {A} xs i h = go (slice_get xs i) refl h
  where
    go : (o : Option A) → slice_get xs i ≡ o → is_some o ≡ true → i < length xs
    go None e k = cc
    go (Some x) e k = slice_get_within xs i x e

-- if a mapped option is there, the option was there
mapped_some : {A B : Type 0} (f : A → B) (o : Option A) → is_some (option_map f o) ≡ true → is_some o ≡ true
mapped_some f None h = cc
mapped_some f (Some x) h = refl

-- if an option followed by a further look-up is there, the option was there
then_some : {A B : Type 0} (f : A → Option B) (o : Option A) → is_some (option_and_then f o) ≡ true → is_some o ≡ true
then_some f None h = cc
then_some f (Some x) h = refl

-- if the routine of an optional APC declaration is there, the declaration is
apc_some : (k : Bool) (o : Option ApcDecl) → is_some (apc_routine k o) ≡ true → is_some o ≡ true
apc_some k None h = cc
apc_some k (Some x) h = refl

-- ---- each kind of site

-- each site of an ISR is one of the script's sites
in_isrs : (s : Script) (x : Site) → Contains (map isr_site s.isrs) x → Contains (sites s) x
in_isrs s x h =
    Contains-append_left ((map isr_site s.isrs ++ dpc_sites s) ++ thread_sites s) (flat_map (apc_sites s) (table (length s.apcs) apc)) x
    (Contains-append_left (map isr_site s.isrs ++ dpc_sites s) (thread_sites s) x (Contains-append_left (map isr_site s.isrs) (dpc_sites s) x h))

-- each site of a DPC is one of the script's sites
in_dpcs : (s : Script) (x : Site) → Contains (dpc_sites s) x → Contains (sites s) x
in_dpcs s x h =
    Contains-append_left ((map isr_site s.isrs ++ dpc_sites s) ++ thread_sites s) (flat_map (apc_sites s) (table (length s.apcs) apc)) x
    (Contains-append_left (map isr_site s.isrs ++ dpc_sites s) (thread_sites s) x (Contains-append_right (map isr_site s.isrs) (dpc_sites s) x h))

-- each site of a thread is one of the script's sites
in_threads : (s : Script) (x : Site) → Contains (thread_sites s) x → Contains (sites s) x
in_threads s x h =
    Contains-append_left ((map isr_site s.isrs ++ dpc_sites s) ++ thread_sites s) (flat_map (apc_sites s) (table (length s.apcs) apc)) x
    (Contains-append_right (map isr_site s.isrs ++ dpc_sites s) (thread_sites s) x h)

-- each site of a declared APC is one of the script's sites
in_apcs : (s : Script) (a : ApcNo) (x : Site) → a.0 < length s.apcs → Contains (apc_sites s a) x → Contains (sites s) x
in_apcs s a x l h =
    Contains-append_right ((map isr_site s.isrs ++ dpc_sites s) ++ thread_sites s) (flat_map (apc_sites s) (table (length s.apcs) apc)) x
    (flat_contains (apc_sites s) (table (length s.apcs) apc) a x (table_contains (length s.apcs) a.0 apc l) h)

-- the site of an ISR that is declared for a processor and level is one of the script's
isr_declared : (s : Script) (p : CpuNo) (level : ℕ) → is_some (isr_of s.isrs p level) ≡ true → Contains (sites s) (at.Isr p level)
isr_declared s p level h = go (find (is_isr_of p level) s.isrs) refl (mapped_some (λ isr. isr.routine) (find (is_isr_of p level) s.isrs) h)
  where
    go : (o : Option Isr) → find (is_isr_of p level) s.isrs ≡ o → is_some o ≡ true → Contains (sites s) (at.Isr p level)
    go None e k = cc
    go (Some isr) e k =
        let found = found_contains (is_isr_of p level) s.isrs isr e in
        let b = both (isr.cpu.0 == p.0) (isr.level == level) found.1 in
        let c : isr.cpu ≡ p = ap (λ (n : ℕ). record { 0 = n }) (eqb-true isr.cpu.0 p.0 b.0) in
        let same : isr_site isr ≡ at.Isr p level = ap (λ (q : CpuNo). at.Isr q isr.level) c ∙ ap (λ (n : ℕ). at.Isr p n) (eqb-true isr.level level b.1) in
        in_isrs s (at.Isr p level) (subst (λ (x : Site). Contains (map isr_site s.isrs) x) same (contains_mapped isr_site s.isrs isr found.0))

-- the site of a declared DPC is one of the script's
dpc_declared : (s : Script) (d : DpcNo) (x : Site) → d.0 < length s.dpcs → dpc_site s d ≡ x → Contains (sites s) x
dpc_declared s d x l e =
    in_dpcs s x (subst (λ (y : Site). Contains (dpc_sites s) y) e (table_contains (length s.dpcs) d.0 (λ i. dpc_site s (dpc i)) l))

-- the site of an APC's kernel routine is among the APC's sites
kernel_in : (s : Script) (a : ApcNo) → Contains (apc_sites s a) (at.Kernel a)
kernel_in s a =
    Contains-append_left (at.Kernel a ∷ [] ++ site_if (has_normal s a) (at.Normal a)) (site_if (is_some (rundown_of s a)) (at.Rundown a)) (at.Kernel a)
    (Contains-append_left (at.Kernel a ∷ []) (site_if (has_normal s a) (at.Normal a)) (at.Kernel a) (contains_here (at.Kernel a) []))

-- the site of an APC's normal routine is among the APC's sites, if it has one
normal_in : (s : Script) (a : ApcNo) → has_normal s a ≡ true → Contains (apc_sites s a) (at.Normal a)
normal_in s a h =
    Contains-append_left (at.Kernel a ∷ [] ++ site_if (has_normal s a) (at.Normal a)) (site_if (is_some (rundown_of s a)) (at.Rundown a)) (at.Normal a)
    (Contains-append_right (at.Kernel a ∷ []) (site_if (has_normal s a) (at.Normal a)) (at.Normal a) (rw h (contains_here (at.Normal a) [])))

-- the site of an APC's rundown routine is among the APC's sites, if it has one
rundown_in : (s : Script) (a : ApcNo) → is_some (rundown_of s a) ≡ true → Contains (apc_sites s a) (at.Rundown a)
rundown_in s a h =
    Contains-append_right (at.Kernel a ∷ [] ++ site_if (has_normal s a) (at.Normal a)) (site_if (is_some (rundown_of s a)) (at.Rundown a)) (at.Rundown a)
    (rw h (contains_here (at.Rundown a) []))

-- the site of a body of the part declared is one of the script's, if a routine is declared there
by_body : (s : Script) (p : CpuNo) (b : Body) (k : Bool) → IsOfPart s b → is_some (routine_at s (site_in p k b)) ≡ true → Contains (sites s) (site_in p k b)
by_body s p (on.Int level) k q h = isr_declared s p level h
by_body s p (on.Dpc d) k q h =
    dpc_declared s d (at.Dpc d) (within_when s.dpcs d.0 (mapped_some (λ x. x.routine) (slice_get s.dpcs d.0) h)) (ap (part_site d) q)
by_body s p (on.Threaded d) k q h =
    dpc_declared s d (at.Threaded d) (within_when s.dpcs d.0 (mapped_some (λ x. x.routine) (slice_get s.dpcs d.0) h)) (ap (part_site d) q)
by_body s p (on.Apc a kind) true q h =
    in_apcs s a (at.Kernel a) (within_when s.apcs a.0 (apc_some true (slice_get s.apcs a.0) h)) (kernel_in s a)
by_body s p (on.Apc a kind) false q h =
    in_apcs s a (at.Normal a) (within_when s.apcs a.0 (apc_some false (slice_get s.apcs a.0) h)) (normal_in s a h)
by_body s p (on.Base t) k q h =
    in_threads s (at.Base t) (table_contains (length s.threads) t.0 (λ i. at.Base (thread i)) (within_when s.threads t.0
    (mapped_some (λ x. x.routine) (slice_get s.threads t.0) h)))
by_body s p (on.Rundown a) k q h =
    in_apcs s a (at.Rundown a) (within_when s.apcs a.0 (then_some (λ x. x.rundown) (slice_get s.apcs a.0) h)) (rundown_in s a h)

-- a routine that has a command at some place is declared
routine_when : (s : Script) (o : Option RoutineNo) (i : ℕ) (c : Command) → slice_get (commands_of s o) i ≡ Some c → is_some o ≡ true
routine_when s None i c h = absurd cc
routine_when s (Some r) i c h = refl

-- the site of a frame that has a next command is one of the script's sites
pub declared : (s : Script) (p : CpuNo) (f : Frame) (c : Command) → Agrees s p f → next_command s p f ≡ Some c → Contains (sites s) (site_of p f)
declared s p f c a h =
    by_body s p f.body f.kernel_phase a.part (routine_when s (routine_at s (site_of p f)) f.place c (next_at s p f c h))
