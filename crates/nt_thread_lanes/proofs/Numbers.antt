-- What a script that fits bounds and names.
use Rattle.std.proofs.Common.{◌≡◌, ◌≤◌, ◌<◌, IsTrue, None, Some, get_or, length, subst, sym, true}
use Rattle.std.proofs.lemmas.Bool.{leb-true, ltb-true}
use Rattle.std.proofs.lemmas.List.Sums.{AllPass-from_list_all}
use Rattle.std.proofs.lemmas.Option.{slice_get-get_or}
use Rattle.std.specs.Prelude.{slice_get}
use Rattle.nt_event.specs.declared.commands.ApcKind.TheVariants.{Special}
use Rattle.nt_event.specs.declared.numbers.ApcNo.{ApcNo}
use Rattle.nt_event.specs.declared.numbers.ThreadNo.{ThreadNo}
use Rattle.nt_event.specs.declared.scripts.ApcDecl.{ApcDecl}
use Rattle.nt_event.specs.declared.scripts.Script.{Script}
use Rattle.nt_event.specs.Routines.{owner_of}
use Rattle.nt_event.specs.Script.{apc_fits, fits, has_apc, has_thread}
use Rattle.nt_event.specs.Numbers.{routine, thread}
use Rattle.nt_event.proofs.Options.{both}
use Rattle.nt_states.specs.ThreadLanes.{ThreadLanes}

-- a script that fits has at most 64 threads and at most 256 APC objects
limits : (s : Script) → IsTrue (fits s) → (length s.threads ≤ 64) × (length s.apcs ≤ 256)
limits s h =
    let routines = both _ _ h in
    let apcs = both _ _ routines.0 in
    let threads = both _ _ apcs.0 in
    let timers = both _ _ threads.0 in
    let dpcs = both _ _ timers.0 in
    let differ = both _ _ dpcs.0 in
    let isrs = both _ _ differ.0 in
    let commands = both _ _ isrs.0 in
    let routine_count = both _ _ commands.0 in
    let lock_count = both _ _ routine_count.0 in
    let apc_count = both _ _ lock_count.0 in
    let dpc_count = both _ _ apc_count.0 in
    let timer_count = both _ _ dpc_count.0 in
    let thread_count = both _ _ timer_count.0 in
    (leb-true (length s.threads) 64 thread_count.1, leb-true (length s.apcs) 256 apc_count.1)

-- a script that fits has at most 64 threads
pub few_threads : (s : Script) → IsTrue (fits s) → length s.threads ≤ 64
few_threads s h = (limits s h).0

-- a script that fits has at most 256 APC objects
pub few_apcs : (s : Script) → IsTrue (fits s) → length s.apcs ≤ 256
few_apcs s h = (limits s h).1

-- the APC declaration that is read where there is none
no_decl : ApcDecl
no_decl = record { kind = Special; thread = thread 0; kernel = routine 0; normal = None; rundown = None }

-- the thread of an APC object of the script is one of the script's
pub owner_named : (s : Script) (a : ApcNo) → IsTrue (fits s) → IsTrue (has_apc s a) → IsTrue (has_thread s (owner_of s a))
owner_named s a h named =
    let within : a.0 < length s.apcs = ltb-true a.0 (length s.apcs) named in
    let decl : ApcDecl = get_or s.apcs a.0 no_decl in
    let at : slice_get s.apcs a.0 ≡ Some decl = slice_get-get_or s.apcs a.0 no_decl within in
    let apcs = both _ _ (both _ _ h).0 in
    let good : apc_fits s decl ≡ true = AllPass-from_list_all (apc_fits s) s.apcs apcs.1 a.0 no_decl within in
    let routines = both _ _ good in
    let rundown = both _ _ routines.0 in
    let normal = both _ _ rundown.0 in
    rw at (both _ _ normal.0).0

-- the same of the threads that contracts see, by their fields
pub owner_at : (x y : ThreadLanes) (a : ApcNo) (t : ThreadNo) → x ≡ y → IsTrue (fits x.script) → IsTrue (has_apc y.script a) → t ≡ owner_of x.script a →
    IsTrue (has_thread y.script t)
owner_at x y a t e h named at =
    let here : IsTrue (has_apc x.script a) = subst (λ (z : ThreadLanes). IsTrue (has_apc z.script a)) (sym e) named in
    subst (λ (z : ThreadLanes). IsTrue (has_thread z.script t)) e
    (subst (λ (u : ThreadNo). IsTrue (has_thread x.script u)) (sym at) (owner_named x.script a h here))
