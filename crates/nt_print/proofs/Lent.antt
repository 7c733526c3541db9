-- The events of a history that is read, one by one.
use Rattle.std.proofs.Common.{◌≡◌, ◌∙◌, ℕ, zero, suc, ◌<◌, ◌≤◌, Bool, true, false, List, [], ◌∷◌, length, get_or, Option, Some, None, refl, sym, ap, subst}
use Rattle.std.proofs.Common.{arith}
use Rattle.std.specs.Prelude.{IfSome, ◌&&◌, nat_lt, option_map, slice_set, if◌then◌else◌}
use Rattle.std.proofs.lemmas.Bool.{and_parts, lt-ltb, ltb-true}
use Rattle.std.proofs.lemmas.List.{get_or-map}
use Rattle.nt_event.specs.declared.commands.Command.TheVariants as cmd
use Rattle.nt_event.specs.declared.commands.Reply.TheVariants.{Yes}
use Rattle.nt_event.specs.declared.events.Event.{Event}
use Rattle.nt_event.specs.declared.events.Rises.{Rises}
use Rattle.nt_event.specs.declared.events.What.{What}
use Rattle.nt_event.specs.declared.events.What.TheVariants as what
use Rattle.nt_event.specs.declared.scripts.Script.{Script}
use Rattle.nt_event.specs.Fate.{Inserted, Thing, inserted_thing}
use Rattle.nt_event.specs.Fitting.{event_fits, events_fit, what_fits}
use Rattle.nt_event.specs.Script.{has_cpu, has_thread, where_given}
use Rattle.nt_history.specs.declared.brief.Brief.{Brief}
use Rattle.nt_history.specs.declared.brief.Did.{Did}
use Rattle.nt_history.specs.declared.brief.Did.TheVariants as did
use Rattle.nt_history.specs.Briefs.{event_in, event_of, events_in, no_rises, values_of, what_of}
use Rattle.nt_history.proofs.Lists.{as_many}
use Rattle.nt_print.specs.declared.inserts.Object.{Object}
use Rattle.nt_print.specs.Tally.{with_named}
use Rattle.nt_print.specs.Uses.{inserted_at, is_it, thing_fits, thing_of}
use Rattle.nt_print.proofs.Past.{inserted_read}
use Rattle.nt_print.proofs.WaitRows.{element_at}

-- a place below the number of briefs is a place of the events that are read from them
pub below : (bs : List Brief) (rises : List Rises) (k : ℕ) → k < length bs → k < length (events_in bs rises)
below bs rises k lt = let many = as_many bs rises in omega (arith, many, lt)

-- the event of a number is that of the brief of the number
pub event_at : (bs : List Brief) (rises : List Rises) (k : ℕ) (b : Brief) → k < length bs →
    event_in rises (get_or bs k b) ≡ get_or (events_in bs rises) k (event_in rises (get_or bs k b))
event_at bs rises k b lt = sym (get_or-map (event_in rises) bs k b (event_in rises (get_or bs k b)) lt)

-- what it inserts
pub inserts_at : (bs : List Brief) (rises : List Rises) (k : ℕ) (b : Brief) → k < length bs →
    inserted_thing (event_in rises (get_or bs k b)).what ≡ inserted_at (events_in bs rises) k
inserts_at bs rises k b lt = inserted_read (events_in bs rises) k (event_in rises (get_or bs k b)) (below bs rises k lt) (event_at bs rises k b lt)

-- the flags of unnamed inserts when an event named one, where it is told whether the event of that number inserts the thing
pub cleared_by_it : (bs : List Brief) (rises : List Rises) (k : ℕ) (i : Inserted) (b : Brief) (flags : List Bool) (so : Bool) →
    i.number < k → k ≤ length bs → so ≡ is_it i.thing (inserted_thing (event_in rises (get_or bs i.number b)).what) →
    (if so then slice_set flags i.number false else flags) ≡ with_named (events_in bs rises) k (Some i) flags
cleared_by_it bs rises k i b flags so lt le h =
    let both : so ≡ (nat_lt i.number k && is_it i.thing (inserted_at (events_in bs rises) i.number)) =
    h ∙ ap (is_it i.thing) (inserts_at bs rises i.number b (omega (arith, lt, le)))
    ∙ ap (λ (x : Bool). x && is_it i.thing (inserted_at (events_in bs rises) i.number)) (sym (lt-ltb i.number k lt)) in
    ap (λ (x : Bool). if x then slice_set flags i.number false else flags) both

-- ---- what an event names, which is the same for all values of looks

-- whether what a processor did fits a script does not depend on the values of looks
fits_any : (s : Script) (d : Did) (r q : Rises) → what_fits s (what_of r d) ≡ what_fits s (what_of q d)
fits_any s (did.Look at) r q = refl
fits_any s d r q = refl

-- an event read from a brief fits a script alike with the values of looks and without them
fits_same : (s : Script) (rises : List Rises) (b : Brief) → event_fits s (event_of no_rises b) ≡ event_fits s (event_in rises b)
fits_same s rises b = ap (λ (x : Bool). (has_cpu s b.cpu && where_given (has_thread s) b.thread) && x) (fits_any s b.did no_rises (values_of rises b))

-- each event of a history names things of the script, whatever the values of looks
pub each_fits : (s : Script) (bs : List Brief) (rises : List Rises) (i : ℕ) (b : Brief) → i < length bs → events_fit s (events_in bs rises) ≡ true →
    event_fits s (event_of no_rises (get_or bs i b)) ≡ true
each_fits s [] rises i b lt h = absurd (omega (arith, lt))
each_fits s (x ∷ bs) rises zero b lt h = fits_same s rises x ∙ (and_parts (event_fits s (event_in rises x)) (events_fit s (events_in bs rises)) h).0
each_fits s (x ∷ bs) rises (suc i) b lt h =
    let rest = and_parts (event_fits s (event_in rises x)) (events_fit s (events_in bs rises)) h in
    each_fits s bs rises i b (omega (arith, lt)) rest.1

-- ---- what an event inserts

-- what is inserted by an action that fits a script is an object of the script
thing_fit : (s : Script) (w : What) → what_fits s w ≡ true → IfSome (inserted_thing w) (λ thing. thing_fits s thing ≡ true)
thing_fit s (what.Call f (cmd.Queue d) Yes) h = h
thing_fit s (what.Call f (cmd.InsertApc a) Yes) h = h
thing_fit s (what.Fire d Yes) h = h
thing_fit s w h = tt

-- if an event fits a script, what it does fits the script
what_fit : (s : Script) (e : Event) → event_fits s e ≡ true → what_fits s e.what ≡ true
what_fit s e h = (and_parts (has_cpu s e.cpu && where_given (has_thread s) e.thread) (what_fits s e.what) h).1

-- what an event of a history inserts is of the script
pub object_fits : (s : Script) (bs : List Brief) (rises : List Rises) (k : ℕ) (b : Brief) (o : Option Object) → k < length bs →
    events_fit s (events_in bs rises) ≡ true → option_map thing_of o ≡ inserted_thing (what_of no_rises (get_or bs k b).did) →
    IfSome o (λ x. thing_fits s (thing_of x) ≡ true)
object_fits s bs rises k b None lt h e = tt
object_fits s bs rises k b (Some x) lt h e =
    let at : Brief = get_or bs k b in
    subst (λ (o : Option Thing). IfSome o (λ thing. thing_fits s thing ≡ true)) (sym e)
    (thing_fit s (what_of no_rises at.did) (what_fit s (event_of no_rises at) (each_fits s bs rises k b lt h)))

-- what the event of a number inserts is of the script
pub inserted_fits : (s : Script) (bs : List Brief) (rises : List Rises) (k : ℕ) → k < length bs → events_fit s (events_in bs rises) ≡ true →
    IfSome (inserted_at (events_in bs rises) k) (λ thing. thing_fits s thing ≡ true)
inserted_fits s bs rises k lt h =
    let b : Brief = (element_at bs k lt).0 in
    let at : Brief = get_or bs k b in
    subst (λ (o : Option Thing). IfSome o (λ thing. thing_fits s thing ≡ true)) (inserts_at bs rises k b lt)
    (thing_fit s (event_in rises at).what (what_fit s (event_in rises at) (sym (fits_same s rises at) ∙ each_fits s bs rises k b lt h)))

-- the processor of an event of a history is one of the script
pub processor_fits : (s : Script) (bs : List Brief) (rises : List Rises) (k : ℕ) (b : Brief) → k < length bs → events_fit s (events_in bs rises) ≡ true →
    (get_or bs k b).cpu.0 < s.cpus
processor_fits s bs rises k b lt h =
    let at : Event = event_of no_rises (get_or bs k b) in
    let fits = and_parts (has_cpu s at.cpu && where_given (has_thread s) at.thread) (what_fits s at.what) (each_fits s bs rises k b lt h) in
    ltb-true at.cpu.0 s.cpus (and_parts (has_cpu s at.cpu) (where_given (has_thread s) at.thread) fits.0).0
