-- The fate of an insert behind one event more, by whether that names it or removes its thing.
use Rattle.std.proofs.Common.{◌≡◌, ◌∙◌, ℕ, ◌+◌, ◌<◌, ◌≤◌, Bool, true, false, List, [], ◌∷◌, length, refl, sym, ap, arith}
use Rattle.std.specs.Prelude.{◌&&◌, ◌||◌, ◌==◌, not, nat_lt, if◌then◌else◌}
use Rattle.std.proofs.lemmas.Bool.{lt-ltb, le-ltb}
use Rattle.nt_event.specs.declared.commands.Command.TheVariants.{RemoveApc, Unqueue}
use Rattle.nt_event.specs.declared.commands.Reply.TheVariants.{Yes}
use Rattle.nt_event.specs.declared.events.Begun.TheVariants.{Apc, Dpc, Threaded}
use Rattle.nt_event.specs.declared.events.Event.{Event}
use Rattle.nt_event.specs.declared.events.What.{What}
use Rattle.nt_event.specs.declared.events.What.TheVariants.{Begin, Call, Flush}
use Rattle.nt_event.specs.Fate.{ApcThing, BegunBy, DpcThing, Fate, FlushedBy, RemovedBy, StillWaits, Thing, fate_by, fate_of, first_fate, still_waits, uses_up}
use Rattle.nt_print.specs.Uses.{named_by, names_it, removed_by, removes_it}

-- or with false on the right changes no flag
or_false : (b : Bool) → (b || false) ≡ b
or_false true = refl
or_false false = refl

-- an event uses up an insert by its number, or by its thing
uses_split : (thing : Thing) (n : ℕ) (w : What) → uses_up thing n w ≡ (names_it (named_by w) thing n || removes_it (removed_by w) thing)
uses_split (DpcThing d) n (Begin (Dpc x) from) = sym (or_false ((x.0 == d.0) && (from == n)))
uses_split (DpcThing d) n (Begin (Threaded x) from) = sym (or_false ((x.0 == d.0) && (from == n)))
uses_split (DpcThing d) n (Call f (Unqueue x) Yes) = refl
uses_split (ApcThing a) n (Begin (Apc x) from) = sym (or_false ((x.0 == a.0) && (from == n)))
uses_split (ApcThing a) n (Flush x from) = sym (or_false ((x.0 == a.0) && (from == n)))
uses_split (ApcThing a) n (Call f (RemoveApc x) Yes) = refl
uses_split (DpcThing d) n (Call f (RemoveApc x) Yes) = refl
uses_split (ApcThing a) n (Call f (Unqueue x) Yes) = refl
uses_split (DpcThing d) n w = refl
uses_split (ApcThing a) n w = refl

-- the fate that an event gives to an insert is never that it still waits
comes : (w : What) (m : ℕ) → still_waits (fate_by w m) ≡ false
comes (Begin b from) m = refl
comes (Flush a from) m = refl
comes w m = refl

-- of two fates neither has come
both_wait : (f : Fate) (used : Bool) (w : What) (m : ℕ) → still_waits (first_fate f (if used then fate_by w m else StillWaits))
    ≡ (still_waits f && not used)
both_wait StillWaits true w m = comes w m
both_wait StillWaits false w m = refl
both_wait (BegunBy k) used w m = refl
both_wait (RemovedBy k) used w m = refl
both_wait (FlushedBy k) used w m = refl

-- an insert waits behind one event more, where that doesn't use it up
pub one_later : (thing : Thing) (n : ℕ) (e : Event) (past : List Event) → n < length past → still_waits (fate_of thing n (e ∷ past))
    ≡ (still_waits (fate_of thing n past) && not (names_it (named_by e.what) thing n || removes_it (removed_by e.what) thing))
one_later thing n e past lt =
    let m : ℕ = length past in
    let waits : Bool = still_waits (fate_of thing n past) in
    both_wait (fate_of thing n past) (nat_lt n m && uses_up thing n e.what) e.what m
    ∙ ap (λ (b : Bool). waits && not (b && uses_up thing n e.what)) (lt-ltb n m lt)
    ∙ ap (λ (b : Bool). waits && not b) (uses_split thing n e.what)

-- up to its own event an insert waits
pub waits_at_first : (thing : Thing) (n : ℕ) (past : List Event) → length past ≤ n + 1 → still_waits (fate_of thing n past) ≡ true
waits_at_first thing n [] l = refl
waits_at_first thing n (e ∷ past) l =
    both_wait (fate_of thing n past) (nat_lt n (length past) && uses_up thing n e.what) e.what (length past)
    ∙ ap (λ (b : Bool). still_waits (fate_of thing n past) && not (b && uses_up thing n e.what)) (le-ltb n (length past) (omega (arith, l)))
    ∙ ap (λ (b : Bool). b && true) (waits_at_first thing n past (omega (arith, l)))
