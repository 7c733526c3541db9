-- What holds of the threads of a script holds after each change of one.
use Rattle.std.proofs.Common.{◌≡◌, ◌∷◌, ◌<◌, ◌∙◌, [], Bool, IsTrue, List, None, Some, ap, arith, false, get_or, length, replicate, set, subst, suc, sym, true}
use Rattle.std.proofs.Common.{zero, ℕ, refl}
use Rattle.std.proofs.lemmas.Bool.{ltb-true}
use Rattle.nt_event.specs.declared.events.What.{What}
use Rattle.nt_event.specs.declared.jobs.Stand.{Stand}
use Rattle.nt_event.specs.declared.numbers.ApcNo.{ApcNo}
use Rattle.nt_event.specs.declared.numbers.ThreadNo.{ThreadNo}
use Rattle.nt_event.specs.declared.scripts.Script.{Script}
use Rattle.nt_event.specs.Apcs.{is_inserted}
use Rattle.nt_event.specs.Routines.{owner_of}
use Rattle.nt_event.specs.Script.{fits, has_apc, has_thread}
use Rattle.nt_event.specs.Threads.{ThreadFacts, start_facts}
use Rattle.nt_event.specs.Waits.{made_facts}
use Rattle.nt_states.specs.ThreadFits.{CanMake, CanTell, named_thread, told_facts}
use Rattle.nt_states.specs.ThreadLanes.{ThreadLanes, facts_in}
use Rattle.nt_thread_lanes.specs.Marks.{marks_after}
use Rattle.nt_thread_lanes.specs.Sound.{AreMarked, IsSound}
use Rattle.nt_thread_lanes.proofs.Marked.{marked_made, marked_start, marked_told}
use Rattle.nt_thread_lanes.proofs.Ours.{sound_made, sound_start, sound_told}

-- what holds of the states and the marks
pub record Holds (x : ThreadLanes) (marks : List Bool) : Type 0 where
  pub sound : IsSound x
  pub marked : AreMarked marks x

-- reading a list within its length does not depend on the default
at_default : {A : Type 0} (xs : List A) (i : ℕ) (d e : A) → i < length xs → get_or xs i d ≡ get_or xs i e
at_default [] i d e h = absurd (omega arith)
at_default (x ∷ xs) zero d e h = refl
at_default (x ∷ xs) (suc i) d e h = at_default xs i d e (omega arith)

-- a thread of the script has a place in the list of facts, if the states are sound
pub bound : (x y : ThreadLanes) (t : ThreadNo) → x ≡ y → IsSound x → IsTrue (has_thread y.script t) → t.0 < length x.facts
bound x y t e h named =
    let here : has_thread x.script t ≡ true = subst (λ (z : ThreadLanes). has_thread z.script t ≡ true) (sym e) named in
    let within : t.0 < length x.script.threads = ltb-true t.0 (length x.script.threads) here in
    omega (arith, h.threads)

-- the state that is changed is that of the thread
read : (x : ThreadLanes) (t : ThreadNo) (old : ThreadFacts) → t.0 < length x.facts → old ≡ get_or x.facts t.0 old → old ≡ facts_in x t
read x t old h e = e ∙ at_default x.facts t.0 old start_facts h

-- states and marks hold after the thread that makes an event gets the facts that the event leaves
pub holds_made : (x y : ThreadLanes) (t : ThreadNo) (n : ℕ) (st : Stand) (w : What) (old new : ThreadFacts) (marks after : List Bool) → x ≡ y → Holds x marks →
    IsTrue (has_thread y.script t) → named_thread y.script w ≡ None → CanMake st w (facts_in y t) → old ≡ get_or x.facts t.0 old → new
    ≡ made_facts x.script n st w old → after ≡ marks_after w marks → Holds (record x { facts = set x.facts t.0 new }) after
holds_made x y t n st w old new marks after e h named none may at left marked =
    let b : t.0 < length x.facts = bound x y t e h.sound named in
    let change : made_facts x.script n st w (facts_in x t) ≡ new = sym (left ∙ ap (made_facts x.script n st w) (read x t old b at)) in
    let no : named_thread x.script w ≡ None = subst (λ (z : ThreadLanes). named_thread z.script w ≡ None) (sym e) none in
    let can : CanMake st w (facts_in x t) = subst (λ (z : ThreadLanes). CanMake st w (facts_in z t)) (sym e) may in
    let whole : Holds (record x { facts = set x.facts t.0 (made_facts x.script n st w (facts_in x t)) })
    (marks_after w marks) = record { sound = sound_made x t n st w h.sound b; marked = marked_made x t n st w marks h.sound h.marked b no can } in
    subst (λ (z : ThreadFacts). Holds (record x { facts = set x.facts t.0 z }) after) change
    (subst (λ (m : List Bool). Holds (record x { facts = set x.facts t.0 (made_facts x.script n st w (facts_in x t)) }) m) (sym marked) whole)

-- states and marks hold after the thread that an event names gets the facts that the event leaves
pub holds_told : (x y : ThreadLanes) (t : ThreadNo) (n : ℕ) (w : What) (old new : ThreadFacts) (marks after : List Bool) → x ≡ y → Holds x marks →
    IsTrue (has_thread y.script t) → named_thread y.script w ≡ Some t → CanTell y.script w (facts_in y t) → old ≡ get_or x.facts t.0 old → new
    ≡ told_facts x.script n w old → after ≡ marks_after w marks → Holds (record x { facts = set x.facts t.0 new }) after
holds_told x y t n w old new marks after e h named by may at left marked =
    let b : t.0 < length x.facts = bound x y t e h.sound named in
    let change : told_facts x.script n w (facts_in x t) ≡ new = sym (left ∙ ap (told_facts x.script n w) (read x t old b at)) in
    let mine : named_thread x.script w ≡ Some t = subst (λ (z : ThreadLanes). named_thread z.script w ≡ Some t) (sym e) by in
    let can : CanTell x.script w (facts_in x t) = subst (λ (z : ThreadLanes). CanTell z.script w (facts_in z t)) (sym e) may in
    let whole : Holds (record x { facts = set x.facts t.0 (told_facts x.script n w (facts_in x t)) })
    (marks_after w marks) = record { sound = sound_told x t n w h.sound b mine can; marked = marked_told x t n w marks h.marked b mine } in
    subst (λ (z : ThreadFacts). Holds (record x { facts = set x.facts t.0 z }) after) change
    (subst (λ (m : List Bool). Holds (record x { facts = set x.facts t.0 (told_facts x.script n w (facts_in x t)) }) m) (sym marked) whole)

-- the start facts and empty marks of a script that fits hold
pub holds_start : (s : Script) (n k : ℕ) (xs : List ThreadFacts) (marks : List Bool) → IsTrue (fits s) → xs ≡ replicate n start_facts → n ≡ length s.threads →
    marks ≡ replicate k false → k ≡ length s.apcs → Holds (record { script = s; facts = xs }) marks
holds_start s n k xs marks f states count no_marks apcs =
    let whole : Holds (record { script = s; facts = replicate n start_facts })
    (replicate k false) = record { sound = sound_start s n f count; marked = marked_start s n k apcs } in
    subst (λ (ys : List ThreadFacts). Holds (record { script = s; facts = ys }) marks) (sym states)
    (subst (λ (m : List Bool). Holds (record { script = s; facts = replicate n start_facts }) m) (sym no_marks) whole)

-- the mark of an object tells whether it is inserted
pub mark_tells : (x y : ThreadLanes) (marks : List Bool) (a : ApcNo) (flag : Bool) → x ≡ y → AreMarked marks x → IsTrue (has_apc y.script a) → flag
    ≡ get_or marks a.0 flag → flag ≡ is_inserted a (facts_in y (owner_of y.script a)).apcs
mark_tells x y marks a flag e m named at =
    let here : has_apc x.script a ≡ true = subst (λ (z : ThreadLanes). has_apc z.script a ≡ true) (sym e) named in
    let within : a.0 < length x.script.apcs = ltb-true a.0 (length x.script.apcs) here in
    let bound : a.0 < length marks = omega (arith, m.count) in
    (at ∙ (at_default marks a.0 flag false bound ∙ m.each a here)) ∙ ap (λ (z : ThreadLanes). is_inserted a (facts_in z (owner_of z.script a)).apcs) e
