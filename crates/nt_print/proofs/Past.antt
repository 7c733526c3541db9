-- The events up to one more.
use Rattle.std.proofs.Common.{◌≡◌, ◌∙◌, ℕ, ◌+◌, ◌<◌, ◌≤◌, List, [], ◌∷◌, length, get_or, take, reverse, None, sym, ap}
use Rattle.std.proofs.lemmas.List.{get_or-map, length-reverse, length-take-le, reverse-append, take_more}
use Rattle.nt_event.specs.declared.events.Event.{Event}
use Rattle.nt_event.specs.Fate.{inserted_thing}
use Rattle.nt_print.specs.Uses.{inserted_at}

-- the events up to one more are, newest first, that event and the events up to it
pub past_more : (events : List Event) (k : ℕ) (e : Event) → k < length events → e ≡ get_or events k e → reverse (take (k + 1) events)
    ≡ e ∷ reverse (take k events)
past_more events k e lt is =
    ap reverse (take_more events k e lt) ∙ reverse-append (take k events) (get_or events k e ∷ []) ∙ ap (λ (x : Event). x ∷ reverse (take k events)) (sym is)

-- the events up to a place are as many as the number of the place
pub past_length : (events : List Event) (k : ℕ) → k ≤ length events → length (reverse (take k events)) ≡ k
past_length events k le = length-reverse (take k events) ∙ length-take-le k events le

-- what an event inserts stands in the list of what each inserts
pub inserted_read : (events : List Event) (k : ℕ) (e : Event) → k < length events → e ≡ get_or events k e → inserted_thing e.what ≡ inserted_at events k
inserted_read events k e lt is =
    ap (λ (x : Event). inserted_thing x.what) is ∙ sym (get_or-map (λ (x : Event). inserted_thing x.what) events k e None lt)
