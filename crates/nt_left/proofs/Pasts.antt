-- The first events of a list of them.
use Rattle.std.proofs.Common.{ap, ◌∙◌}
use Rattle.std.proofs.lemmas.List.{length-reverse, length-take-le, reverse-append, take_more}
use Rattle.std.proofs.lemmas.Option.{get_or_from_slice_get, slice_get_within}
use Rattle.std.proofs.Math.Seq.{take-length}
use Rattle.std.specs.Prelude.{List, Some, [], length, reverse, slice_get, take, ℕ, ◌++◌, ◌+◌, ◌<◌, ◌∷◌, ◌≡◌, ◌≤◌}
use Rattle.nt_event.specs.declared.events.Event.{Event}
use Rattle.nt_left.specs.Walks.{past_at}

-- one more of them
pub past_more : (events : List Event) (n : ℕ) (e : Event) → slice_get events n ≡ Some e → past_at (n + 1) events ≡ e ∷ past_at n events
past_more events n e h =
    let b : n < length events = slice_get_within events n e h in
    ap reverse (take_more events n e b ∙ ap (λ (x : Event). take n events ++ x ∷ []) (get_or_from_slice_get events n e e h))
    ∙ reverse-append (take n events) (e ∷ [])

-- all of them
pub past_whole : (events : List Event) (n : ℕ) → n ≡ length events → past_at n events ≡ reverse events
past_whole events n h = ap (λ (k : ℕ). past_at k events) h ∙ ap reverse (take-length events)

-- so many
pub past_length : (events : List Event) (n : ℕ) → n ≤ length events → length (past_at n events) ≡ n
past_length events n h = length-reverse (take n events) ∙ length-take-le n events h
