use Rattle.std.proofs.Common.{◌∙◌, ◌<◌, ◌≡◌, ◌++◌, ◌∷◌, [], List, ap, arith, length, map, reverse, rules, sym, take, ℕ, ◌+◌}
use Rattle.std.proofs.lemmas.List.{length-map, length_push}
use Rattle.nt_event.specs.declared.events.Event.{Event}
use Rattle.nt_event.specs.Fate.{Inserted, waiting_inserts}
use Rattle.nt_history.proofs.Lists.{as_many}
use Rattle.nt_work.specs.declared.change.Change.{Change}
use Rattle.nt_work.specs.declared.change.Insert.{Insert}
use Rattle.nt_work.specs.Audits.{lent, waitings}
use Rattle.nt_work.specs.Changes.{after_change, change_at, inserted_of}
use Rattle.nt_work.proofs.Walks.{waiting_more, waitings_more}
use Rattle.nt_work.proofs.waiting.waiting_counts.Goals as goal

pub loop-number-preserved : goal.loop-number-preserved
loop-number-preserved c =
    let events : List Event = lent c.args.events.now in
    let k : ℕ = c.loop-number.number in
    let before = c.loop-number.invariant in
    let many = as_many c.args.events.now.briefs.now c.args.events.now.rises.now in
    let lt : k < length events = omega (arith, c.loop-number-test.true, many) in
    let past : List Event = reverse (take k events) in
    let pending : List Insert = c.loop-number.pending.items in
    let len : c.len.result ≡ length pending = search rules in
    let here : c.len.result ≡ length (waiting_inserts past) =
    len ∙ sym (length-map pending inserted_of) ∙ ap (λ (xs : List Inserted). length xs) before.pending in
    record {
      counts =
          c.push_reserved.ensures.items ∙ ap (λ (xs : List ℕ). xs ++ c.len.result ∷ []) before.counts
          ∙ ap (λ (m : ℕ). waitings past ++ m ∷ []) here ∙ waitings_more events k lt;
      pending =
          c.in_ok-note.ensures.noted ∙ ap (λ (ch : Change). after_change ch k (map inserted_of pending)) c.change_at.ensures
          ∙ ap (after_change (change_at events k) k) before.pending ∙ sym (waiting_more events k lt);
      rise = c.in_ok-note.ensures.rise;
      few = omega (arith, c.note.ensures.more, before.few);
      many =
          ap (λ (xs : List ℕ). length xs) c.push_reserved.ensures.items ∙ length_push c.loop-number.counts.items c.len.result
          ∙ ap (λ (m : ℕ). m + 1) before.many;
      room = omega (arith, before.room, c.push_reserved.ensures.capacity);
      within = omega (arith, c.loop-number-test.true);
    }
