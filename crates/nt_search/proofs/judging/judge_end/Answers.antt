use Rattle.std.proofs.Common.{Some, ap, arith, length, subst, sym, ◌+◌, ◌<◌, ◌∙◌, ◌≡◌}
use Rattle.std.proofs.lemmas.List.{length-set}
use Rattle.std.specs.List.{flat_map}
use Rattle.nt_event.specs.declared.scripts.Script.{Script}
use Rattle.nt_expect.specs.Meaning.{ShowsAtEnd}
use Rattle.nt_shows.specs.Tells.{AreCame, Tells}
use Rattle.nt_verdict.specs.Closed.{watched_by}
use Rattle.nt_search.proofs.Judged.{all_judged, flags_of, is_shown, is_silent, named_at, next_is, none_is, part_came, read_none, read_some, some_is, told_false}
use Rattle.nt_search.proofs.Judged.{told_true}
use Rattle.nt_search.proofs.Judged.{was_noted, within}
use Rattle.nt_search.proofs.Machines.{lanes_at_script}
use Rattle.nt_search.proofs.judging.judge_end.Goals.{else-is_none, then-is_none+else-shows_at_end, then-is_none+then-shows_at_end}
use Rattle.nt_search.proofs.judging.judge_end.Goals as goal

pub overflow_add-next : goal.overflow_add-next
overflow_add-next c =
    let xs = c.args.expectations.now in
    let x = c.index-expectations-index.result in
    let to : c.loop-index.place + c.watched_count.result ≡ c.loop-index.place + length (watched_by x) =
    ap (λ n. c.loop-index.place + n) c.watched_count.ensures in
    let low = within xs c.loop-index.index c.loop-index.place (c.loop-index.place + c.watched_count.result) x c.loop-index-test.true
    c.index-expectations-index.is c.loop-index.invariant.place to in
    let flags = c.requires.flags in
    omega (arith, low, flags)

pub slice_bounds-came-end : goal.slice_bounds-came-end
slice_bounds-came-end c =
    let xs = c.args.expectations.now in
    let x = c.index-expectations-index.result in
    let to : c.loop-index.place + c.watched_count.result ≡ c.loop-index.place + length (watched_by x) =
    ap (λ n. c.loop-index.place + n) c.watched_count.ensures in
    let low = within xs c.loop-index.index c.loop-index.place (c.loop-index.place + c.watched_count.result) x c.loop-index-test.true
    c.index-expectations-index.is c.loop-index.invariant.place to in
    let flags = c.requires.flags in
    let size = c.deref.ensures.len in
    omega (arith, low, flags, size)

pub returns-clause-judged : goal.returns-clause-judged
returns-clause-judged c s limit past h =
    all_judged (λ x. ShowsAtEnd s x past) c.args.failure c.args.expectations.now c.args.failures.now.items c.loop-index.failures.items
    c.loop-index.index (omega (arith, c.loop-index-test.false)) (c.loop-index.invariant.judged s limit past h)

pub loop-index-preserved : goal.loop-index-preserved
loop-index-preserved c =
    let xs = c.args.expectations.now in
    let x = c.index-expectations-index.result in
    let is = c.index-expectations-index.is in
    let f = c.args.failure in
    let old = c.args.failures.now.items in
    let now = c.loop-index.failures.items in
    let i = c.loop-index.index in
    let place = c.loop-index.place in
    let h = c.loop-index.invariant in
    let low = c.loop-index-test.true in
    let to : place + c.watched_count.result ≡ place + length (watched_by x) = ap (λ n. place + n) c.watched_count.ensures in
    let next = next_is xs i place (place + c.watched_count.result) x low is h.place to in
    let count = h.count in
    let room = c.requires.count in
    let within : i < length now = omega (arith, count, room, low) in
    let o = c.index.result.now in
    elim c.if-is_none.branch [
      | then-is_none+then-shows_at_end w ↦ rw w.failures-is (record {
        place = next;
        count = length-set now i (Some f) ∙ h.count;
        judged = λ s limit past before.
            let came_to = subst (AreCame (flat_map watched_by xs) past) (sym w.deref.ensures.value) before.came in
            let flags = flags_of xs i place (place + c.watched_count.result) x low is h.place to past w.deref.result.now came_to in
            let came = part_came x past _ place (place + c.watched_count.result) to flags in
            let shown =
            told_true (ShowsAtEnd s x past) _ w.if-shows_at_end.true
            (subst (λ (z : Script). Tells w.shows_at_end.result (ShowsAtEnd z x past)) before.script
            (w.shows_at_end.ensures past came (lanes_at_script s limit (flat_map watched_by xs) past c.args.machine.now before))) in
            is_shown (λ y. ShowsAtEnd s y past) f xs old now i (h.judged s limit past before) low x
            (read_none now i o c.index.ensures (none_is o c.is_none.result c.is_none.ensures w.if-is_none.true)) is shown within;
      })
      | then-is_none+else-shows_at_end w ↦ rw w.failures-is (record {
        place = next;
        count = h.count;
        judged = λ s limit past before.
            let came_to = subst (AreCame (flat_map watched_by xs) past) (sym w.deref.ensures.value) before.came in
            let flags = flags_of xs i place (place + c.watched_count.result) x low is h.place to past w.deref.result.now came_to in
            let came = part_came x past _ place (place + c.watched_count.result) to flags in
            let not =
            told_false (ShowsAtEnd s x past) _ w.if-shows_at_end.false
            (subst (λ (z : Script). Tells w.shows_at_end.result (ShowsAtEnd z x past)) before.script
            (w.shows_at_end.ensures past came (lanes_at_script s limit (flat_map watched_by xs) past c.args.machine.now before))) in
            is_silent (λ y. ShowsAtEnd s y past) f xs old now i (h.judged s limit past before) low x
            (read_none now i o c.index.ensures (none_is o c.is_none.result c.is_none.ensures w.if-is_none.true)) is not;
      })
      | else-is_none w ↦ rw w.failures-is (record {
        place = next;
        count = h.count;
        judged = λ s limit past before.
            let was = read_some now i o within c.index.ensures (some_is o c.is_none.result c.is_none.ensures w.if-is_none.false) in
            was_noted (λ y. ShowsAtEnd s y past) f xs old now i (h.judged s limit past before) low was.0 was.1;
      })
    ]

pub shows_at_end-requires-clause-named : goal.shows_at_end-requires-clause-named
shows_at_end-requires-clause-named c =
    named_at c.args.machine.now.script.now c.args.expectations.now c.loop-index.index c.index-expectations-index.result c.requires.fit c.loop-index-test.true
    c.index-expectations-index.is
