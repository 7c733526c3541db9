use Rattle.std.proofs.Common.{◌∙◌, ◌≡◌, ◌++◌, List, ap, arith, drop, length, map, sym, take, ℕ}
use Rattle.nt_work.specs.declared.item.Audited.{Audited}
use Rattle.nt_work.specs.Audits.{reported}
use Rattle.nt_work.specs.Workers.{told_by}
use Rattle.nt_work.proofs.Workers.{all_found, told_length, written_back}
use Rattle.nt_work.proofs.auditing.found.Goals as goal

pub returns : goal.returns
returns g c =
    let counts : List ℕ = c.args.desk.now.counts.now in
    let items = c.args.desk.now.items.now in
    let fresh = c.in_ok-told.told in
    let ok = fresh.ok in
    let long : fresh.len ≡ length fresh.items = omega (arith, ok) in
    let by_workers : List ℕ = c.met.new.told in
    let by_all : List ℕ = c.tell.new.told in
    let done : List Audited = c.take_all.new.self.done.items in
    let h = c.in_ok-pass.ensures in
    let made = c.in_ok-told.ensures.len in
    let start : length fresh.items ≡ length counts = omega (arith, made, long) in
    let back : take fresh.len (by_workers ++ drop (length by_workers) fresh.items) ≡ by_workers =
    written_back fresh.len by_workers fresh.items (h.many ∙ sym start) long in
    let is : by_all ≡ told_by by_workers done =
    c.in_ok-tell.ensures.told ∙ ap (λ (t : List ℕ). told_by t done) (c.as_mut_slice-2.ensures.value ∙ back) in
    let same : length by_all ≡ length by_workers = ap (λ (t : List ℕ). length t) is ∙ told_length by_workers done in
    let last : length (take fresh.len (by_workers ++ drop (length by_workers) fresh.items)) ≡ length by_workers = ap (λ (t : List ℕ). length t) back in
    ap (λ (t : List ℕ). map (reported t) items)
    (written_back fresh.len by_all (take fresh.len (by_workers ++ drop (length by_workers) fresh.items)) (same ∙ sym last)
    (long ∙ start ∙ sym h.many ∙ sym last))
    ∙ all_found c.args.desk.now.queue.now counts items c.args.desk.now.workers by_workers by_all c.in_ok-pass.pass c.in_ok-last.last c.take_all.new.self
    c.requires.workers h c.in_ok-last.ensures.pass c.in_ok-take_all.ensures.works c.in_ok-take_all.ensures.none is
