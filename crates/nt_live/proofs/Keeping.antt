-- What stands in a worker between its turns, and what turns one after another are together.
use Rattle.std.proofs.Common.{ap, append-nil, append_assoc, arith, inl, inr, subst, sym, ⊎_elim, ◌∙◌}
use Rattle.std.proofs.lemmas.List.{length-map}
use Rattle.std.specs.Prelude.{Err, IfOk, List, Ok, Option, Result, Some, [], length, refl, true, ℕ, ◌++◌, ◌<◌, ◌≡◌}
use Rattle.std.specs.declared.alloc.AllocError.{AllocError}
use Rattle.atomic_table.specs.Seated.{TableId}
use Rattle.nt_cpu.specs.States.{CpuState}
use Rattle.nt_event.specs.declared.events.Event.{Event}
use Rattle.nt_event.specs.declared.scripts.Script.{Script}
use Rattle.nt_event.specs.Jobs.{is_still}
use Rattle.nt_event.specs.Step.{is_cut}
use Rattle.nt_mark.specs.declared.seats.Pass.{Pass}
use Rattle.nt_mark.specs.declared.view.Entry.{Entry}
use Rattle.nt_mark.specs.declared.view.Look.{Look}
use Rattle.nt_mark.specs.Names.{pass_view}
use Rattle.nt_live.proofs.Turning.{entries_made}
use Rattle.nt_live.specs.declared.worker.Outcome.{Outcome}
use Rattle.nt_live.specs.declared.worker.Outcome.TheVariants.{Did, Stopped}
use Rattle.nt_live.specs.Turning.{IsAdvanced, IsDoneWhere, IsSeated, IsTakenApart}
use Rattle.nt_live.specs.Workers.{GoesOnFrom, HasWorked, IsWorker, LookedLast, WorkerState, pairs_of, view_in}

-- passes that are equal as options are the same pass
same_pass : {p q : Pass} → Some p ≡ Some q → p ≡ q
same_pass h = cc

-- the pass that stands there is that of its processor
pub seated_of : (table : TableId) (s : Script) (limit : ℕ) (c : CpuState) (pass : Option Pass) (list : List (ℕ × Event)) (p : Pass) →
    IsWorker table s limit c pass list → pass ≡ Some p → IsSeated table s limit c p
seated_of table s limit c pass list p w e =
    subst (λ (x : Pass). IsSeated table s limit c x) (same_pass (sym w.pass_is ∙ e))
    (record { at = w.at; listed = w.listed; work = w.work; knows = w.knows })

-- the list that stands in a worker is the pairs of number and event of its pass
listed_of : (table : TableId) (s : Script) (limit : ℕ) (c : CpuState) (pass : Option Pass) (list : List (ℕ × Event)) (p : Pass) →
    IsWorker table s limit c pass list → pass ≡ Some p → list ≡ pairs_of (pass_view p)
listed_of table s limit c pass list p w e =
    subst (λ (x : Pass). list ≡ pairs_of (pass_view x)) (same_pass (sym w.pass_is ∙ e)) w.list_is

-- where it made fewer events than it may, its list has room for one more
pub has_room : (table : TableId) (s : Script) (limit : ℕ) (c : CpuState) (pass : Option Pass) (list : List (ℕ × Event)) (room : ℕ) →
    IsWorker table s limit c pass list → room ≡ limit → c.own.made < limit → length list < room
has_room table s limit c pass list room w e l =
    let v = pass_view w.here in
    let a = ap length w.list_is in
    let b : length (pairs_of v) ≡ length v.entries = length-map v.entries (λ (x : Entry). (x.number, x.event)) in
    let d = entries_made s limit c v w.work in
    omega (arith, a, b, d, e, l)

-- the parts of a worker
pub taken_apart : (table : TableId) (s : Script) (limit : ℕ) (w : WorkerState) (c : CpuState) (pass : Option Pass) (list : List (ℕ × Event)) (p : Pass) →
    IsWorker table s limit c pass list → pass ≡ Some p → record { cpu = c; view = view_in pass } ≡ w → IsTakenApart table s limit w c p list
taken_apart table s limit w c pass list p k e v = record {
  state = sym v ∙ ap (λ (o : Option Pass). record { cpu = c; view = view_in o }) e;
  seated = seated_of table s limit c pass list p k e;
  list_is = listed_of table s limit c pass list p k e;
}

-- after an advance, with the list that it leaves, the worker stands again
pub worker_again : (table : TableId) (s : Script) (limit : ℕ) (c d : CpuState) (pass : Option Pass) (list new : List (ℕ × Event)) (p q : Pass)
    (made : List (ℕ × Event)) (outcome : Result Outcome AllocError) → IsWorker table s limit c pass list → pass ≡ Some p →
    IsAdvanced table s limit c d p q made outcome → new ≡ list ++ made → IsWorker table s limit d (Some q) new
worker_again table s limit c d pass list new p q made outcome w e a n = record {
  here = q;
  pass_is = refl;
  at = a.seated.at;
  listed = a.seated.listed;
  list_is = n ∙ (ap (λ (xs : List (ℕ × Event)). xs ++ made) (listed_of table s limit c pass list p w e) ∙ sym a.list);
  work = a.seated.work;
  knows = a.seated.knows;
}

-- if a turn that stopped says that the work is done, so does what the turn came to
pub done_where : (r : Result Outcome AllocError) (old new : WorkerState) → IsDoneWhere r old new → IfOk r (λ t. t ≡ Stopped → HasWorked old new)
done_where (Ok Stopped) old new h = λ e. h
done_where (Ok Did) old new h = λ e. absurd cc
done_where (Err x) old new h = _

-- ---- turns one after another

-- a worker that did nothing goes on from itself
pub goes_same : (w : WorkerState) → GoesOnFrom w w
goes_same w = record {
  script = refl;
  cpu = refl;
  limit = refl;
  parts = refl;
  entries = [];
  entries_are = sym (append-nil w.view.entries);
  looks = [];
  looks_are = sym (append-nil w.view.looks);
}

-- a worker that goes on twice in a row goes on from the first state to the last
pub goes_through : (u v w : WorkerState) → GoesOnFrom u v → GoesOnFrom v w → GoesOnFrom u w
goes_through u v w g h = record {
  script = h.script ∙ g.script;
  cpu = h.cpu ∙ g.cpu;
  limit = h.limit ∙ g.limit;
  parts = h.parts ∙ g.parts;
  entries = g.entries ++ h.entries;
  entries_are = h.entries_are ∙ (ap (λ (es : List Entry). es ++ h.entries) g.entries_are ∙ append_assoc u.view.entries g.entries h.entries);
  looks = g.looks ++ h.looks;
  looks_are = h.looks_are ∙ (ap (λ (ls : List Look). ls ++ h.looks) g.looks_are ∙ append_assoc u.view.looks g.looks h.looks);
}

-- what was looked last stays so, whatever came before
pub worked_later : (u v w : WorkerState) → GoesOnFrom u v → HasWorked v w → HasWorked u w
worked_later u v w g h =
    ⊎_elim (λ (c : is_cut w.cpu.limit w.cpu.own ≡ true). inl c)
    (λ (r : (is_still w.cpu.own ≡ true) × LookedLast v w). inr (r.0, later r.1)) h
  where
    later : LookedLast v w → LookedLast u w
    later l = (
      g.looks ++ l.0,
      l.1,
      l.2 ∙ (ap (λ (ls : List Look). ls ++ (l.0 ++ l.1)) g.looks_are ∙ (append_assoc u.view.looks g.looks (l.0 ++ l.1)
          ∙ ap (λ (ls : List Look). u.view.looks ++ ls) (sym (append_assoc g.looks l.0 l.1)))),
      l.3,
    )
