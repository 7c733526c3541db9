-- Workers that go on, round after round.
use Rattle.std.proofs.Common.{ap, append-nil, arith, refl, subst, ◌∙◌}
use Rattle.std.proofs.lemmas.List.{drop_all, get_or_default, take_all}
use Rattle.std.specs.Prelude.{List, drop, get_or, length, take, ℕ, ◌++◌, ◌<◌, ◌≡◌}
use Rattle.nt_event.specs.declared.scripts.Script.{Script}
use Rattle.nt_live.proofs.Keeping.{goes_same, goes_through}
use Rattle.nt_live.specs.Prepared.{AreOpened}
use Rattle.nt_live.specs.Rounds.{GoOn}
use Rattle.nt_live.specs.Teams.{AreOneEach}
use Rattle.nt_live.specs.Workers.{GoesOnFrom, WorkerState}

-- workers that do nothing go on from themselves
pub go_same : (ws : List WorkerState) → GoOn ws ws
go_same ws = record {
  count = refl;
  each = λ k d e l. subst (λ (w : WorkerState). GoesOnFrom (get_or ws k d) w) (get_or_default ws k d e l) (goes_same (get_or ws k d));
}

-- workers that go on twice in a row go on from the first to the last
pub go_through : (us vs ws : List WorkerState) → GoOn us vs → GoOn vs ws → GoOn us ws
go_through us vs ws g h =
    let count = g.count in
    record {
      count = h.count ∙ g.count;
      each = λ k d e l. goes_through (get_or us k d) (get_or vs k d) (get_or ws k e) (g.each k d d l) (h.each k d e (omega (arith, l, count)));
    }

-- they stay one for each processor, in order
pub still_one_each : (s : Script) (limit : ℕ) (ws vs : List WorkerState) → AreOpened s limit ws → GoOn ws vs → AreOneEach s vs
still_one_each s limit ws vs o g =
    let old = o.count in
    let new = g.count in
    record {
      count = new ∙ old;
      order = λ k d l.
          let b : k < length ws = omega (arith, l, new) in
          (g.each k d d b).cpu ∙ ap (λ (w : WorkerState). w.cpu.cpu) (o.each k d (omega (arith, b, old)));
    }

-- what a slice of a whole list writes back is the list
pub written_back : {A : Type 0} (n : ℕ) (new old : List A) → length new ≡ length old → n ≡ length old → take n (new ++ drop (length new) old) ≡ new
written_back {A} n new old same long =
    ap (λ (xs : List A). take n (new ++ xs)) (drop_all (length new) old (omega (arith, same)))
    ∙ (ap (λ (xs : List A). take n xs) (append-nil new) ∙ take_all n new (omega (arith, same, long)))
