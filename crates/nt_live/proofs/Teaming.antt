-- A team of workers, as one more meets it.
use Rattle.std.proofs.Common.{ap, arith, refl, subst, sym, ◌∙◌}
use Rattle.std.proofs.lemmas.Bool.{ltb-false, ltb-true, ne_eqb}
use Rattle.std.proofs.lemmas.List.{get_or_append_left, get_or_at, length-append, map-append}
use Rattle.std.specs.Prelude.{Bool, List, [], false, get_or, length, map, nat_lt, suc, true, zero, ℕ, ◌++◌, ◌<◌, ◌∷◌, ◌≡◌, ◌≤◌}
use Rattle.nt_event.specs.declared.events.Event.{Event}
use Rattle.nt_event.specs.declared.numbers.CpuNo.{CpuNo}
use Rattle.nt_event.specs.declared.scripts.Script.{Script}
use Rattle.nt_event.specs.Numbers.{cpu}
use Rattle.nt_compose.specs.Parts.{Numbered, own_by}
use Rattle.nt_cpu.specs.States.{CpuState}
use Rattle.nt_mark.specs.declared.view.Entry.{Entry}
use Rattle.nt_mark.specs.declared.view.View.{View}
use Rattle.nt_mark.specs.Views.{both}
use Rattle.nt_live.proofs.Joining.{alone, joined, mine_else, mine_here, nothing_mine, with_mine}
use Rattle.nt_live.specs.Teams.{IsMember, IsTeam, pair_of_entry}
use Rattle.nt_live.specs.Workers.{IsAtWork, WorkerState, all_drawn, pairs_of}

-- a worker that has met, by the processor that it has
module _ (s : Script) (limit : ℕ) (c : CpuState) (u : View) (work : IsAtWork s limit (record { cpu = c; view = u })) (n : ℕ) (e : c.cpu ≡ cpu n) where
  number : c.cpu.0 ≡ n
  number = ap (λ (p : CpuNo). p.0) e

  itself : (cpus : List CpuState) (mine : CpuNo → List Numbered) → ((d : CpuState) → get_or cpus n d ≡ c) → mine c.cpu ≡ work.mine →
      IsMember s limit cpus mine n (record { cpu = c; view = u })
  itself cpus mine there is =
      let same : mine (cpu n) ≡ work.mine = ap mine (sym e) ∙ is in
      record {
        at = e;
        script = work.script;
        limit_is = work.limit_is;
        own = work.own ∙ (λ i. own_by s (e i) (sym same i));
        pairs = ap (λ (es : List Entry). map pair_of_entry es) work.entries ∙ (λ i. map pair_of_entry (all_drawn s (e i) (sym same i)));
        there = there;
      }

-- ---- one worker

module _ (s : Script) (limit : ℕ) (c : CpuState) (u : View) (work : IsAtWork s limit (record { cpu = c; view = u })) (e : c.cpu ≡ cpu 0) where
  its_mine : CpuNo → List Numbered
  its_mine = with_mine nothing_mine c.cpu work.mine

  none_later : (p : CpuNo) → 1 ≤ p.0 → its_mine p ≡ []
  unfolding its_mine
  none_later p l =
      let z = number s limit c u work 0 e in
      mine_else nothing_mine c.cpu work.mine p (ne_eqb p.0 c.cpu.0 (λ q. absurd (omega (arith, z, q, l))))

  -- the worker of processor zero alone is a team
  pub one_team : (list : List (ℕ × Event)) → list ≡ pairs_of u → IsTeam s limit (record { cpu = c; view = u } ∷ []) (c ∷ []) u list
  unfolding its_mine
  one_team list is = record {
    mine = its_mine;
    together = alone s limit u c.cpu work.mine work.inside work.made work.entries work.marks;
    later = λ p l. none_later p l;
    members = members;
    count = refl;
    list_is = is;
    parts = work.parts;
  }
    where
      members : (k : ℕ) (d : WorkerState) → k < 1 → IsMember s limit (c ∷ []) its_mine k (get_or (record { cpu = c; view = u } ∷ []) k d)
      members zero d l = itself s limit c u work 0 e (c ∷ []) its_mine (λ d. refl) (mine_here nothing_mine c.cpu work.mine)
      members (suc k) d l = absurd (omega (arith, l))

-- ---- one more

module _ (s : Script) (limit : ℕ) (met : List WorkerState) (cpus : List CpuState) (v : View) (list : List (ℕ × Event)) (t : IsTeam s limit met cpus v list)
    (c : CpuState) (u : View) (work : IsAtWork s limit (record { cpu = c; view = u })) (e : c.cpu ≡ cpu (length met)) where
  abbrev pub newcomer : WorkerState
  newcomer = record { cpu = c; view = u }

  now_mine : CpuNo → List Numbered
  now_mine = with_mine t.mine c.cpu work.mine

  is_next : c.cpu.0 ≡ length met
  is_next = number s limit c u work (length met) e

  old_mine : (p : CpuNo) (k : ℕ) → p.0 ≡ k → (k ≡ length met → ⊥) → now_mine p ≡ t.mine p
  unfolding now_mine
  old_mine p k is ne = mine_else t.mine c.cpu work.mine p (ne_eqb p.0 c.cpu.0 (λ q. ne (sym is ∙ (q ∙ is_next))))

  more_later : (p : CpuNo) → length (met ++ newcomer ∷ []) ≤ p.0 → now_mine p ≡ []
  more_later p l =
      let long = length-append met (newcomer ∷ []) in
      old_mine p p.0 refl (λ q. absurd (omega (arith, long, l, q))) ∙ t.later p (omega (arith, long, l))

  old_member : (k : ℕ) (x : WorkerState) → k < length met → IsMember s limit cpus t.mine k x → IsMember s limit (cpus ++ c ∷ []) now_mine k x
  old_member k x l m =
      let same : now_mine (cpu k) ≡ t.mine (cpu k) = old_mine (cpu k) k refl (λ q. absurd (omega (arith, l, q))) in
      let count = t.count in
      record {
        at = m.at;
        script = m.script;
        limit_is = m.limit_is;
        own = m.own ∙ ap (λ (ms : List Numbered). own_by s (cpu k) ms) (sym same);
        pairs = m.pairs ∙ ap (λ (ms : List Numbered). map pair_of_entry (all_drawn s (cpu k) ms)) (sym same);
        there = λ d. get_or_append_left cpus (c ∷ []) d k (omega (arith, l, count)) ∙ m.there d;
      }

  members : (k : ℕ) (d : WorkerState) → k < length (met ++ newcomer ∷ []) → IsMember s limit (cpus ++ c ∷ []) now_mine k (get_or (met ++ newcomer ∷ []) k d)
  unfolding now_mine
  members k d l = go (nat_lt k (length met)) refl
    where
      go : (b : Bool) → nat_lt k (length met) ≡ b → IsMember s limit (cpus ++ c ∷ []) now_mine k (get_or (met ++ newcomer ∷ []) k d)
      go true q =
          let i = ltb-true k (length met) q in
          subst (λ (x : WorkerState). IsMember s limit (cpus ++ c ∷ []) now_mine k x) (sym (get_or_append_left met (newcomer ∷ []) d k i))
          (old_member k (get_or met k d) i (t.members k d i))
      go false q =
          let i = ltb-false k (length met) q in
          let long = length-append met (newcomer ∷ []) in
          let same : length met ≡ k = omega (arith, i, long, l) in
          let count = t.count in
          subst (λ (x : WorkerState). IsMember s limit (cpus ++ c ∷ []) now_mine k x) (sym (get_or_at met newcomer [] d k same))
          (itself s limit c u work k (e ∙ ap (λ (n : ℕ). cpu n) same) (cpus ++ c ∷ []) now_mine (λ d. get_or_at cpus c [] d k (omega (arith, count, same)))
          (mine_here t.mine c.cpu work.mine))

  -- a team that the worker of the next processor meets is a team with it
  pub team_joined : IsTeam s limit (met ++ newcomer ∷ []) (cpus ++ c ∷ []) (both v u) (list ++ pairs_of u)
  unfolding now_mine
  team_joined = record {
    mine = now_mine;
    together =
        joined s limit v u t.mine c.cpu work.mine (t.later c.cpu (let z = is_next in omega (arith, z))) t.together work.inside work.made
        work.entries work.marks;
    later = λ p l. more_later p l;
    members = λ k d l. members k d l;
    count = (let count = t.count in let a = length-append cpus (c ∷ []) in let b = length-append met (newcomer ∷ []) in omega (arith, count, a, b));
    list_is = ap (λ (xs : List (ℕ × Event)). xs ++ pairs_of u) t.list_is ∙ sym (map-append pair_of_entry v.entries u.entries);
    parts = (let a = t.parts in let b = work.parts in let c = length-append met (newcomer ∷ []) in omega (arith, a, b, c));
  }
