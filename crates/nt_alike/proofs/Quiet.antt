-- Histories that are alike are quiet alike.
use Rattle.std.proofs.Common.{ap, arith, inl, inr, sym, ◌∙◌}
use Rattle.std.proofs.lemmas.Bool.{eq-eqb, eqb-true}
use Rattle.std.specs.List.{list_all}
use Rattle.std.specs.Prelude.{Bool, List, [], false, length, max, refl, suc, true, ℕ, ◌&&◌, ◌+◌, ◌<◌, ◌==◌, ◌∷◌, ◌≡◌, ◌≤◌, ◌⊎◌}
use Rattle.nt_event.specs.declared.events.Event.{Event}
use Rattle.nt_event.specs.declared.numbers.CpuNo.{CpuNo}
use Rattle.nt_event.specs.declared.scripts.Script.{Script}
use Rattle.nt_event.specs.Jobs.{is_still}
use Rattle.nt_event.specs.Lists.{value_at}
use Rattle.nt_event.specs.Numbers.{cpu}
use Rattle.nt_event.specs.Own.{own_of}
use Rattle.nt_event.specs.Requests.{asked, asks, seen}
use Rattle.nt_event.specs.Robin.{has_seen}
use Rattle.nt_event.specs.Step.{IsRun, was_asked}
use Rattle.nt_event.proofs.Tables.{get_or-table, table-same}
use Rattle.nt_runs.proofs.Robin.{asked_was}
use Rattle.nt_runs.proofs.Settled.{seen_below}
use Rattle.nt_alike.specs.Alike.{Alike, unnoticed, newer}
use Rattle.nt_alike.specs.Ends.{is_quiet}
use Rattle.nt_alike.specs.Free.{IsFreeRun}
use Rattle.nt_alike.proofs.Asked.{newer_none, newer_quiet, newer_strict}
use Rattle.nt_alike.proofs.Free.{run_free}
use Rattle.nt_alike.proofs.Tasks.{still_bare}

module _ (s : Script) (p : CpuNo) (c : ℕ) where
  none_newer : (past : List Event) → newer s p c (asked s p c past) past ≡ 0
  none_newer [] = refl
  none_newer (e ∷ past) = go (asks s p c e past) refl (none_newer past)
    where
      go : (a : Bool) → asks s p c e past ≡ a → newer s p c (asked s p c past) past ≡ 0 → newer s p c (asked s p c (e ∷ past)) (e ∷ past) ≡ 0
      go true k h = let v : asked s p c (e ∷ past) ≡ length past + 1 = rw k refl in newer_none s p c (asked s p c (e ∷ past)) (e ∷ past) (omega (arith, v))
      go false k h =
          let v : asked s p c (e ∷ past) ≡ asked s p c past = rw k refl in
          ap (λ (n : ℕ). newer s p c n (e ∷ past)) v ∙ newer_quiet s p c (asked s p c past) e past k ∙ h

  -- all is seen exactly where nothing stands above what was seen
  seen_all : (limit : ℕ) (past : List Event) → IsRun s limit past → (seen s p c past == asked s p c past) ≡ (unnoticed s p c 0 past == 0)
  seen_all limit past r = go (seen s p c past == asked s p c past) refl
    where
      zero : max (seen s p c past) 0 ≡ seen s p c past
      zero = omega arith

      go : (b : Bool) → (seen s p c past == asked s p c past) ≡ b → b ≡ (unnoticed s p c 0 past == 0)
      go true k =
          let e = eqb-true (seen s p c past) (asked s p c past) k in
          let n : unnoticed s p c 0 past ≡ 0 = ap (λ (v : ℕ). newer s p c v past) (zero ∙ e) ∙ none_newer past in
          sym (eq-eqb (unnoticed s p c 0 past) 0 n)
      go false k = at (unnoticed s p c 0 past == 0) refl (asked_was s p c past)
        where
          low : seen s p c past ≤ asked s p c past
          low = seen_below s limit p c past r

          differ : seen s p c past ≡ asked s p c past → ⊥
          differ e = clash (sym k ∙ eq-eqb (seen s p c past) (asked s p c past) e)
            where
              clash : false ≡ true → ⊥
              clash q = cc

          at : (d : Bool) → (unnoticed s p c 0 past == 0) ≡ d → (asked s p c past ≡ 0) ⊎ (was_asked s p c (asked s p c past) past ≡ true) → false ≡ d
          at false q w = refl
          at true q (inl z) = let l = low in absurd (differ (omega (arith, l, z)))
          at true q (inr w) =
              let l = low in
              let lt : seen s p c past < asked s p c past = below (seen s p c past) (asked s p c past) l differ in
              let f = newer_strict s p c (seen s p c past) (asked s p c past) past lt w in
              let e = ap (λ (v : ℕ). newer s p c v past) (sym zero) ∙ eqb-true (unnoticed s p c 0 past) 0 q in
              absurd (omega (arith, f, e))
            where
              below : (a b : ℕ) → a ≤ b → (a ≡ b → ⊥) → a < b
              below a b l d = grind (arith, l, d)

-- of two free runs that are alike, both are quiet or neither is
pub quiet_same : (s : Script) (h k : List Event) → IsFreeRun s h → IsFreeRun s k → Alike s h k → is_quiet s h ≡ is_quiet s k
quiet_same s h k rh rk al = ap (list_all (λ q. q)) (table-same {A = Bool} s.cpus _ _ (λ p l. one (cpu p)))
  where
    limit : ℕ
    limit = suc (max (length h) (length k))

    seen_there : (p : CpuNo) (c : ℕ) (past : List Event) → c < 16 → value_at (own_of s p past).seen c ≡ seen s p c past
    seen_there p c past l = get_or-table {A = ℕ} 16 c (λ c. seen s p c past) 0 l

    all_same : (p : CpuNo) → has_seen (own_of s p h) (λ c. asked s p c h) ≡ has_seen (own_of s p k) (λ c. asked s p c k)
    all_same p =
        ap (list_all (λ q. q)) (table-same {A = Bool} 16 (λ c. value_at (own_of s p h).seen c == asked s p c h)
        (λ c. value_at (own_of s p k).seen c == asked s p c k)
        (λ c l. ap (λ (n : ℕ). n == asked s p c h) (seen_there p c h l)
        ∙ seen_all s p c (suc (length h)) h (run_free s (suc (length h)) h (omega arith) rh)
        ∙ ap (λ (n : ℕ). n == 0) (al.asks p c)
        ∙ sym (seen_all s p c (suc (length k)) k (run_free s (suc (length k)) k (omega arith) rk))
        ∙ sym (ap (λ (n : ℕ). n == asked s p c k) (seen_there p c k l))))

    one : (p : CpuNo) → (is_still (own_of s p h) && has_seen (own_of s p h) (λ c. asked s p c h))
        ≡ (is_still (own_of s p k) && has_seen (own_of s p k) (λ c. asked s p c k))
    one p =
        let a = still_bare (own_of s p h) ∙ ap is_still (al.own p) ∙ sym (still_bare (own_of s p k)) in
        ap (λ (b : Bool). b && has_seen (own_of s p h) (λ c. asked s p c h)) a ∙ ap (λ (b : Bool). is_still (own_of s p k) && b) (all_same p)
