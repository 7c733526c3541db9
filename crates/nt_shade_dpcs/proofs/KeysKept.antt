-- The keys of a shade stay those of the timers, where one key is set anew, one is taken out, or none changes.
use Rattle.std.proofs.Common.{ap, arith, cond, sym, ◌∙◌}
use Rattle.std.specs.Prelude.{Bool, List, None, Some, false, refl, suc, true, ℕ, ◌<◌, ◌≡◌}
use Rattle.nt_event.specs.declared.commands.TimerKey.{TimerKey}
use Rattle.nt_event.specs.declared.scripts.Script.{Script}
use Rattle.nt_event.specs.Fitting.{key_fits}
use Rattle.nt_event.specs.Timers.{SetKey, Timers}
use Rattle.nt_timer.specs.Settings.{setting_at}
use Rattle.nt_alike.specs.Lists.{Each}
use Rattle.nt_shade_dpcs.specs.declared.timers.ShadeKey.{ShadeKey}
use Rattle.nt_shade_dpcs.specs.Keys.{placed, same_key, set_anew, unset}
use Rattle.nt_shade_dpcs.specs.Timers.{AreSetKeys, setting_among, shade_key}
use Rattle.nt_shade_dpcs.proofs.KeyLists.{each_as, in_each, in_found, in_order, in_others, out_each, out_gone, out_order, out_others, put_in, same_is}
use Rattle.nt_shade_dpcs.proofs.KeyLists.{shade_in, shade_out, taken_out}

-- set keys with numbers below a bound have numbers below the next bound
later : (n : ℕ) (xs : List SetKey) → Each (λ y. y.setting.number < n) xs → Each (λ y. y.setting.number < suc n) xs
later n xs h = each_as (λ (y : SetKey) (k : y.setting.number < n). omega (arith, k)) xs h

module _ (s : Script) (n : ℕ) (x y : Timers) (keys : List ShadeKey) (are : AreSetKeys s n x keys) where
  -- no key changes
  pub keys_stay : ((j : TimerKey) → key_fits s j ≡ true → setting_at j y ≡ setting_at j x) → AreSetKeys s (suc n) y keys
  keys_stay h = record {
    numbered = are.numbered;
    same = are.same;
    set = λ j f. are.set j f ∙ sym (h j f);
    order = are.order;
    older = later n are.numbered are.older;
  }

  -- the key is not set any more
  pub key_out : (k : TimerKey) → ((j : TimerKey) → key_fits s j ≡ true → setting_at j y ≡ cond (same_key k j) None (setting_at j x)) →
      AreSetKeys s (suc n) y (unset k keys)
  key_out k h = record {
    numbered = taken_out k are.numbered;
    same = ap (unset k) are.same ∙ shade_out k are.numbered;
    set = λ j f. go j f (same_key k j) refl ∙ sym (h j f);
    order = out_order k are.numbered are.order;
    older = later n (taken_out k are.numbered) (out_each (λ (z : SetKey). z.setting.number < n) k are.numbered are.older);
  }
    where
      go : (j : TimerKey) → key_fits s j ≡ true → (b : Bool) → same_key k j ≡ b →
          setting_among j (taken_out k are.numbered) ≡ cond (same_key k j) None (setting_at j x)
      go j f true e = rw (e, sym (same_is k j e)) (out_gone k are.numbered)
      go j f false e = rw e (out_others k j are.numbered e ∙ are.set j f)

  -- the key is set anew, by the event of number n
  pub key_in : (v : SetKey) → v.setting.number ≡ n →
      ((j : TimerKey) → key_fits s j ≡ true → setting_at j y ≡ cond (same_key v.key j) (Some v.setting) (setting_at j x)) →
      AreSetKeys s (suc n) y (set_anew (shade_key v) keys)
  key_in v m h =
      let out : List SetKey = taken_out v.key are.numbered in
      record {
        numbered = put_in v out;
        same = ap (λ (ks : List ShadeKey). placed (λ (z : ShadeKey). z.due) (shade_key v) ks) (ap (unset v.key) are.same ∙ shade_out v.key are.numbered)
            ∙ shade_in v out;
        set = λ j f. go j f (same_key v.key j) refl ∙ sym (h j f);
        order =
            in_order v out (each_as (λ (z : SetKey) (l : z.setting.number < n). omega (arith, l, m)) out
            (out_each (λ (z : SetKey). z.setting.number < n) v.key are.numbered are.older))
            (out_order v.key are.numbered are.order);
        older =
            in_each (λ (z : SetKey). z.setting.number < suc n) v out (omega (arith, m))
            (later n out (out_each (λ (z : SetKey). z.setting.number < n) v.key are.numbered are.older));
      }
    where
      go : (j : TimerKey) → key_fits s j ≡ true → (b : Bool) → same_key v.key j ≡ b →
          setting_among j (put_in v (taken_out v.key are.numbered)) ≡ cond (same_key v.key j) (Some v.setting) (setting_at j x)
      go j f true e =
          rw (e, sym (same_is v.key j e)) (in_found v (taken_out v.key are.numbered) (out_gone v.key are.numbered))
      go j f false e =
          rw e (in_others v j (taken_out v.key are.numbered) e ∙ out_others v.key j are.numbered e ∙ are.set j f)
