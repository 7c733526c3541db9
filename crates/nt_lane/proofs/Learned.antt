-- What a pass knows of held lanes stays known where it only learns.
use Rattle.std.proofs.Common.{arith, subst, sym, ◌∙◌, ◌≡◌}
use Rattle.std.specs.Prelude.{IfSome, None, Option, Some}
use Rattle.nt_mark.specs.declared.view.View.{View}
use Rattle.nt_mark.specs.Rule.{IsLongest}
use Rattle.nt_mark.specs.Views.{request_word, step_word}
use Rattle.nt_lane.specs.Locks.{AreKnownBy, AreLongest, HeldLanes, IsKnownBy, Kept}
use Rattle.nt_lane_record.specs.Records.{LaneRecord}
use Rattle.nt_lane_record.specs.Passes.{Learns}
use Rattle.nt_lane.proofs.Retries.{learns_through}

-- what a pass knows of a lane's record stays known if the pass only learns
known_later : (r : LaneRecord) (v w : View) → Learns v w → IsKnownBy r v → IsKnownBy r w
known_later r v w l k = record {
  known = (let a = l.least step_word in let b = k.known in omega (arith, a, b));
  above = (let a = l.least step_word in let b = k.above in omega (arith, a, b));
  tells = λ p c. let t = k.tells p c in let a = l.least (request_word p c) in let b = l.least step_word in let x = t.0 in let y = t.1 in
      (omega (arith, a, x), omega (arith, b, y));
  knows = (let q = k.knows in (q.0, l.grows.prefixes q.0 q.1, q.2, q.3));
}

-- what a pass knows of an optional held lane stays known if the pass only learns
each_later : {A : Type 0} (o : Option (Kept A)) (v w : View) → Learns v w → IfSome o (λ k. IsKnownBy k.log v) → IfSome o (λ k. IsKnownBy k.log w)
each_later None v w l h = tt
each_later (Some k) v w l h = known_later k.log v w l h

-- the lanes that were met one after another
pub all_known : (h : HeldLanes) (a b c d e : View) → Learns a b → Learns b c → Learns c d → Learns d e → IfSome h.object (λ k. IsKnownBy k.log a) →
    IfSome h.queue (λ k. IsKnownBy k.log b) → IfSome h.group (λ k. IsKnownBy k.log c) → IfSome h.timers (λ k. IsKnownBy k.log d) →
    IfSome h.spin_lock (λ k. IsKnownBy k.log e) → AreKnownBy h e
all_known h a b c d e ab bc cd de object queue group timers spin_lock =
    let ce = learns_through c d e cd de in
    let be = learns_through b c e bc ce in
    record {
      object = each_later h.object a e (learns_through a b e ab be) object;
      queue = each_later h.queue b e be queue;
      group = each_later h.group c e ce group;
      timers = each_later h.timers d e de timers;
      spin_lock = spin_lock;
    }

-- the lanes that took in one after another what a pass knows, which stays as it is
pub all_longest : (h : HeldLanes) (a b c d e : View) → b ≡ a → c ≡ b → d ≡ c → e ≡ d → IfSome h.object (λ k. IsLongest k.log.lane k.log.notes a) →
    IfSome h.queue (λ k. IsLongest k.log.lane k.log.notes b) → IfSome h.group (λ k. IsLongest k.log.lane k.log.notes c) →
    IfSome h.timers (λ k. IsLongest k.log.lane k.log.notes d) → IfSome h.spin_lock (λ k. IsLongest k.log.lane k.log.notes e) → AreLongest h e
all_longest h a b c d e ab bc cd de object queue group timers spin_lock = record {
  object = subst (λ (v : View). IfSome h.object (λ k. IsLongest k.log.lane k.log.notes v)) (sym (de ∙ (cd ∙ (bc ∙ ab)))) object;
  queue = subst (λ (v : View). IfSome h.queue (λ k. IsLongest k.log.lane k.log.notes v)) (sym (de ∙ (cd ∙ bc))) queue;
  group = subst (λ (v : View). IfSome h.group (λ k. IsLongest k.log.lane k.log.notes v)) (sym (de ∙ cd)) group;
  timers = subst (λ (v : View). IfSome h.timers (λ k. IsLongest k.log.lane k.log.notes v)) (sym de) timers;
  spin_lock = spin_lock;
}
