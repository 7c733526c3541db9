-- What is kept of the lanes says the same once it is cloned.
use Rattle.std.proofs.Common.{ap, subst, sym, ◌∙◌}
use Rattle.std.proofs.lemmas.List.Elements.{same_from_all_zip}
use Rattle.std.specs.List.{AllZip}
use Rattle.std.specs.Prelude.{List, None, Option, Some, [], length, map, refl, reverse, ◌∷◌, ◌≡◌}
use Rattle.nt_event.specs.declared.events.Event.{Event}
use Rattle.nt_event.specs.declared.numbers.CpuNo.{CpuNo}
use Rattle.nt_event.specs.declared.scripts.Script.{Script}
use Rattle.nt_event.specs.Lanes.{lanes_at}
use Rattle.nt_shade_dpcs.specs.contracts.locks.ShadeLockClone.TheImpl as lock_clone
use Rattle.nt_shade_dpcs.specs.contracts.queues.ShadeQueueClone.TheImpl as queue_clone
use Rattle.nt_shade_dpcs.specs.contracts.shade.ShadeDpcsClone.TheImpl as dpcs_clone
use Rattle.nt_shade_dpcs.specs.declared.locks.ShadeLock.{ShadeLock}
use Rattle.nt_shade_dpcs.specs.declared.queues.ShadeInsert.{ShadeInsert}
use Rattle.nt_shade_dpcs.specs.declared.queues.ShadeQueue.{ShadeQueue}
use Rattle.nt_shade_dpcs.specs.declared.shade.ShadeDpcs.{ShadeDpcs}
use Rattle.nt_shade_dpcs.specs.declared.timers.ShadeKey.{ShadeKey}
use Rattle.nt_shade_dpcs.specs.Shade.{IsShade}
use Rattle.nt_shade_dpcs.specs.Shades.{insert_said, lock_said, object_said, queue_said}
use Rattle.nt_shade_dpcs.specs.Timers.{AreSetKeys}

-- lists say the same, where each clone does
clones_say : {A B : Type 0} (R : A → A → Type 0) (said : A → B) → ((x y : A) → R x y → said y ≡ said x) → (xs ys : List A) → AllZip R xs ys →
    map said ys ≡ map said xs
clones_say R said say [] [] h = refl
clones_say R said say [] (y ∷ ys) h = absurd h
clones_say R said say (x ∷ xs) [] h = absurd h
clones_say R said say (x ∷ xs) (y ∷ ys) h =
    let first = say x y h.0 in
    let rest = clones_say R said say xs ys h.1 in
    λ i. first i ∷ rest i

-- the clone of a queue says the same
queue_cloned : (x y : ShadeQueue) → queue_clone.ghosts.is_clone x y → queue_said y ≡ queue_said x
queue_cloned x y h =
    let inserts : y.pending.items ≡ x.pending.items = same_from_all_zip _ x.pending.items y.pending.items h.0.0 (λ a b e. e) in
    let pending = ap (λ (xs : List ShadeInsert). map insert_said (reverse xs)) inserts in
    let idles : y.idle ≡ x.idle = h.1 in
    λ i. record { pending = pending i; idle = idles i }

-- whoever holds a lock holds its clone
holder_cloned : (x y : ShadeLock) (a b : Option CpuNo) → lock_clone.ghosts.is_clone (record x { holder = a }) (record y { holder = b }) → b ≡ a
holder_cloned x y None None h = refl
holder_cloned x y None (Some q) h = absurd h.0
holder_cloned x y (Some p) None h = absurd h.0
holder_cloned x y (Some p) (Some q) h = ap (λ z. Some z) h.0

-- the clone of a lock says the same
lock_cloned : (x y : ShadeLock) → lock_clone.ghosts.is_clone x y → lock_said y ≡ lock_said x
lock_cloned x y h =
    let holders = holder_cloned x y x.holder y.holder h in
    let spinners : y.spinners.items ≡ x.spinners.items = same_from_all_zip _ x.spinners.items y.spinners.items h.1.0 (λ a b e. e) in
    λ i. record { holder = holders i; spinners = spinners i }

-- a clone is of the same history
pub dpcs_cloned : (s : Script) (past : List Event) (x y : ShadeDpcs) → dpcs_clone.ghosts.is_clone x y → IsShade s past x → IsShade s past y
dpcs_cloned s past x y h is =
    let objects : y.objects.items ≡ x.objects.items = same_from_all_zip _ x.objects.items y.objects.items h.0.0 (λ a b e. e) in
    let times : y.timers.now ≡ x.timers.now = h.1.1.1.0 in
    let keys : y.timers.keys.items ≡ x.timers.keys.items = same_from_all_zip _ x.timers.keys.items y.timers.keys.items h.1.1.1.1.0 (λ a b e. e) in
    record {
      objects = ap (map object_said) objects ∙ is.objects;
      queues = clones_say _ queue_said queue_cloned x.queues.items y.queues.items h.1.0.0 ∙ is.queues;
      locks = clones_say _ lock_said lock_cloned x.locks.items y.locks.items h.1.1.0.0 ∙ is.locks;
      timers = record {
        time = times ∙ is.timers.time;
        keys = subst (λ (ks : List ShadeKey). AreSetKeys s (length past) (lanes_at s past).timers ks) (sym keys) is.timers.keys;
      };
    }
