-- What an event leaves of objects and queues, and which lanes it touches, but for numbers depends on no number.
use Rattle.std.proofs.Common.{ap, sym, ◌∙◌}
use Rattle.std.specs.Prelude.{Bool, List, None, Option, Some, [], false, if◌then◌else◌, map, not, option_map, refl, true, ℕ, ◌==◌, ◌∷◌, ◌≡◌}
use Rattle.nt_event.specs.declared.commands.Command.{Command}
use Rattle.nt_event.specs.declared.commands.Command.TheVariants.{Queue, Unqueue}
use Rattle.nt_event.specs.declared.commands.Importance.{Importance}
use Rattle.nt_event.specs.declared.commands.Reply.{Reply}
use Rattle.nt_event.specs.declared.events.Begun.TheVariants.{Apc, Dpc, Int, Threaded}
use Rattle.nt_event.specs.declared.events.What.{What}
use Rattle.nt_event.specs.declared.events.What.TheVariants.{Begin, Call, Fire}
use Rattle.nt_event.specs.declared.inserts.Insert.{Insert}
use Rattle.nt_event.specs.declared.inserts.Standing.{Standing}
use Rattle.nt_event.specs.declared.jobs.Lane.{Lane}
use Rattle.nt_event.specs.declared.jobs.Lane.TheVariants.{Object as ObjectLane}
use Rattle.nt_event.specs.declared.jobs.Stand.{Stand}
use Rattle.nt_event.specs.declared.numbers.CpuNo.{CpuNo}
use Rattle.nt_event.specs.declared.numbers.DpcNo.{DpcNo}
use Rattle.nt_event.specs.declared.scripts.Script.{Script}
use Rattle.nt_event.specs.Lanes.{Lanes, command_lanes, object_at, standing_lanes, what_lanes}
use Rattle.nt_event.specs.Objects.{ObjectState, importance_after, inserted_dpc, is_dpc, object_after, object_in, queue_for, standing_after, start_object}
use Rattle.nt_event.specs.Objects.{target_after, used_up_dpc}
use Rattle.nt_event.specs.Queues.{QueueState, add_insert, drop_insert, idle_after, is_of_dpc, is_queue, left_queue, new_insert, queue_after, without_dpc}
use Rattle.nt_event.specs.Replies.{is_refused}
use Rattle.nt_event.proofs.Written.{read_map}
use Rattle.nt_alike.specs.Bare.{bare_insert, bare_but_timers, bare_object, bare_queue, bare_stand, bare_standing, bare_what}
use Rattle.nt_alike.proofs.Mapped.{filter_map}

-- the importance that an event leaves a DPC does not depend on the event's numbers
importance_bare : (d : DpcNo) (w : What) (old : Importance) → importance_after d w old ≡ importance_after d (bare_what w) old
importance_bare d (Call f c y) old = refl
importance_bare d w old = refl

-- the target that an event leaves a DPC does not depend on the event's numbers
target_bare : (d : DpcNo) (w : What) (old : Option CpuNo) → target_after d w old ≡ target_after d (bare_what w) old
target_bare d (Call f c y) old = refl
target_bare d w old = refl

-- the DPC that an event inserts does not depend on the event's numbers
inserted_bare : (w : What) → inserted_dpc w ≡ inserted_dpc (bare_what w)
inserted_bare (Call f c y) = refl
inserted_bare w = refl

-- which DPC object's insert an event uses up does not depend on the event's numbers
pub used_up_bare : (w : What) → used_up_dpc w ≡ used_up_dpc (bare_what w)
used_up_bare (Call f c y) = refl
used_up_bare (Begin (Int level) from) = refl
used_up_bare (Begin (Dpc d) from) = refl
used_up_bare (Begin (Threaded d) from) = refl
used_up_bare (Begin (Apc a) from) = refl
used_up_bare w = refl

-- leaving out the number of what stands after an insert or a removal may be done before
standing_if : (a b : Bool) (n : ℕ) (q : CpuNo) (old : Option Standing) →
    option_map bare_standing (if a then Some (record { queue = q; number = n }) else (if b then None else old))
    ≡ (if a then Some (record { queue = q; number = 0 }) else (if b then None else option_map bare_standing old))
standing_if true b n q old = refl
standing_if false true n q old = refl
standing_if false false n q old = refl

-- what an event leaves of where a DPC stands, but for its number, depends on no number
standing_bare : (d : DpcNo) (n : ℕ) (by : CpuNo) (w : What) (target : Option CpuNo) (old : Option Standing) →
    option_map bare_standing (standing_after d n by w target old) ≡ standing_after d 0 by (bare_what w) target (option_map bare_standing old)
standing_bare d n by w target old =
    standing_if (is_dpc (inserted_dpc w) d) (is_dpc (used_up_dpc w) d) n (queue_for target by) old
    ∙ rw (inserted_bare w, used_up_bare w) refl

-- what an event leaves of a DPC object, but for numbers, depends on no number
pub object_bare : (d : DpcNo) (n : ℕ) (by : CpuNo) (w : What) (o : ObjectState) →
    bare_object (object_after d n by w o) ≡ object_after d 0 by (bare_what w) (bare_object o)
object_bare d n by w o =
    let i = importance_bare d w o.importance in
    let t = target_bare d w o.target in
    let k = standing_bare d n by w o.target o.standing in
    rw (i, t, k) refl

-- ---- queues

-- an object read from a list of objects without numbers is that object without its number
pub object_read : (xs : List ObjectState) (d : DpcNo) → object_in (map bare_object xs) d ≡ bare_object (object_in xs d)
object_read xs d = read_map bare_object xs d.0 start_object

-- dropping a DPC from a queue and leaving out the numbers may be done in either order
without_bare : (d : DpcNo) (xs : List Insert) → map bare_insert (without_dpc d xs) ≡ without_dpc d (map bare_insert xs)
without_bare d xs = sym (filter_map bare_insert (λ x. not (is_of_dpc d x)) (λ x. not (is_of_dpc d x)) (λ x. refl) xs)

-- adding an insert to a queue and leaving out the numbers may be done in either order
add_bare : (s : Script) (p : CpuNo) (n : ℕ) (by : CpuNo) (o : Option DpcNo) (objects : List ObjectState) (old : List Insert) →
    map bare_insert (add_insert s p n by o objects old) ≡ add_insert s p 0 by o (map bare_object objects) (map bare_insert old)
add_bare s p n by None objects old = refl
add_bare s p n by (Some d) objects old = rw (object_read objects d) (go ((queue_for (object_in objects d).target by).0 == p.0))
  where
    go : (b : Bool) → map bare_insert (if b then (new_insert s d n (object_in objects d) ∷ old) else old)
        ≡ (if b then (new_insert s d 0 (bare_object (object_in objects d)) ∷ map bare_insert old) else map bare_insert old)
    go true = refl
    go false = refl

-- the queue in which a DPC stands does not depend on the number of its insert
mapped_queue : (o : Option Standing) → option_map (λ (x : Standing). x.queue) (option_map bare_standing o) ≡ option_map (λ (x : Standing). x.queue) o
mapped_queue None = refl
mapped_queue (Some x) = refl

-- the queue that an event takes an insert from does not depend on numbers
left_bare : (by : CpuNo) (w : What) (o : ObjectState) → left_queue by w o ≡ left_queue by (bare_what w) (bare_object o)
left_bare by (Call f c y) o = sym (mapped_queue o.standing)
left_bare by w o = refl

-- dropping an insert from a queue at an event and leaving out the numbers may be done in either order
drop_bare : (p by : CpuNo) (w : What) (o : Option DpcNo) (objects : List ObjectState) (old : List Insert) →
    map bare_insert (drop_insert p by w o objects old) ≡ drop_insert p by (bare_what w) o (map bare_object objects) (map bare_insert old)
drop_bare p by w None objects old = refl
drop_bare p by w (Some d) objects old =
    rw (object_read objects d, left_bare by w (object_in objects d)) (go (is_queue (left_queue by (bare_what w) (bare_object (object_in objects d))) p))
  where
    go : (b : Bool) → map bare_insert (if b then without_dpc d old else old) ≡ (if b then without_dpc d (map bare_insert old) else map bare_insert old)
    go true = without_bare d old
    go false = refl

-- what an event leaves of a processor's idle flag does not depend on the event's numbers
idle_bare : (w : What) (old : Bool) → idle_after w old ≡ idle_after (bare_what w) old
idle_bare (Call f c y) old = refl
idle_bare w old = refl

-- what an event leaves of a DPC queue, but for numbers, depends on no number
pub queue_bare : (s : Script) (p : CpuNo) (n : ℕ) (by : CpuNo) (w : What) (objects : List ObjectState) (q : QueueState) →
    bare_queue (queue_after s p n by w objects q) ≡ queue_after s p 0 by (bare_what w) (map bare_object objects) (bare_queue q)
queue_bare s p n by w objects q =
    let a = add_bare s p n by (inserted_dpc w) objects (drop_insert p by w (used_up_dpc w) objects q.pending) in
    let d = drop_bare p by w (used_up_dpc w) objects q.pending in
    let i = idle_bare w q.idle in
    rw (a, d, i, inserted_bare w, used_up_bare w) refl

-- ---- lanes

-- the lanes of where a DPC stands do not depend on its insert's number
lanes_standing : (o : Option Standing) → standing_lanes o ≡ standing_lanes (option_map bare_standing o)
lanes_standing None = refl
lanes_standing (Some x) = refl

-- the lanes that a command touches do not depend on numbers other than those of timers
commands_bare : (s : Script) (p : CpuNo) (c : Command) (y : Reply) (l : Lanes) → command_lanes s p c y l ≡ command_lanes s p c y (bare_but_timers l)
commands_bare s p (Queue d) y l = rw (object_read l.objects d) refl
commands_bare s p (Unqueue d) y l = rw (object_read l.objects d) (ap (λ (xs : List Lane). ObjectLane d ∷ xs) (lanes_standing (object_at l d).standing))
commands_bare s p c y l = refl

-- which lanes an event touches depends on no numbers but those of the timers
pub lanes_bare : (s : Script) (st : Stand) (w : What) (l : Lanes) → what_lanes s st w l ≡ what_lanes s (bare_stand st) (bare_what w) (bare_but_timers l)
lanes_bare s st (Call f c y) l = go (is_refused y)
  where
    go : (b : Bool) → (if b then [] else command_lanes s st.cpu c y l) ≡ (if b then [] else command_lanes s st.cpu c y (bare_but_timers l))
    go true = refl
    go false = commands_bare s st.cpu c y l
lanes_bare s st (Fire d y) l = rw (object_read l.objects d) refl
lanes_bare s st w l = refl
