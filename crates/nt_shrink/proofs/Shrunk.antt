-- The shrunk list, step by step.
use Rattle.std.proofs.Common.{ap, arith, subst, sym, ◌∙◌}
use Rattle.std.specs.Prelude.{Bool, List, None, Ok, Option, Some, [], length, option_map, refl, reverse, suc, true, zero, ℕ, ◌<◌, ◌∷◌, ◌≡◌, ◌≤◌}
use Rattle.nt_event.specs.declared.events.Event.{Event}
use Rattle.nt_event.specs.declared.events.Turn.{Turn}
use Rattle.nt_event.specs.declared.scripts.Script.{Script}
use Rattle.nt_shrink.specs.declared.goals.Goal.{Goal}
use Rattle.nt_shrink.specs.declared.refusals.ShrinkRefusal.{ShrinkRefusal}
use Rattle.nt_shrink.specs.declared.refusals.ShrinkRefusal.TheVariants as shrinks
use Rattle.nt_shrink.specs.declared.refusals.TraceRefusal.{TraceRefusal}
use Rattle.nt_shrink.specs.declared.refusals.TraceRefusal.TheVariants.{Bad, NoMemory}
use Rattle.nt_shrink.specs.Goals.{delivers}
use Rattle.nt_shrink.specs.Laws.{IsDelivery}
use Rattle.nt_shrink.specs.Refusals.{IsShrinkRefused, IsTraceRefused, as_shrink}
use Rattle.nt_shrink.specs.Shorter.{without}
use Rattle.nt_shrink.specs.Spare.{IsShrunk, NoneSpare, greatest_below, greatest_spare, is_spare, left_out, shrunk, shrunk_by}
use Rattle.nt_shrink.specs.Traces.{Traced, is_delivered, traced}
use Rattle.nt_shrink.proofs.Cutting.{one_less, whole_before}
use Rattle.nt_shrink.proofs.Greatest.{none_passes, one_passes}
use Rattle.nt_shrink.proofs.Meeting.{delivered_so}
use Rattle.nt_shrink.proofs.Runs.{delivery}

-- as often as the list without the place has turns
as_often : (s : Script) (limit : ℕ) (g : Goal) (n : ℕ) (list : List Turn) (o : Option ℕ) → length list ≡ suc n → greatest_spare s limit g list ≡ o →
    left_out list o (λ shorter. shrunk_by s limit g n shorter) ≡ left_out list o (shrunk s limit g)
as_often s limit g n list None l h = refl
as_often s limit g n list (Some at) l h =
    let below : at < length list = (one_passes (is_spare s limit g list) (length list) at h).0 in
    let less : suc (length (without at list)) ≡ length list = one_less at list below in
    let same : n ≡ length (without at list) = omega (arith, l, less) in
    ap (λ (m : ℕ). shrunk_by s limit g m (without at list)) same

-- the shrunk list is that of the list without its greatest spare place, or the list itself if it has none
pub by_the_greatest : (s : Script) (limit : ℕ) (g : Goal) (list : List Turn) →
    shrunk s limit g list ≡ left_out list (greatest_spare s limit g list) (shrunk s limit g)
by_the_greatest s limit g [] = refl
by_the_greatest s limit g (t ∷ ts) = as_often s limit g (length ts) (t ∷ ts) (greatest_spare s limit g (t ∷ ts)) refl refl

-- ---- one step

-- a list with no spare place is its own shrunk list
pub none_left : (s : Script) (limit : ℕ) (g : Goal) (list : List Turn) → greatest_spare s limit g list ≡ None → shrunk s limit g list ≡ list
none_left s limit g list h = by_the_greatest s limit g list ∙ ap (λ (o : Option ℕ). left_out list o (shrunk s limit g)) h

pub record IsShorter (s : Script) (limit : ℕ) (g : Goal) (list shorter : List Turn) : Type 0 where
  pub less : suc (length shorter) ≡ length list
  pub delivered : is_delivered g (traced s limit shorter) ≡ true
  pub shrunk_is : shrunk s limit g list ≡ shrunk s limit g shorter

-- leaving out the greatest spare place gives a shorter list that delivers and has the same shrunk list
pub one_left_out : (s : Script) (limit : ℕ) (g : Goal) (list : List Turn) (at : ℕ) → greatest_spare s limit g list ≡ Some at →
    IsShorter s limit g list (without at list)
one_left_out s limit g list at h =
    let p = one_passes (is_spare s limit g list) (length list) at h in
    record {
      less = one_less at list p.0;
      delivered = p.1;
      shrunk_is = by_the_greatest s limit g list ∙ ap (λ (o : Option ℕ). left_out list o (shrunk s limit g)) h;
    }

-- ---- the end

abbrev Ended : Script → ℕ → Goal → List Turn → Type 0
Ended s limit g list = (is_delivered g (traced s limit list) ≡ true) × (greatest_spare s limit g list ≡ None)

-- case: no place can be spared, and the shrunk list ends as it should
ended_here : (s : Script) (limit : ℕ) (g : Goal) (list : List Turn) → is_delivered g (traced s limit list) ≡ true → greatest_spare s limit g list ≡ None →
    Ended s limit g (shrunk s limit g list)
ended_here s limit g list h none = subst (Ended s limit g) (sym (none_left s limit g list none)) (h, none)

-- the shrunk list of a list that delivers the goal ends as it should, by the length of the list
shrunk_ends : (s : Script) (limit : ℕ) (g : Goal) (n : ℕ) (list : List Turn) → length list ≤ n → is_delivered g (traced s limit list) ≡ true →
    Ended s limit g (shrunk s limit g list)
shrunk_ends s limit g zero list l h =
    let empty : length list ≡ 0 = omega (arith, l) in
    ended_here s limit g list h (ap (greatest_below (is_spare s limit g list)) empty)
shrunk_ends s limit g (suc n) list l h = go (greatest_spare s limit g list) refl (λ x m d. shrunk_ends s limit g n x m d)
  where
    go : (o : Option ℕ) → greatest_spare s limit g list ≡ o →
        ((x : List Turn) → length x ≤ n → is_delivered g (traced s limit x) ≡ true → Ended s limit g (shrunk s limit g x)) →
        Ended s limit g (shrunk s limit g list)
    go None e ih = ended_here s limit g list h e
    go (Some at) e ih =
        let one = one_left_out s limit g list at e in
        let less = one.less in
        subst (Ended s limit g) (sym one.shrunk_is) (ih (without at list) (omega (arith, l, less)) one.delivered)

-- if a list delivers the request, its shrunk list does so too and has no spare place
pub shrunk_delivers : (s : Script) (limit : ℕ) (g : Goal) (list : List Turn) → is_delivered g (traced s limit list) ≡ true →
    IsDelivery s limit g (shrunk s limit g list) × NoneSpare s limit g (shrunk s limit g list)
shrunk_delivers s limit g list h =
    let e = shrunk_ends s limit g (length list) list (omega arith) h in
    (delivery s limit g (shrunk s limit g list) e.0, none_passes (is_spare s limit g (shrunk s limit g list)) (length (shrunk s limit g list)) e.1)

-- ---- the loop

-- where the shrinking has come to
pub record IsShort (s : Script) (limit : ℕ) (g : Goal) (list short : List Turn) : Type 0 where
  pub few : length short ≤ 1000
  pub delivered : is_delivered g (traced s limit short) ≡ true
  pub same : shrunk s limit g list ≡ shrunk s limit g short

-- a list whose trace gives a history that delivers the goal delivers it
delivered_by : (s : Script) (limit : ℕ) (g : Goal) (list : List Turn) (es : List Event) (b : Bool) → traced s limit list ≡ Ok (reverse es) →
    b ≡ delivers g es → b ≡ true → is_delivered g (traced s limit list) ≡ true
delivered_by s limit g list es b h d t =
    ap (λ (r : Traced). is_delivered g r) h ∙ (sym (delivered_so g es) ∙ (sym d ∙ t))

-- at the start the list itself is the short one, if it has at most 1000 turns and delivers the request
pub started : (s : Script) (limit : ℕ) (g : Goal) (list short : List Turn) (es : List Event) (b : Bool) → length list ≤ 1000 →
    traced s limit list ≡ Ok (reverse es) → b ≡ delivers g es → b ≡ true → short ≡ without 1000 list → IsShort s limit g list short
started s limit g list short es b l h d t k =
    subst (λ (x : List Turn). IsShort s limit g list x) (sym (k ∙ whole_before 1000 list l)) (record {
      few = l;
      delivered = delivered_by s limit g list es b h d t;
      same = refl;
    })

-- a list found without a place has that place in the option
some_place : (list shorter : List Turn) (o : Option ℕ) → Some shorter ≡ option_map (λ at. without at list) o →
    (at : ℕ) × ((o ≡ Some at) × (without at list ≡ shorter))
some_place list shorter None h = absurd cc
some_place list shorter (Some at) h = (at, (refl, cc))

-- if no list without a place was found, there was no place
no_place : (list : List Turn) (o : Option ℕ) (r : Option (List Turn)) → r ≡ option_map (λ at. without at list) o → r ≡ None → o ≡ None
no_place list None r h k = refl
no_place list (Some at) r h k = absurd cc

pub record IsFurther (s : Script) (limit : ℕ) (g : Goal) (list short shorter : List Turn) : Type 0 where
  pub short_is : IsShort s limit g list shorter
  pub less : length shorter < length short

-- leaving out the greatest spare place of the short list is a further step of the shrinking
pub further : (s : Script) (limit : ℕ) (g : Goal) (list short shorter : List Turn) → IsShort s limit g list short →
    Some shorter ≡ option_map (λ at. without at short) (greatest_spare s limit g short) → IsFurther s limit g list short shorter
further s limit g list short shorter h e =
    let p = some_place short shorter (greatest_spare s limit g short) e in
    let one = one_left_out s limit g short p.0 p.1.0 in
    let less = one.less in
    let few = h.few in
    subst (λ (x : List Turn). IsFurther s limit g list short x) p.1.1 (record {
      short_is = record { few = omega (arith, less, few); delivered = one.delivered; same = h.same ∙ one.shrunk_is };
      less = omega (arith, less);
    })

pub record IsDone (s : Script) (limit : ℕ) (g : Goal) (list short : List Turn) : Type 0 where
  pub shrunk_is : IsShrunk s limit g list short
  pub delivery_is : IsDelivery s limit g short
  pub none_spare : NoneSpare s limit g short

-- once the short list has no spare place, it is the answer
pub done : (s : Script) (limit : ℕ) (g : Goal) (list short : List Turn) (r : Option (List Turn)) (es : List Event) (b : Bool) → length list ≤ 1000 →
    traced s limit list ≡ Ok (reverse es) → b ≡ delivers g es → b ≡ true → IsShort s limit g list short →
    r ≡ option_map (λ at. without at short) (greatest_spare s limit g short) → r ≡ None → IsDone s limit g list short
done s limit g list short r es b l t d y h e k =
    let none : greatest_spare s limit g short ≡ None = no_place short (greatest_spare s limit g short) r e k in
    record {
      shrunk_is = record {
        few = l;
        delivered = delivered_by s limit g list es b t d y;
        answered = sym (h.same ∙ none_left s limit g short none);
      };
      delivery_is = delivery s limit g short h.delivered;
      none_spare = none_passes (is_spare s limit g short) (length short) none;
    }

-- ---- refusals

-- if the trace of a list refuses a turn, the shrinking is refused with the same reason
pub refused_trace : (s : Script) (limit : ℕ) (g : Goal) (list : List Turn) (r : TraceRefusal) (q : ShrinkRefusal) → length list ≤ 1000 →
    IsTraceRefused s limit list r → q ≡ as_shrink r → IsShrinkRefused s limit g list q
refused_trace s limit g list (Bad at kind) q l h e = subst (λ (x : ShrinkRefusal). IsShrinkRefused s limit g list x) (sym e) (l, h)
refused_trace s limit g list NoMemory q l h e = subst (λ (x : ShrinkRefusal). IsShrinkRefused s limit g list x) (sym e) tt

-- being out of memory is a refusal of the shrinking for every list
pub no_memory : (s : Script) (limit : ℕ) (g : Goal) (list : List Turn) (q : ShrinkRefusal) → q ≡ shrinks.NoMemory → IsShrinkRefused s limit g list q
no_memory s limit g list q e = subst (λ (x : ShrinkRefusal). IsShrinkRefused s limit g list x) (sym e) tt
