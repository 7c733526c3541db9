-- Histories whose shades say the same are alike in what their script declares.
use Rattle.std.proofs.Common.{ap, sym, ◌∙◌}
use Rattle.std.proofs.lemmas.Bool.{ltb-true}
use Rattle.std.specs.Prelude.{List, get_or, map, true, ◌≡◌}
use Rattle.nt_event.specs.declared.events.Event.{Event}
use Rattle.nt_event.specs.declared.numbers.CpuNo.{CpuNo}
use Rattle.nt_event.specs.declared.scripts.Script.{Script}
use Rattle.nt_event.specs.Lanes.{lanes_at}
use Rattle.nt_event.specs.Lists.{table}
use Rattle.nt_event.specs.Numbers.{cpu}
use Rattle.nt_event.specs.Own.{Own, own_of}
use Rattle.nt_event.specs.Script.{has_cpu}
use Rattle.nt_event.proofs.Tables.{get_or-table}
use Rattle.nt_alike.specs.Bare.{bare_facts, bare_lanes, bare_own}
use Rattle.nt_alike.specs.Declared.{AlikeDeclared}
use Rattle.nt_shade_asks.specs.Counts.{AskedAlike}
use Rattle.nt_shade_asks.proofs.Counts.{same_counts}
use Rattle.nt_shade_dpcs.specs.Same.{HaveTheSame}
use Rattle.nt_shade_dpcs.proofs.SameLanes.{same_lanes}
use Rattle.nt_shade.specs.declared.shade.Shade.{Shade}
use Rattle.nt_shade.specs.Cpus.{kept_but_dues}
use Rattle.nt_shade.specs.Same.{SayTheSame}
use Rattle.nt_shade.specs.Shade.{AreCounts, IsShadeOf}

-- all that stands in lanes is the same, where that of threads is
whole_lanes : (s : Script) (h k : List Event) → HaveTheSame s h k →
    map bare_facts (lanes_at s h).threads ≡ map bare_facts (lanes_at s k).threads → bare_lanes (lanes_at s h) ≡ bare_lanes (lanes_at s k)
whole_lanes s h k same threads = λ i. record {
  objects = same.objects i;
  queues = same.queues i;
  threads = threads i;
  timers = same.timers i;
  locks = same.locks i;
}

-- what a processor keeps is the same, where which classes are due is the same too
whole_own : (x y : Own) → kept_but_dues x ≡ kept_but_dues y → (bare_own x).seen ≡ (bare_own y).seen → bare_own x ≡ bare_own y
whole_own x y kept dues = λ i. record (kept i) { seen = dues i; served = table 16 (λ c. 0) }

-- what is the same of all processors is so of each
of_cpu : (s : Script) (h k : List Event) (p : CpuNo) → has_cpu s p ≡ true →
    table s.cpus (λ i. kept_but_dues (own_of s (cpu i) h)) ≡ table s.cpus (λ i. kept_but_dues (own_of s (cpu i) k)) →
    kept_but_dues (own_of s p h) ≡ kept_but_dues (own_of s p k)
of_cpu s h k p has same =
    let low = ltb-true p.0 s.cpus has in
    let other : Own = kept_but_dues (own_of s p h) in
    sym (get_or-table s.cpus p.0 (λ i. kept_but_dues (own_of s (cpu i) h)) other low)
    ∙ ap (λ (xs : List Own). get_or xs p.0 other) same
    ∙ get_or-table s.cpus p.0 (λ i. kept_but_dues (own_of s (cpu i) k)) other low

-- the asks are alike, where the counts are the same
asked : (s : Script) (h k : List Event) (x y : Shade) → AreCounts s h x.counts.items → AreCounts s k y.counts.items →
    x.counts.items ≡ y.counts.items → AskedAlike s h k
asked s h k x y a b same =
    same_counts s h k a.unnoticed b.unnoticed a.of b.of a.asked b.asked (sym a.same ∙ same ∙ b.same)

-- histories whose shades say the same
pub same_alike : (s : Script) (h k : List Event) (x y : Shade) → IsShadeOf s h x → IsShadeOf s k y → SayTheSame x y → AlikeDeclared s h k
same_alike s h k x y is are same =
    let lanes = same_lanes s h k x.dpcs y.dpcs is.dpcs are.dpcs same.dpcs in
    let asks = asked s h k x y is.counts are.counts same.counts in
    record {
      lanes = whole_lanes s h k lanes (sym is.threads ∙ same.threads ∙ are.threads);
      order = lanes.order;
      own = λ p has. whole_own (own_of s p h) (own_of s p k) (of_cpu s h k p has (sym is.cpus ∙ same.cpus ∙ are.cpus)) (asks.due p has);
      asks = asks.asks;
      told = asks.told;
    }
