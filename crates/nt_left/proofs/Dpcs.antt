-- What is left of a DPC object, by where its insert stands and by its number.
use Rattle.std.proofs.Common.{ap, ◌∙◌}
use Rattle.std.specs.Prelude.{List, None, Option, Some, option_map, refl, ℕ, ◌≡◌}
use Rattle.nt_event.specs.declared.events.Event.{Event}
use Rattle.nt_event.specs.declared.inserts.Standing.{Standing}
use Rattle.nt_event.specs.declared.numbers.CpuNo.{CpuNo}
use Rattle.nt_event.specs.declared.numbers.DpcNo.{DpcNo}
use Rattle.nt_event.specs.declared.scripts.Script.{Script}
use Rattle.nt_event.specs.Own.{own_of}
use Rattle.nt_left.specs.declared.kinds.CpuCause.{CpuCause}
use Rattle.nt_left.specs.declared.kinds.Left.TheVariants as left
use Rattle.nt_left.specs.Causes.{cpu_cause}
use Rattle.nt_left.specs.Items.{dpc_item}

module _ (s : Script) (limit : ℕ) (past : List Event) (d : DpcNo) where
  -- it stands in no queue
  pub in_no_queue : (x : Option Standing) → None ≡ option_map (λ i. i.queue) x → None ≡ dpc_item s limit past d x
  in_no_queue None h = refl
  in_no_queue (Some i) h = absurd cc

  -- it has no number
  pub has_no_number : (x : Option Standing) → None ≡ option_map (λ i. i.number) x → None ≡ dpc_item s limit past d x
  has_no_number None h = refl
  has_no_number (Some i) h = absurd cc

  -- it stands in this queue under this number
  pub stands_there : (x : Option Standing) (q : CpuNo) (n : ℕ) (cause : CpuCause) → Some q ≡ option_map (λ i. i.queue) x →
      Some n ≡ option_map (λ i. i.number) x → cause ≡ cpu_cause limit (own_of s q past) → Some (left.Dpc d n q cause) ≡ dpc_item s limit past d x
  stands_there None q n cause h k c = absurd cc
  stands_there (Some i) q n cause h k c =
      let same_queue : q ≡ i.queue = cc in
      let same_number : n ≡ i.number = cc in
      ap (λ (w : CpuCause). Some (left.Dpc d n q w)) c
      ∙ (ap (λ (p : CpuNo). Some (left.Dpc d n p (cpu_cause limit (own_of s p past)))) same_queue
      ∙ ap (λ (m : ℕ). Some (left.Dpc d m i.queue (cpu_cause limit (own_of s i.queue past)))) same_number)
