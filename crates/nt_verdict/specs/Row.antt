-- Verdicts on the worked row raise-queue-lower: a thread raises to DISPATCH_LEVEL, queues a DPC that notes 7, and
-- lowers. Its histories, as nt_alike writes them out, are a closed list.
use Rattle.std.specs.Prelude.{List, [], ◌∷◌}
use Rattle.nt_rows.specs.RaiseQueueLower.{d, script}
use Rattle.nt_alike.specs.Lists.{Each}
use Rattle.nt_alike.specs.RaiseQueueLower.{histories}
use Rattle.nt_expect.specs.declared.expectations.Activity.TheVariants as act
use Rattle.nt_expect.specs.declared.expectations.Expectation.{Expectation}
use Rattle.nt_expect.specs.declared.expectations.Expectation.TheVariants.{Always, AlwaysEnds, Never, NeverTwice}
use Rattle.nt_expect.specs.declared.expectations.Expectation.TheVariants.{NeverWaitsDpc}
use Rattle.nt_expect.specs.declared.expectations.Watched.{Watched}
use Rattle.nt_expect.specs.declared.expectations.Watched.TheVariants.{Begin, Note}
use Rattle.nt_verdict.specs.Closed.{IsClosed}
use Rattle.nt_verdict.specs.Fails.{Fails}

-- whatever is watched for, the list is closed
abbrev pub RowIsClosed : Type 0
RowIsClosed = (watched : List Watched) → IsClosed script watched histories

-- the DPC begins once at most, is not left in a queue, and has noted 7 when all is quiet; every run ends
abbrev pub kept_ones : List Expectation
kept_ones =
    NeverTwice (Begin (act.Dpc d)) ∷ NeverWaitsDpc d ∷ Always (Note 7) ∷ AlwaysEnds ∷ []

abbrev pub RowKeeps : Type 0
RowKeeps = Each (λ x. Fails script x → ⊥) kept_ones

-- but 7 is noted
abbrev pub RowFails : Type 0
RowFails = Fails script (Never (Note 7))
