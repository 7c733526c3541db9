use Rattle.std.proofs.Common.{ap, length, ◌∙◌}
use Rattle.std.proofs.lemmas.List.{length-replicate}
use Rattle.test_lab.proofs.ahead.class_of.Goals as goal

pub returns-clause-room : goal.returns-clause-room
returns-clause-room c = record {
  class = c.requires.class;
  told = λ some. ap length (c.in_ok-told.ensures.items_if_clones_equal (λ y e. e)) ∙ length-replicate c.lane_count.result 0 ∙ c.lane_count.ensures.count;
}
