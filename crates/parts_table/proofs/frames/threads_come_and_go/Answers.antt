use Rattle.std.proofs.Common.{refl}
use Rattle.nt_event.specs.Lists.{table_from}
use Rattle.parts_table.proofs.FrameCalls.{calls_allowed}
use Rattle.parts_table.proofs.frames.threads_come_and_go.Goals as goal

pub write_calls-requires : goal.write_calls-requires
unfolding table_from
write_calls-requires c = rw c.requires (calls_allowed _ _ refl)
