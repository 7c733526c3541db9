use Rattle.nt_bench.proofs.Found.{unwritten}
use Rattle.nt_bench.proofs.top.ntlab.Goals as goal

pub write_to-requires : goal.write_to-requires
write_to-requires g c = unwritten _ _ _ _ _ _ c.reply-reply.ensures
