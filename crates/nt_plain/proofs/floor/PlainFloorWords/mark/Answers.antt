use Rattle.nt_plain.proofs.Viewed.{is_marked_so}
use Rattle.nt_plain.proofs.floor.PlainFloorWords.mark.Goals as goal

pub returns-clause-marked : goal.returns-clause-marked
returns-clause-marked c =
    is_marked_so c.args.self.now c.note.new.self c.args.p c.args.class c.args.n c.kept.ensures c.requires.word c.requires.mine c.note.ensures
