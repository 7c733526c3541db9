use Rattle.nt_plain.proofs.Viewed.{is_looked}
use Rattle.nt_plain.proofs.floor.PlainFloorWords.look.Goals as goal

pub returns-clause-looked : goal.returns-clause-looked
returns-clause-looked c =
    is_looked c.args.self.now c.args.p c.args.class c.word.result c.kept.ensures c.requires c.word.ensures
