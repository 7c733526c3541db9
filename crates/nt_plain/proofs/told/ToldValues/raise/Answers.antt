use Rattle.std.proofs.Common.{◌*◌, ◌∙◌}
use Rattle.nt_plain.proofs.Rows.{in_row_of, row_values}
use Rattle.nt_plain.proofs.told.ToldValues.raise.Goals as goal

pub raise_told-requires-clause-others : goal.raise_told-requires-clause-others
raise_told-requires-clause-others c k h other =
    in_row_of c.deref.result.now c.args.self.now (c.args.row * 16) k (c.deref.ensures.value ∙ c.self.view_is) h ∙ c.requires.others k h other

pub returns-clause-values : goal.returns-clause-values
returns-clause-values c =
    c.raise_told.ensures.values ∙ row_values c.deref.result.now c.args.self.now c.args.seen.now (c.args.row * 16) (c.deref.ensures.value ∙ c.self.view_is)
