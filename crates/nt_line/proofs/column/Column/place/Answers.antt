use Rattle.std.proofs.Common.{◌∙◌, ap}
use Rattle.nt_line.specs.Places.{place}
use Rattle.nt_line.proofs.Columns.{place_of_keys}
use Rattle.nt_line.proofs.column.Column.place.Goals as goal

pub returns : goal.returns
returns c = c.get_index_of.ensures.index ∙ place_of_keys c.args.name.now c.self.inside.names.keys ∙ ap (place c.args.name.now) c.self.view_is
