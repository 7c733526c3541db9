use Rattle.std.proofs.Common.{◌∙◌, ap}
use Rattle.std.specs.Prelude.{string_bytes, map}
use Rattle.nt_line.specs.Places.{placed}
use Rattle.nt_line.proofs.Columns.{keys_placed}
use Rattle.nt_line.proofs.column.Column.push.Goals as goal

pub returns : goal.returns
returns c = ap (map string_bytes) c.in_ok-insert.ensures.keys ∙ keys_placed c.args.name.now _ c.self.inside.names.keys c.in_ok-from_str.ensures.ok
    ∙ ap (placed c.args.name.now) c.self.view_is
