use Rattle.std.proofs.Common.{◌∷◌, [], ◌++◌}
use Rattle.nt_text.proofs.RowTexts.{parts_put, one_row}
use Rattle.nt_line.specs.declared.keywords.Keyword.TheVariants as keyword
use Rattle.nt_line.specs.Rows.{number_row, depth_rows, threaded_rows}
use Rattle.nt_script.specs.Text.{version_rows}
use Rattle.nt_script.proofs.printing.put_header.Goals as goal

pub returns : goal.returns
returns c =
    let head = number_row keyword.Cpus c.args.script.now.cpus in
    let depth = depth_rows c.args.script.now.depth in
    let threaded = threaded_rows c.args.script.now.threaded in
    let given = parts_put _ _ _ depth threaded c.in_ok-put_depth.ensures c.in_ok-put_threaded.ensures in
    let counted = parts_put _ _ _ (head ∷ []) (depth ++ threaded) (one_row _ _ head c.in_ok-put_cpus.ensures) given in
    parts_put _ _ _ (version_rows c.args.version) (head ∷ (depth ++ threaded)) c.in_ok-put_version.ensures counted
