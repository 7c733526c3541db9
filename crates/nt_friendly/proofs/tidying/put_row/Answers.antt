use Rattle.std.proofs.Common.{ap, ◌∙◌, ◌++◌}
use Rattle.nt_text.specs.Lines.{spaced}
use Rattle.nt_text.proofs.RowTexts.{line_put}
use Rattle.nt_friendly.specs.declared.levels.Next.{Next}
use Rattle.nt_friendly.specs.Levels.{replaced}
use Rattle.nt_friendly.proofs.tidying.put_row.Goals as goal

pub returns : goal.returns
returns c =
    let others =
    c.in_ok-put_fields.ensures ∙ ap (λ (n : Next). c.extend_from_slice.new.self.items ++ spaced (replaced n c.args.fields.now)) c.behind_first.ensures in
    line_put c.args.out.now.items c.extend_from_slice.new.self.items c.put_fields.new.out.items c.push.new.self.items c.args.first.now _
    c.in_ok-extend_from_slice.ensures.items others c.in_ok-push.ensures.items
