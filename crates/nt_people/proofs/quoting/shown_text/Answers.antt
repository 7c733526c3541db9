use Rattle.std.proofs.Common.{encode_utf8_all, ◌∙◌, ap, sym, map, map-id}
use Rattle.std.proofs.lemmas.List.{map-append}
use Rattle.std.proofs.lemmas.Iterator.{YieldsList-from_chars}
use Rattle.std.proofs.lemmas.Iterator.Consumers.{YieldsList-end}
use Rattle.std.proofs.lemmas.Str.{encodes-append}
use Rattle.nt_people.specs.Messages.{shown_char}
use Rattle.nt_people.proofs.quoting.shown_text.Goals as goal

pub loop-sign-preserved : goal.loop-sign-preserved
loop-sign-preserved c = rw (map-append, encodes-append, ← c.loop-sign.invariant) c.in_ok-push_shown.ensures

pub returns : goal.returns
returns c =
    let road = YieldsList-from_chars c.args.text.now c.utf8.text cc in
    let done = YieldsList-end road c.loop-sign.yielded _ c.loop-sign.yielded_by _ _ c.in-None.is c.next.ensures.steps in
    c.loop-sign.invariant ∙ ap (λ cs. encode_utf8_all (map shown_char cs)) (sym (map-id c.loop-sign.yielded) ∙ done.0)
