use Rattle.std.proofs.Common.{[], ap, get_or, sym, ◌++◌, ◌∙◌, ◌∷◌, ◌≡◌}
use Rattle.nt_event.specs.declared.events.Event.{Event}
use Rattle.nt_event.specs.declared.events.What.{What}
use Rattle.nt_history.specs.declared.brief.Brief.{Brief}
use Rattle.nt_history.specs.Briefs.{event_in, event_of, no_rises, values_of}
use Rattle.nt_live.proofs.Zipped.{from_ok, got, map_at, no_look}
use Rattle.nt_live.proofs.list.put_behind.Goals as goal

pub returns-in-Look : goal.returns-in-Look
returns-in-Look c =
    let old = c.args.events.now in
    from_ok c.push.result _ _ c.push.ensures.ok
    (λ h e. h ∙ ap (λ (x : Event). old ++ x ∷ []) (sym (got _ c.args.number e c.event.result c.event.ensures)))

pub returns-in_default : goal.returns-in_default
returns-in_default c =
    let old = c.args.events.now in
    let bs = c.args.list.now.briefs.now in
    let rises = c.args.list.now.rises.now in
    let b : Brief = get_or bs c.args.number c.index-list-number.result in
    let same : event_of no_rises b ≡ event_in rises b =
    ap (λ (w : What). record { cpu = b.cpu; thread = b.thread; level = b.level; what = w }) (sym (no_look (values_of rises b) b.did c.in_default.not-Look)) in
    from_ok c.push_brief.result _ _ c.push_brief.ensures.ok
    (λ h e. h ∙ ap (λ (x : Event). old ++ x ∷ [])
    (same ∙ sym (map_at (event_in rises) bs c.args.number c.index-list-number.result e c.requires)))
