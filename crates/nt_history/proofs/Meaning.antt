-- A brief and the event that it stands for.
use Rattle.std.proofs.Common.{ap, refl, subst, sym, ◌∙◌, ◌≡◌}
use Rattle.nt_event.specs.declared.events.Event.{Event}
use Rattle.nt_event.specs.declared.events.Rises.{Rises}
use Rattle.nt_event.specs.declared.events.What.{What}
use Rattle.nt_event.specs.declared.events.What.TheVariants as what
use Rattle.nt_history.specs.declared.brief.Brief.{Brief}
use Rattle.nt_history.specs.declared.brief.Did.{Did}
use Rattle.nt_history.specs.declared.brief.Did.TheVariants as did
use Rattle.nt_history.specs.declared.brief.Noticed.{Noticed}
use Rattle.nt_history.specs.Briefs.{HasValues, brief_of, did_of, event_of, noticed_of, what_of}

-- what is kept of what this stands for is this
kept_again : (r : Rises) (d : Did) → did_of (noticed_of d) (what_of r d) ≡ d
kept_again r (did.Look k) = refl
kept_again r (did.Call c y f) = refl
kept_again r (did.Begin b from) = refl
kept_again r (did.Normal f) = refl
kept_again r (did.End f) = refl
kept_again r (did.Expire key from) = refl
kept_again r (did.Fire d y) = refl
kept_again r (did.Clean class) = refl
kept_again r (did.Switch t status) = refl
kept_again r (did.Rewait f y) = refl
kept_again r (did.Flush a from) = refl
kept_again r (did.Gone t) = refl
kept_again r (did.Free f l) = refl
kept_again r did.Rest = refl

-- what is read from a brief with given values has, if it is a look, these values
has_own : (r : Rises) (d : Did) → HasValues r (what_of r d)
has_own r (did.Look k) = refl
has_own r (did.Call c y f) = _
has_own r (did.Begin b from) = _
has_own r (did.Normal f) = _
has_own r (did.End f) = _
has_own r (did.Expire key from) = _
has_own r (did.Fire d y) = _
has_own r (did.Clean class) = _
has_own r (did.Switch t status) = _
has_own r (did.Rewait f y) = _
has_own r (did.Flush a from) = _
has_own r (did.Gone t) = _
has_own r (did.Free f l) = _
has_own r did.Rest = _

-- what stands for what was kept of this is this, where its values are these
pub meant_again : (r : Rises) (k : Noticed) (w : What) → HasValues r w → what_of r (did_of k w) ≡ w
meant_again r k (what.Look values) h = ap (λ (x : Rises). what.Look x) h
meant_again r k (what.Call f c y) h = refl
meant_again r k (what.Begin b from) h = refl
meant_again r k (what.Normal f) h = refl
meant_again r k (what.End f) h = refl
meant_again r k (what.Expire key from) h = refl
meant_again r k (what.Fire d y) h = refl
meant_again r k (what.Clean class) h = refl
meant_again r k (what.Switch t status) h = refl
meant_again r k (what.Rewait f y) h = refl
meant_again r k (what.Flush a from) h = refl
meant_again r k (what.Gone t) h = refl
meant_again r k (what.Free f l) h = refl
meant_again r k what.Rest h = refl

abbrev with_did : Brief → Did → Brief
with_did b d = record { cpu = b.cpu; thread = b.thread; level = b.level; did = d }

abbrev with_what : Event → What → Event
with_what e w = record { cpu = e.cpu; thread = e.thread; level = e.level; what = w }

-- an event is the one of a brief where what is kept of it is the brief and its values are these
pub is_event : (r : Rises) (b : Brief) (e : Event) → brief_of (noticed_of b.did) e ≡ b → HasValues r e.what → event_of r b ≡ e
is_event r b e h v =
    ap (event_of r) (sym h) ∙ ap (with_what e) (meant_again r (noticed_of b.did) e.what v)

-- if an event is the one that a brief stands for, what is kept of the event is this brief
pub was_brief : (r : Rises) (b : Brief) (e : Event) → event_of r b ≡ e → brief_of (noticed_of b.did) e ≡ b
was_brief r b e h = ap (brief_of (noticed_of b.did)) (sym h) ∙ ap (with_did b) (kept_again r b.did)

-- if an event is the one that a brief stands for with these values and it is a look, these are its values
pub had_values : (r : Rises) (b : Brief) (e : Event) → event_of r b ≡ e → HasValues r e.what
had_values r b e h = subst (λ (x : Event). HasValues r x.what) h (has_own r b.did)
