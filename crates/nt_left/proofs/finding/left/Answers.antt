use Rattle.std.proofs.Common.{Global, Vec, subst, sym, ◌≡◌}
use Rattle.std.specs.List.{Contains}
use Rattle.std.specs.Prelude.{List, reverse, ◌↔◌}
use Rattle.nt_event.specs.Fate.{Inserted, waiting_inserts}
use Rattle.nt_left.specs.declared.kinds.Left.{Left}
use Rattle.nt_left.specs.Items.{left_of}
use Rattle.nt_left.specs.Left.{HasCause, IsLeft, IsTold}
use Rattle.nt_left.proofs.Caused.{left_has_cause}
use Rattle.nt_left.proofs.Elements.{where_ok}
use Rattle.nt_left.proofs.Found.{listed_is_left}
use Rattle.nt_left.proofs.Listed.{left_is_listed}
use Rattle.nt_left.proofs.Waiting.{waiting_are_told}
use Rattle.nt_left.proofs.finding.left.Goals as goal

pub returns-clause-found : goal.returns-clause-found
returns-clause-found c =
    let s = c.args.script.now in
    let limit = c.args.history.now.turns in
    let past = reverse c.args.history.now.events in
    where_ok (λ (v : Vec Left Global). v.items ≡ left_of s limit past) (λ (v : Vec Left Global). (x : Left) → Contains v.items x → IsLeft s limit past x)
    c.listed.result (λ v e x h. listed_is_left s limit past x (subst (λ (xs : List Left). Contains xs x) e h)) c.listed.ensures

pub returns-clause-complete : goal.returns-clause-complete
returns-clause-complete c =
    let s = c.args.script.now in
    let limit = c.args.history.now.turns in
    let past = reverse c.args.history.now.events in
    where_ok (λ (v : Vec Left Global). v.items ≡ left_of s limit past) (λ (v : Vec Left Global). (x : Left) → IsLeft s limit past x → Contains v.items x)
    c.listed.result (λ v e x h. subst (λ (xs : List Left). Contains xs x) (sym e) (left_is_listed s limit past x h)) c.listed.ensures

pub returns-clause-causes : goal.returns-clause-causes
returns-clause-causes c =
    let s = c.args.script.now in
    let limit = c.args.history.now.turns in
    let past = reverse c.args.history.now.events in
    where_ok (λ (v : Vec Left Global). v.items ≡ left_of s limit past) (λ (v : Vec Left Global). (x : Left) → Contains v.items x → HasCause s limit past x)
    c.listed.result (λ v e x h. left_has_cause s limit past c.requires.script c.requires.run c.requires.settled x
    (listed_is_left s limit past x (subst (λ (xs : List Left). Contains xs x) e h))) c.listed.ensures

pub returns-clause-waiting : goal.returns-clause-waiting
returns-clause-waiting c =
    let s = c.args.script.now in
    let limit = c.args.history.now.turns in
    let past = reverse c.args.history.now.events in
    where_ok (λ (v : Vec Left Global). v.items ≡ left_of s limit past)
    (λ (v : Vec Left Global). (x : Inserted) → Contains (waiting_inserts past) x ↔ IsTold v.items x.thing x.number) c.listed.result
    (λ v e. waiting_are_told s limit past c.requires.run c.requires.script v.items
    (λ x h. listed_is_left s limit past x (subst (λ (xs : List Left). Contains xs x) e h))
    (λ x h. subst (λ (xs : List Left). Contains xs x) (sym e) (left_is_listed s limit past x h))) c.listed.ensures
