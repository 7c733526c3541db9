use Rattle.std.proofs.Common.{refl, sym, ◌∙◌}
use Rattle.nt_apc.proofs.Inserts.{place-none}
use Rattle.nt_search.specs.States.{are_equal}
use Rattle.nt_search.proofs.Listing.{if_ok, next_number, numbered, on_ok}
use Rattle.nt_search.proofs.states.States.put.Goals as goal

pub add_within-requires-clause-new : goal.add_within-requires-clause-new
add_within-requires-clause-new c = place-none (are_equal c.args.key) c.args.self.now.keys (sym c.number_of.ensures ∙ c.in-None.is)

pub returns-in-Some-clause-put : goal.returns-in-Some-clause-put
returns-in-Some-clause-put c =
    let there = (numbered c.args.key c.args.self.now.keys c.in-Some.number (sym c.number_of.ensures ∙ c.in-Some.is)).0 in
    rw there refl

pub returns-in-Some-clause-number : goal.returns-in-Some-clause-number
returns-in-Some-clause-number c = (numbered c.args.key c.args.self.now.keys c.in-Some.number (sym c.number_of.ensures ∙ c.in-Some.is)).1

pub returns-in-None-clause-put : goal.returns-in-None-clause-put
returns-in-None-clause-put c =
    let none = place-none (are_equal c.args.key) c.args.self.now.keys (sym c.number_of.ensures ∙ c.in-None.is) in
    on_ok c.add_within.result (λ added. rw none added) c.add_within.ensures.added

pub returns-in-None-clause-number : goal.returns-in-None-clause-number
returns-in-None-clause-number c =
    let none = place-none (are_equal c.args.key) c.args.self.now.keys (sym c.number_of.ensures ∙ c.in-None.is) in
    if_ok c.add_within.result (λ n is. is ∙ sym c.requires.count ∙ sym (next_number c.args.key c.args.self.now.keys none)) c.add_within.ensures.number
