use Rattle.nt_witness.proofs.RowLeads.{first_turns_lead}
use Rattle.test_lab.proofs.witness.leads_to.Goals as goal

pub witness-requires-clause-lead : goal.witness-requires-clause-lead
witness-requires-clause-lead c = first_turns_lead _ c.requires
