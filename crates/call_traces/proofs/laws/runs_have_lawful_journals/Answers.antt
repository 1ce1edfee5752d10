use Rattle.call_traces.proofs.LawfulJournals.{lawful-journals}
use Rattle.call_traces.proofs.laws.runs_have_lawful_journals.Goals as goal

pub returns : goal.returns
returns c = lawful-journals
