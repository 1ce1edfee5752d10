use Rattle.std.proofs.Common.{sym, ◌∙◌}
use Rattle.range_core.proofs.StampRunLemmas.{goes_on-last}
use Rattle.range_core.proofs.log.can_lengthen.Goals as goal

pub returns : goal.returns
returns c = c.ends_before.ensures ∙ sym (goes_on-last c.args.block c.args.stamp c.args.runs.now c.in-Some.last.now c.in-Some.ensures.value c.requires)
