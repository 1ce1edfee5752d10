use Rattle.range_core.proofs.AroundLemmas.{one_laid}
use Rattle.range_core.proofs.range.lend_part.list_around.Goals as goal

pub returns : goal.returns
returns c = one_laid c.args.size c.args.part c.args.cell.now c.args.pages c.as_mut_slice-parts.result.now c.index-parts-0.result c.fill_around.new.whole c.as_mut_slice-parts.ensures.value c.requires.one c.requires.whole c.fill_around.ensures
