use Rattle.std.proofs.Common.{◌++◌, ◌∙◌, ap}
use Rattle.range_core.specs.StampRuns.{LogView, expanded}
use Rattle.range_core.specs.Stamps.{stamps_from}
use Rattle.range_core.proofs.StampRunLemmas.{expanded-more}
use Rattle.range_core.proofs.log.StampLog.add.Goals as goal

pub returns-clause-items : goal.returns-clause-items
returns-clause-items c =
    ap expanded c.push_reserved.ensures.items ∙ expanded-more c.self.inside.runs.items _ ∙ ap (λ (v : LogView). v.items ++ stamps_from c.args.block c.args.n c.args.stamp) c.self.view_is
