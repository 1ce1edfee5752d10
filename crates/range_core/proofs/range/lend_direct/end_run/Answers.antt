use Rattle.std.proofs.Common.{sym}
use Rattle.range_core.specs.DirectBacks.{marked_back}
use Rattle.range_core.proofs.DirectBackLemmas.{marked-none, on_each-same}
use Rattle.range_core.proofs.range.lend_direct.end_run.Goals as goal

pub returns-then-not-has_written : goal.returns-then-not-has_written
returns-then-not-has_written c =
    on_each-same (λ _ x. marked_back c.args.op c.args.failed x) (λ _ x. marked-none c.args.op c.args.failed x (sym c.if-not-has_written.ensures)) 0 c.args.low c.args.n c.args.cells.now.items
