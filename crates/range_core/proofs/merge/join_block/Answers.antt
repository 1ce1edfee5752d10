use Rattle.std.proofs.Common.{sym, ◌∙◌}
use Rattle.range_core.proofs.MergeLemmas.{began, joined}
use Rattle.range_core.proofs.merge.join_block.Goals as goal

pub returns-then-continues : goal.returns-then-continues
returns-then-continues c =
    joined c.args.extents.now.items c.pop.new.self.items _ c.in-Some.last c.args.block c.args.kind c.in-Some.ensures.items
    (sym c.continues.ensures ∙ c.if-continues.true) c.in_ok-push-2.ensures.items

pub returns : goal.returns
returns c =
    began c.args.extents.now.items c.pop.new.self.items _ _ c.in-Some.last c.args.block c.args.kind c.in-Some.ensures.items
    (sym c.continues.ensures ∙ c.if-continues.false) c.in_ok-push-3.ensures.items c.in_ok-push-4.ensures.items
