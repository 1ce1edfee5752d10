use Rattle.std.proofs.Common.{ap, length, sym, arith}
use Rattle.extent_map.specs.Expansion.{kinds_of}
use Rattle.extent_map.specs.Splicing.{run_at}
use Rattle.extent_map.proofs.Walking.{block_added, block_joined, last_short}
use Rattle.extent_map.proofs.walk.add_block.Goals as goal

pub overflow_add-length : goal.overflow_add-length
overflow_add-length c =
    omega (arith, last_short c.pop.new.self.items c.in-Some.last, ap (λ l. length (kinds_of l)) c.in-Some.ensures.items, c.requires.all, c.requires.bound)

pub returns-then-can_join : goal.returns-then-can_join
returns-then-can_join c =
    block_joined c.args.extents.now.items c.pop.new.self.items _ c.in-Some.last (run_at c.args.block 1 c.args.kind) c.in-Some.ensures.items
    (sym c.if-can_join.ensures) c.in_ok-push-2.ensures.items

pub returns : goal.returns
returns c =
    block_added c.args.extents.now.items c.pop.new.self.items _ _ c.in-Some.last (run_at c.args.block 1 c.args.kind) c.in-Some.ensures.items
    (sym c.if-can_join.ensures) c.in_ok-push-3.ensures.items c.in_ok-push-4.ensures.items
