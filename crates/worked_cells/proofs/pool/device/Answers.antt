use Rattle.std.proofs.Common.{◌≡◌, List, length, sym, subst, ap, ◌∙◌}
use Rattle.std.specs.Prelude.{All}
use Rattle.iob_base.specs.DeviceBlock.{DeviceBlock, fresh_blocks}
use Rattle.iob_base.specs.Layout.{Layout, layout}
use Rattle.space_pool.specs.Claims.{numbers_of}
use Rattle.space_pool.specs.Pool.{HasSize, AreDistinct}
use Rattle.worked_cells.proofs.FreshSectors.{fresh-sized, fresh-length, fresh-distinct}
use Rattle.worked_cells.proofs.pool.device.Goals as goal

items-are : (c : goal.In-Ok-sectors) → c.in-Ok-sectors.free.items ≡ fresh_blocks 16 0 c.args.blocks
items-are c =
    let e : c.in-Ok.geometry ≡ layout 16 1 = cc (c.in-Ok.ensures) in
    c.in-Ok-sectors.ensures ∙ ap (λ (g : Layout). fresh_blocks g.block_size 0 c.args.blocks) e

pub returns-clause-sized : goal.returns-clause-sized
returns-clause-sized c = subst (All (HasSize 16)) (sym (items-are c)) (fresh-sized 16 0 c.args.blocks)

pub returns-clause-distinct : goal.returns-clause-distinct
returns-clause-distinct c = subst (λ (l : List DeviceBlock). AreDistinct (numbers_of l)) (sym (items-are c)) (fresh-distinct 16 0 c.args.blocks)

pub returns-clause-count : goal.returns-clause-count
returns-clause-count c = ap length (items-are c) ∙ fresh-length 16 0 c.args.blocks
