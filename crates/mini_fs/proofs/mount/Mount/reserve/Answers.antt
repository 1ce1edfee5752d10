use Rattle.std.proofs.Common.{refl, sym, ap, ◌∙◌}
use Rattle.space_pool.specs.Pool.{PoolView}
use Rattle.turn_cell.specs.Views.{CellView}
use Rattle.mini_fs.proofs.Ready.{stripe-here}
use Rattle.mini_fs.proofs.mount.Mount.reserve.Goals as goal

pub turn-requires-clause-ready : goal.turn-requires-clause-ready
turn-requires-clause-ready g c cell seat stand = record {
  own = refl;
  may = record {
    holes = (c.requires.ready cell seat stand).holes;
    given = (c.requires.ready cell seat stand).given;
    pool = (stripe-here c.args.self.now c.args.file c.is_laid_out.ensures c.args.seen.extent.block cell c.requires.block stand.cell_is).pool ∙ ap (λ (v : CellView PoolView). v.cell) (sym c.pool-space.ensures);
  };
}
