use Rattle.std.proofs.Common.{refl, sym, ap, ◌∙◌}
use Rattle.space_pool.specs.Pool.{PoolView}
use Rattle.turn_cell.specs.Views.{CellView}
use Rattle.mount_parts.specs.MountView.{stripe_at}
use Rattle.mini_fs.specs.PassView.{claims_of}
use Rattle.mini_fs.proofs.Ready.{stripe-here}
use Rattle.mini_fs.proofs.SpaceEvents.{preallocated-as, turns-as}
use Rattle.mini_fs.proofs.mount.Mount.preallocate.Goals as goal

pub turn-requires-clause-ready : goal.turn-requires-clause-ready
turn-requires-clause-ready g c cell seat stand = record {
  own = refl;
  may = record {
    lies = c.requires.ready cell seat stand;
    pool = (stripe-here c.args.self.now c.args.file c.is_laid_out.ensures c.args.block cell c.requires.block stand.cell_is).pool ∙ ap (λ (v : CellView PoolView). v.cell) (sym c.pool-space.ensures);
  };
}

pub returns-clause-turned : goal.returns-clause-turned
returns-clause-turned g c =
    let m = c.args.self.now in
    let claims = claims_of c.args.pass.now in
    turns-as _ _ m (stripe_at m c.args.file c.args.block) claims claims c.args.pass.now c.turn.new.pass (λ opening history value next entry d.
    preallocated-as m.pool.opening opening value next claims claims entry _ c.turn.new.change c.turn.result (ap (λ (v : CellView PoolView). v.opening) c.pool-space.ensures) d) c.turn.ensures.turned
