use Rattle.space_pool.proofs.Closing.{closes}
use Rattle.space_pool.proofs.cell.SpacePool.close.Goals as goal

pub returns : goal.returns
returns c = closes _ _ _ _ _ c.close.ensures c.into_free.ensures.all c.into_free.ensures.sized
