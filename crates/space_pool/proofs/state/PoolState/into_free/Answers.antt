use Rattle.std.proofs.Common.{subst}
use Rattle.std.specs.Prelude.{All}
use Rattle.space_pool.specs.Pool.{PoolView, HasSize}
use Rattle.space_pool.proofs.Closing.{all-sized}
use Rattle.space_pool.proofs.state.PoolState.into_free.Goals as goal

pub returns-clause-sized : goal.returns-clause-sized
returns-clause-sized c =
    subst (λ (p : PoolView). All (HasSize p.size) c.into_vec.result.items) c.self.view_is (all-sized c.into_vec.ensures c.self.inside.whole.facts.size c.self.invariant.2)
