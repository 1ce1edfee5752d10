use Rattle.space_pool.proofs.Standing.{parts-stand}
use Rattle.space_pool.proofs.state.PoolState.split.Goals as goal

pub returns-clause-beside : goal.returns-clause-beside
returns-clause-beside c = parts-stand c.args.self.now c.args.claims.now.facts c.split.new.self.facts c.split.result.facts c.args.held.now c.args.cap c.requires c.split.ensures.kept c.split.ensures.given
