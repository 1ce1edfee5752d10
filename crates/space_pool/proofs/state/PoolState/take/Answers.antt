use Rattle.std.proofs.Common.{◌-◌, subst, arith}
use Rattle.space_pool.specs.Pool.{PoolView, pool_view, Takes}
use Rattle.space_pool.proofs.States.{left-length, left-sized, takes-state}
use Rattle.space_pool.proofs.Standing.{keeps-claim, keeps-others, take-balances}
use Rattle.space_pool.proofs.state.PoolState.take.Goals as goal

pub invariant_of-self : goal.invariant_of-self
invariant_of-self c =
    let t = c.take.ensures.lowest in
    let kept = c.self.invariant in
    (omega (arith, left-length t, kept.0), omega (arith, c.take.ensures.room, kept.1), left-sized t _ kept.2)

pub returns-clause-taken : goal.returns-clause-taken
returns-clause-taken c =
    let inside = c.self.inside in
    let made = takes-state c.take.ensures.lowest inside.reserved inside.whole.facts c.args.claims.now.facts c.of.result.facts c.len-from.result c.as_slice.result.now
    c.self.invariant.2 (omega arith) c.as_slice.ensures.value c.of.ensures in
    subst (λ (p : PoolView). Takes c.args.n p c.args.claims.now.facts c.args.into.now.items (pool_view c.take.new.self.sectors (inside.reserved - c.args.n) inside.whole.facts) c.of.result.facts c.take.new.into.items) c.self.view_is made

pub returns-clause-claim : goal.returns-clause-claim
returns-clause-claim c =
    let next : PoolView = pool_view c.take.new.self.sectors (c.self.inside.reserved - c.args.n) c.self.inside.whole.facts in
    let balances = take-balances c.args.n c.args.self.now c.args.claims.now.facts c.args.into.now.items next c.of.result.facts c.take.new.into.items c.requires.claim c.requires.reserved (returns-clause-taken c) in
    keeps-claim c.args.self.now c.args.claims.now.facts next c.of.result.facts balances c.requires.claim

pub returns-clause-others : goal.returns-clause-others
returns-clause-others c =
    let next : PoolView = pool_view c.take.new.self.sectors (c.self.inside.reserved - c.args.n) c.self.inside.whole.facts in
    let balances = take-balances c.args.n c.args.self.now c.args.claims.now.facts c.args.into.now.items next c.of.result.facts c.take.new.into.items c.requires.claim c.requires.reserved (returns-clause-taken c) in
    keeps-others c.args.self.now c.args.claims.now.facts next c.of.result.facts balances
