use Rattle.std.proofs.Common.{◌≡◌, ◌+◌, ◌≤◌, refl, sym, subst, arith, length}
use Rattle.std.specs.Prelude.{All}
use Rattle.std.proofs.lemmas.List.{length-map}
use Rattle.iob_base.specs.DeviceBlock.{DeviceBlock}
use Rattle.space_pool.specs.Claims.{numbers_of}
use Rattle.space_pool.specs.Pool.{PoolView, pool_view, IsClaimOn, KeepsOthers, HasSize, misfit}
use Rattle.space_pool.proofs.Removing.{without-length}
use Rattle.space_pool.proofs.Sizes.{none-misfits}
use Rattle.space_pool.proofs.States.{moved-length}
use Rattle.space_pool.proofs.Standing.{keeps-claim, keeps-others, give-balances, given-is}
use Rattle.space_pool.proofs.state.PoolState.give.Goals as goal

pub put-requires : goal.put-requires
put-requires c =
    let inside = c.self.inside in
    let can = c.requires.can in
    let claim = subst (λ (p : PoolView). IsClaimOn p c.args.claims.now.facts) (sym c.self.view_is) c.requires.claim in
    let numbers : length c.args.claims.now.facts.numbers + length inside.free.sectors ≤ length inside.whole.facts.numbers = claim.numbers in
    let w = without-length (numbers_of c.args.sectors.now.items) c.args.claims.now.facts.numbers can.among in
    let l : length (numbers_of c.args.sectors.now.items) ≡ length c.args.sectors.now.items = length-map c.args.sectors.now.items (λ (s : DeviceBlock). s.number) in
    let room = c.self.invariant.1 in
    omega arith

pub invariant_of-self : goal.invariant_of-self
invariant_of-self c =
    let inside = c.self.inside in
    let kept = c.self.invariant in
    let moved = c.put.ensures.moved in
    let claim = subst (λ (p : PoolView). IsClaimOn p c.args.claims.now.facts) (sym c.self.view_is) c.requires.claim in
    let sized = subst (λ size. All (HasSize size) c.args.sectors.now.items) claim.size c.requires.can.sized in
    let none = none-misfits inside.whole.facts.size c.args.sectors.now.items sized in (
      omega (arith, moved-length inside.free.sectors c.args.sectors.now.items c.put.new.self.sectors moved, kept.0),
      omega (arith, c.put.ensures.room, kept.1),
      omega (arith, moved (misfit inside.whole.facts.size), kept.2, none),
    )

pub returns-clause-claim : goal.returns-clause-claim
returns-clause-claim c =
    let inside = c.self.inside in
    let before : PoolView = pool_view inside.free.sectors inside.reserved inside.whole.facts in
    let next : PoolView = pool_view c.put.new.self.sectors inside.reserved inside.whole.facts in
    let claim = subst (λ (p : PoolView). IsClaimOn p c.args.claims.now.facts) (sym c.self.view_is) c.requires.claim in
    let balances = give-balances c.args.sectors.now.items before c.args.claims.now.facts next c.of.result.facts c.requires.can (record { moved = c.put.ensures.moved; pool = refl; claims = given-is c.args.claims.now.facts c.of.result.facts c.as_slice.result.now c.args.sectors.now.items c.as_slice.ensures.value c.of.ensures }) in
    keeps-claim before c.args.claims.now.facts next c.of.result.facts balances claim

pub returns-clause-others : goal.returns-clause-others
returns-clause-others c =
    let inside = c.self.inside in
    let before : PoolView = pool_view inside.free.sectors inside.reserved inside.whole.facts in
    let next : PoolView = pool_view c.put.new.self.sectors inside.reserved inside.whole.facts in
    let balances = give-balances c.args.sectors.now.items before c.args.claims.now.facts next c.of.result.facts c.requires.can (record { moved = c.put.ensures.moved; pool = refl; claims = given-is c.args.claims.now.facts c.of.result.facts c.as_slice.result.now c.args.sectors.now.items c.as_slice.ensures.value c.of.ensures }) in
    subst (λ (p : PoolView). KeepsOthers p c.args.claims.now.facts next c.of.result.facts) c.self.view_is (keeps-others before c.args.claims.now.facts next c.of.result.facts balances)
