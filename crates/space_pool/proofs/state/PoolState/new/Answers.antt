use Rattle.std.proofs.Common.{◌≡◌, ◌+◌, ◌++◌, ap, sym, subst, ◌∙◌, arith, length, length-append}
use Rattle.std.specs.Prelude.{All}
use Rattle.std.proofs.lemmas.List.{length-map}
use Rattle.iob_base.specs.DeviceBlock.{DeviceBlock}
use Rattle.turn_cell.specs.Stakes.{total}
use Rattle.space_pool.specs.Claims.{ClaimsView, numbers_of, claims_with, with_taken}
use Rattle.space_pool.specs.Pool.{pool_view, HasSize, misfit}
use Rattle.space_pool.proofs.Sizes.{none-misfits}
use Rattle.space_pool.proofs.Standing.{starts-claimed}
use Rattle.space_pool.proofs.state.PoolState.new.Goals as goal

pub invariant_of-result : goal.invariant_of-result
invariant_of-result c =
    let whole : ClaimsView = c.of-whole.result.facts in
    let held = c.args.held.now in
    let free = c.args.free.items in
    let numbers : whole.numbers ≡ numbers_of held ++ numbers_of c.as_slice.result.now = ap (λ (d : ClaimsView). d.numbers) c.of-whole.ensures ∙ ap (λ (d : ClaimsView). d.numbers ++ numbers_of c.as_slice.result.now) c.of-claims.ensures in
    let size : whole.size ≡ c.args.geometry.block_size = ap (λ (d : ClaimsView). d.size) c.of-whole.ensures ∙ ap (λ (d : ClaimsView). d.size) c.of-claims.ensures ∙ c.block_size-size.ensures.value in
    let few : length whole.numbers ≡ length (numbers_of held) + length (numbers_of c.as_slice.result.now) = ap length numbers ∙ length-append (numbers_of held) (numbers_of c.as_slice.result.now) in
    let h : length (numbers_of held) ≡ length held = length-map held (λ (s : DeviceBlock). s.number) in
    let f : length (numbers_of c.as_slice.result.now) ≡ length c.as_slice.result.now = length-map c.as_slice.result.now (λ (s : DeviceBlock). s.number) in
    let l = c.as_slice.ensures.len in
    let room = c.in-Ok.ensures.room in
    let sized = subst (λ size. All (HasSize size) free) (sym size) c.requires.free_sized in
    let none : total (misfit whole.size) free ≡ 0 = none-misfits whole.size free sized in
    let same : total (misfit whole.size) c.in-Ok.free.sectors ≡ total (misfit whole.size) free = c.in-Ok.ensures.ok (misfit whole.size) in
    (omega arith, omega arith, same ∙ none)

pub returns-in-Ok-clause-claim : goal.returns-in-Ok-clause-claim
returns-in-Ok-clause-claim c =
    let held = c.args.held.now in
    let free = c.args.free.items in
    let size = c.args.geometry.block_size in
    let claims-are : c.of-claims.result.facts ≡ claims_with held c.args.cap size = c.of-claims.ensures ∙ ap (claims_with held c.args.cap) c.block_size-size.ensures.value in
    let whole-is : c.of-whole.result.facts ≡ with_taken (claims_with held c.args.cap size) free =
    c.of-whole.ensures ∙ ap (λ (d : ClaimsView). with_taken d c.as_slice.result.now) claims-are ∙ ap (with_taken (claims_with held c.args.cap size)) c.as_slice.ensures.value in
    starts-claimed (pool_view c.in-Ok.free.sectors 0 c.of-whole.result.facts) c.of-claims.result.facts held free c.args.cap size c.in-Ok.ensures.ok (ap (pool_view c.in-Ok.free.sectors 0) whole-is) claims-are
