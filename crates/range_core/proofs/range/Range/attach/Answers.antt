use Rattle.std.proofs.Common.{◌≡◌, ℕ, ◌+◌, ◌-◌, ◌≤◌, Some, List, length, sym, ◌∙◌, ap, subst, arith}
use Rattle.std.specs.Prelude.{unwrap_or}
use Rattle.iob_base.specs.DeviceBlock.{DeviceBlock}
use Rattle.turn_cell.specs.Seats.{seat_claims, seat_view}
use Rattle.range_core.specs.OnRun.{count_on}
use Rattle.range_core.specs.Placing.{awaits_sector}
use Rattle.range_core.specs.RangeView.{RangeView, range_view}
use Rattle.range_core.specs.Refusals.{attach_refusal}
use Rattle.range_core.specs.Space.{SpaceClaims}
use Rattle.range_core.specs.declared.cell.Cell.{Cell}
use Rattle.range_core.specs.declared.fault.EventFault.TheVariants.{NoMemory}
use Rattle.range_core.proofs.PlaceSpace.{awaits-spaceless, lies_within, placed_gone, placed_sound, promised_none, reserved-enough, worn_counted}
use Rattle.range_core.proofs.range.Range.attach.Goals as goal

pub returns-in-Some-clause-refused : goal.returns-in-Some-clause-refused
returns-in-Some-clause-refused g c =
    let r = c.self.inside in
    let b : ℕ = c.args.block in
    let n : ℕ = c.args.blocks in
    let counted : c.count_run-taken.result ≡ count_on awaits_sector (b - r.first) n r.cells.items = c.count_run-taken.ensures.count ∙ ap (count_on awaits_sector (b - r.first) n) c.deref.ensures.value in
    let view : RangeView = range_view r.geometry r.mode r.first r.cells.items r.log.items r.cookie r.errors r.tickets (seat_view r.seat) (seat_claims r.seat).facts in
    let is : Some c.in-Some.fault ≡ attach_refusal c.args.self.now b n = c.in-Some.ensures ∙ worn_counted awaits_sector view b n c.count_run-taken.result counted ∙ ap (λ v. attach_refusal v b n) c.self.view_is in
    ap (λ o. unwrap_or o NoMemory) is

pub returns-clause-made : goal.returns-clause-made
returns-clause-made g c =
    let r = c.self.inside in
    let b : ℕ = c.args.block in
    let n : ℕ = c.args.blocks in
    let counted : c.count_run-taken.result ≡ count_on awaits_sector (b - r.first) n r.cells.items = c.count_run-taken.ensures.count ∙ ap (count_on awaits_sector (b - r.first) n) c.deref.ensures.value in
    let view : RangeView = range_view r.geometry r.mode r.first r.cells.items r.log.items r.cookie r.errors r.tickets (seat_view r.seat) (seat_claims r.seat).facts in
    sym (c.in_default.ensures ∙ worn_counted awaits_sector view b n c.count_run-taken.result counted ∙ ap (λ v. attach_refusal v b n) c.self.view_is)

pub take_at-requires-clause-reserved : goal.take_at-requires-clause-reserved
take_at-requires-clause-reserved g c =
    let r = c.self.inside in
    let low : ℕ = c.args.block - r.first in
    let n : ℕ = c.args.blocks in
    let counted : c.count_run-taken.result ≡ count_on awaits_sector low n r.cells.items = c.count_run-taken.ensures.count ∙ ap (count_on awaits_sector low n) c.deref.ensures.value in
    let enough = reserved-enough awaits_sector (λ _. 0) r.geometry.block_size low n r.cells.items (seat_claims r.seat).facts awaits-spaceless (promised_none r.geometry.block_size r.cells.items _ (seat_claims r.seat).facts c.self.invariant.0.space) in
    omega arith

pub invariant_of-self : goal.invariant_of-self
invariant_of-self g c =
    let r = c.self.inside in
    let low : ℕ = c.args.block - r.first in
    let n : ℕ = c.args.blocks in
    let was : List Cell = r.cells.items in
    let sectors : List DeviceBlock = c.take_at.new.into.items in
    let claims : SpaceClaims = (seat_claims r.seat).facts in
    let view : RangeView = range_view r.geometry r.mode r.first was r.log.items r.cookie r.errors r.tickets (seat_view r.seat) claims in
    let L : RangeView → Type 0 = λ v. c.args.block - v.first + n ≤ length v.cells in
    let within : low + n ≤ length was = subst L (sym c.self.view_is) (lies_within c.args.self.now c.args.block n c.requires.lies) in
    let counted : length sectors ≡ count_on awaits_sector low n was = c.take_at.ensures.count ∙ c.count_run-taken.ensures.count ∙ ap (count_on awaits_sector low n) c.deref.ensures.value in
    let had = promised_none r.geometry.block_size was _ claims c.self.invariant.0.space in
    let gone = placed_gone awaits_sector (λ _. 0) view low n c.place_run.new.cells.items sectors c.place_run.ensures in
    let room = c.self.invariant.1 in (
      placed_sound awaits_sector (λ _. 0) view low n c.place_run.new.cells.items sectors claims _ c.next_cookie-self-inside.result (seat_view c.take_at.new.seat) awaits-spaceless within c.place_run.ensures counted had c.take_at.ensures.sized
          c.take_at.ensures.claims c.take_at.ensures.distinct c.self.invariant.0,
      omega arith,
    )
