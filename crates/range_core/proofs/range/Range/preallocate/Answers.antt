use Rattle.std.proofs.Common.{◌≡◌, ℕ, ◌+◌, ◌-◌, ◌<◌, ◌≤◌, Option, Some, List, drop, length, take, refl, sym, ◌∙◌, ap, subst, arith}
use Rattle.iob_base.specs.DeviceBlock.{DeviceBlock}
use Rattle.space_pool.specs.Claims.{Fits, with_more}
use Rattle.turn_cell.specs.Seats.{seat_claims, seat_view}
use Rattle.turn_cell.specs.Stakes.{total}
use Rattle.range_core.specs.Attaches.{IsRefusedFor, holes_in}
use Rattle.range_core.specs.EntryCounts.{one_where}
use Rattle.range_core.specs.OnRun.{count_on}
use Rattle.range_core.specs.Placing.{is_empty, lacks_sector}
use Rattle.range_core.specs.RangeView.{RangeView, range_view}
use Rattle.range_core.specs.Refusals.{preallocate_refusal}
use Rattle.range_core.specs.Space.{SpaceClaims}
use Rattle.range_core.specs.declared.cell.Cell.{Cell}
use Rattle.range_core.specs.declared.fault.EventFault.{EventFault}
use Rattle.range_core.specs.declared.fault.EventFault.TheVariants.{NoSpace}
use Rattle.range_core.proofs.PlaceSpace.{HasPromised, lacks-spaceless, lies_within, placed_gone, placed_sound, promised_holes, reserved-enough, worn_counted}
use Rattle.range_core.proofs.PoolLemmas.{none_reserved}
use Rattle.range_core.proofs.ReserveLemmas.{fits_holes}
use Rattle.range_core.proofs.range.Range.preallocate.Goals as goal

pub returns-in-Some-clause-refused : goal.returns-in-Some-clause-refused
returns-in-Some-clause-refused g c =
    let r = c.self.inside in
    let b : ℕ = c.args.block in
    let n : ℕ = c.args.blocks in
    let counted : c.count_run-taken.result ≡ count_on lacks_sector (b - r.first) n r.cells.items = c.count_run-taken.ensures.count ∙ ap (count_on lacks_sector (b - r.first) n) c.deref.ensures.value in
    let view : RangeView = range_view r.geometry r.mode r.first r.cells.items r.log.items r.cookie r.errors r.tickets (seat_view r.seat) (seat_claims r.seat).facts in
    let is : Some c.in-Some.fault ≡ preallocate_refusal c.args.self.now b n = c.in-Some.ensures ∙ worn_counted lacks_sector view b n c.count_run-taken.result counted ∙ ap (λ v. preallocate_refusal v b n) c.self.view_is in
    let F : Option EventFault → Type 0 = λ o. IsRefusedFor (holes_in c.args.self.now b n) o c.in-Some.fault in
    subst F is refl

pub returns-in-Err-clause-refused : goal.returns-in-Err-clause-refused
returns-in-Err-clause-refused g c =
    let r = c.self.inside in
    let b : ℕ = c.args.block in
    let n : ℕ = c.args.blocks in
    let counted : c.count_run-taken.result ≡ count_on lacks_sector (b - r.first) n r.cells.items = c.count_run-taken.ensures.count ∙ ap (count_on lacks_sector (b - r.first) n) c.deref.ensures.value in
    let view : RangeView = range_view r.geometry r.mode r.first r.cells.items r.log.items r.cookie r.errors r.tickets (seat_view r.seat) (seat_claims r.seat).facts in
    let holes : c.count_run-holes.result ≡ count_on is_empty (b - r.first) n r.cells.items = c.count_run-holes.ensures.count ∙ ap (count_on is_empty (b - r.first) n) c.deref-2.ensures.value in
    let none = none_reserved _ c.count_run-holes.result c.in-Err.field-0 c.in-Err.ensures.nospace.turned.done.0.found in
    let H : ℕ → Type 0 = λ m. (c.in-Err.field-0.wanted ≡ m) × (c.in-Err.field-0.found < m) in
    let V : RangeView → Type 0 = λ v. (c.in-Err.field-0.wanted ≡ holes_in v b n) × (c.in-Err.field-0.found < holes_in v b n) in
    let F : Option EventFault → Type 0 = λ o. IsRefusedFor (holes_in c.args.self.now b n) o (NoSpace c.in-Err.field-0.wanted c.in-Err.field-0.found) in
    subst F (c.in_default.ensures ∙ worn_counted lacks_sector view b n c.count_run-taken.result counted ∙ ap (λ v. preallocate_refusal v b n) c.self.view_is) (subst V c.self.view_is (subst H holes none))

pub returns-clause-made : goal.returns-clause-made
returns-clause-made g c =
    let r = c.self.inside in
    let b : ℕ = c.args.block in
    let n : ℕ = c.args.blocks in
    let counted : c.count_run-taken.result ≡ count_on lacks_sector (b - r.first) n r.cells.items = c.count_run-taken.ensures.count ∙ ap (count_on lacks_sector (b - r.first) n) c.deref.ensures.value in
    let view : RangeView = range_view r.geometry r.mode r.first r.cells.items r.log.items r.cookie r.errors r.tickets (seat_view r.seat) (seat_claims r.seat).facts in
    sym (c.in_default.ensures ∙ worn_counted lacks_sector view b n c.count_run-taken.result counted ∙ ap (λ v. preallocate_refusal v b n) c.self.view_is)

pub reserve_at-requires-clause-fits : goal.reserve_at-requires-clause-fits
reserve_at-requires-clause-fits g c =
    let r = c.self.inside in
    let low : ℕ = c.args.block - r.first in
    let n : ℕ = c.args.blocks in
    let holes : c.count_run-holes.result ≡ count_on is_empty low n r.cells.items = c.count_run-holes.ensures.count ∙ ap (count_on is_empty low n) c.deref-2.ensures.value in
    let F : ℕ → Type 0 = λ m. Fits (seat_claims r.seat).facts m in
    subst F (sym holes) (fits_holes r.geometry.block_size low n r.cells.items (seat_claims r.seat).facts c.self.invariant.0.space)

pub take_at-requires-clause-reserved : goal.take_at-requires-clause-reserved
take_at-requires-clause-reserved g c =
    let r = c.self.inside in
    let low : ℕ = c.args.block - r.first in
    let n : ℕ = c.args.blocks in
    let was : List Cell = r.cells.items in
    let claims : SpaceClaims = (seat_claims r.seat).facts in
    let counted : c.count_run-taken.result ≡ count_on lacks_sector low n was = c.count_run-taken.ensures.count ∙ ap (count_on lacks_sector low n) c.deref.ensures.value in
    let holes : c.count_run-holes.result ≡ count_on is_empty low n was = c.count_run-holes.ensures.count ∙ ap (count_on is_empty low n) c.deref-2.ensures.value in
    let base : (seat_claims c.reserve_at.new.seat).facts ≡ with_more claims (count_on is_empty low n was) = c.in_default-reserve_at.ensures.claims ∙ ap (with_more claims) holes in
    let enough = reserved-enough lacks_sector (λ d. one_where (is_empty d)) r.geometry.block_size low n was (with_more claims (count_on is_empty low n was)) lacks-spaceless (promised_holes r.geometry.block_size low n was claims c.self.invariant.0.space) in
    let E : SpaceClaims → Type 0 = λ s. c.count_run-taken.result ≤ s.reserved in
    subst E (sym base) (omega arith)

pub invariant_of-self-2 : goal.invariant_of-self-2
invariant_of-self-2 g c =
    let r = c.self.inside in
    let low : ℕ = c.args.block - r.first in
    let n : ℕ = c.args.blocks in
    let was : List Cell = r.cells.items in
    let sectors : List DeviceBlock = c.take_at.new.into.items in
    let claims : SpaceClaims = (seat_claims r.seat).facts in
    let view : RangeView = range_view r.geometry r.mode r.first was r.log.items r.cookie r.errors r.tickets (seat_view r.seat) claims in
    let L : RangeView → Type 0 = λ v. c.args.block - v.first + n ≤ length v.cells in
    let within : low + n ≤ length was = subst L (sym c.self.view_is) (lies_within c.args.self.now c.args.block n c.requires.lies) in
    let counted : length sectors ≡ count_on lacks_sector low n was = c.take_at.ensures.count ∙ c.count_run-taken.ensures.count ∙ ap (count_on lacks_sector low n) c.deref.ensures.value in
    let holes : c.count_run-holes.result ≡ count_on is_empty low n was = c.count_run-holes.ensures.count ∙ ap (count_on is_empty low n) c.deref-2.ensures.value in
    let base : (seat_claims c.reserve_at.new.seat).facts ≡ with_more claims (count_on is_empty low n was) = c.in_default-reserve_at.ensures.claims ∙ ap (with_more claims) holes in
    let H : SpaceClaims → Type 0 = λ s. HasPromised r.geometry.block_size was (total (λ d. one_where (is_empty d)) (take n (drop low was))) s in
    let had = subst H (sym base) (promised_holes r.geometry.block_size low n was claims c.self.invariant.0.space) in
    let gone = placed_gone lacks_sector (λ d. one_where (is_empty d)) view low n c.place_run.new.cells.items sectors c.place_run.ensures in
    let room = c.self.invariant.1 in (
      placed_sound lacks_sector (λ d. one_where (is_empty d)) view low n c.place_run.new.cells.items sectors (seat_claims c.reserve_at.new.seat).facts _ c.next_cookie-self-inside.result (seat_view c.take_at.new.seat) lacks-spaceless within c.place_run.ensures counted had c.take_at.ensures.sized
          c.take_at.ensures.claims c.take_at.ensures.distinct c.self.invariant.0,
      omega arith,
    )
