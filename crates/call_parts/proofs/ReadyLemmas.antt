-- That a part of a range lies in one folio of the range of its stripe, and that its bytes are as many as it has.
use Rattle.std.proofs.Common.{◌≡◌, ℕ, ◌+◌, ◌-◌, ◌*◌, ◌<◌, ◌≤◌, Some, List, length, sym, ◌∙◌, subst, arith, div-lt_iff_lt-mul}
use Rattle.std.specs.Prelude.{◌/◌, ◌%◌, IsTrue, slice_get}
use Rattle.std.proofs.lemmas.Bool.Decides.{nat_tests}
use Rattle.iob_base.specs.Geometry.{is_block_size, is_folio_blocks}
use Rattle.iob_base.specs.declared.stamp.FileId.{FileId}
use Rattle.iob_base.specs.declared.stamp.Mode.TheVariants.{Cached}
use Rattle.iov_iter.specs.IovView.{IovView}
use Rattle.turn_cell.specs.Views.{CellView}
use Rattle.range_core.specs.ByteRuns.{HasNext, run_between}
use Rattle.range_core.specs.Fetches.{CanFetch, replayed_run}
use Rattle.range_core.specs.RangeTruth.{RangeTruth, content_at}
use Rattle.range_core.specs.RangeView.{LiesAt, RangeView}
use Rattle.range_core.specs.Spots.{blocks_met}
use Rattle.range_core.specs.Stakes.{RangeStake}
use Rattle.range_core.specs.declared.entry.Entry.{Entry}
use Rattle.range_core.proofs.ByteRunLemmas.{length-run_bytes}
use Rattle.range_core.proofs.ChangeLemmas.{byte_run}
use Rattle.mount_parts.specs.MountView.{MountView, HasBlock, IsLaidOut, file_at, stripe_at}
use Rattle.mount_parts.proofs.Places.{there}
use Rattle.mini_fs.specs.Mappings.{file_end}
use Rattle.mini_fs.specs.Turns.{block_at}
use Rattle.mini_fs.proofs.Layouts.{stripe-sizes}
use Rattle.mini_fs.proofs.Ready.{run-lies, stripe-here}
use Rattle.call_parts.specs.Parts.{part_end}
use Rattle.call_parts.proofs.PartLemmas.{IsPart, div-mono, part-is}

pub some-bytes : (size : ℕ) → IsTrue (is_block_size size) → 0 < size
some-bytes size is = grind arith

pub some-blocks : (n : ℕ) → IsTrue (is_folio_blocks n) → 0 < n
some-blocks n is = grind arith

-- blocks of one folio are blocks of one stripe
pub folio-in-stripe : (n b l : ℕ) → IsTrue (is_folio_blocks n) → b ≤ l → b / n ≡ l / n → b % 64 + (l + 1 - b) ≤ 64
folio-in-stripe n b l is le same = grind (arith, nat_tests)

-- a byte before the end lies in a block of the file
pub part-block : (m : MountView) (file : FileId) (at to : ℕ) → 0 < m.geometry.block_size → at < to → to ≤ file_end m file → HasBlock m file (block_at m at)
part-block m file at to some less within =
    let below : at < (file_at m file).blocks * m.geometry.block_size = omega (arith, less, within) in
    grind (arith, div-lt_iff_lt-mul)

-- bytes as the history leaves them are as many as their places
pub length-replayed : (opening now : RangeView) (history : List Entry) (stakes : List RangeStake) (from to : ℕ) → RangeTruth opening now history stakes → 0 < opening.geometry.block_size → from < to
    → LiesAt opening (from / opening.geometry.block_size) (blocks_met opening.geometry.block_size from to) → length (replayed_run opening history from to) ≡ to - from
length-replayed opening now history stakes from to truth some less lies =
    let run = run_between opening.geometry.block_size from to in
    length-run_bytes run (λ b. content_at opening history (b - opening.first)) (byte_run opening.geometry.block_size from to some less) whole
  where
    whole : (k : ℕ) → k < blocks_met opening.geometry.block_size from to → length (content_at opening history (from / opening.geometry.block_size + k - opening.first)) ≡ opening.geometry.block_size
    whole k below =
        let i = from / opening.geometry.block_size + k - opening.first in
        let low = lies.low in
        let high = lies.high in
        let long = truth.same_run.blocks in
        let c = there now.cells i (omega (arith, low, high, long, below)) in
        (truth.blocks i c.0 c.1).whole

module _ (m : MountView) (file : FileId) (laid : IsLaidOut m) (block_size : IsTrue (is_block_size m.geometry.block_size)) (folio_blocks : IsTrue (is_folio_blocks m.geometry.folio_blocks)) (at to : ℕ) (less : at < to) (within : to ≤ file_end m file) where
  part : IsPart m.geometry.block_size m.geometry.folio_blocks to at (part_end m.geometry to at)
  part = part-is m.geometry.block_size m.geometry.folio_blocks to at (some-bytes m.geometry.block_size block_size) (some-blocks m.geometry.folio_blocks folio_blocks) less

  part-lies : (cell : CellView RangeView) → slice_get m.stripes (stripe_at m file (block_at m at)) ≡ Some cell → LiesAt cell.opening (block_at m at) (blocks_met m.geometry.block_size at (part_end m.geometry to at))
  part-lies cell here =
      let size = m.geometry.block_size in
      let some = some-bytes size block_size in
      let next = part_end m.geometry to at in
      let p = part in
      let le : at / size ≤ (next - 1) / size = div-mono at (next - 1) size some (let h = p.some in omega (arith, h)) in
      let last : HasBlock m file (block_at m (next - 1)) = part-block m file (next - 1) next some (let h = p.some in omega (arith, h)) (let h = p.within in omega (arith, h, within)) in
      run-lies m file laid (block_at m at) (blocks_met size at next) (omega (arith, le)) (omega (arith, le, last)) (let h = folio-in-stripe m.geometry.folio_blocks (at / size) ((next - 1) / size) folio_blocks le p.in_folio in omega (arith, h, le)) cell here

  -- the part may be fetched
  pub part-ready : (file_at m file).mode ≡ Cached → (iov : IovView) → HasNext iov (to - at) → (cell : CellView RangeView) → slice_get m.stripes (stripe_at m file (block_at m at)) ≡ Some cell → CanFetch cell.opening at (part_end m.geometry to at) iov
  part-ready cached iov room cell here =
      let p = part in
      let next = part_end m.geometry to at in
      let sizes : m.geometry ≡ cell.opening.geometry = sym (stripe-sizes m (stripe_at m file (block_at m at)) cell laid here) in
      let has : HasBlock m file (block_at m at) = part-block m file at to (some-bytes m.geometry.block_size block_size) less within in
      let some = p.some in
      let high = p.within in
      let fits = room.within in
      record {
        bytes = record {
          cached = (stripe-here m file laid (block_at m at) cell has here).mode ∙ cached;
          some = some;
          blocks = subst (λ g. LiesAt cell.opening (at / g.block_size) (blocks_met g.block_size at next)) sizes (part-lies cell here);
          folio = subst (λ g. at / g.block_size / g.folio_blocks ≡ (next - 1) / g.block_size / g.folio_blocks) sizes p.in_folio;
        };
        room = record { within = omega (arith, high, fits); home = λ b low below. room.home b low (omega (arith, below, high)) };
      }

  -- its bytes as a history leaves them are as many as it has
  pub part-long : (cell : CellView RangeView) (value : RangeView) (history : List Entry) (stakes : List RangeStake) → slice_get m.stripes (stripe_at m file (block_at m at)) ≡ Some cell → RangeTruth cell.opening value history stakes
      → length (replayed_run cell.opening history at (part_end m.geometry to at)) ≡ part_end m.geometry to at - at
  part-long cell value history stakes here truth =
      let next = part_end m.geometry to at in
      let sizes : m.geometry ≡ cell.opening.geometry = sym (stripe-sizes m (stripe_at m file (block_at m at)) cell laid here) in
      length-replayed cell.opening value history stakes at next truth
      (subst (λ g. 0 < g.block_size) sizes (some-bytes m.geometry.block_size block_size))
      part.some
      (subst (λ g. LiesAt cell.opening (at / g.block_size) (blocks_met g.block_size at next)) sizes (part-lies cell here))
