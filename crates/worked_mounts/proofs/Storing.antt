-- That bytes may be stored with a sample that the pass was given.
use Rattle.std.proofs.Common.{◌≡◌, ℕ, ◌+◌, ◌-◌, ◌*◌, ◌<◌, ◌≤◌, Some, List, length, refl, sym, ap, ◌∙◌, subst, arith}
use Rattle.std.specs.Prelude.{◌/◌, ◌%◌, false, IsSomeAnd, slice_get, sum}
use Rattle.iob_base.specs.Layout.{Layout, layout}
use Rattle.iob_base.specs.declared.stamp.FileId.{FileId}
use Rattle.iob_base.specs.declared.stamp.Mode.TheVariants.{Cached}
use Rattle.iov_iter.specs.IovView.{IovView}
use Rattle.iov_iter.specs.Kept.{IsIov}
use Rattle.turn_cell.specs.Views.{CellView, SeatView}
use Rattle.range_core.specs.ByteRuns.{HasNext}
use Rattle.range_core.specs.Kinds.{is_hole}
use Rattle.range_core.specs.KnownSamples.{WasGiven}
use Rattle.range_core.specs.RangeView.{LiesAt, RangeView}
use Rattle.range_core.specs.Spots.{blocks_met}
use Rattle.range_core.specs.Stores.{CanStore}
use Rattle.range_core.specs.declared.entry.Entry.{Entry}
use Rattle.range_core.specs.declared.sample.Sample.{Sample}
use Rattle.mount_parts.specs.MountView.{HasBlock, IsLaidOut, MountView, file_at, stripe_at}
use Rattle.mini_fs.specs.Mappings.{IsGivenAt, LiesInStripe}
use Rattle.mini_fs.specs.PassView.{PassView, claims_of}
use Rattle.mini_fs.specs.Turns.{ReadyAt, block_at}
use Rattle.mini_fs.proofs.Layouts.{stripe-sizes}
use Rattle.mini_fs.proofs.Ready.{run-lies, stripe-here}
use Rattle.worked_mounts.specs.Alone.{IsAlone, IsSeen}
use Rattle.worked_mounts.specs.Buffers.{IsBuffer}

-- blocks of one extent in one stripe
met-within : (from to b n : ℕ) → from < to → b ≤ from / 16 → (to - 1) / 16 < b + n → (0 < blocks_met 16 from to) × (from / 16 + blocks_met 16 from to ≤ b + n)
met-within from to b n some low high =
    let le : from / 16 ≤ (to - 1) / 16 = omega arith in
    (omega arith, omega arith)

in-stripe : (from to : ℕ) → from < to → from / 16 / 4 ≡ (to - 1) / 16 / 4 → from / 16 % 64 + blocks_met 16 from to ≤ 64
in-stripe from to some folio = omega arith

same-stripe : (f b n k : ℕ) → b ≤ k → k < b + n → b % 64 + n ≤ 64 → f + b / 64 ≡ f + k / 64
same-stripe f b n k low high stripe = omega arith

module _ (m : MountView) (file : FileId) (cached : (file_at m file).mode ≡ Cached) (p : PassView) (seen : Sample) (from to : ℕ) (iov : IovView) (laid : IsLaidOut m) (alone : IsAlone m p) (known : IsSeen m file p seen) (some : from < to) (folio : from / 16 / 4 ≡ (to - 1) / 16 / 4) (low : seen.extent.block ≤ from / 16) (high : (to - 1) / 16 < seen.extent.block + seen.extent.length) where
  size : m.geometry.block_size ≡ 16
  size = ap (λ (g : Layout). g.block_size) alone.geometry

  met : (0 < blocks_met 16 from to) × (from / 16 + blocks_met 16 from to ≤ seen.extent.block + seen.extent.length)
  met = met-within from to seen.extent.block seen.extent.length some low high

  -- the first block is one of the file
  pub store-block : HasBlock m file (block_at m from)
  store-block = subst (λ n. from / n < (file_at m file).blocks) (sym size) (let w = known.lies.within in omega (arith, w, met.0, met.1))

  here-stripe : stripe_at m file seen.extent.block ≡ stripe_at m file (block_at m from)
  here-stripe = same-stripe (file_at m file).stripe seen.extent.block seen.extent.length (from / 16) low (omega (arith, met.0, met.1)) known.lies.stripe ∙ ap (λ n. stripe_at m file (from / n)) (sym size)

  pub store-ready : is_hole seen.extent.kind ≡ false → HasNext iov (to - from) → ReadyAt (λ opening entries _. CanStore opening seen from to iov × WasGiven seen entries) m p (stripe_at m file (block_at m from)) (claims_of p)
  store-ready space room cell seat stand =
      let sizes : cell.opening.geometry ≡ layout 16 4 = stripe-sizes m (stripe_at m file (block_at m from)) cell laid stand.cell_is ∙ alone.geometry in
      let s = stripe-here m file laid (block_at m from) cell store-block stand.cell_is in
      let there : slice_get m.stripes (stripe_at m file (from / 16)) ≡ Some cell = ap (λ n. slice_get m.stripes (stripe_at m file (from / n))) (sym size) ∙ stand.cell_is in
      let lies : LiesAt cell.opening (from / 16) (blocks_met 16 from to) = run-lies m file laid (from / 16) (blocks_met 16 from to) met.0 (let w = known.lies.within in omega (arith, w, met.1)) (in-stripe from to some folio) cell there in
      let given : IsSomeAnd (slice_get p.stripes (stripe_at m file (block_at m from))) (λ (x : SeatView Entry). WasGiven seen x.seen) = subst (λ k. IsGivenAt p k seen) here-stripe known.given in (
        record {
          bytes = record {
            cached = s.mode ∙ cached;
            some = some;
            blocks = subst (λ (g : Layout). LiesAt cell.opening (from / g.block_size) (blocks_met g.block_size from to)) (sym sizes) lies;
            folio = subst (λ (g : Layout). from / g.block_size / g.folio_blocks ≡ (to - 1) / g.block_size / g.folio_blocks) (sym sizes) folio;
          };
          extent = record {
            low = subst (λ (g : Layout). seen.extent.block ≤ from / g.block_size) (sym sizes) low;
            high = subst (λ (g : Layout). from / g.block_size + blocks_met g.block_size from to ≤ seen.extent.block + seen.extent.length) (sym sizes) met.1;
          };
          space = space;
          room = room;
        },
        subst (λ o. IsSomeAnd o (λ (x : SeatView Entry). WasGiven seen x.seen)) stand.seat_is given,
      )

-- bytes of one folio are at most 64
folio-few : (from to : ℕ) → from < to → from / 16 / 4 ≡ (to - 1) / 16 / 4 → to - from ≤ 64
folio-few from to some folio = omega arith

-- a buffer at its start has as many
pub buffer-next : (v : IovView) (from to : ℕ) → IsBuffer v → v.place ≡ 0 → IsIov v → from < to → from / 16 / 4 ≡ (to - 1) / 16 / 4 → HasNext v (to - from)
buffer-next v from to is start valid some folio =
    let few = folio-few from to some folio in
    let long : length v.bytes ≡ 64 = valid.joined ∙ ap sum is.one in
    record { within = omega (arith, few, long, start); home = λ b low high. is.home b (omega arith) (omega (arith, few, start, high)) }
