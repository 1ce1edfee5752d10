use Rattle.std.proofs.Common.{List, subst, sym}
use Rattle.iob_base.specs.DeviceBlock.{DeviceBlock}
use Rattle.io_model.specs.Contents.{device_bytes}
use Rattle.io_model.specs.declared.file.Extent.{Extent}
use Rattle.iomap_replay.specs.Devices.{first_number}
use Rattle.iomap_replay.proofs.OnePool.{claims_own, distinct_run}
use Rattle.iomap_replay.proofs.OneRange.{can_open}
use Rattle.range_core.specs.Opening.{CanOpen, ClaimsSectors}
use Rattle.range_core.specs.Space.{SpaceClaims}
use Rattle.space_pool.specs.Claims.{numbers_of}
use Rattle.space_pool.specs.Pool.{AreDistinct}
use Rattle.turn_cell.specs.Seats.{seat_claims}
use Rattle.iomap_replay.proofs.range.open_range.Goals as goal

pub new-requires : goal.new-requires
new-requires c =
    let job = c.args.job.now in
    let own = c.args.own.items in
    let space : SpaceClaims = (seat_claims c.args.seat).facts in
    let P : List Extent → Type 0 = λ extents. CanOpen job.geometry.block_size 0 job.blocks extents own space 0 in
    let D : List DeviceBlock → Type 0 = λ s. AreDistinct (numbers_of s) in
    let distinct : AreDistinct (numbers_of own) = subst D (sym c.requires.own) (distinct_run (device_bytes c.args.script.now) (first_number job.extent.kind) job.extent.length) in
    let C : SpaceClaims → Type 0 = λ s. ClaimsSectors job.geometry.block_size job.blocks own s in
    let claims : ClaimsSectors job.geometry.block_size job.blocks own space = subst C (sym c.requires.claims) (claims_own own job.blocks job.geometry.block_size distinct) in
    subst P (sym c.in_ok-extents.ensures.items) (can_open c.args.script.now job own space c.requires.job c.requires.own claims)
