use Rattle.std.proofs.Common.{◌≡◌, ◌+◌, ◌≤◌, List, ◌++◌, All, length, subst, sym, ap, ◌∙◌, arith}
use Rattle.iob_base.specs.DeviceBlock.{DeviceBlock}
use Rattle.io_model.specs.Contents.{device_bytes}
use Rattle.io_model.specs.declared.script.Script.{Script}
use Rattle.iomap_replay.specs.Devices.{blocks_with, first_number}
use Rattle.iomap_replay.specs.declared.job.Job.{Job}
use Rattle.iomap_replay.proofs.Devices.{length-blocks_with}
use Rattle.iomap_replay.proofs.OnePool.{distinct_beside, sized_beside, sized_run}
use Rattle.iomap_replay.proofs.OneRange.{first_is, length-device}
use Rattle.space_pool.specs.Claims.{numbers_of}
use Rattle.space_pool.specs.Pool.{AreDistinct, HasSize}
use Rattle.iomap_replay.proofs.range.start_pool.Goals as goal

pub start-requires-clause-free_sized : goal.start-requires-clause-free_sized
start-requires-clause-free_sized c =
    let script : Script = c.args.script.now in
    let job : Job = c.args.job.now in
    let H : List DeviceBlock → Type 0 = λ s. All (HasSize job.geometry.block_size) s in
    subst H (sym c.requires.free) (sized_beside (device_bytes script) job.geometry.block_size (first_number job.extent.kind) job.extent.length job.device.blocks (length-device script job c.requires.job))

pub start-requires-clause-held_sized : goal.start-requires-clause-held_sized
start-requires-clause-held_sized c =
    let script : Script = c.args.script.now in
    let job : Job = c.args.job.now in
    let H : List DeviceBlock → Type 0 = λ s. All (HasSize job.geometry.block_size) s in
    subst H (sym c.requires.own) (sized_run (device_bytes script) job.geometry.block_size (first_number job.extent.kind) job.extent.length (length-device script job c.requires.job))

pub start-requires-clause-distinct : goal.start-requires-clause-distinct
start-requires-clause-distinct c =
    let script : Script = c.args.script.now in
    let job : Job = c.args.job.now in
    let on = c.requires.job.shape.tail.extent in
    let within : first_number job.extent.kind + job.extent.length ≤ job.device.blocks = omega (arith, first_is job.extent on.mapped.0 on.mapped.1, on.mapped.2) in
    let O : List DeviceBlock → Type 0 = λ s. AreDistinct (numbers_of s ++ numbers_of c.args.free.items) in
    let F : List DeviceBlock → Type 0 = λ s. AreDistinct (numbers_of (blocks_with (device_bytes script) (first_number job.extent.kind) job.extent.length) ++ numbers_of s) in
    subst O (sym c.requires.own) (subst F (sym c.requires.free) (distinct_beside (device_bytes script) (first_number job.extent.kind) job.extent.length job.device.blocks within))

pub start-requires-clause-few : goal.start-requires-clause-few
start-requires-clause-few c =
    let script : Script = c.args.script.now in
    let job : Job = c.args.job.now in
    let many : length c.args.own.now ≡ job.extent.length = ap length c.requires.own ∙ length-blocks_with (device_bytes script) (first_number job.extent.kind) job.extent.length in
    let inside = c.requires.job.shape.tail.extent.inside in
    omega arith
