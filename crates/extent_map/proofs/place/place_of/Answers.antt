use Rattle.std.proofs.Common.{◌+◌, ◌-◌, ◌/◌, ◌<◌, length, arith}
use Rattle.extent_map.proofs.Following.{block_at, no_extent}
use Rattle.extent_map.proofs.place.place_of.Goals as goal

pub loop-high-preserved-then-runs-middle : goal.loop-high-preserved-then-runs-middle
loop-high-preserved-then-runs-middle c =
    let low = c.loop-high.low in
    let high = c.loop-high.high in
    let within : low + (high - low) / 2 < length c.args.runs.now = omega arith in
    let is = block_at c.args.runs.now (low + (high - low) / 2) no_extent c.requires.follow within in (
      omega arith,
      omega arith,
      omega (arith, is, c.if-runs-middle.true),
      omega arith,
    )

pub loop-high-preserved : goal.loop-high-preserved
loop-high-preserved c =
    let low = c.loop-high.low in
    let high = c.loop-high.high in
    let within : low + (high - low) / 2 < length c.args.runs.now = omega arith in
    let is = block_at c.args.runs.now (low + (high - low) / 2) no_extent c.requires.follow within in (
      omega arith,
      omega arith,
      omega arith,
      omega (arith, is, c.if-runs-middle.false),
    )
