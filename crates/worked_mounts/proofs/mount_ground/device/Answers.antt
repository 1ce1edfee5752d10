use Rattle.std.proofs.Common.{◌<◌, Some, length, refl, arith}
use Rattle.std.specs.Prelude.{slice_get, ◌≡◌}
use Rattle.std.proofs.lemmas.Option.{slice_get_read}
use Rattle.worked_mounts.proofs.Starting.{device-set, fresh-device}
use Rattle.worked_mounts.proofs.mount_ground.device.Goals as goal

pub loop-i-init : goal.loop-i-init
loop-i-init c = fresh-device c.args.geometry.block_size 238 c.args.blocks c.in_ok-all.all.items c.requires c.in_ok-all.ensures

pub loop-i-preserved : goal.loop-i-preserved
loop-i-preserved c =
    let items = c.loop-i.all.items in
    let s = c.index_mut.result.now in
    let count = c.loop-i.invariant.count in
    let first = fresh-device c.args.geometry.block_size 238 c.args.blocks c.in_ok-all.all.items c.requires c.in_ok-all.ensures in
    let many = first.count in
    let long = c.in_ok-all.all.ok.0 in
    let end = c.len-i-end.ensures in
    let test = c.loop-i-test.true in
    let below : c.loop-i.i < length items = omega (arith, count, many, long, end, test) in
    let here : slice_get items c.loop-i.i ≡ Some s = slice_get_read items (length items) c.loop-i.i s refl below c.index_mut.ensures.value in
    device-set c.args.blocks c.loop-i.i items s c.mark.new.sector here c.mark.ensures.number c.mark.ensures.whole c.loop-i.invariant
