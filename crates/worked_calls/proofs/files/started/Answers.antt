use Rattle.std.proofs.Common.{◌≡◌, ap}
use Rattle.iob_base.specs.Layout.{Layout, layout}
use Rattle.worked_mounts.proofs.Starting.{fresh-device}
use Rattle.worked_calls.proofs.files.started.Goals as goal

pub started_on-requires-clause-device : goal.started_on-requires-clause-device
started_on-requires-clause-device c =
    let sizes : c.in-Ok.geometry ≡ layout 16 4 = (let e = c.in-Ok.ensures in cc) in
    fresh-device c.in-Ok.geometry.block_size 238 c.args.begin.device c.in_ok-device.device.items (ap (λ (l : Layout). l.block_size) sizes) c.in_ok-device.ensures
