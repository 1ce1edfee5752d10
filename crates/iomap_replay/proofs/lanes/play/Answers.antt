use Rattle.std.proofs.Common.{arith, ap, List, IfOk}
use Rattle.fault_device.proofs.Serving.{opens_serves}
use Rattle.fault_device.specs.LaneView.{LaneView}
use Rattle.fault_device.specs.Opening.{Opening}
use Rattle.io_model.specs.Causes.{AreCaused}
use Rattle.iomap_replay.proofs.Firsts.{with_first}
use Rattle.iomap_replay.specs.Starts.{starts_of}
use Rattle.iomap_replay.proofs.lanes.play.Goals as goal

pub returns-clause-caused : goal.returns-clause-caused
returns-clause-caused g c =
    let H : List Opening → Type 0 = λ os. IfOk c.run_script.result (λ run. AreCaused (starts_of c.args.script.now os) c.args.script.now run) in
    with_first _ c.args.fates.items c.remove-first.new.self.items c.remove-first.result c.in_ok-others.others.items H
    (omega (arith, c.requires.seventeen)) c.remove-first.ensures.value c.remove-first.ensures.items c.in_ok-others.ensures.idle
    (λ os idle. c.run_script.ensures.caused _ os (opens_serves _ _ c.new-lane.ensures.opens) (ap (λ (v : LaneView). v.number) c.new-lane.ensures.view) idle)
