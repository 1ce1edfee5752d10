use Rattle.space_pool.proofs.Starting.{truth-starts}
use Rattle.space_pool.proofs.cell.SpacePool.start.Goals as goal

pub start-requires : goal.start-requires
start-requires c =
    let made = c.in_ok-state.ensures in
    truth-starts c.args.free.items c.args.held.now c.args.cap c.args.geometry.block_size c.in_ok-state.state c.in_ok-state.claims made.free made.state made.claims c.requires.distinct c.requires.few
