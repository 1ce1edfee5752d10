use Rattle.std.specs.Prelude.{◌≡◌}
use Rattle.worked_ranges.specs.SmallEnds.{own_part}
use Rattle.worked_ranges.specs.SmallRanges.{Stands}
use Rattle.worked_ranges.proofs.range_runs.take_turns.Given as goal

abbrev pub invariant-loop-at : goal.invariant-loop-at
invariant-loop-at g l =
    Stands l.first.ground.now.cell l.first.seat l.first.sample l.first.loan
    × Stands l.second.ground.now.cell l.second.seat l.second.sample l.second.loan
    × (own_part l.first.ground.now.cell l.first.seat ≡ own_part l.initial.first.ground.now.cell l.initial.first.seat)
    × (own_part l.second.ground.now.cell l.second.seat ≡ own_part l.initial.second.ground.now.cell l.initial.second.seat)
