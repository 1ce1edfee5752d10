use Rattle.std.proofs.Common.{◌-◌, ◌≤◌}
use Rattle.range_core.specs.ByteRuns.{HasNext}
use Rattle.mini_fs.specs.PassView.{IsPassOf}
use Rattle.mini_fs.specs.Tickets.{KeepsTickets}
use Rattle.buffered_read.specs.Tries.{HasRead, OnlyTurned}
use Rattle.buffered_read.proofs.nowait.try_parts.Given as goal

abbrev pub invariant-loop-at : goal.invariant-loop-at
invariant-loop-at l = record {
  of : IsPassOf l.mount l.pass;
  rest : OnlyTurned l.fn.pass l.pass;
  tickets : KeepsTickets l.fn.pass l.pass;
  low : l.from ≤ l.at;
  high : l.at ≤ l.to;
  room : HasNext l.iov (l.to - l.at);
  read : HasRead l.mount l.file l.by l.to l.from l.at l.fn.pass l.pass l.fn.iov l.iov;
}

abbrev pub decreases-loop-at : goal.decreases-loop-at
decreases-loop-at l = l.to - l.at
