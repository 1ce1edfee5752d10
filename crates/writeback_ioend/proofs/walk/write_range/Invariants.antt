use Rattle.std.proofs.Common.{◌≡◌, ◌≤◌, None}
use Rattle.fault_device.specs.LaneView.{lane_seen}
use Rattle.mini_fs.specs.PassView.{IsPassOf}
use Rattle.writeback_ioend.specs.Walks.{WalksOn}
use Rattle.writeback_ioend.proofs.walk.write_range.Given as goal

-- the blocks up to one are done, and nothing stopped the walk
abbrev pub invariant-loop : goal.invariant-loop
invariant-loop g l = record {
  of : IsPassOf l.mount l.pass;
  high : l.at ≤ l.to;
  clear : l.written.fault ≡ None;
  walks : WalksOn l.mount l.file l.waits l.to l.from l.at (lane_seen (λ z. (goal.Fate-dyn g z).count z.1) (λ z. (goal.Fate-dyn g z).tells z.1) l.initial.lane) (lane_seen (λ z. (goal.Fate-dyn g z).count z.1) (λ z. (goal.Fate-dyn g z).tells z.1) l.lane) l.initial.pass l.pass l.written;
}
