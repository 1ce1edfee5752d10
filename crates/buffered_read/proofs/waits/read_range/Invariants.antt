use Rattle.std.proofs.Common.{◌≡◌, ◌+◌}
use Rattle.std.specs.Prelude.{None}
use Rattle.fault_device.specs.LaneView.{lane_seen}
use Rattle.mini_fs.specs.PassView.{IsPassOf}
use Rattle.buffered_read.proofs.ReadLemmas.{IsReadSoFar}
use Rattle.buffered_read.proofs.waits.read_range.Given as goal

abbrev pub invariant-loop-by : goal.invariant-loop-by
invariant-loop-by g l = record {
  of : IsPassOf l.mount l.pass;
  file : l.iter.file ≡ l.fn.file;
  finished : l.iter.unfinished ≡ None;
  end : l.iter.pos + l.iter.left ≡ l.fn.to;
  so : IsReadSoFar l.mount l.fn.file l.by l.fn.from l.fn.to (lane_seen (λ z. (goal.Fate-dyn g z).count z.1) (λ z. (goal.Fate-dyn g z).tells z.1) l.initial.lane) (lane_seen (λ z. (goal.Fate-dyn g z).count z.1) (λ z. (goal.Fate-dyn g z).tells z.1) l.lane) l.initial.pass l.pass l.initial.iov l.iov l.iter.pos l.bios;
}

abbrev pub decreases-loop-by : goal.decreases-loop-by
decreases-loop-by g l = l.iter.left
