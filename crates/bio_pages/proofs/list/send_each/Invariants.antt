use Rattle.std.proofs.Common.{◌≡◌, ◌+◌, drop, vec_len, vec_capacity}
use Rattle.fault_device.specs.LaneView.{lane_seen}
use Rattle.bio_pages.specs.Lists.{Lent}
use Rattle.bio_pages.specs.Queue.{Grew}
use Rattle.bio_pages.specs.Running.{HasRun}
use Rattle.bio_pages.proofs.list.send_each.Given as goal

-- so many bios of the front went out
abbrev pub invariant-loop-sent : goal.invariant-loop-sent
invariant-loop-sent g l = record {
  bios : l.bios.items ≡ drop l.sent l.initial.bios.items;
  len : vec_len l.bios + l.sent ≡ vec_len l.initial.bios;
  capacity : vec_capacity l.bios ≡ vec_capacity l.initial.bios;
  noted : Lent l.sent l.initial.bios.items l.initial.owner l.owner;
  queue : l.pass.queue ≡ l.initial.pass.queue;
  grew : Grew l.sent l.initial.pass l.pass;
  lane : HasRun (lane_seen (λ z. (goal.Fate-dyn g z).count z.1) (λ z. (goal.Fate-dyn g z).tells z.1) l.initial.lane) (lane_seen (λ z. (goal.Fate-dyn g z).count z.1) (λ z. (goal.Fate-dyn g z).tells z.1) l.lane);
}
