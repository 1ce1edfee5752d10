use Rattle.std.proofs.Common.{◌≡◌, ℕ, Bool}
use Rattle.fault_device.specs.LaneView.{lane_seen}
use Rattle.bio_pages.specs.Queue.{Grew, RanPopped}
use Rattle.bio_pages.specs.Shelf.{with_look}
use Rattle.bio_pages.proofs.running.await_last.Given as goal

-- nothing changes of the owner but what it looked at, and others' bios are run
abbrev pub invariant-loop : goal.invariant-loop
invariant-loop g l = record {
  looks : (last : Bool) × (found : ℕ) × (l.owner ≡ with_look l.initial.owner last found);
  queue : l.pass.queue ≡ l.initial.pass.queue;
  grew : Grew 0 l.initial.pass l.pass;
  ran : RanPopped l.initial.pass l.pass (lane_seen (λ z. (goal.Fate-dyn g z).count z.1) (λ z. (goal.Fate-dyn g z).tells z.1) l.initial.lane) (lane_seen (λ z. (goal.Fate-dyn g z).count z.1) (λ z. (goal.Fate-dyn g z).tells z.1) l.lane);
}
