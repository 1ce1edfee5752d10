use Rattle.std.proofs.Common.{◌≡◌, ◌+◌, take, drop, vec_len, vec_capacity}
use Rattle.fault_device.specs.LaneView.{lane_seen}
use Rattle.bio_pages.specs.Lists.{OwnFailures, Turned}
use Rattle.bio_pages.specs.Running.{HasRun}
use Rattle.bio_pages.proofs.list.run_here.Given as goal

-- so many bios were turned round
abbrev pub invariant-loop : goal.invariant-loop
invariant-loop g l = record {
  run : Turned (take l.counter l.initial.bios.items) (drop l.counter l.initial.bios.items) l.bios.items l.initial.dones.items l.dones.items;
  own : OwnFailures (lane_seen (λ z. (goal.Fate-dyn g z).count z.1) (λ z. (goal.Fate-dyn g z).tells z.1) l.lane).number l.then (lane_seen (λ z. (goal.Fate-dyn g z).count z.1) (λ z. (goal.Fate-dyn g z).tells z.1) l.lane).count l.dones.items;
  lane : HasRun (lane_seen (λ z. (goal.Fate-dyn g z).count z.1) (λ z. (goal.Fate-dyn g z).tells z.1) l.initial.lane) (lane_seen (λ z. (goal.Fate-dyn g z).count z.1) (λ z. (goal.Fate-dyn g z).tells z.1) l.lane);
  len : vec_len l.bios ≡ vec_len l.initial.bios;
  told : vec_len l.dones ≡ vec_len l.initial.dones + l.counter;
  space : vec_capacity l.bios ≡ vec_capacity l.initial.bios;
  kept : vec_capacity l.dones ≡ vec_capacity l.initial.dones;
}
