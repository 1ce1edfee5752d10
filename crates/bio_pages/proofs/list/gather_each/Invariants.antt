use Rattle.std.proofs.Common.{◌≡◌, ◌+◌, List, take, vec_len, vec_capacity}
use Rattle.fault_device.specs.LaneView.{lane_seen}
use Rattle.bio_pages.specs.declared.bio.Bio.{Bio}
use Rattle.bio_pages.specs.Lists.{AreOut, Emptied, OwnFailures, Turned}
use Rattle.bio_pages.specs.Running.{HasRun}
use Rattle.bio_pages.proofs.list.gather_each.Given as goal

-- so many bios came back
abbrev pub invariant-loop-slot : goal.invariant-loop-slot
invariant-loop-slot g l = record {
  run : (all : List (Bio g.row.T.Denot)) → AreOut l.sent all l.initial.owner → Turned (take l.slot all) l.initial.bios.items l.bios.items l.initial.dones.items l.dones.items;
  own : OwnFailures (lane_seen (λ z. (goal.Fate-dyn g z).count z.1) (λ z. (goal.Fate-dyn g z).tells z.1) l.lane).number l.then (lane_seen (λ z. (goal.Fate-dyn g z).count z.1) (λ z. (goal.Fate-dyn g z).tells z.1) l.lane).count l.dones.items;
  lane : HasRun (lane_seen (λ z. (goal.Fate-dyn g z).count z.1) (λ z. (goal.Fate-dyn g z).tells z.1) l.initial.lane) (lane_seen (λ z. (goal.Fate-dyn g z).count z.1) (λ z. (goal.Fate-dyn g z).tells z.1) l.lane);
  len : vec_len l.bios ≡ vec_len l.initial.bios + l.slot;
  space : vec_capacity l.bios ≡ vec_capacity l.initial.bios;
  told : vec_len l.dones ≡ vec_len l.initial.dones + l.slot;
  kept : vec_capacity l.dones ≡ vec_capacity l.initial.dones;
  notes : Emptied l.slot l.initial.owner l.owner;
}
