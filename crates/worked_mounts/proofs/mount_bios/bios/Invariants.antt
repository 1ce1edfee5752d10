use Rattle.std.proofs.Common.{◌≡◌, ◌+◌, vec_capacity, vec_len}
use Rattle.bio_pages.specs.Lists.{CanSend}
use Rattle.mini_fs.specs.PassView.{IsPassOf}
use Rattle.worked_mounts.specs.Shares.{first_share}
use Rattle.worked_mounts.proofs.mount_bios.bios.Given as goal

abbrev pub invariant-loop-slot : goal.invariant-loop-slot
invariant-loop-slot g l = record {
  of : IsPassOf l.mount l.pass;
  share : first_share l.mount l.pass + l.slot ≡ first_share l.mount l.initial.pass;
  count : vec_len l.all ≡ l.slot;
  room : vec_capacity l.all ≡ vec_capacity l.initial.all;
  can_send : CanSend l.all.items;
}
