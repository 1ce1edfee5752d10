use Rattle.std.proofs.Common.{◌≡◌, length, ◌∙◌, arith}
use Rattle.worked_mounts.proofs.Queueing.{send-more}
use Rattle.worked_mounts.proofs.mount_bios.bios.Goals as goal

pub loop-slot-preserved : goal.loop-slot-preserved
loop-slot-preserved g c =
    let inv = c.loop-slot.invariant in
    let made = c.in_ok-bio.ensures in
    let pushed = c.push_reserved.ensures in
    let share = inv.share in
    let less = made.share in
    let count = inv.count in
    let longer = pushed.len in
    let ok = c.loop-slot.all.ok.0 in
    let at = made.bio.0 in
    let slot : c.in_ok-bio.bio.slot ≡ length c.loop-slot.all.items = omega (arith, ok, at, count) in
    record {
      of = made.of;
      share = omega (arith, share, less);
      count = omega (arith, count, longer);
      room = pushed.capacity ∙ inv.room;
      can_send = send-more c.loop-slot.all.items c.push_reserved.new.self.items c.in_ok-bio.bio inv.can_send pushed.items slot made.bio.1;
    }
