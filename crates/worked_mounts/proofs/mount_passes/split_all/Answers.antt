use Rattle.std.proofs.Common.{◌∙◌, sym, subst, arith}
use Rattle.std.specs.Prelude.{All}
use Rattle.std.proofs.lemmas.List.Elements.{All-push}
use Rattle.worked_mounts.specs.Passes.{IsSplitOff}
use Rattle.worked_mounts.proofs.mount_passes.split_all.Goals as goal

pub loop-preserved : goal.loop-preserved
loop-preserved g c =
    let so = c.loop.invariant in
    let made = c.in_ok-made.ensures in
    let pushed = c.push_reserved.ensures in
    let before = so.share in
    let left = made.share in
    let count = so.count in
    let longer = pushed.len in
    record {
      alone = made.alone;
      share = omega (arith, before, left);
      given = subst (All (IsSplitOff c.args.mount.now)) (sym pushed.items) (All-push (IsSplitOff c.args.mount.now) c.loop.all.items c.in_ok-made.made so.given made.given);
      count = omega (arith, count, longer);
      room = pushed.capacity ∙ so.room;
    }
