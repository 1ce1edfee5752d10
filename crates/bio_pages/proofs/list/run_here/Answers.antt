use Rattle.std.proofs.Common.{◌++◌, ◌∷◌, [], refl, sym, ap, ◌∙◌, subst, arith}
use Rattle.fault_device.specs.Transfer.{CanTransfer}
use Rattle.bio_pages.specs.declared.bio.Bio.{Bio}
use Rattle.bio_pages.specs.Running.{IsRun}
use Rattle.bio_pages.proofs.Growing.{lane-none, lane-then}
use Rattle.bio_pages.proofs.Listed.{at-take, own-then, there, turned-here, turned-none, head-is}
use Rattle.bio_pages.proofs.list.run_here.Goals as goal

pub loop-init : goal.loop-init
loop-init g c = record { run = turned-none _ _; own = c.requires.own; lane = lane-none _; len = refl; told = omega arith; space = refl; kept = refl }

pub run_bio-done-requires : goal.run_bio-done-requires
run_bio-done-requires g c =
    let xs = c.args.bios.now.items in
    let k = c.loop.counter in
    let ok = c.args.bios.now.ok.0 in
    let below = c.loop-test.true in
    let most = c.requires.left in
    let h = there xs k (omega arith) in
    let same = head-is xs c.loop.bios.items k c.loop.invariant.run.run h.0 c.remove-bio.result h.1 c.loop.invariant.run.bios c.remove-bio.ensures.value in
    subst (λ (b : Bio g.row.T.Denot). CanTransfer b.parts) (sym same) (c.requires.can_run k h.0 (at-take c.args.left xs k h.0 (omega arith) h.1))

pub loop-preserved : goal.loop-preserved
loop-preserved g c =
    let xs = c.args.bios.now.items in
    let k = c.loop.counter in
    let ok = c.args.bios.now.ok.0 in
    let below = c.loop-test.true in
    let most = c.requires.left in
    let inv = c.loop.invariant in
    let h = there xs k (omega arith) in
    let same = head-is xs c.loop.bios.items k inv.run.run h.0 c.remove-bio.result h.1 inv.run.bios c.remove-bio.ensures.value in
    let run = subst (λ (b : Bio g.row.T.Denot). IsRun b c.run_bio-done.new.bio c.run_bio-done.result) same c.run_bio-done.ensures.run in
    let then = c.requires.then in
    let rises = inv.lane.1.never_falls in
    let len = inv.len in
    let told = inv.told in
    let a = c.remove-bio.ensures.len in
    let b = c.push_reserved.ensures.len in
    let d = c.push_reserved-in-loop.ensures.len in
    record {
      run = turned-here xs c.loop.bios.items c.push_reserved.new.self.items k _ _ c.loop.dones.items _ h.0 c.run_bio-done.new.bio c.run_bio-done.result h.1 (omega arith) inv.run run
          (c.push_reserved.ensures.items ∙ ap (λ l. l ++ c.run_bio-done.new.bio ∷ []) c.remove-bio.ensures.items) c.push_reserved-in-loop.ensures.items;
      own = own-then _ _ _ _ _ c.loop.dones.items _ c.run_bio-done.result then rises c.run_bio-done.ensures.tells inv.own c.push_reserved-in-loop.ensures.items;
      lane = lane-then _ _ _ inv.lane (1, c.run_bio-done.ensures.tells.ran);
      len = omega arith;
      told = omega arith;
      space = c.push_reserved.ensures.capacity ∙ c.remove-bio.ensures.capacity ∙ inv.space;
      kept = c.push_reserved-in-loop.ensures.capacity ∙ inv.kept;
    }
