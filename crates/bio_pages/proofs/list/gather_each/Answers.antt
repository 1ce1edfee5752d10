use Rattle.std.proofs.Common.{◌++◌, ◌∷◌, [], refl, sym, ap, ◌∙◌, subst, arith}
use Rattle.bio_pages.specs.Lists.{OwnFailures}
use Rattle.bio_pages.proofs.Growing.{lane-none, lane-then}
use Rattle.bio_pages.proofs.Listed.{there, turned-came, turned-none}
use Rattle.bio_pages.proofs.Lending.{emptied-none, emptied-next}
use Rattle.bio_pages.proofs.Twice.{can-again}
use Rattle.bio_pages.proofs.list.gather_each.Goals as goal

pub loop-slot-init : goal.loop-slot-init
loop-slot-init g c = record { run = λ all out. turned-none _ _; own = c.requires.own; lane = lane-none _; len = omega arith; space = refl; told = omega arith; kept = refl; notes = emptied-none _ }

pub gather-bio-requires-clause-noted : goal.gather-bio-requires-clause-noted
gather-bio-requires-clause-noted g c =
    let all = c.requires.noted.0 in
    let out = c.requires.noted.1 in
    let k = c.loop-slot.slot in
    let below = c.loop-slot-test.true in
    let count = out.count in
    let h = there all k (omega arith) in
    (h.0, c.loop-slot.invariant.notes.others k (omega arith) ∙ out.noted k h.0 h.1)

pub settle-done-requires-clause-can_run : goal.settle-done-requires-clause-can_run
settle-done-requires-clause-can_run g c =
    let all = c.requires.noted.0 in
    let out = c.requires.noted.1 in
    let k = c.loop-slot.slot in
    let below = c.loop-slot-test.true in
    let count = out.count in
    let h = there all k (omega arith) in
    let noted = c.loop-slot.invariant.notes.others k (omega arith) ∙ out.noted k h.0 h.1 in
    can-again h.0 c.gather-bio.result.0 c.gather-bio.result.1 (c.gather-bio.ensures.bio h.0 noted) (out.can_send k h.0 h.1).1

pub loop-slot-preserved : goal.loop-slot-preserved
loop-slot-preserved g c =
    let inv = c.loop-slot.invariant in
    let k = c.loop-slot.slot in
    let below = c.loop-slot-test.true in
    let len = inv.len in
    let told = inv.told in
    let a = c.push_reserved.ensures.len in
    let b = c.push_reserved-in-loop-slot.ensures.len in
    let mine = c.requires.noted.1 in
    let size = mine.count in
    let own = there c.requires.noted.0 k (omega arith) in
    record {
      run = λ all out.
          let count = out.count in
          let h = there all k (omega arith) in
          let noted = inv.notes.others k (omega arith) ∙ out.noted k h.0 h.1 in
          turned-came all _ c.loop-slot.bios.items c.push_reserved.new.self.items k _ _ c.loop-slot.dones.items _ h.0 c.settle-done.new.bio c.settle-done.result h.1 (omega arith) (inv.run all out)
          (c.settle-done.ensures.run h.0 (c.gather-bio.ensures.bio h.0 noted)) c.push_reserved.ensures.items c.push_reserved-in-loop-slot.ensures.items;
      own = subst (OwnFailures _ c.args.then _) (ap (λ l. l ++ c.settle-done.result ∷ []) c.as_slice.ensures.value ∙ sym c.push_reserved-in-loop-slot.ensures.items) c.settle-done.ensures.own;
      lane = lane-then _ _ _ inv.lane c.settle-done.ensures.lane;
      len = omega arith;
      space = c.push_reserved.ensures.capacity ∙ inv.space;
      told = omega arith;
      kept = c.push_reserved-in-loop-slot.ensures.capacity ∙ inv.kept;
      notes = emptied-next k _ c.args.owner.now c.loop-slot.owner c.gather-bio.new.seat own.0 inv.notes (omega arith) (inv.notes.others k (omega arith) ∙ mine.noted k own.0 own.1) c.gather-bio.ensures.seat;
    }
