use Rattle.std.proofs.Common.{◌≡◌, suc, drop, refl, sym, ap, ◌∙◌, subst, arith}
use Rattle.fault_device.specs.Transfer.{CanTransfer}
use Rattle.bio_pages.specs.declared.bio.Bio.{Bio}
use Rattle.bio_pages.specs.Lists.{Lent}
use Rattle.bio_pages.specs.Queue.{Grew}
use Rattle.bio_pages.specs.Shelf.{IsFree, with_errand}
use Rattle.atomic_table.proofs.Lists.{drop_at}
use Rattle.bio_pages.proofs.Growing.{lane-none, lane-then, grew-none, grew-then}
use Rattle.bio_pages.proofs.Listed.{first-of, front-rest, there}
use Rattle.bio_pages.proofs.Lending.{lent-none, lent-next}
use Rattle.bio_pages.proofs.list.send_each.Goals as goal

pub loop-sent-init : goal.loop-sent-init
loop-sent-init g c = record { bios = refl; len = omega arith; capacity = refl; noted = lent-none _ _; queue = refl; grew = grew-none _; lane = lane-none _ }

pub send_out-requires-clause-free : goal.send_out-requires-clause-free
send_out-requires-clause-free g c =
    let xs = c.args.bios.now.items in
    let k = c.loop-sent.sent in
    let ok = c.args.bios.now.ok.0 in
    let below = c.loop-sent-test.true in
    let all = c.len-all.ensures in
    let h = there xs k (omega arith) in
    let same = first-of c.loop-sent.bios.items (drop (suc k) xs) h.0 c.remove-bio.result (c.loop-sent.invariant.bios ∙ drop_at xs k h.0 h.1) c.remove-bio.ensures.value in
    let slot : c.remove-bio.result.slot ≡ k = ap (λ (b : Bio g.row.T.Denot). b.slot) same ∙ (c.requires.can_send k h.0 h.1).0 in
    subst (IsFree c.loop-sent.owner) (sym slot) (c.loop-sent.invariant.noted.others k (omega arith) ∙ c.requires.free k (omega arith))

pub send_out-requires-clause-can_run : goal.send_out-requires-clause-can_run
send_out-requires-clause-can_run g c =
    let xs = c.args.bios.now.items in
    let k = c.loop-sent.sent in
    let ok = c.args.bios.now.ok.0 in
    let below = c.loop-sent-test.true in
    let all = c.len-all.ensures in
    let h = there xs k (omega arith) in
    let same = first-of c.loop-sent.bios.items (drop (suc k) xs) h.0 c.remove-bio.result (c.loop-sent.invariant.bios ∙ drop_at xs k h.0 h.1) c.remove-bio.ensures.value in
    subst (λ (b : Bio g.row.T.Denot). CanTransfer b.parts) (sym same) (c.requires.can_send k h.0 h.1).1

pub loop-sent-preserved : goal.loop-sent-preserved
loop-sent-preserved g c =
    let xs = c.args.bios.now.items in
    let k = c.loop-sent.sent in
    let ok = c.args.bios.now.ok.0 in
    let below = c.loop-sent-test.true in
    let all = c.len-all.ensures in
    let inv = c.loop-sent.invariant in
    let h = there xs k (omega arith) in
    let same = first-of c.loop-sent.bios.items (drop (suc k) xs) h.0 c.remove-bio.result (inv.bios ∙ drop_at xs k h.0 h.1) c.remove-bio.ensures.value in
    let slot : h.0.slot ≡ k = (c.requires.can_send k h.0 h.1).0 in
    let kept = c.if-amount-le-KEPT.false in
    let amount = c.amount.ensures in
    let len = inv.len in
    let a = c.remove-bio.ensures.len in
    let owner = c.loop-sent.owner in
    record {
      bios = front-rest xs c.loop-sent.bios.items c.remove-bio.new.self.items k _ h.0 inv.bios h.1 c.remove-bio.ensures.items (omega arith);
      len = omega arith;
      capacity = c.remove-bio.ensures.capacity ∙ inv.capacity;
      noted = lent-next k _ xs c.args.owner.now owner c.send_out.new.owner h.0 inv.noted (omega arith) h.1 (inv.noted.others k (omega arith) ∙ c.requires.free k (omega arith)) (omega arith)
          (c.send_out.ensures.noted ∙ ap (λ (b : Bio g.row.T.Denot). with_errand owner b.slot b) same ∙ ap (λ n. with_errand owner n h.0) slot);
      queue = c.send_out.ensures.pass ∙ inv.queue;
      grew = grew-then k 1 _ _ _ inv.grew c.send_out.ensures.pushed;
      lane = lane-then _ _ _ inv.lane c.send_out.ensures.lane;
    }

pub returns : goal.returns
returns g c =
    let inv = c.loop-sent.invariant in
    let past = c.loop-sent-test.false in
    let most = c.loop-sent.auto.sent-end in
    let all = c.len-all.ensures in
    let len = inv.len in
    let e : c.loop-sent.sent ≡ c.len-all.result = omega arith in
    record {
      most = omega arith;
      bios = inv.bios ∙ ap (λ n. drop n c.args.bios.now.items) e;
      len = omega arith;
      capacity = inv.capacity;
      noted = subst (λ n. Lent n c.args.bios.now.items c.args.owner.now c.loop-sent.owner) e inv.noted;
      whole = λ _. omega arith;
      pass = inv.queue;
      pushed = subst (λ n. Grew n c.args.pass.now c.loop-sent.pass) e inv.grew;
      lane = inv.lane;
    }
