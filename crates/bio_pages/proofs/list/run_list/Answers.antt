use Rattle.std.proofs.Common.{◌≡◌, ◌+◌, ◌-◌, ◌++◌, take, drop, sym, ap, ◌∙◌, subst, arith}
use Rattle.bio_pages.specs.Lists.{AreOut, CanRun, Turned}
use Rattle.bio_pages.specs.Queue.{Grew}
use Rattle.bio_pages.proofs.Growing.{lane-then, grew-then}
use Rattle.bio_pages.proofs.WholeList.{amount-same, back-again, length-of-drop, of-drop, take-front, went-out, whole-run}
use Rattle.bio_pages.proofs.list.run_list.Goals as goal

pub gather_each-requires-clause-noted : goal.gather_each-requires-clause-noted
gather_each-requires-clause-noted g c =
    let xs = c.args.bios.now.items in
    let n = c.send_each-sent.result in
    let ok = c.args.bios.now.ok.0 in
    let most = c.send_each-sent.ensures.most in (
      take n xs,
      went-out n xs _ _ _ (omega arith) c.requires.can_send c.send_each-sent.ensures.noted c.await_last.ensures.last,
    )

pub run_here-requires-clause-can_run : goal.run_here-requires-clause-can_run
run_here-requires-clause-can_run g c =
    let xs = c.args.bios.now.items in
    let n = c.send_each-sent.result in
    let m = c.len-all.result - n in
    let ok = c.args.bios.now.ok.0 in
    let most = c.send_each-sent.ensures.most in
    let all = c.len-all.ensures in
    let out : AreOut n (take n xs) c.await_last.new.owner = went-out n xs _ _ _ (omega arith) c.requires.can_send c.send_each-sent.ensures.noted c.await_last.ensures.last in
    let x = c.gather_each.ensures.run (take n xs) out in
    let front = ap (take m) (x.bios ∙ ap (λ l. l ++ x.run) c.send_each-sent.ensures.bios) ∙ take-front (drop n xs) x.run m (length-of-drop n m xs (omega arith)) in
    subst CanRun (sym front) (λ place b at. let h = of-drop n xs place b at in (c.requires.can_send h.0 b h.1).1)

pub returns-clause-run : goal.returns-clause-run
returns-clause-run g c =
    let xs = c.args.bios.now.items in
    let n = c.send_each-sent.result in
    let m = c.len-all.result - n in
    let ok = c.args.bios.now.ok.0 in
    let most = c.send_each-sent.ensures.most in
    let all = c.len-all.ensures in
    let out : AreOut n (take n xs) c.await_last.new.owner = went-out n xs _ _ _ (omega arith) c.requires.can_send c.send_each-sent.ensures.noted c.await_last.ensures.last in
    let x = subst (λ l. Turned (take n xs) l c.gather_each.new.bios.items c.args.dones.now.items c.gather_each.new.dones.items) c.send_each-sent.ensures.bios (c.gather_each.ensures.run (take n xs) out) in
    whole-run xs c.gather_each.new.bios.items c.run_here.new.bios.items n m c.args.dones.now.items c.gather_each.new.dones.items c.run_here.new.dones.items c.requires.none_told x c.run_here.ensures.run (length-of-drop n m xs (omega arith))

pub returns-clause-owner : goal.returns-clause-owner
returns-clause-owner g c =
    back-again c.send_each-sent.result _ c.args.bios.now.items c.args.owner.now c.send_each-sent.new.owner c.await_last.new.owner c.gather_each.new.owner
    c.send_each-sent.ensures.most c.requires.free c.send_each-sent.ensures.noted c.await_last.ensures.last c.gather_each.ensures.notes

pub returns-clause-sent : goal.returns-clause-sent
returns-clause-sent g c =
    let n = c.send_each-sent.result in
    let same = amount-same n c.send_each-sent.new.owner c.await_last.new.owner c.gather_each.new.owner c.await_last.ensures.last c.gather_each.ensures.notes in
    let fell = c.send_each-sent.ensures.noted.fell in
    let none : n + 0 ≡ n = omega arith in
    record {
      sent = n;
      most = c.send_each-sent.ensures.most;
      fell = omega arith;
      grew = subst (λ k. Grew k c.args.pass.now c.await_last.new.pass) none (grew-then n 0 _ _ _ c.send_each-sent.ensures.pushed c.await_last.ensures.pushed);
      whole = λ more. c.send_each-sent.ensures.whole (omega arith);
    }

pub returns-clause-lane : goal.returns-clause-lane
returns-clause-lane g c =
    lane-then _ _ _ (lane-then _ _ _ (lane-then _ _ _ c.send_each-sent.ensures.lane (c.await_last.ensures.ran.popped, c.await_last.ensures.ran.ran)) c.gather_each.ensures.lane) c.run_here.ensures.lane
