use Rattle.std.proofs.Common.{refl, ap, ◌∙◌}
use Rattle.std.specs.Prelude.{◌==◌}
use Rattle.bio_pages.specs.Queue.{PassView}
use Rattle.bio_pages.specs.Shelf.{SeatView, looked}
use Rattle.bio_pages.proofs.Growing.{popped-none, popped-one, grew-none, grew-as}
use Rattle.bio_pages.proofs.running.await_last.Goals as goal

pub loop-init : goal.loop-init
loop-init g c = record { looks = (c.args.owner.now.last, c.args.owner.now.found, refl); queue = refl; grew = grew-none _; ran = popped-none _ _ }

pub loop-preserved-in-Some-pop : goal.loop-preserved-in-Some-pop
loop-preserved-in-Some-pop g c =
    let found = c.look.new.seat.found in
    let passed = c.in-Some-pop.ensures.0 in
    record {
      looks = (found == c.args.owner.now.amount, found, c.look.ensures.seat ∙ ap (λ (s : SeatView g.row.T.Denot). looked s found) c.loop.invariant.looks.2);
      queue = ap (λ (p : PassView g.row.T.Denot). p.queue) passed ∙ c.loop.invariant.queue;
      grew = grew-as 0 _ _ _ c.loop.invariant.grew (ap (λ (p : PassView g.row.T.Denot). p.full) passed) (ap (λ (p : PassView g.row.T.Denot). p.pushed) passed);
      ran = popped-one _ _ _ _ _ _ _ c.loop.invariant.ran passed c.serve.ensures.ran;
    }
