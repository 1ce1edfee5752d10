use Rattle.std.proofs.Common.{ℕ, sym, subst}
use Rattle.bio_pages.specs.Running.{IsRun}
use Rattle.bio_pages.proofs.Twice.{run-again}
use Rattle.bio_pages.proofs.Listed.{not-not, own-more, own-told, own-whole}
use Rattle.bio_pages.proofs.settle.settle.Goals as goal

pub returns-then-not-done-clause-own : goal.returns-then-not-done-clause-own
returns-then-not-done-clause-own g c = own-whole _ _ _ _ _ c.requires.own c.if-not-done.true

pub returns-then-is_own-clause-own : goal.returns-then-is_own-clause-own
returns-then-is_own-clause-own g c = own-more _ _ _ _ c.args.done c.requires.own (c.is_own.ensures.own c.if-is_own.true) (c.is_own.ensures.apart c.if-is_own.true)

pub returns-clause-run : goal.returns-clause-run
returns-clause-run g c = λ before r.
    subst (λ (n : ℕ). IsRun before c.run_bio-again.new.bio (record c.run_bio-again.result { landed = n })) (sym c.max.ensures)
    (run-again before c.args.bio.now c.run_bio-again.new.bio c.args.done c.run_bio-again.result (not-not _ c.if-not-done.false) r c.run_bio-again.ensures.run)

pub returns-clause-own : goal.returns-clause-own
returns-clause-own g c = own-told _ _ c.max.result _ _ _ c.run_bio-again.result c.requires.then c.run_bio-again.ensures.tells c.requires.own
