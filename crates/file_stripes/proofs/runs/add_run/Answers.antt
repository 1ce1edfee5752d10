use Rattle.std.proofs.Common.{◌∙◌, sym}
use Rattle.file_stripes.proofs.RunLemmas.{began, joined}
use Rattle.file_stripes.proofs.runs.add_run.Goals as goal

pub returns-then-goes_on : goal.returns-then-goes_on
returns-then-goes_on c =
    joined c.args.extents.now.items c.pop.new.self.items _ c.in-Some.last c.args.run c.in-Some.ensures.items
    (sym c.goes_on.ensures ∙ c.if-goes_on.true) c.in_ok-push-2.ensures.items

pub returns : goal.returns
returns c =
    began c.args.extents.now.items c.pop.new.self.items _ _ c.in-Some.last c.args.run c.in-Some.ensures.items
    (sym c.goes_on.ensures ∙ c.if-goes_on.false) c.in_ok-push-3.ensures.items c.in_ok-push-4.ensures.items
