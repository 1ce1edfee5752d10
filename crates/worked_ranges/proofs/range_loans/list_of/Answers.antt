use Rattle.std.proofs.Common.{◌∙◌}
use Rattle.iob_base.proofs.PartLemmas.{many_pages}
use Rattle.worked_ranges.proofs.WholeParts.{whole_pages}
use Rattle.worked_ranges.proofs.range_loans.list_of.Goals as goal

pub returns-clause-count : goal.returns-clause-count
returns-clause-count c = many_pages c.in_ok-parts.parts ∙ c.in_ok-parts.ensures.count

pub returns-clause-whole : goal.returns-clause-whole
returns-clause-whole c = whole_pages c.in_ok-parts.parts c.in_ok-parts.ensures.whole

pub returns-clause-bare : goal.returns-clause-bare
returns-clause-bare c = λ k d l. (c.in_ok-parts.ensures.whole k d l).bare
