use Rattle.std.proofs.Common.{◌≡◌, replicate}
use Rattle.range_core.specs.Pages.{zero_page}
use Rattle.range_core.proofs.fresh.pages_of_zeros.Given as goal

abbrev pub invariant-loop : goal.invariant-loop
invariant-loop l = l.pages.items ≡ replicate l.counter (zero_page l.size)
