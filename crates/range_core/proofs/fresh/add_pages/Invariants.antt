use Rattle.std.proofs.Common.{◌≡◌, length, All}
use Rattle.iob_base.specs.Parting.{pages_of}
use Rattle.range_core.specs.Pages.{IsCachePage}
use Rattle.range_core.proofs.fresh.add_pages.Given as goal

abbrev pub invariant-loop : goal.invariant-loop
invariant-loop l = record {
  many : length l.parts ≡ l.counter;
  pages : All (IsCachePage l.size) (pages_of l.parts);
}
