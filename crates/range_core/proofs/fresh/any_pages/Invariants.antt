use Rattle.std.proofs.Common.{◌≡◌, All, vec_len}
use Rattle.range_core.specs.Pages.{IsCachePage}
use Rattle.range_core.proofs.fresh.any_pages.Given as goal

abbrev pub invariant-loop : goal.invariant-loop
invariant-loop l = record {
  many : vec_len l.pages ≡ l.counter;
  kept : All (IsCachePage l.size) l.pages.items;
}
