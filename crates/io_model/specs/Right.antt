use Rattle.std.specs.Prelude.{ℕ, Bool, ◌&&◌, ◌==◌, List, length, IsTrue}
use Rattle.std.specs.List.{zip}
use Rattle.io_model.specs.Budgets.{FloorsBios, OneCaller}
use Rattle.io_model.specs.Conversion.{ShowsConversion}
use Rattle.io_model.specs.Finals.{IsFinalContent}
use Rattle.io_model.specs.Fitting.{Fits}
use Rattle.io_model.specs.Journals.{IsLawfulJournal, have_own_makers}
use Rattle.io_model.specs.Lawful.{IsLawfulReply}
use Rattle.io_model.specs.Lists.{each_pair}
use Rattle.io_model.specs.Pages.{PagesComeBack}
use Rattle.io_model.specs.Partition.{IsPartition}
use Rattle.io_model.specs.Reads.{IsReadReply}
use Rattle.io_model.specs.Sizes.{IsSizeJournal}
use Rattle.io_model.specs.Space.{KeepsSpace, CoversAllocs, ClosesClean}
use Rattle.io_model.specs.declared.run.Run.{Run}
use Rattle.io_model.specs.declared.script.Call.{Call}
use Rattle.io_model.specs.declared.script.Script.{Script}

-- each call has a maker, the number of the pass that made it, and no two callers of a phase share one
abbrev pub are_makers : List Call → List ℕ → Bool
are_makers calls makers = length makers == length calls && each_pair have_own_makers (zip calls makers)

-- the run is a right run of the script: its journals hold each call once where it answered and in
-- order, and replaying them from the opening contents gives every byte read and every final byte
pub record RunIsRight (script : Script) (makers : List ℕ) (run : Run) : Type 0 where
  pub fits : Fits script run
  pub makers_known : IsTrue (are_makers script.calls makers)
  pub journals : IsLawfulJournal script makers run
  pub reads : IsReadReply script run
  pub contents : IsFinalContent script run
  pub pages : PagesComeBack script run
  pub replies : IsLawfulReply script run
  pub partition : IsPartition script run
  pub conversion : ShowsConversion script run
  pub space : KeepsSpace script run
  pub allocated : CoversAllocs script run
  pub clean : ClosesClean script run
  pub floors : FloorsBios script run
  pub sizes : IsSizeJournal script makers run
  pub one_caller : OneCaller script run
