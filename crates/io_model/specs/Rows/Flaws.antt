use Rattle.std.specs.Prelude.{ℕ, Bool, true, false, List, [], ◌∷◌, IsTrue}
use Rattle.std.specs.List.{list_any}
use Rattle.io_model.specs.Budgets.{FloorsBios, OneCaller}
use Rattle.io_model.specs.Causes.{AreCaused}
use Rattle.io_model.specs.Conversion.{ShowsConversion}
use Rattle.io_model.specs.Finals.{IsFinalContent}
use Rattle.io_model.specs.Fitting.{Fits}
use Rattle.io_model.specs.Journals.{IsLawfulJournal}
use Rattle.io_model.specs.Lawful.{IsLawfulReply}
use Rattle.io_model.specs.Pages.{PagesComeBack}
use Rattle.io_model.specs.Partition.{IsPartition}
use Rattle.io_model.specs.Reads.{IsReadReply}
use Rattle.io_model.specs.Right.{are_makers}
use Rattle.io_model.specs.Rows.Parts.{fresh_lanes}
use Rattle.io_model.specs.Sizes.{IsSizeJournal}
use Rattle.io_model.specs.Space.{KeepsSpace, CoversAllocs, ClosesClean}
use Rattle.io_model.specs.declared.run.Run.{Run}
use Rattle.io_model.specs.declared.script.Script.{Script}

-- what may be wrong with a run
pub data Flaw : Type 0 where
  Form : Flaw
  Makers : Flaw
  Journals : Flaw
  Reads : Flaw
  Contents : Flaw
  Pages : Flaw
  Replies : Flaw
  Partition : Flaw
  Conversion : Flaw
  Space : Flaw
  Allocated : Flaw
  Clean : Flaw
  Floors : Flaw
  Sizes : Flaw
  Budget : Flaw
  Causes : Flaw

abbrev pub is_flaw : Flaw → Flaw → Bool
is_flaw Form Form = true
is_flaw Makers Makers = true
is_flaw Journals Journals = true
is_flaw Reads Reads = true
is_flaw Contents Contents = true
is_flaw Pages Pages = true
is_flaw Replies Replies = true
is_flaw Partition Partition = true
is_flaw Conversion Conversion = true
is_flaw Space Space = true
is_flaw Allocated Allocated = true
is_flaw Clean Clean = true
is_flaw Floors Floors = true
is_flaw Sizes Sizes = true
is_flaw Budget Budget = true
is_flaw Causes Causes = true
is_flaw _ _ = false

-- a fact that does not hold, where it is a wrong one, and holds otherwise
abbrev pub HoldsUnless : Bool → Type 0 → Type 0
HoldsUnless true A = A → ⊥
HoldsUnless false A = A

-- a fact that holds but where it is one of the flaws, and fails there
abbrev pub Flawed : List Flaw → Flaw → Type 0 → Type 0
Flawed flaws flaw A = HoldsUnless (list_any (is_flaw flaw) flaws) A

-- these parts of what a right run shows, and of the causes of its faults, do not hold, and every other does
pub record HasAll (flaws : List Flaw) (script : Script) (makers : List ℕ) (run : Run) : Type 0 where
  pub fits : Flawed flaws Form (Fits script run)
  pub makers_known : Flawed flaws Makers (IsTrue (are_makers script.calls makers))
  pub journals : Flawed flaws Journals (IsLawfulJournal script makers run)
  pub reads : Flawed flaws Reads (IsReadReply script run)
  pub contents : Flawed flaws Contents (IsFinalContent script run)
  pub pages : Flawed flaws Pages (PagesComeBack script run)
  pub replies : Flawed flaws Replies (IsLawfulReply script run)
  pub partition : Flawed flaws Partition (IsPartition script run)
  pub conversion : Flawed flaws Conversion (ShowsConversion script run)
  pub space : Flawed flaws Space (KeepsSpace script run)
  pub allocated : Flawed flaws Allocated (CoversAllocs script run)
  pub clean : Flawed flaws Clean (ClosesClean script run)
  pub floors : Flawed flaws Floors (FloorsBios script run)
  pub sizes : Flawed flaws Sizes (IsSizeJournal script makers run)
  pub budget : Flawed flaws Budget (OneCaller script run)
  pub causes : Flawed flaws Causes (AreCaused (fresh_lanes script) script run)

-- one alone does not hold
abbrev pub HasOnly : Flaw → Script → List ℕ → Run → Type 0
HasOnly flaw script makers run = HasAll (flaw ∷ []) script makers run
