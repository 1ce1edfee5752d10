use Rattle.std.specs.Prelude.{◌≡◌, ◌==◌, ℕ, List, []}
use Rattle.std.specs.List.{list_any}
use Rattle.std.specs.Ordering.{nat_cmp}
use Rattle.std.specs.BTreeSet.{BTreeSet, contains}
use Rattle.fault_device.specs.Telling.{Telling, telling}

-- the fate in memory: how many judgements failed, how many it made, and which are to fail
pub record ListedView : Type 0 where
  pub count : ℕ
  pub judged : ℕ
  pub armed : List ℕ

-- no judgement made, and none armed
abbrev pub FRESH : ListedView
FRESH = record { count = 0; judged = 0; armed = [] }

abbrev pub telling_of : ListedView → Telling
telling_of v = telling v.judged v.armed

-- a number is in the tree where it is in the list
abbrev pub HasNumbers : BTreeSet ℕ → List ℕ → Type 0
HasNumbers tree numbers = (next : ℕ) → contains nat_cmp tree next ≡ list_any (λ number. number == next) numbers
