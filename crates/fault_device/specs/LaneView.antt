use Rattle.std.specs.Prelude.{ℕ, Option}
use Rattle.std.specs.declared.dyn_box.DynBox.{DynBox}
use Rattle.std.specs.declared.alloc.Global.{Global}
use Rattle.fault_device.specs.Telling.{Telling}
use Rattle.fault_device.specs.declared.lane.Lane.{Lane}

-- a lane as contracts see it: its number, how many judgements it made, and what its fate shows
pub record LaneView : Type 0 where
  pub number : ℕ
  pub ops : ℕ
  pub count : ℕ
  pub tells : Option Telling

-- `lane_view count tells lane` takes the two members of the lane's fate by their names
abbrev pub lane_view : {I : Type 0} {V : I → Type 0} → (DynBox I Global V → ℕ) → (DynBox I Global V → Option Telling) → Lane I V → LaneView
lane_view count tells l = record { number = l.number; ops = l.ops; count = count l.fate; tells = tells l.fate }

-- a lane that made no judgement yet
abbrev pub lane_of : ℕ → ℕ → Option Telling → LaneView
lane_of number count tells = record { number = number; ops = 0; count = count; tells = tells }

-- the same in the crates above, where the members take a fate apart
abbrev pub lane_seen : {I : Type 0} {V : I → Type 0} → ((i : I) × V i → ℕ) → ((i : I) × V i → Option Telling) → Lane I V → LaneView
lane_seen count tells l =
    record { number = l.number; ops = l.ops; count = count (l.fate.vtable, l.fate.value); tells = tells (l.fate.vtable, l.fate.value) }
