use Rattle.std.specs.Prelude.{ℕ, ◌+◌, Bool, ◌==◌, if◌then◌else◌, List, [], ◌∷◌}
use Rattle.std.specs.Option.{option_map}
use Rattle.fault_device.specs.Opening.{Opening, is_fresh, opening_with}
use Rattle.fault_device.specs.Telling.{Telling}
use Rattle.io_model.specs.Causes.{LaneStart}
use Rattle.io_model.specs.declared.run.LaneEnd.{LaneEnd}
use Rattle.io_model.specs.declared.script.Script.{Script}

-- the fate of a lane of this number once the fault lines are armed, each a lane and the number that is to fail there
abbrev pub armed_by : List (ℕ × ℕ) → ℕ → Opening → Opening
armed_by [] lane o = o
armed_by (fault ∷ faults) lane o = armed_by faults lane (if fault.0 == lane then opening_with o fault.1 else o)

-- a lane before the first call, over a fate that is so now, and was handed over fresh or not
abbrev pub start_over : Bool → Opening → LaneStart
start_over fresh o = record { count = o.count; armed = option_map (λ (t : Telling). t.armed) o.tells; fresh = fresh }

-- the lanes before the first call, numbered from one on, over fates that were handed over so
abbrev pub starts_from : List (ℕ × ℕ) → ℕ → List Opening → List LaneStart
starts_from faults n [] = []
starts_from faults n (o ∷ os) = start_over (is_fresh o) (armed_by faults n o) ∷ starts_from faults (n + 1) os

-- the lanes of a script before the first call
abbrev pub starts_of : Script → List Opening → List LaneStart
starts_of script openings = starts_from script.faults 0 openings

-- the end of a lane that made no transfer, over a fate of this count
abbrev pub idle_end : ℕ → LaneEnd
idle_end count = record { ops = 0; faults = count }
