-- What contracts see of a seat and of a hold.
use Rattle.std.specs.Prelude.{ℕ, List, [], ◌∷◌, ◌++◌, Option, None}
use Rattle.atomic_table.specs.Seated.{TableId}
use Rattle.atomic_table.specs.declared.shared.Seat.{Seat}
use Rattle.inode_lock.specs.declared.word.Class.{Class}
use Rattle.inode_lock.specs.declared.steps.Step.{Step}
use Rattle.inode_lock.specs.declared.steps.Step.TheVariants.{Split}
use Rattle.inode_lock.specs.declared.steps.Known.{Known}
use Rattle.inode_lock.specs.Steps.{steps_of}

-- the lock, the number of the seat there, the class that it holds, and all steps that it made, in order
pub record LockView : Type 0 where
  pub lock : TableId
  pub seat : ℕ
  pub holds : Option Class
  pub steps : List Step

abbrev pub view_of : Seat (Unit {0}) Known → LockView
view_of s = record { lock = s.table_id; seat = s.id; holds = s.me.0.holds; steps = steps_of s.me.0.steps }

-- a seat that has made no step
abbrev pub fresh : TableId → ℕ → LockView
fresh lock number = record { lock = lock; seat = number; holds = None; steps = [] }

-- the same seat, which then made these steps and holds this
abbrev pub onward : LockView → List Step → Option Class → LockView
onward v more now = record { lock = v.lock; seat = v.seat; holds = now; steps = v.steps ++ more }

-- a seat from which another was split off
abbrev pub split_off : LockView → LockView
split_off v = onward v (Split ∷ []) v.holds
