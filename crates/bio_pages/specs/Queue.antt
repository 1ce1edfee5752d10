-- What contracts see of a queue of bios and of its passes.
use Rattle.std.specs.Prelude.{◌≡◌, ℕ, ◌+◌, ◌≤◌, List, [], ◌∷◌, ◌++◌, length, refl}
use Rattle.std.specs.Coded.{Coded, code_by, coded×, coded_ℕ}
use Rattle.atomic_table.specs.Seated.{TableId, table_id_coded}
use Rattle.crossbeam_queue.specs.Passes.{Pass, view}
use Rattle.crossbeam_queue.specs.declared.array_queue.Slotted.{Slotted}
use Rattle.iob_base.specs.Counts.{count_after}
use Rattle.fault_device.specs.LaneView.{LaneView}
use Rattle.fault_device.specs.Ran.{Ran, count_more}
use Rattle.bio_pages.specs.declared.sent.Sent.{Sent}
use Rattle.bio_pages.specs.declared.queue_rule.Passed.{Passed}
use Rattle.bio_pages.specs.QueueRule.{Stood, WasPushed}

-- which queue it is, and how many bios it has room for
pub record QueueView : Type 0 where
  pub queue : TableId
  pub capacity : ℕ

abbrev pub queue_view_coded : Coded QueueView
queue_view_coded = code_by (TableId × ℕ) (coded× table_id_coded coded_ℕ) (λ q. (q.queue, q.capacity)) (λ p. record { queue = p.0; capacity = p.1 }) (λ _. refl)

-- the queue, the bios that the pass pushed and popped, in order, and how many of its steps found the queue full, or empty
pub record PassView (T : Type 0) : Type 0 where
  pub queue : TableId
  pub pushed : List (Sent T)
  pub popped : List (Sent T)
  pub full : ℕ
  pub empty : ℕ

abbrev pub queue_view : {S D Q A : Type 0} → Slotted S D Q A → QueueView
queue_view q = record { queue = q.table.shared.table_id; capacity = q.cap }

module _ {T : Type 0} where
  abbrev pub pass_view : Pass (Sent T) (Passed T) → ℕ → ℕ → PassView T
  pass_view p full empty = record { queue = p.table_id; pushed = (view p).pushed; popped = (view p).popped; full = full; empty = empty }

  -- a pass that has passed nothing
  abbrev pub new_pass : TableId → PassView T
  new_pass queue = record { queue = queue; pushed = []; popped = []; full = 0; empty = 0 }

  -- after it pushed one more bio
  abbrev pub with_pushed : PassView T → Sent T → PassView T
  with_pushed p sent = record p { pushed = p.pushed ++ sent ∷ [] }

  -- after it popped one more bio
  abbrev pub with_popped : PassView T → Sent T → PassView T
  with_popped p sent = record p { popped = p.popped ++ sent ∷ [] }

  -- after one more of its steps found the queue full
  abbrev pub found_full : PassView T → PassView T
  found_full p = record p { full = count_after p.full }

  -- after one more of its steps found the queue empty
  abbrev pub found_empty : PassView T → PassView T
  found_empty p = record p { empty = count_after p.empty }

  abbrev pub passed_of : PassView T → Passed T
  passed_of p = record { pushed = p.pushed; popped = p.popped }

  -- at one moment, when the pass had passed what it has, the queue had no room
  abbrev pub HeldAll : QueueView → PassView T → Type 0
  HeldAll q p = (items : List (Sent T)) × (length items ≡ q.capacity) × Stood items (passed_of p)

  -- at one moment, when the pass had passed what it has, the queue held nothing
  abbrev pub HeldNone : PassView T → Type 0
  HeldNone p = (items : List (Sent T)) × (length items ≡ 0) × Stood items (passed_of p)

  -- what the pass popped was pushed, by the rule of the queue
  abbrev pub CameThrough : PassView T → Type 0
  CameThrough p = WasPushed (passed_of p)

-- By n the number of bios that a pass pushed, and its count of steps that found the queue full, grew together, or by more
pub record Grew {T : Type 0} (n : ℕ) (before after : PassView T) : Type 0 where
  pub fulls : ℕ
  pub pushes : ℕ
  pub full : after.full ≡ count_more fulls before.full
  pub pushed : length after.pushed ≡ length before.pushed + pushes
  pub enough : n ≤ pushes + fulls

-- So many bios were popped by a pass, and a lane made a judgement for each
pub record RanPopped {T : Type 0} (before after : PassView T) (old new : LaneView) : Type 0 where
  pub popped : ℕ
  pub passed : length after.popped ≡ length before.popped + popped
  pub ran : Ran popped old new
