-- Which bytes the turns of a read gave.
use Rattle.std.specs.Prelude.{ℕ, Option, Some, None, List, [], ◌∷◌, ◌++◌, slice_get}
use Rattle.turn_cell.specs.Views.{CellView, SeatView}
use Rattle.range_core.specs.Fetches.{replayed_run}
use Rattle.range_core.specs.RangeView.{RangeView}
use Rattle.range_core.specs.declared.entry.Entry.{Entry}
use Rattle.range_core.specs.declared.entry.Event.{Event}
use Rattle.range_core.specs.declared.entry.Event.TheVariants.{Fetch}
use Rattle.range_core.specs.declared.entry.Outcome.{Outcome}
use Rattle.range_core.specs.declared.entry.Outcome.TheVariants.{Finished}
use Rattle.mount_parts.specs.MountView.{MountView}
use Rattle.mini_fs.specs.Acts.{Act, seen_in}
use Rattle.mini_fs.specs.Acts.Act.{Turn}
use Rattle.mini_fs.specs.PassView.{PassView}

-- the bytes that an event gave which came about after a history: those that the history leaves
abbrev pub bytes_given : RangeView → List Entry → Event → Outcome → List ℕ
bytes_given opening history (Fetch by from to) Finished = replayed_run opening history from to
bytes_given opening history _ _ = []

-- the same of an entry, at a stripe of a mount
abbrev pub given_in : Option (CellView RangeView) → List Entry → Entry → List ℕ
given_in None history e = []
given_in (Some cell) history e = bytes_given cell.opening history e.event e.outcome

-- what a pass has seen at a stripe
abbrev pub seen_by : Option (SeatView Entry) → List Entry
seen_by None = []
seen_by (Some seat) = seat.seen

abbrev pub seen_at : PassView → ℕ → List Entry
seen_at p stripe = seen_by (slice_get p.stripes stripe)

-- the bytes that an act gave after others: of a turn those that its history leaves, which is what the pass had seen at the stripe at first and in the acts before, and then what others had entered
abbrev pub bytes_of_act : MountView → PassView → List Act → Act → List ℕ
bytes_of_act m p before (Turn stripe others own) = given_in (slice_get m.stripes stripe) ((seen_at p stripe ++ seen_in stripe before) ++ others) own
bytes_of_act m p before _ = []

-- the bytes that acts gave, in order, after others
abbrev pub bytes_read : MountView → PassView → List Act → List Act → List ℕ
bytes_read m p before [] = []
bytes_read m p before (a ∷ acts) = bytes_of_act m p before a ++ bytes_read m p (before ++ a ∷ []) acts
