-- What the entries of a history do to the content of a block.
use Rattle.std.specs.Prelude.{ℕ, ◌-◌, Bool, ◌&&◌, ◌||◌, not, nat_lt, Option, Some, None, List, slice_get, unwrap_or, if◌then◌else◌, replicate}
use Rattle.std.specs.List.{fold}
use Rattle.iob_base.specs.declared.stamp.Op.{Op}
use Rattle.iob_base.specs.declared.stamp.Op.TheVariants.{Read, Write}
use Rattle.fault_device.specs.declared.lane.Done.{Done}
use Rattle.io_model.specs.Contents.{Content, zeros}
use Rattle.io_model.specs.Finals.{device_content}
use Rattle.io_model.specs.Kinds.{mapped_number}
use Rattle.io_model.specs.declared.file.Kind.{Kind}
use Rattle.range_core.specs.Kinds.{is_mapped}
use Rattle.range_core.specs.Spots.{in_run, is_met, overlaid}
use Rattle.range_core.specs.declared.cell.Cell.{Cell}
use Rattle.range_core.specs.declared.entry.Entry.{Entry}
use Rattle.range_core.specs.declared.entry.Event.{Event}
use Rattle.range_core.specs.declared.entry.Event.TheVariants.{Store, StoreZeros, DirectBack, PartBack, Wipe, DaxPut, DaxZero}
use Rattle.range_core.specs.declared.entry.Outcome.{Outcome}
use Rattle.range_core.specs.declared.entry.Outcome.TheVariants.{Counted, Finished, Took}

-- the content of a block before the first entry: its sector's bytes where it is mapped, zeros elsewhere
abbrev pub opening_bytes : ℕ → Option Cell → Content
opening_bytes size None = zeros size
opening_bytes size (Some c) = device_content size (mapped_number c.kind) c.sector

-- whether the i-th block of a write that came back has its bytes: it did not fail, or it landed on a mapped block
abbrev pub has_arrived : Kind → Done → ℕ → Bool
has_arrived kind done i = not done.failed || (is_mapped kind && nat_lt i done.landed)

-- what a caller's pages that came back leave of the content: the page's bytes where a write of it arrived
abbrev pub content_back : Op → ℕ → Kind → List (List ℕ) → Done → ℕ → Content → Content
content_back Read block kind pages done b content = content
content_back Write block kind pages done b content =
    if nat_lt b block then content else (if has_arrived kind done (b - block) then unwrap_or (slice_get pages (b - block)) content else content)

-- what a part of one block that came back leaves of the content: its bytes in their place, where the write arrived
abbrev pub part_back : ℕ → ℕ → Kind → ℕ → ℕ → List ℕ → Done → ℕ → Content → Content
part_back size block kind from to bytes done b content = if in_run block 1 b then (if has_arrived kind done 0 then overlaid size from to bytes b content else content) else content

-- the content of a block after an event that came about
abbrev pub content_by : ℕ → ℕ → Event → Outcome → Content → Content
content_by size b (Store by seen from to bytes) Finished content = if is_met size from to b then overlaid size from to bytes b content else content
content_by size b (StoreZeros by seen from to) Finished content = if is_met size from to b then overlaid size from to (replicate (to - from) 0) b content else content
content_by size b (DirectBack by op ticket block kind pages done) Finished content = content_back op block kind pages done b content
content_by size b (PartBack by ticket block kind from to bytes done) Finished content = part_back size block kind from to bytes done b content
content_by size b (Wipe by block blocks) (Counted n) content = if in_run block blocks b then zeros size else content
content_by size b (DaxPut by seen from to bytes) (Took sectors) content = if is_met size from to b then overlaid size from to bytes b content else content
content_by size b (DaxZero by seen from to) Finished content = if is_met size from to b then overlaid size from to (replicate (to - from) 0) b content else content
content_by size b _ _ content = content

-- the content of a block after an entry
abbrev pub content_after : ℕ → ℕ → Content → Entry → Content
content_after size b content e = content_by size b e.event e.outcome content

-- the content of a block after a history, from its content before the first entry
abbrev pub replayed : ℕ → ℕ → Content → List Entry → Content
replayed size b opening history = fold (content_after size b) opening history
