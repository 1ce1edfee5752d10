-- How a run of blocks is read past the page cache inside one turn.
use Rattle.std.specs.Prelude.{◌≡◌, ℕ, zero, suc, ◌<◌, Bool, not, ◌&&◌, is_none, Some, None, Result, IfErr, IfOk, OnErr, OnOk, slice_get, List, [], ◌∷◌, length, map, take, All, if◌then◌else◌}
use Rattle.std.specs.List.{prefix_len}
use Rattle.iob_base.specs.DeviceBlock.{DeviceBlock}
use Rattle.iob_base.specs.Parting.{pages_of}
use Rattle.iob_base.specs.declared.part.Part.{Part}
use Rattle.iob_base.specs.declared.sector.Page.{Page}
use Rattle.iob_base.specs.declared.stamp.Mode.TheVariants.{Cached}
use Rattle.iob_base.specs.declared.stamp.Tag.{Tag}
use Rattle.fault_device.specs.declared.lane.Done.{Done}
use Rattle.io_model.specs.Contents.{Content}
use Rattle.io_model.specs.Finals.{device_content}
use Rattle.io_model.specs.Kinds.{mapped_number}
use Rattle.range_core.specs.BlockTruth.{IsWholePage}
use Rattle.range_core.specs.Cells.{IsPlaced}
use Rattle.range_core.specs.Events.{page_shape, with_stamps}
use Rattle.range_core.specs.Judges.{Judges, Passes, RefusesNow}
use Rattle.range_core.specs.Kinds.{is_mapped}
use Rattle.range_core.specs.OnRun.{with_run}
use Rattle.range_core.specs.RangeView.{LiesAt, RangeView, cells_from}
use Rattle.range_core.specs.Refusals.{direct_now_refusal}
use Rattle.range_core.specs.Runs.{begins_mapped, run_length}
use Rattle.range_core.specs.Stamps.{done_by, stamps_from}
use Rattle.range_core.specs.declared.cell.Cell.{Cell}
use Rattle.range_core.specs.declared.fault.EventFault.{EventFault}

-- what the read needs: a cached file, a block of the range, and at least one page, each of a block's length
pub record CanReadNow (r : RangeView) (b : ℕ) (pages : List Page) : Type 0 where
  pub cached : r.mode ≡ Cached
  pub here : LiesAt r b 1
  pub some : 0 < length pages
  pub whole : All (IsWholePage r.geometry.block_size) pages

-- a block is at home and not dirty
abbrev pub is_clean_home : Cell → Bool
is_clean_home c = is_none c.away && not c.dirty

-- how many blocks are read from the first of these on, of at most so many: those at the head of the longest run of one extent that are at home and not dirty
abbrev pub now_length : List Cell → ℕ → ℕ
now_length cells most = prefix_len is_clean_home (take (run_length cells most) cells)

-- how many blocks are read into these pages
abbrev pub now_count : RangeView → ℕ → List Page → ℕ
now_count r b pages = now_length (cells_from r b) (length pages)

-- what the device has of a block: its sector's bytes where it is mapped, zeros elsewhere
abbrev pub stored_bytes : ℕ → Cell → Content
stored_bytes size c = device_content size (mapped_number c.kind) c.sector

-- a block is at home, with the sector of its kind
pub record IsReady (size : ℕ) (c : Cell) : Type 0 where
  pub placed : IsPlaced size c
  pub home : c.away ≡ None

abbrev pub filled_page : ℕ → Cell → Page → Page
filled_page size c p = record p { bytes = stored_bytes size c }

abbrev pub filled_part : ℕ → Cell → Part → Part
filled_part size c p = record p { page = filled_page size c p.page }

-- blocks of which the first n are at home, with the sector of their kind
abbrev pub AreReady : ℕ → ℕ → List Cell → Type 0
AreReady size n cells = (k : ℕ) (c : Cell) → k < n → slice_get cells k ≡ Some c → IsReady size c

-- pages of which the first n have what the device has of these blocks
abbrev pub pages_filled : ℕ → ℕ → List Cell → List Page → List Page
pages_filled size zero cells pages = pages
pages_filled size (suc n) [] pages = pages
pages_filled size (suc n) (c ∷ cells) [] = []
pages_filled size (suc n) (c ∷ cells) (p ∷ pages) = filled_page size c p ∷ pages_filled size n cells pages

-- parts of which the first n have such pages
abbrev pub parts_filled : ℕ → ℕ → List Cell → List Part → List Part
parts_filled size zero cells parts = parts
parts_filled size (suc n) [] parts = parts
parts_filled size (suc n) (c ∷ cells) [] = []
parts_filled size (suc n) (c ∷ cells) (p ∷ parts) = filled_part size c p ∷ parts_filled size n cells parts

-- the sectors of parts, in order
abbrev pub part_sectors : List Part → List DeviceBlock
part_sectors parts = map (λ p. p.sector) parts

-- a mapped block loses its page, and any other stays as it is
abbrev pub without_mapped_page : Cell → Cell
without_mapped_page c = if is_mapped c.kind then record c { page = None } else c

-- the range after n blocks from b on were read: mapped ones have lost their pages, and each has one stamp more
abbrev pub after_direct_now : RangeView → Tag → ℕ → ℕ → RangeView
after_direct_now r by b n = with_stamps (with_run without_mapped_page r b n) (stamps_from b n (done_by by))

-- What came of such a read, whatever judged it: it went as far as it can, filled the first pages and stamped these blocks, after one judgement where they are mapped; or a refusal, which left all but the judge as it was. Pages keep their numbers and lengths, and the parts of the list their sectors
pub record AnswersNow {J : Type 0} (step : J → ℕ → Done → J → Type 0) (was now : J) (before : RangeView) (by : Tag) (b : ℕ) (pages : List Part) (after : RangeView) (later : List Part) (answer : Result ℕ EventFault) : Type 0 where
  pub made : OnOk answer (direct_now_refusal before b ≡ None)
  pub count : IfOk answer (λ n. n ≡ now_count before b (pages_of pages))
  pub read : IfOk answer (λ n. pages_of later ≡ pages_filled before.geometry.block_size n (cells_from before b) (pages_of pages))
  pub state : IfOk answer (λ n. after ≡ after_direct_now before by b n)
  pub judged : Judges step (now_count before b (pages_of pages)) was now
  pub passed : OnOk answer (Passes (begins_mapped (cells_from before b)) judged.answer)
  pub refused : IfErr answer (RefusesNow (direct_now_refusal before b) (begins_mapped (cells_from before b)) judged.answer)
  pub unchanged : OnErr answer (after ≡ before)
  pub unfilled : OnErr answer (later ≡ pages)
  pub shapes : map page_shape (pages_of later) ≡ map page_shape (pages_of pages)
  pub sectors : part_sectors later ≡ part_sectors pages
