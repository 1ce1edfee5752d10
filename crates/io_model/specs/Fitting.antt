use Rattle.std.specs.Prelude.{ℕ, Bool, true, false, not, ◌&&◌, ◌==◌, nat_lt, ◌+◌, List, [], ◌∷◌, Option, Some, None, length, IsTrue}
use Rattle.std.specs.List.{list_all}
use Rattle.iob_base.specs.DeviceBlock.{DeviceBlock}
use Rattle.iob_base.specs.declared.answer.Fault.{Fault}
use Rattle.iob_base.specs.declared.answer.Fault.TheVariants.{Again}
use Rattle.iob_base.specs.declared.answer.Reply.{Reply}
use Rattle.iob_base.specs.declared.answer.Reply.TheVariants.{Ok, Err}
use Rattle.iob_base.specs.declared.answer.Stop.{Stop}
use Rattle.iob_base.specs.declared.answer.Stop.TheVariants.{Fault as Short}
use Rattle.iob_base.specs.declared.sector.Page.{Page}
use Rattle.io_model.specs.Kinds.{kind_at, kind_after, device_number, is_kind}
use Rattle.io_model.specs.Lists.{both_from, each_from}
use Rattle.io_model.specs.declared.file.BlockEnd.{BlockEnd}
use Rattle.io_model.specs.declared.file.Extent.{Extent}
use Rattle.io_model.specs.declared.file.FileEnd.{FileEnd}
use Rattle.io_model.specs.declared.file.FileSpec.{FileSpec}
use Rattle.io_model.specs.declared.file.SizeStamp.{SizeStamp}
use Rattle.io_model.specs.declared.run.Run.{Run}
use Rattle.io_model.specs.declared.script.Script.{Script}

-- two neighbours that one extent could say
abbrev pub could_be_joined : Extent → Extent → Bool
could_be_joined e next = is_kind (kind_after e.kind e.length) next.kind

-- the extents cover the blocks from the first to the last once, in order, and no neighbours could be joined
abbrev pub is_merged_from : ℕ → ℕ → List Extent → Bool
is_merged_from b blocks [] = b == blocks
is_merged_from b blocks (e ∷ []) = e.block == b && (nat_lt 0 e.length && e.block + e.length == blocks)
is_merged_from b blocks (e ∷ next ∷ es) =
    e.block == b && (nat_lt 0 e.length && (not (could_be_joined e next) && is_merged_from (b + e.length) blocks (next ∷ es)))

abbrev pub has_size : ℕ → Option DeviceBlock → Bool
has_size size None = true
has_size size (Some sector) = length sector.bytes == size

abbrev pub has_page_size : ℕ → Option Page → Bool
has_page_size size None = true
has_page_size size (Some page) = length page.bytes == size

-- a block has a sector exactly where its kind has space, and the sector has the number that the kind tells
abbrev pub is_own_sector : Option DeviceBlock → Option ℕ → Bool
is_own_sector None None = true
is_own_sector None (Some d) = false
is_own_sector (Some sector) None = false
is_own_sector (Some sector) (Some d) = sector.number == d

-- a block has the sector of its kind; its sector and its dirty page are blocks
abbrev pub is_block_end : ℕ → List Extent → ℕ → BlockEnd → Bool
is_block_end size extents b block =
    is_own_sector block.sector (device_number (kind_at extents b)) && (has_size size block.sector && has_page_size size block.dirty)

-- a file has a size at the end exactly where it had one, and stamps at its size only there
abbrev pub is_size_end : Option ℕ → Option ℕ → List SizeStamp → Bool
is_size_end None None stamps = length stamps == 0
is_size_end None (Some now) stamps = false
is_size_end (Some size) None stamps = false
is_size_end (Some size) (Some now) stamps = true

abbrev pub is_file_end : ℕ → FileSpec → FileEnd → Bool
is_file_end size file end =
    length end.blocks == file.blocks && (is_merged_from 0 file.blocks end.extents && (each_from (is_block_end size end.extents) 0 end.blocks
    && is_size_end file.size end.size end.sizes))

-- an answer that only calls which do not wait may give
abbrev pub is_again : Fault → Bool
is_again (Again _) = true
is_again _ = false

abbrev pub is_again_stop : Stop → Bool
is_again_stop (Short fault) = is_again fault
is_again_stop _ = false

abbrev pub is_again_reply : Reply → Bool
is_again_reply (Ok _ stop) = is_again_stop stop
is_again_reply (Err fault _) = is_again fault

-- the callers' lanes, and one for the closing sync
abbrev pub LANES : ℕ
LANES = 17

-- a run has an end of each call, a close and an end of each file, each lane, and whole blocks
pub record Fits (script : Script) (run : Run) : Type 0 where
  pub calls : IsTrue (length run.calls == length script.calls)
  pub closes : IsTrue (length run.closes == length script.files)
  pub lanes : IsTrue (length run.lanes == LANES)
  pub files : IsTrue (both_from (λ f file end. is_file_end script.geometry.block_size file end) 0 script.files run.ends.files)
  pub waited : IsTrue (list_all (λ end. not (is_again_reply end.answer.reply)) run.calls && list_all (λ close. not (is_again_reply close.reply)) run.closes)
