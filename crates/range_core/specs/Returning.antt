-- How what was lent comes back.
use Rattle.std.specs.Prelude.{◌≡◌, ℕ, ◌+◌, ◌-◌, ◌<◌, ◌≤◌, nat_lt, Option, Some, None, List, length, slice_get, IfSome}
use Rattle.fault_device.specs.Transfer.{parts_after}
use Rattle.fault_device.specs.declared.lane.Done.{Done}
use Rattle.iob_base.specs.declared.part.Part.{Part}
use Rattle.iob_base.specs.declared.stamp.Op.{Op}
use Rattle.io_model.specs.Kinds.{device_number, kind_after}
use Rattle.range_core.specs.BlockTruth.{IsWholePage}
use Rattle.range_core.specs.Cells.{IsBlock}
use Rattle.range_core.specs.ClaimsView.{ClaimsView}
use Rattle.range_core.specs.RangeView.{LiesAt, RangeView}
use Rattle.range_core.specs.declared.cell.Cell.{Cell}
use Rattle.range_core.specs.declared.lending.Held.{Held}
use Rattle.range_core.specs.declared.lending.Lender.{Lender}
use Rattle.range_core.specs.declared.lending.Lent.{Lent}

-- These claims are on what comes back, which is as it was lent, after the transfer that `done` tells
pub record IsReturn (claims : ClaimsView) (h : Held) (op : Op) (back : Lent) (done : Done) : Type 0 where
  pub held : claims.held ≡ Some h
  pub ticket : back.ticket ≡ h.lent.value.ticket
  pub block : back.block ≡ h.lent.value.block
  pub some : 0 < length h.lent.value.parts
  pub parts : back.parts ≡ parts_after op done.landed h.lent.value.parts
  pub landed : done.landed ≤ length h.lent.value.parts
  pub failed : done.failed ≡ nat_lt done.landed (length h.lent.value.parts)

-- a block is away on this claim, whose part has its sector and a whole page
pub record IsOutOn (size : ℕ) (h : Held) (k : ℕ) (c : Cell) : Type 0 where
  pub away : c.away ≡ Some (record { ticket = h.lent.value.ticket; lender = h.lender })
  pub gone : c.sector ≡ None
  pub kind : kind_after h.kind k ≡ c.kind
  pub part : Part
  pub part_is : slice_get h.lent.value.parts k ≡ Some part
  pub sector : IfSome (device_number c.kind) (λ d. IsBlock size d part.sector)
  pub page : IsWholePage size part.page

-- the blocks of a claim are blocks of the range, and all away on it
pub record AreOut (r : RangeView) (h : Held) : Type 0 where
  pub low : r.first ≤ h.lent.value.block
  pub high : h.lent.value.block + length h.lent.value.parts ≤ r.first + length r.cells
  pub out : (k : ℕ) (c : Cell) → k < length h.lent.value.parts → slice_get r.cells (h.lent.value.block - r.first + k) ≡ Some c → IsOutOn r.geometry.block_size h k c

-- What comes back to a range was lent for this, and its blocks are all out on that claim
pub record ComesBack (r : RangeView) (claims : ClaimsView) (lender : Lender) (op : Op) (back : Lent) (done : Done) : Type 0 where
  pub claim : Held
  pub lent_for : claim.lender ≡ lender
  pub is_return : IsReturn claims claim op back done
  pub out : AreOut r claim

-- What a seat claims was lent for this, by a range that was opened with these blocks, and comes back to it
pub record MayComeBack (opening : RangeView) (claims : ClaimsView) (lender : Lender) (op : Op) (back : Lent) (done : Done) : Type 0 where
  pub claim : Held
  pub lent_for : claim.lender ≡ lender
  pub is_return : IsReturn claims claim op back done
  pub lies : LiesAt opening claim.lent.value.block (length claim.lent.value.parts)

-- The change has in it what the seat brings back
pub record BringsBack (opening : RangeView) (claims : ClaimsView) (lender : Lender) (op : Op) (given : Option Lent) (done : Done) : Type 0 where
  pub back : Lent
  pub given_is : given ≡ Some back
  pub may : MayComeBack opening claims lender op back done
