-- Bytes of sectors are copied to an iov block by block.
use Rattle.std.proofs.Common.{◌≡◌, ℕ, suc, ◌+◌, ◌-◌, ◌/◌, ◌<◌, ◌≤◌, Some, List, length, get_or, All, sym, ◌∙◌, ap, subst, arith}
use Rattle.std.specs.Prelude.{IsTrue, slice_get}
use Rattle.iob_base.specs.Geometry.{is_block_size}
use Rattle.std.proofs.lemmas.Bool.Decides.{nat_tests}
use Rattle.std.proofs.lemmas.Option.{slice_get-get_or}
use Rattle.io_model.specs.Contents.{Content}
use Rattle.iov_iter.specs.IovView.{IovView, written_on}
use Rattle.range_core.specs.ByteRuns.{HasNext, IsByteRun, gathered, part_at, part_bytes, run_between}
use Rattle.range_core.specs.Cells.{IsPlaced}
use Rattle.range_core.specs.DaxGets.{AreHomeIn, stored_at, stored_of}
use Rattle.range_core.specs.DirectNows.{stored_bytes}
use Rattle.range_core.specs.RangeTruth.{IsUncached}
use Rattle.range_core.specs.RangeView.{LiesAt, RangeView}
use Rattle.range_core.specs.Spots.{blocks_met}
use Rattle.range_core.specs.declared.cell.Cell.{Cell}
use Rattle.range_core.specs.declared.parts.ByteRun.{ByteRun}
use Rattle.range_core.proofs.ByteRunLemmas.{gathered-more, length-gathered, next_part}
use Rattle.range_core.proofs.FetchLemmas.{room_left, written_more}
use Rattle.range_core.proofs.FirstTruth.{All-there}
use Rattle.range_core.proofs.DirectNowLemmas.{length-stored}

module _ (run : ByteRun) (contents : ℕ → Content) (r : IsByteRun run) (whole : (k : ℕ) → k < run.blocks → length (contents (run.first + k)) ≡ run.size) where
  -- what is left of an iov's room after the first k blocks holds the next block's part
  pub gather_room : (v iov : IovView) (k : ℕ) → k < run.blocks → HasNext v (run.to - run.from) → iov ≡ written_on (gathered run contents run.first k) v → HasNext iov (part_at run (run.first + k)).length
  gather_room v iov k l room e =
      let p = next_part run r k l in
      let behind = p.behind in
      let long = length-gathered run contents r whole k (omega arith) in
      room_left v iov (gathered run contents run.first k) (run.to - run.from) _ e room (omega arith)

  -- one more block
  pub gather_more : (v iov new : IovView) (k : ℕ) → k < run.blocks → HasNext v (run.to - run.from) → iov ≡ written_on (gathered run contents run.first k) v
      → new ≡ written_on (part_bytes (part_at run (run.first + k)) (contents (run.first + k))) iov → new ≡ written_on (gathered run contents run.first (k + 1)) v
  gather_more v iov new k l room e w =
      let p = next_part run r k l in
      let behind = p.behind in
      let within = room.within in
      let long = length-gathered run contents r whole k (omega arith) in
      let one : suc k ≡ k + 1 = omega arith in
      w ∙ written_more v iov (gathered run contents run.first k) _ e (omega arith)
      ∙ ap (λ l. written_on l v) (sym (gathered-more run contents run.first k) ∙ ap (gathered run contents run.first) one)

module _ (run : ByteRun) (first : ℕ) (cells : List Cell) (low : first ≤ run.first) where
  -- what the device has of the k-th block of a run
  pub stored-block : (k : ℕ) (c : Cell) → slice_get cells (run.first - first + k) ≡ Some c → stored_at run.size first cells (run.first + k) ≡ stored_bytes run.size c
  stored-block k c at = let z : run.first + k - first ≡ run.first - first + k = omega arith in ap (λ i. stored_of run.size (slice_get cells i)) z ∙ ap (stored_of run.size) at

  -- it is whole
  pub stored-whole : run.first + run.blocks ≤ first + length cells → AreHomeIn run first cells → (d : Cell) (k : ℕ) → k < run.blocks → length (stored_at run.size first cells (run.first + k)) ≡ run.size
  stored-whole high ready d k l =
      let at : slice_get cells (run.first - first + k) ≡ Some (get_or cells (run.first - first + k) d) = slice_get-get_or cells (run.first - first + k) d (omega arith) in
      ap length (stored-block k _ at) ∙ length-stored run.size _ (ready k _ l at)

-- blocks of which nothing is cached or lent are at home
pub home_in : (run : ByteRun) (first : ℕ) (cells : List Cell) → All (IsPlaced run.size) cells → All IsUncached cells → AreHomeIn run first cells
home_in run first cells places uncached k c l at = record {
  placed = All-there (IsPlaced run.size) cells (run.first - first + k) c places at;
  home = (All-there IsUncached cells (run.first - first + k) c uncached at).home;
}

-- a block has at most so many bytes
pub size-most : (n : ℕ) → IsTrue (is_block_size n) → n ≤ 4096
size-most n h = grind (arith, nat_tests)

-- the blocks of a run of bytes lie where the bytes do
pub run_lies : (r : RangeView) (size from to : ℕ) (run : ByteRun) → run ≡ run_between size from to → LiesAt r (from / size) (blocks_met size from to) → LiesAt r run.first run.blocks
run_lies r size from to run is lies = let L : ByteRun → Type 0 = λ b. LiesAt r b.first b.blocks in subst L (sym is) lies
