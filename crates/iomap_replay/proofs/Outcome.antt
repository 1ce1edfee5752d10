-- From the outcome of the one read, and what its range left, to a right run.
use Rattle.std.proofs.Common.{◌≡◌, ℕ, zero, suc, ◌+◌, ◌<◌, Bool, true, false, None, List, [], ◌∷◌, length, map, if◌then◌else◌, sym, ap, ◌∙◌, arith, subst}
use Rattle.std.specs.Prelude.{All, IsTrue}
use Rattle.std.specs.Bool.{MatchBool}
use Rattle.iob_base.specs.DeviceBlock.{DeviceBlock}
use Rattle.iob_base.specs.declared.stamp.Stamp.{Stamp}
use Rattle.io_model.specs.Contents.{Content, device_bytes}
use Rattle.io_model.specs.Fitting.{is_merged_from}
use Rattle.io_model.specs.Kinds.{kind_at}
use Rattle.io_model.specs.Right.{RunIsRight}
use Rattle.io_model.specs.RunText.{is_error}
use Rattle.io_model.specs.declared.file.Extent.{Extent}
use Rattle.io_model.specs.declared.file.FileEnd.{FileEnd}
use Rattle.io_model.specs.declared.file.Kind.TheVariants.{Mapped}
use Rattle.io_model.specs.declared.run.CallEnd.{CallEnd}
use Rattle.io_model.specs.declared.run.LaneEnd.{LaneEnd}
use Rattle.io_model.specs.declared.script.Script.{Script}
use Rattle.iomap_replay.proofs.OneFile.{ends-are, stamps_at-run, stamps_at-none}
use Rattle.iomap_replay.proofs.OneRange.{first_is}
use Rattle.iomap_replay.proofs.OneRead.{is_at}
use Rattle.iomap_replay.proofs.RightRun.{IsReadFile, right_run, whole_read, failed_read}
use Rattle.iomap_replay.specs.Devices.{SameNumbers, blocks_beside, blocks_with, first_number}
use Rattle.iomap_replay.specs.Jobs.{IsJobOf, script_of_job}
use Rattle.iomap_replay.specs.OneRead.{block_of, count_of, opened_range, IsOpened, GaveRange, GaveNothing, IsOutcome}
use Rattle.iomap_replay.specs.Runs.{is_among, read_stamp, one_run}
use Rattle.iomap_replay.specs.declared.job.Job.{Job}
use Rattle.range_core.proofs.CellLemmas.{length-cells_of, length-kinds_from, kinds-cells_of}
use Rattle.range_core.proofs.FirstTruth.{all_cold}
use Rattle.range_core.specs.Cells.{cells_of}
use Rattle.range_core.specs.Events.{with_stamps}
use Rattle.range_core.specs.Kinds.{kinds_from}
use Rattle.range_core.specs.RangeView.{RangeView}
use Rattle.range_core.specs.Stamps.{bare_end, journaled, stamps_at, stamps_from}
use Rattle.range_core.specs.declared.cell.Cell.{Cell}

-- the blocks that stay free are those of the device beside the extent
abbrev pub LeavesFree : Script → Job → List DeviceBlock → Type 0
LeavesFree script job free = SameNumbers free (blocks_beside (device_bytes script) (first_number job.extent.kind) job.extent.length job.device.blocks)

-- a file's end is what a range leaves
pub record IsEndOf (file : FileEnd) (r : RangeView) : Type 0 where
  pub merged : IsTrue (is_merged_from r.first (r.first + length r.cells) file.extents)
  pub kinds : kinds_from file.extents r.first (length r.cells) ≡ map (λ (c : Cell). c.kind) r.cells
  pub blocks : file.blocks ≡ journaled r.first r.log (map bare_end r.cells)
  pub size : file.size ≡ None
  pub sizes : file.sizes ≡ []

-- equal lists of kinds have equal kinds at each block
kind_of_each : (xs ys : List Extent) (b n k : ℕ) → kinds_from xs b n ≡ kinds_from ys b n → k < n → kind_at xs (b + k) ≡ kind_at ys (b + k)
kind_of_each xs ys b zero k same within = absurd (omega arith)
kind_of_each xs ys b (suc n) zero same within =
    let here : kind_at xs b ≡ kind_at ys b = cc in
    let place : b ≡ b + 0 = omega arith in
    let P : ℕ → Type 0 = λ c. kind_at xs c ≡ kind_at ys c in
    subst P place here
kind_of_each xs ys b (suc n) (suc k) same within =
    let rest : kinds_from xs (b + 1) n ≡ kinds_from ys (b + 1) n = cc in
    let place : b + 1 + k ≡ b + suc k = omega arith in
    let P : ℕ → Type 0 = λ c. kind_at xs c ≡ kind_at ys c in
    subst P place (kind_of_each xs ys (b + 1) n k rest (omega arith))

-- the file that the range leaves, with these stamps at the blocks that were read
pub read_file : (script : Script) (job : Job) (r : RangeView) (d : ℕ) (read : ℕ → Bool) (stamps : List Stamp) (log : List (ℕ × Stamp)) (file : FileEnd) → job.extent.kind ≡ Mapped d
    → ((b : ℕ) → stamps_at b log ≡ (if read b then stamps else []))
    → IsEndOf file (record (opened_range script job r.seat r.space) { log = log }) → IsReadFile script job read stamps file
read_file script job r d read stamps log file kind logged end =
    let content : ℕ → Content = device_bytes script in
    let e = job.extent in
    let kinds = kinds_from (e ∷ []) 0 job.blocks in
    let sectors = blocks_with content (first_number e.kind) e.length in
    let many : length (cells_of kinds sectors) ≡ job.blocks = length-cells_of kinds sectors ∙ length-kinds_from (e ∷ []) 0 job.blocks in
    let all : kinds_from file.extents 0 job.blocks ≡ kinds = sym (ap (kinds_from file.extents 0) many) ∙ end.kinds ∙ kinds-cells_of kinds sectors in
    record {
      blocks = end.blocks ∙ ap (λ n. journaled 0 log (map bare_end (cells_of kinds (blocks_with content n e.length)))) (first_is e d kind)
          ∙ ends-are content e d job.blocks read stamps log kind logged;
      merged = (let P : ℕ → Type 0 = λ n. IsTrue (is_merged_from 0 n file.extents) in
          let end_is : 0 + length (cells_of kinds sectors) ≡ job.blocks = omega (arith, many) in subst P end_is end.merged);
      kinds = λ i within.
          let P : ℕ → Type 0 = λ c. kind_at file.extents c ≡ kind_at (e ∷ []) c in
          let place : 0 + i ≡ i = omega arith in subst P place (kind_of_each file.extents (e ∷ []) 0 job.blocks i all within);
      size = end.size;
      sizes = end.sizes;
    }

-- a run whose script is spelled out
right_spelled : (script : Script) (job : Job) (end : CallEnd) (file : FileEnd) (free : List DeviceBlock) (lanes : List LaneEnd) (old new : RangeView) (of : IsJobOf script job)
    → IsOpened (script_of_job of.name job script.blocks) job old → IsOutcome (script_of_job of.name job script.blocks) job end old new
    → IsEndOf file new → length lanes ≡ 17 → LeavesFree (script_of_job of.name job script.blocks) job free
    → RunIsRight (script_of_job of.name job script.blocks) (0 ∷ []) (one_run end file free lanes)
right_spelled script job end file free lanes old new of opened outcome file_end many same = by_reply (is_error end.answer.reply) outcome
  where
    left_free : (d : ℕ) → job.extent.kind ≡ Mapped d
        → SameNumbers free (blocks_beside (device_bytes (script_of_job of.name job script.blocks)) d job.extent.length job.device.blocks)
    left_free d kind =
        let S : ℕ → Type 0 = λ n. SameNumbers free (blocks_beside (device_bytes (script_of_job of.name job script.blocks)) n job.extent.length job.device.blocks) in
        subst S (first_is job.extent d kind) same

    by_reply : (t : Bool) → MatchBool t (GaveNothing end old new) (GaveRange (script_of_job of.name job script.blocks) job end old new)
        → RunIsRight (script_of_job of.name job script.blocks) (0 ∷ []) (one_run end file free lanes)
    by_reply true nothing =
        let on = of.shape.tail.extent in
        let s = script_of_job of.name job script.blocks in
        let none : ℕ → Bool = λ _. false in
        let read = read_file s job old on.mapped.0 none [] [] file on.mapped.1 (stamps_at-none none) (subst (IsEndOf file) opened (subst (IsEndOf file) nothing.left file_end)) in
        right_run of.name job script.blocks on.mapped.0 none [] file end free lanes of.shape of.whole on.mapped.1 read
        (failed_read of.name job script.blocks (block_of job) (count_of job) none file end nothing.fault (is_at job of.shape) read nothing.reply nothing.waited nothing.told nothing.bios nothing.pages nothing.got) many
        (left_free on.mapped.0 on.mapped.1)
    by_reply false whole =
        let on = of.shape.tail.extent in
        let s = script_of_job of.name job script.blocks in
        let b = block_of job in
        let k = count_of job in
        let E : RangeView → Type 0 = λ r. IsEndOf file (with_stamps r (stamps_from b k read_stamp)) in
        let read = read_file s job old on.mapped.0 (is_among b k) (read_stamp ∷ []) (stamps_from b k read_stamp) file on.mapped.1 (stamps_at-run read_stamp b k) (subst E opened (subst (IsEndOf file) whole.left file_end)) in
        right_run of.name job script.blocks on.mapped.0 (is_among b k) (read_stamp ∷ []) file end free lanes of.shape of.whole on.mapped.1 read
        (whole_read of.name job script.blocks b k file end of.shape of.whole (is_at job of.shape) read whole.reply whole.bios whole.pages whole.many whole.got) many
        (left_free on.mapped.0 on.mapped.1)

pub right_from_outcome : (script : Script) (job : Job) (end : CallEnd) (file : FileEnd) (free : List DeviceBlock) (lanes : List LaneEnd) (old new : RangeView) (of : IsJobOf script job)
    → IsOpened script job old → IsOutcome script job end old new → IsEndOf file new → length lanes ≡ 17 → LeavesFree script job free
    → RunIsRight script (0 ∷ []) (one_run end file free lanes)
right_from_outcome script job end file free lanes old new of opened outcome file_end many same =
    let F : Script → Type 0 = λ s. LeavesFree s job free in
    let I : Script → Type 0 = λ s. IsOpened s job old in
    let O : Script → Type 0 = λ s. IsOutcome s job end old new in
    let R : Script → Type 0 = λ s. RunIsRight s (0 ∷ []) (one_run end file free lanes) in
    subst R (sym of.is) (right_spelled script job end file free lanes old new of (subst I of.is opened) (subst O of.is outcome) file_end many (subst F of.is same))

-- the read leaves the blocks and the seat at the pool as they were
pub record KeepsRest (old new : RangeView) : Type 0 where
  pub cells : new.cells ≡ old.cells
  pub seat : new.seat ≡ old.seat
  pub space : new.space ≡ old.space

pub outcome_keeps : (script : Script) (job : Job) (end : CallEnd) (old new : RangeView) → IsOutcome script job end old new → KeepsRest old new
outcome_keeps script job end old new outcome = by_reply (is_error end.answer.reply) outcome
  where
    by_reply : (t : Bool) → MatchBool t (GaveNothing end old new) (GaveRange script job end old new) → KeepsRest old new
    by_reply true nothing = record { cells = ap (λ (r : RangeView). r.cells) nothing.left; seat = ap (λ (r : RangeView). r.seat) nothing.left; space = ap (λ (r : RangeView). r.space) nothing.left }
    by_reply false whole = record { cells = ap (λ (r : RangeView). r.cells) whole.left; seat = ap (λ (r : RangeView). r.seat) whole.left; space = ap (λ (r : RangeView). r.space) whole.left }

-- no block of it is away
pub all_home : (script : Script) (job : Job) (old new : RangeView) → IsOpened script job old → KeepsRest old new → All (λ (c : Cell). c.away ≡ None) new.cells
all_home script job old new opened keeps =
    let H : List Cell → Type 0 = λ cells. All (λ (c : Cell). c.away ≡ None) cells in
    let R : RangeView → Type 0 = λ r. H r.cells in
    subst H (sym keeps.cells)
    (subst R (sym opened)
    (λ k d l. (all_cold (kinds_from (job.extent ∷ []) 0 job.blocks) (blocks_with (device_bytes script) (first_number job.extent.kind) job.extent.length) k d l).away))
