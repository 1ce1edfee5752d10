use Rattle.std.proofs.Common.{◌≡◌, suc, None, List, [], ◌∷◌, ◌++◌, length, map, refl, sym, ◌∙◌, ap, subst}
use Rattle.iob_base.specs.DeviceBlock.{DeviceBlock}
use Rattle.fault_device.specs.Opening.{Opening}
use Rattle.io_model.specs.Causes.{AreCaused}
use Rattle.io_model.specs.Contents.{device_bytes}
use Rattle.io_model.specs.Right.{RunIsRight}
use Rattle.io_model.specs.declared.file.FileEnd.{FileEnd}
use Rattle.io_model.specs.declared.run.LaneEnd.{LaneEnd}
use Rattle.io_model.specs.declared.run.Run.{Run}
use Rattle.iomap_replay.proofs.Caused.{caused_from_outcome, caused_here}
use Rattle.iomap_replay.proofs.ReadRun.{if_ok}
use Rattle.iomap_replay.proofs.OnePool.{closed_free}
use Rattle.iomap_replay.proofs.Outcome.{IsEndOf, all_home, outcome_keeps, right_from_outcome}
use Rattle.iomap_replay.specs.Causes.{IsCausedReply}
use Rattle.iomap_replay.specs.Devices.{SameNumbers, blocks_beside, first_number}
use Rattle.iomap_replay.specs.Runs.{one_run}
use Rattle.iomap_replay.specs.Starts.{idle_end, starts_of}
use Rattle.range_core.specs.RangeView.{RangeView}
use Rattle.range_core.specs.Space.{SpaceClaims}
use Rattle.space_pool.specs.Claims.{numbers_of}
use Rattle.space_pool.specs.Seats.{pool_cell}
use Rattle.turn_cell.specs.Seats.{seat_claims, seat_view}
use Rattle.iomap_replay.proofs.run.run_script.Goals as goal

pub end-requires : goal.end-requires
end-requires g c =
    let script = c.args.script.now in
    let job = c.args.job.now in
    let old : RangeView = c.in_ok-range.range in
    let new : RangeView = c.read_once.new.range in
    all_home script job old new c.in_ok-range.ensures.opened (outcome_keeps script job c.in_ok-end.end old new c.in_ok-end.ensures.outcome)

pub returns-clause-right : goal.returns-clause-right
returns-clause-right g c =
    let script = c.args.script.now in
    let job = c.args.job.now in
    let end = c.in_ok-end.end in
    let old : RangeView = c.in_ok-range.range in
    let new : RangeView = c.read_once.new.range in
    let lanes = c.insert.new.self.items in
    let free : List DeviceBlock = c.close-free.result.items in
    let file : FileEnd = record { extents = c.in_ok-ended.ended.extents; blocks = c.in_ok-ended.ended.blocks; size = None; sizes = c.new.result } in
    let many : length lanes ≡ 17 = ap length c.in_ok-insert.ensures.items ∙ ap suc c.requires.lanes in
    let left = c.in_ok-ended.ensures in
    let ends : IsEndOf file new = record { merged = left.merged; kinds = left.kinds; blocks = left.blocks; size = refl; sizes = c.new.ensures } in
    let own : List DeviceBlock = c.in_ok-own.own.items in
    let all : List DeviceBlock = blocks_beside (device_bytes script) (first_number job.extent.kind) job.extent.length job.device.blocks in
    let keeps = outcome_keeps script job end old new c.in_ok-end.ensures.outcome in
    let N : List DeviceBlock → Type 0 = λ ys. SameNumbers free ys in
    let seat = c.in_ok-ended.ended.seat in
    let claimed : (seat_claims seat).facts.numbers ≡ numbers_of own =
    ap (λ (s : SpaceClaims). s.numbers) (c.in_ok-ended.ensures.space ∙ keeps.space ∙ c.in_ok-range.ensures.space ∙ c.in_ok-pool.ensures.claims) ∙ ap numbers_of c.deref.ensures.value in
    let numbers : (pool_cell c.in_ok-pool.pool).opening.numbers ≡ numbers_of own ++ numbers_of c.in_ok-own.free.items =
    c.in_ok-pool.ensures.numbers ∙ ap (λ o. numbers_of o ++ numbers_of c.in_ok-own.free.items) c.deref.ensures.value in
    let same : SameNumbers free all = subst N c.in_ok-own.ensures.free (closed_free (pool_cell c.in_ok-pool.pool).opening (seat_view seat) (seat_claims seat) free own c.in_ok-own.free.items c.close-free.ensures claimed numbers) in
    let right = right_from_outcome script job end file free lanes old new c.requires.job c.in_ok-range.ensures.opened c.in_ok-end.ensures.outcome ends many same in
    let P : Run → Type 0 = λ run. run ≡ one_run end file free lanes in
    let R : Run → Type 0 = RunIsRight script (0 ∷ []) in
    if_ok c.assemble_run.result P R (λ run is. subst R (sym is) right) c.assemble_run.ensures

pub returns-clause-free : goal.returns-clause-free
returns-clause-free g c =
    let script = c.args.script.now in
    let job = c.args.job.now in
    let end = c.in_ok-end.end in
    let old : RangeView = c.in_ok-range.range in
    let new : RangeView = c.read_once.new.range in
    let lanes = c.insert.new.self.items in
    let own : List DeviceBlock = c.in_ok-own.own.items in
    let free : List DeviceBlock = c.close-free.result.items in
    let file : FileEnd = record { extents = c.in_ok-ended.ended.extents; blocks = c.in_ok-ended.ended.blocks; size = None; sizes = c.new.result } in
    let all : List DeviceBlock = blocks_beside (device_bytes script) (first_number job.extent.kind) job.extent.length job.device.blocks in
    let keeps = outcome_keeps script job end old new c.in_ok-end.ensures.outcome in
    let N : List DeviceBlock → Type 0 = λ ys. SameNumbers free ys in
    let seat = c.in_ok-ended.ended.seat in
    let claimed : (seat_claims seat).facts.numbers ≡ numbers_of own =
    ap (λ (s : SpaceClaims). s.numbers) (c.in_ok-ended.ensures.space ∙ keeps.space ∙ c.in_ok-range.ensures.space ∙ c.in_ok-pool.ensures.claims) ∙ ap numbers_of c.deref.ensures.value in
    let numbers : (pool_cell c.in_ok-pool.pool).opening.numbers ≡ numbers_of own ++ numbers_of c.in_ok-own.free.items =
    c.in_ok-pool.ensures.numbers ∙ ap (λ o. numbers_of o ++ numbers_of c.in_ok-own.free.items) c.deref.ensures.value in
    let same : SameNumbers free all = subst N c.in_ok-own.ensures.free (closed_free (pool_cell c.in_ok-pool.pool).opening (seat_view seat) (seat_claims seat) free own c.in_ok-own.free.items c.close-free.ensures claimed numbers) in
    let P : Run → Type 0 = λ run. run ≡ one_run end file free lanes in
    let R : Run → Type 0 = λ run. SameNumbers run.ends.free all in
    if_ok c.assemble_run.result P R (λ run is. subst R (sym is) same) c.assemble_run.ensures

pub returns-clause-caused : goal.returns-clause-caused
returns-clause-caused g c o rest serves number idle =
    let script = c.args.script.now in
    let job = c.args.job.now in
    let end = c.in_ok-end.end in
    let old : RangeView = c.in_ok-range.range in
    let new : RangeView = c.read_once.new.range in
    let own : LaneEnd = record { ops = c.ops.result; faults = c.faults.result } in
    let free : List DeviceBlock = c.close-free.result.items in
    let file : FileEnd = record { extents = c.in_ok-ended.ended.extents; blocks = c.in_ok-ended.ended.blocks; size = None; sizes = c.new.result } in
    let left = c.in_ok-ended.ensures in
    let ends : IsEndOf file new = record { merged = left.merged; kinds = left.kinds; blocks = left.blocks; size = refl; sizes = c.new.ensures } in
    let lanes : c.insert.new.self.items ≡ own ∷ map (λ (o : Opening). idle_end o.count) rest = c.in_ok-insert.ensures.items ∙ ap (λ ls. own ∷ ls) idle in
    let A : List LaneEnd → Type 0 = λ ls. AreCaused (starts_of script (o ∷ rest)) script (one_run end file free ls) in
    let caused : IsCausedReply o 0 own.faults end.answer.reply =
    caused_here o _ _ own.faults end.answer.reply number c.faults.ensures (c.in_ok-end.ensures.caused o serves) in
    let causes = caused_from_outcome script job end file free own o rest _ old new c.requires.job c.in_ok-range.ensures.opened c.in_ok-end.ensures.outcome ends caused
    (record { serves = c.read_once.ensures.serves o serves; faults = c.faults.ensures }) in
    let P : Run → Type 0 = λ run. run ≡ one_run end file free c.insert.new.self.items in
    let R : Run → Type 0 = λ run. AreCaused (starts_of script (o ∷ rest)) script run in
    if_ok c.assemble_run.result P R (λ run is. subst R (sym is) (subst A (sym lanes) causes)) c.assemble_run.ensures
