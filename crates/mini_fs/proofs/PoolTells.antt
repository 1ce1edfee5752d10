-- What the turns at which blocks take sectors tell, in the words of the mount's pool.
use Rattle.std.proofs.Common.{◌≡◌, ℕ, subst}
use Rattle.std.specs.Prelude.{Result, Ok, Err}
use Rattle.space_pool.specs.Pool.{PoolView}
use Rattle.space_pool.specs.Seats.{pool_cell}
use Rattle.turn_cell.specs.Views.{CellView}
use Rattle.range_core.specs.Attaches.{AttachTurned}
use Rattle.range_core.specs.ClaimsView.{ClaimsView}
use Rattle.range_core.specs.RangeView.{RangeView}
use Rattle.range_core.specs.declared.entry.Entry.{Entry}
use Rattle.range_core.specs.declared.fault.EventFault.{EventFault}
use Rattle.range_core.specs.declared.range.attach.AttachRun.{AttachRun}
use Rattle.mini_fs.specs.PageTurns.{AttachedAt, AttachesAt}

pub attaches : {R : Type 0} (run later : AttachRun R) (before after : RangeView) (claims left : ClaimsView) (answer : Result ℕ EventFault) (entry : Entry) (pool : CellView PoolView)
    → pool_cell run.space.now ≡ pool → AttachTurned run later before after claims left answer entry → AttachesAt pool.opening run.block run.blocks before after claims.caller answer entry
attaches run later before after claims left (Ok taken) entry pool same d =
    let at : AttachedAt (pool_cell run.space.now).opening run.block run.blocks before after claims.caller entry taken = record { made = d.ok.made; attached = d.ok.attached; entry_is = d.ok.entry_is } in
    record { ok = subst (λ (c : CellView PoolView). AttachedAt c.opening run.block run.blocks before after claims.caller entry taken) same at; err = tt }
attaches run later before after claims left (Err fault) entry pool same d =
    record { ok = tt; err = record { refused = d.err.refused; unchanged = d.err.unchanged; entry_is = d.err.entry_is } }
