-- The turns of a range's events at space are those that a mount speaks of.
use Rattle.std.proofs.Common.{◌≡◌, ℕ, List, ◌++◌, Ok, Err, subst}
use Rattle.std.specs.Prelude.{Result, IfOk, IfErr}
use Rattle.space_pool.specs.Pool.{PoolView}
use Rattle.space_pool.specs.Seats.{pool_cell}
use Rattle.range_core.specs.Attaches.{PreallocateMade, PreallocateRefused, PreallocateTurned}
use Rattle.range_core.specs.ClaimsView.{ClaimsView}
use Rattle.range_core.specs.RangeView.{RangeView}
use Rattle.range_core.specs.Reserves.{ReserveTurned, UnreserveTurned}
use Rattle.range_core.specs.declared.entry.Entry.{Entry}
use Rattle.range_core.specs.declared.fault.EventFault.{EventFault}
use Rattle.range_core.specs.declared.range.attach.PreallocateRun.{PreallocateRun}
use Rattle.range_core.specs.declared.range.reserve.ReserveRun.{ReserveRun}
use Rattle.range_core.specs.declared.range.reserve.UnreserveRun.{UnreserveRun}
use Rattle.range_core.specs.declared.sample.Sample.{Sample}
use Rattle.mount_parts.specs.MountView.{MountView}
use Rattle.mini_fs.specs.PassView.{PassView}
use Rattle.mini_fs.specs.SpaceTurns.{GaveNone, GaveSectors, Preallocated, Reserved, Unreserved}
use Rattle.mini_fs.specs.Turns.{TurnsAt}

-- what a turn did may be said in other words
pub turns-as : (P Q : RangeView → List Entry → RangeView → RangeView → Entry → Type 0) (m : MountView) (stripe : ℕ) (claims left : ClaimsView) (p q : PassView)
    → ((opening : RangeView) (history : List Entry) (value next : RangeView) (entry : Entry) → P opening history value next entry → Q opening history value next entry)
    → TurnsAt P m stripe claims left p q → TurnsAt Q m stripe claims left p q
turns-as P Q m stripe claims left p q f t =
    let h = t.turned in
    record {
      cell = t.cell;
      before = t.before;
      after = t.after;
      stand = t.stand;
      pass_is = t.pass_is;
      same_cell = t.same_cell;
      same_share = t.same_share;
      refused = t.refused;
      turned = record { others = h.others; entry = h.entry; value = h.value; next = h.next; number = h.number; stakes = h.stakes; seen_is = h.seen_is; made_is = h.made_is; done = f t.cell.opening (t.before.seen ++ h.others) h.value h.next h.entry h.done; stood = h.stood; stands = h.stands; own = h.own };
    }

module _ {R : Type 0} (pool : PoolView) (opening before after : RangeView) (claims left : ClaimsView) (entry : Entry) where
  pub reserved-as : (run later : ReserveRun R) (answer : Result Sample EventFault) → (pool_cell run.space.now).opening ≡ pool → ReserveTurned opening run later before after claims left answer entry → Reserved pool run.seen run.blocks claims answer opening before after entry
  reserved-as run later answer is t = subst (λ o. Reserved o run.seen run.blocks claims answer opening before after entry) is (record { ok = t.ok; err = t.err; entry_is = t.entry_is; lies = t.lies })

  pub unreserved-as : (run later : UnreserveRun R) (n : ℕ) → (pool_cell run.space.now).opening ≡ pool → UnreserveTurned run later before after claims left n entry → Unreserved pool run.block run.blocks claims n before after entry
  unreserved-as run later n is t = subst (λ o. Unreserved o run.block run.blocks claims n before after entry) is (record { count_is = t.count; state = t.state; pool_turn = t.pool; entry_is = t.entry_is })

  made-as : (run : PreallocateRun R) (answer : Result ℕ EventFault) → IfOk answer (PreallocateMade run before after claims entry) → IfOk answer (GaveSectors (pool_cell run.space.now).opening run.block run.blocks claims before after entry)
  made-as run (Ok n) t = record { made = t.made; placed = t.placed; entry_is = t.entry_is }
  made-as run (Err e) t = tt

  none-as : (run : PreallocateRun R) (answer : Result ℕ EventFault) → IfErr answer (PreallocateRefused run before after claims entry) → IfErr answer (GaveNone (pool_cell run.space.now).opening run.block run.blocks claims before after entry)
  none-as run (Ok n) t = tt
  none-as run (Err e) t = record { refused = t.refused; left = t.left; entry_is = t.entry_is }

  pub preallocated-as : (run later : PreallocateRun R) (answer : Result ℕ EventFault) → (pool_cell run.space.now).opening ≡ pool → PreallocateTurned run later before after claims left answer entry → Preallocated pool run.block run.blocks claims answer before after entry
  preallocated-as run later answer is t = subst (λ o. Preallocated o run.block run.blocks claims answer before after entry) is (record { ok = made-as run answer t.ok; err = none-as run answer t.err })
