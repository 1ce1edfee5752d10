-- A turn of a pass, told in other words, and what is known of the range that it is made at.
use Rattle.std.proofs.Common.{◌≡◌, ℕ, ◌/◌, List, sym, ◌∙◌, ap, arith}
use Rattle.std.proofs.lemmas.Option.{slice_get-get_or}
use Rattle.iob_base.specs.declared.stamp.FileId.{FileId}
use Rattle.space_pool.specs.Pool.{PoolView}
use Rattle.turn_cell.specs.Views.{CellView, SeatView}
use Rattle.range_core.specs.ClaimsView.{ClaimsView}
use Rattle.range_core.specs.RangeView.{RangeView}
use Rattle.range_core.specs.declared.entry.Entry.{Entry}
use Rattle.mount_parts.specs.MountView.{HasBlock, IsLaidOut, IsStripe, MountView, file_at, no_file, stripe_at}
use Rattle.mini_fs.specs.PassView.{PassView}
use Rattle.mini_fs.specs.Turns.{StandAt, TurnsAt}
use Rattle.mini_fs.proofs.Layouts.{has_file}

-- what a turn does tells also this
pub told-as : (m : MountView) (stripe : ℕ) (claims left : ClaimsView) (p q : PassView) (does tells : RangeView → List Entry → RangeView → RangeView → Entry → Type 0)
    → TurnsAt does m stripe claims left p q
    → ((opening : RangeView) (history : List Entry) (before after : RangeView) (entry : Entry) → does opening history before after entry → tells opening history before after entry)
    → TurnsAt tells m stripe claims left p q
told-as m stripe claims left p q does tells t so =
    let s = t.turned in
    record {
      cell = t.cell;
      before = t.before;
      after = t.after;
      stand = t.stand;
      pass_is = t.pass_is;
      same_cell = t.same_cell;
      same_share = t.same_share;
      refused = t.refused;
      turned = record { others = s.others; entry = s.entry; value = s.value; next = s.next; number = s.number; stakes = s.stakes; seen_is = s.seen_is; made_is = s.made_is; done = so t.cell.opening _ s.value s.next s.entry s.done; stood = s.stood; stands = s.stands; own = s.own };
    }

-- the range at the stripe of a block was opened as that stripe of its file
pub opened-as : (m : MountView) (p : PassView) (file : FileId) (b : ℕ) (cell : CellView RangeView) (seat : SeatView Entry) → IsLaidOut m → HasBlock m file b → StandAt m p (stripe_at m file b) cell seat → IsStripe m.geometry m.pool.cell (file_at m file) (b / 64) cell.opening
opened-as m p file b cell seat laid has stand = laid.stripes file.0 (file_at m file) (b / 64) cell (slice_get-get_or m.files file.0 no_file (has_file m file b has)) (omega arith) stand.cell_is

-- its seat at the pool is at the mount's pool
pub at-pool : (m : MountView) (p : PassView) (file : FileId) (b : ℕ) (cell : CellView RangeView) (seat : SeatView Entry) (pool : CellView PoolView) → IsLaidOut m → HasBlock m file b → pool ≡ m.pool → StandAt m p (stripe_at m file b) cell seat → cell.opening.seat.cell ≡ pool.cell
at-pool m p file b cell seat pool laid has same stand = (opened-as m p file b cell seat laid has stand).pool ∙ sym (ap (λ (c : CellView PoolView). c.cell) same)
