-- Turns at the size of the file of a mount.
use Rattle.std.proofs.Common.{◌≡◌, ℕ, ◌+◌, ◌*◌, ◌<◌, ◌≤◌, Option, Some, None, Ok, Err, true, refl, sym, ap, ◌∙◌, subst, arith}
use Rattle.std.specs.Prelude.{OnOk, OnErr, Result, slice_get, is_some}
use Rattle.std.specs.declared.alloc.AllocError.{AllocError}
use Rattle.std.proofs.lemmas.Option.{slice_get-get_or}
use Rattle.size_core.specs.ClaimsView as size
use Rattle.size_core.specs.SizesView.{SizesView}
use Rattle.size_core.specs.SizeTurns.{Readies}
use Rattle.size_core.specs.declared.entry.SizeEntry.{SizeEntry}
use Rattle.size_core.specs.declared.turns.ReadyRoom.{ReadyRoom}
use Rattle.turn_cell.specs.Views.{CellView}
use Rattle.mount_parts.specs.MountView.{IsLaidOut, MountView, file_at, no_file}
use Rattle.mount_parts.proofs.Places.{set-same}
use Rattle.mini_fs.specs.Mappings.{file_end}
use Rattle.mini_fs.specs.PassView.{PassView, SizeSeat}
use Rattle.mini_fs.specs.SizeTurns.{HasSize, ReadyAtSize, StandAtSize, TurnsAtSize, cell_in, size_at, without_rooms}
use Rattle.worked_mounts.specs.Alone.{HasRoom, IsAlone, only_file}

-- a turn that makes room leaves all other claims
pub room-leaves : (claims left : size.ClaimsView) (A B : Type 0) (out : Result (Unit {0}) AllocError) → OnOk out (A × (left ≡ size.with_room claims)) → OnErr out (B × (left ≡ claims)) → without_rooms left ≡ without_rooms claims
room-leaves claims left A B (Ok u) ok err = ap without_rooms ok.1
room-leaves claims left A B (Err e) ok err = ap without_rooms err.1

-- after it the pass has room for an entry
pub room-made : (m : MountView) (p q : PassView) (change later : ReadyRoom) (out : Result (Unit {0}) AllocError) → TurnsAtSize (λ opening history value claims next left entry. Readies change later opening history value next claims left out entry) m (size_at m only_file) p q → OnOk out (HasRoom m q)
room-made m p q change later (Err e) t = tt
room-made m p q change later (Ok u) t = λ seat at.
    let k = size_at m only_file in
    let there : slice_get q.sizes k ≡ Some t.after = ap (λ (x : PassView). slice_get x.sizes k) t.pass_is ∙ set-same p.sizes k t.before t.after t.stand.seat_is in
    let same : t.after ≡ seat = cc in
    let more : t.after.rooms ≡ t.before.rooms + 1 = ap (λ (c : size.ClaimsView). c.rooms) t.turned.done.ok.1 in
    subst (λ (s : SizeSeat). 0 < s.rooms) same (omega (arith, more))

size-some : (o : Option ℕ) → is_some o ≡ true → o ≡ Some (cell_in o)
size-some None e = absurd (cc)
size-some (Some cell) e = refl

-- a pass with room may enter a size up to the end of the file
pub enter-ready : (m : MountView) (p : PassView) (to : ℕ) → IsLaidOut m → IsAlone m p → HasSize m only_file → to ≤ file_end m only_file → HasRoom m p → ReadyAtSize (λ opening _ claims. (0 < claims.rooms) × (to ≤ opening.end)) m p (size_at m only_file)
enter-ready m p to laid alone sized within room cell seat stand =
    let there = slice_get-get_or m.files 0 no_file alone.exists in
    let end = laid.ends 0 (file_at m only_file) (size_at m only_file) cell there (size-some (file_at m only_file).size sized) stand.cell_is in
    (room seat stand.seat_is, omega (arith, end, within))
