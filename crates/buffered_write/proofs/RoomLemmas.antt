-- What the turns of a write at the size of its file tell.
use Rattle.std.proofs.Common.{◌≡◌, ℕ, ◌+◌, ◌-◌, ◌<◌, ◌≤◌, ◌==◌, ◌∷◌, [], List, true, false, Some, None, Ok, Err, refl, sym, ap, ◌∙◌, subst, arith, if◌then◌else◌}
use Rattle.std.specs.Prelude.{Option, Result, is_some, slice_get}
use Rattle.std.proofs.lemmas.Bool.{false≢true}
use Rattle.std.proofs.lemmas.Bool.Decides.{nat_tests}
use Rattle.std.proofs.lemmas.Option.{slice_get-get_or}
use Rattle.std.specs.declared.alloc.AllocError.{AllocError}
use Rattle.iob_base.specs.declared.stamp.FileId.{FileId}
use Rattle.iob_base.specs.declared.stamp.Tag.{Tag}
use Rattle.size_core.specs.ClaimsView.{ClaimsView, with_room}
use Rattle.size_core.specs.SizeTurns.{Forgets, Grows, Readies}
use Rattle.size_core.specs.SizesView.{SizesView}
use Rattle.size_core.specs.declared.entry.SizeEvent.TheVariants.{Forget, Grow}
use Rattle.size_core.specs.declared.turns.ForgetRoom.{ForgetRoom}
use Rattle.size_core.specs.declared.turns.GrowSize.{GrowSize}
use Rattle.size_core.specs.declared.turns.ReadyRoom.{ReadyRoom}
use Rattle.turn_cell.specs.Views.{CellView}
use Rattle.mount_parts.specs.MountView.{IsLaidOut, MountView, file_at, no_file}
use Rattle.mount_parts.proofs.Places.{set-same}
use Rattle.mini_fs.specs.Acts.{Act, Acted, Acts}
use Rattle.mini_fs.specs.Acts.Act.{Turn, SizeTurn, Busy, Open, Close, Take, Refused, Leave, Run, Note, Number}
use Rattle.mini_fs.specs.CallActs.{size_acts}
use Rattle.mini_fs.specs.Mappings.{file_end}
use Rattle.mini_fs.specs.PassView.{PassView, SizeSeat, size_claims}
use Rattle.mini_fs.specs.SizeTurns.{HasSize, TurnsAtSize, cell_in, size_at, with_size}
use Rattle.mini_fs.proofs.ActLemmas.{turned_size-act}
use Rattle.mini_fs.proofs.Layouts.{sized_file}
use Rattle.buffered_write.specs.Grows.{HasRoom, MadeRoom, TurnedAtSize, grown, size_entry}

-- without an act at a size the seats at the sizes stay
pub sizes-kept : (acts : List Act) (p q : PassView) → Acted acts p q → size_acts acts ≡ [] → q.sizes ≡ p.sizes
sizes-kept [] p q did none = ap (λ (v : PassView). v.sizes) did
sizes-kept (Turn stripe others own ∷ acts) p q (r, one, rest) none = sizes-kept acts r q rest none ∙ ap (λ (v : PassView). v.sizes) one.pass_is
sizes-kept (SizeTurn cell others own ∷ acts) p q (r, one, rest) none = absurd (cc none)
sizes-kept (Busy stripe word ∷ acts) p q (r, one, rest) none = sizes-kept acts r q rest none ∙ ap (λ (v : PassView). v.sizes) one.pass_is
sizes-kept (Open stripe ∷ acts) p q (r, one, rest) none = sizes-kept acts r q rest none ∙ ap (λ (v : PassView). v.sizes) one.pass_is
sizes-kept (Close stripe ∷ acts) p q (r, one, rest) none = sizes-kept acts r q rest none ∙ ap (λ (v : PassView). v.sizes) one.pass_is
sizes-kept (Take file c before after ∷ acts) p q (r, one, rest) none = sizes-kept acts r q rest none ∙ ap (λ (v : PassView). v.sizes) one.pass_is
sizes-kept (Refused file c before after ∷ acts) p q (r, one, rest) none = sizes-kept acts r q rest none ∙ ap (λ (v : PassView). v.sizes) one.pass_is
sizes-kept (Leave file c before after ∷ acts) p q (r, one, rest) none = sizes-kept acts r q rest none ∙ ap (λ (v : PassView). v.sizes) one.pass_is
sizes-kept (Run bios ∷ acts) p q (r, one, rest) none = sizes-kept acts r q rest none ∙ ap (λ (v : PassView). v.sizes) one.pass_is
sizes-kept (Note begun ∷ acts) p q (r, one, rest) none = sizes-kept acts r q rest none ∙ ap (λ (v : PassView). v.sizes) one
sizes-kept (Number call ∷ acts) p q (r, one, rest) none = sizes-kept acts r q rest none ∙ ap (λ (v : PassView). v.sizes) one

pub room-kept : (m : MountView) (file : FileId) (p q : PassView) → q.sizes ≡ p.sizes → HasRoom m file p → HasRoom m file q
room-kept m file p q same room seat here = room seat (ap (λ l. slice_get l (size_at m file)) (sym same) ∙ here)

-- a size ends with the blocks of its file
pub size-end : (m : MountView) (file : FileId) (cell : CellView SizesView) → IsLaidOut m → HasSize m file → slice_get m.sizes (size_at m file) ≡ Some cell → cell.opening.end ≡ file_end m file
size-end m file cell laid sized here = at (file_at m file).size refl sized
  where
    at : (o : Option ℕ) → (file_at m file).size ≡ o → HasSize m file → cell.opening.end ≡ file_end m file
    at None e has = absurd (false≢true (sym (ap is_some e) ∙ has))
    at (Some k) e has = laid.ends file.0 (file_at m file) k cell (slice_get-get_or m.files file.0 no_file (sized_file m file sized)) e (ap (λ n. slice_get m.sizes n) (sym (ap cell_in e)) ∙ here)

-- a file that has a size has its cell
pub size-is : (m : MountView) (file : FileId) → HasSize m file → (file_at m file).size ≡ Some (size_at m file)
size-is m file sized = at (file_at m file).size sized
  where
    at : (o : Option ℕ) → is_some o ≡ true → o ≡ Some (cell_in o)
    at None has = absurd (false≢true has)
    at (Some k) has = refl

some-same : {x y : SizeSeat} → Some x ≡ Some y → x ≡ y
some-same e = cc

module _ (m : MountView) (file : FileId) (p q : PassView) where
  -- the seat after a turn that made room has some
  has-room : (before after : SizeSeat) → slice_get p.sizes (size_at m file) ≡ Some before → q ≡ with_size p (size_at m file) after → size_claims p.caller p.spare after.rooms ≡ with_room (size_claims p.caller p.spare before.rooms) → HasRoom m file q
  has-room before after here is claims seat there =
      let more : after.rooms ≡ before.rooms + 1 = ap (λ (c : ClaimsView). c.rooms) claims in
      let now : slice_get q.sizes (size_at m file) ≡ Some after = ap (λ (v : PassView). slice_get v.sizes (size_at m file)) is ∙ set-same p.sizes (size_at m file) before after here in
      let n : after.rooms ≡ seat.rooms = ap (λ (s : SizeSeat). s.rooms) (some-same (sym now ∙ there)) in
      omega (arith, more, n)

  -- the turn that made room, and the two that use it
  pub made-room : (answer : Result (Unit {0}) AllocError) (change later : ReadyRoom) → TurnsAtSize (λ opening history value claims next left entry. Readies change later opening history value next claims left answer entry) m (size_at m file) p q → MadeRoom m file p q answer
  made-room (Err e) change later t = record {
    turned = record { others = t.turned.others; did = subst (λ own. Acts (SizeTurn (size_at m file) t.turned.others own) p q) t.turned.done.enters.entry_is (turned_size-act t) };
    room = tt;
  }
  made-room (Ok done) change later t = record {
    turned = record { others = t.turned.others; did = subst (λ own. Acts (SizeTurn (size_at m file) t.turned.others own) p q) t.turned.done.enters.entry_is (turned_size-act t) };
    room = has-room t.before t.after t.stand.seat_is t.pass_is t.turned.done.ok.1;
  }

  pub grew-room : (by : Tag) (from at : ℕ) (change later : GrowSize) → from < at → change ≡ record { by = by; to = at } → TurnsAtSize (λ opening history value claims next left entry. Grows change later opening history value next claims left entry) m (size_at m file) p q
      → TurnedAtSize m file (grown by from (at - from)) p q
  grew-room by from at change later less is t =
      let some : (at - from == 0) ≡ false = grind (arith, nat_tests) in
      let n : from + (at - from) ≡ at = omega (arith, less) in
      let grows : grown by from (at - from) ≡ Grow by at = ap (λ b. if b then Forget else Grow by (from + (at - from))) some ∙ ap (Grow by) n in
      record {
        others = t.turned.others;
        did = subst (λ own. Acts (SizeTurn (size_at m file) t.turned.others own) p q) (t.turned.done.enters.entry_is ∙ ap (λ (c : GrowSize). size_entry p.caller (Grow c.by c.to)) is ∙ ap (size_entry p.caller) (sym grows)) (turned_size-act t);
      }

  pub forgot-room : (by : Tag) (from at : ℕ) (change later : ForgetRoom) → at ≤ from → TurnsAtSize (λ opening history value claims next left entry. Forgets change later opening history value next claims left entry) m (size_at m file) p q
      → TurnedAtSize m file (grown by from (at - from)) p q
  forgot-room by from at change later le t =
      let none : at - from ≡ 0 = omega (arith, le) in
      let forgets : grown by from (at - from) ≡ Forget = ap (λ k. if k == 0 then Forget else Grow by (from + k)) none in
      record {
        others = t.turned.others;
        did = subst (λ own. Acts (SizeTurn (size_at m file) t.turned.others own) p q) (t.turned.done.enters.entry_is ∙ ap (size_entry p.caller) (sym forgets)) (turned_size-act t);
      }
