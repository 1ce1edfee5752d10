-- What the look of a cut at the size of its file tells.
use Rattle.std.proofs.Common.{◌≡◌, ℕ, ◌≤◌, Ok, Err, ap, ◌∙◌, subst, arith}
use Rattle.std.specs.Prelude.{IfOk, Result}
use Rattle.std.specs.declared.alloc.AllocError.{AllocError}
use Rattle.iob_base.specs.declared.stamp.FileId.{FileId}
use Rattle.iob_base.specs.declared.stamp.Tag.{Tag}
use Rattle.size_core.specs.SizeTurns.{Sees}
use Rattle.size_core.specs.declared.entry.SizeEvent.TheVariants.{See}
use Rattle.size_core.specs.declared.turns.SeeSize.{SeeSize}
use Rattle.mount_parts.specs.MountView.{IsLaidOut, MountView}
use Rattle.mini_fs.specs.Acts.{Acts}
use Rattle.mini_fs.specs.Acts.Act.{SizeTurn}
use Rattle.mini_fs.specs.Mappings.{file_end}
use Rattle.mini_fs.specs.PassView.{PassView}
use Rattle.mini_fs.specs.SizeTurns.{HasSize, TurnsAtSize, size_at}
use Rattle.mini_fs.proofs.ActLemmas.{turned_size-act}
use Rattle.buffered_write.specs.Cuts.{SawSize}
use Rattle.buffered_write.specs.Grows.{size_entry}
use Rattle.buffered_write.proofs.RoomLemmas.{size-end}

-- a number that a look told is at most what it found
found-within : (out : Result ℕ AllocError) (now end : ℕ) (Then : ℕ → Type 0) → now ≤ end → IfOk out (λ n. (n ≡ now) × Then n) → IfOk out (λ n. n ≤ end)
found-within (Err e) now end Then most ok = tt
found-within (Ok n) now end Then most ok = (let is = ok.0 in omega (arith, is, most))

module _ (m : MountView) (file : FileId) (p q : PassView) (by : Tag) where
  -- a look at the size
  pub saw-size : (seen : Result ℕ AllocError) (change later : SeeSize) → IsLaidOut m → HasSize m file → change ≡ record { by = by } → TurnsAtSize (λ opening history value claims next left entry. Sees change later opening history value next claims left seen entry) m (size_at m file) p q
      → SawSize m file by p q seen
  saw-size seen change later laid sized is t =
      let truth = t.turned.stood.holds in
      let most = truth.within in
      let same = truth.same_end in
      let end = size-end m file t.cell laid sized t.stand.cell_is in
      record {
        turned = record {
          others = t.turned.others;
          did = subst (λ own. Acts (SizeTurn (size_at m file) t.turned.others own) p q) (t.turned.done.enters.entry_is ∙ ap (λ (c : SeeSize). size_entry p.caller (See c.by seen)) is) (turned_size-act t);
        };
        within = found-within seen t.turned.value.size (file_end m file) _ (omega (arith, most, same, end)) t.turned.done.ok;
      }
