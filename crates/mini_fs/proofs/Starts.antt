-- The first pass of a mount.
use Rattle.std.proofs.Common.{◌≡◌, suc, List, [], ◌∷◌, length, map, Option, refl, sym, ap, ◌∙◌, arith}
use Rattle.std.specs.Prelude.{All}
use Rattle.std.proofs.lemmas.List.Elements.{All-cons, All-head, All-nil, All-tail, All-weaker}
use Rattle.atomic_table.specs.Seated.{TableId}
use Rattle.inode_lock.specs.View.{LockView, fresh}
use Rattle.turn_cell.specs.Views.{CellView, SeatView}
use Rattle.range_core.specs.declared.entry.Entry.{Entry}
use Rattle.size_core.specs.ClaimsView as size
use Rattle.size_core.specs.SizesView.{SizesView}
use Rattle.size_core.specs.declared.entry.SizeEntry.{SizeEntry}
use Rattle.mount_parts.specs.Locks.{AreFresh}
use Rattle.mount_parts.specs.MountView.{MountView}
use Rattle.mount_parts.specs.Pieces.{is_first_at}
use Rattle.bio_pages.specs.Queue as passing
use Rattle.mini_fs.specs.BioSeats.{AreFirst}
use Rattle.mini_fs.specs.TicketView.{TicketView}
use Rattle.mini_fs.specs.PassView.{IsPassOf, IsSizeSeat, PassView, SizeSeat, size_claims, size_seat}
use Rattle.mini_fs.specs.Splits.{IsHome}
use Rattle.mini_fs.specs.Starts.{first_size_seat}
use Rattle.mini_fs.proofs.SplitPasses.{fresh-home, fresh-length}
use Rattle.mini_fs.proofs.Through.{map-map}

first-rooms : (claims : size.ClaimsView) → claims ≡ size.first_claims → IsSizeSeat 0 4294967295 claims
first-rooms claims e = e ∙ ap (size_claims 0 4294967295) (sym (ap (λ (c : size.ClaimsView). c.rooms) e))

module _ {S : Type 0} (claims : S → size.ClaimsView) where
  -- what the first seats at sizes claim is what a caller's seats claim there
  pub sizes-first : (ss : List S) → All (λ s. claims s ≡ size.first_claims) ss → All (λ s. IsSizeSeat 0 4294967295 (claims s)) ss
  sizes-first ss are = All-weaker (λ s. claims s ≡ size.first_claims) (λ s. IsSizeSeat 0 4294967295 (claims s)) (λ s e. first-rooms (claims s) e) ss are

module _ {S : Type 0} (view : S → SeatView SizeEntry) (claims : S → size.ClaimsView) where
  -- the first seats at sizes have room for no entry
  pub sizes-seen : (ss : List S) (cs : List (CellView SizesView)) → map view ss ≡ map is_first_at cs → All (λ s. claims s ≡ size.first_claims) ss → map (λ s. size_seat (view s) (claims s)) ss ≡ map first_size_seat cs
  sizes-seen [] [] same are = refl
  sizes-seen [] (c ∷ cs) same are = absurd (let l : 0 ≡ suc (length (map (is_first_at {E = SizeEntry}) cs)) = ap length same in omega arith)
  sizes-seen (s ∷ ss) [] same are = absurd (let l : suc (length (map view ss)) ≡ 0 = ap length same in omega arith)
  sizes-seen (s ∷ ss) (c ∷ cs) same are =
      let e : view s ≡ is_first_at c = cc in
      let rest : map view ss ≡ map is_first_at cs = cc in
      let k = All-head (λ s. claims s ≡ size.first_claims) s ss are in
      let more = sizes-seen ss cs rest (All-tail (λ s. claims s ≡ size.first_claims) s ss are) in
      λ j. size_seat (e j) (k j) ∷ more j

-- new seats at locks are at home
pub fresh-homes : (ids : List TableId) (places : List (Option LockView)) → AreFresh ids places → All IsHome places
fresh-homes [] [] are = All-nil IsHome
fresh-homes [] (p ∷ places) are = absurd are
fresh-homes (id ∷ ids) [] are = absurd are
fresh-homes (id ∷ ids) (p ∷ places) are = All-cons IsHome p places (fresh id are.0.0, are.0.1) (fresh-homes ids places are.1)

-- a pass with the first seats at a mount's cells and locks is of that mount
pub firsts-of : (m : MountView) (p : PassView) → p.stripes ≡ map is_first_at m.stripes → p.sizes ≡ map first_size_seat m.sizes → AreFresh m.locks p.locks → AreFirst m.queue.queue p.bios → IsPassOf m p
firsts-of m p stripes sizes locks bios = record {
  stripes = ap (map (λ (t : SeatView Entry). t.cell)) stripes ∙ map-map (λ (t : SeatView Entry). t.cell) is_first_at m.stripes;
  sizes = ap (map (λ (t : SizeSeat). t.seat.cell)) sizes ∙ map-map (λ (t : SizeSeat). t.seat.cell) first_size_seat m.sizes;
  locks = (fresh-length m.locks p.locks locks, λ f id seat at there. fresh-home m.locks p.locks f id seat locks at there);
  queue = ap (λ (v : passing.PassView TicketView). v.queue) bios.passed;
}
