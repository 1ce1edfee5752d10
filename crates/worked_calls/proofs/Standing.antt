-- A pass that goes from call to call at a mount of one file.
use Rattle.std.proofs.Common.{◌≡◌, ℕ, zero, suc, ◌+◌, ◌<◌, ◌≤◌, List, [], ◌∷◌, length, Some, None, Option, refl, sym, ap, ◌∙◌, subst, arith}
use Rattle.std.specs.Prelude.{All, slice_get}
use Rattle.inode_lock.specs.View.{LockView}
use Rattle.turn_cell.specs.Views.{CellView, SeatView}
use Rattle.range_core.specs.RangeView.{RangeView}
use Rattle.range_core.specs.declared.entry.Entry.{Entry}
use Rattle.size_core.specs.SizesView.{SizesView}
use Rattle.mount_parts.specs.MountView.{IsLaidOut, MountView, file_at}
use Rattle.mount_parts.proofs.Places.{all-at, same-length, there, within}
use Rattle.mini_fs.specs.Acts.{Act, Acted}
use Rattle.mini_fs.specs.Calls.{HasShares, KeepsShares, LeavesPass, MayCall}
use Rattle.mini_fs.specs.Holds.{HoldsNone}
use Rattle.mini_fs.specs.PassView.{IsPassOf, PassView, SizeSeat, share_in}
use Rattle.mini_fs.specs.Splits.{IsHome}
use Rattle.mini_fs.proofs.PassActs.{acted-size}
use Rattle.mini_fs.proofs.Through.{all-from}
use Rattle.worked_mounts.specs.Alone.{IsAlone, only_file, share_of}
use Rattle.worked_mounts.proofs.Going.{Goes, alone-goes, share-goes}
use Rattle.worked_mounts.proofs.Lending.{share-here}
use Rattle.writeback_ioend.specs.Flushes.{LeavesCall}
use Rattle.worked_calls.specs.Stands.{IsReady, Stays}

pub stays-none : (m : MountView) (p : PassView) → IsReady m p → Stays m p p
stays-none m p ready = record { ready = ready; share = refl }

pub stays-then : (m : MountView) (p q r : PassView) → Stays m p q → Stays m q r → Stays m p r
stays-then m p q r one two = record { ready = two.ready; share = two.share ∙ one.share }

module _ (m : MountView) (p : PassView) (laid : IsLaidOut m) (ready : IsReady m p) where
  one-lock : (q : PassView) → length q.locks ≡ length m.locks → length q.locks ≡ 1
  one-lock q long = long ∙ laid.locks ∙ ready.one

  home-first : HoldsNone p only_file
  home-first =
      let long = one-lock p ready.alone.of.locks.0 in
      let first = there p.locks 0 (omega (arith, long)) in
      let home : IsHome first.0 = all-at IsHome p.locks 0 first.0 ready.alone.home first.1 in
      (home.0, first.1 ∙ ap Some home.1)

  -- it may go to a call with a later number
  pub may-call : (call : ℕ) → p.last < call → MayCall m only_file call p
  may-call call later = record {
    of = ready.alone.of;
    exists = ready.alone.exists;
    free = home-first;
    shares = λ b has. subst (λ n. 128 ≤ n) (sym (share-here m p b laid ready.alone has)) ready.enough;
    later = later;
  }

  -- what runs inside a call finds enough of a share
  pub has-shares : HasShares m only_file 64 p
  has-shares b has = subst (λ n. 64 ≤ n) (sym (share-here m p b laid ready.alone has)) (omega (arith, ready.enough))

  first-seat : (ss : List (SeatView Entry)) → 128 ≤ share_in (slice_get ss 0) → (s : SeatView Entry) × (slice_get ss 0 ≡ Some s)
  first-seat [] some = absurd (omega (arith, some))
  first-seat (s ∷ ss) some = (s, refl)

  module _ (q : PassView) (of : IsPassOf m q) (kept : KeepsShares p q) (free : HoldsNone q only_file) where
    same-share : share_of q ≡ share_of p
    same-share =
        let s = first-seat p.stripes ready.enough in
        kept 0 s.0 s.1 ∙ sym (ap share_in s.1)

    seats : All (λ (s : SeatView Entry). s.share ≡ share_of q) q.stripes
    seats = all-from (λ (s : SeatView Entry). s.share ≡ share_of q) q.stripes (λ k t at.
        let cell = λ (s : SeatView Entry). s.cell in
        let at_cell = λ (c : CellView RangeView). c.cell in
        let long : length q.stripes ≡ length p.stripes = same-length cell at_cell q.stripes m.stripes of.stripes ∙ sym (same-length cell at_cell p.stripes m.stripes ready.alone.of.stripes) in
        let below = within q.stripes k t at in
        let s = there p.stripes k (omega (arith, long, below)) in
        let whole : s.0.share ≡ share_of p = all-at (λ (x : SeatView Entry). x.share ≡ share_of p) p.stripes k s.0 ready.alone.shares s.1 in
        sym (ap share_in at) ∙ kept k s.0 s.1 ∙ whole ∙ sym same-share)

    homes : All IsHome q.locks
    homes = all-from IsHome q.locks (λ k place at.
        let long = one-lock q of.locks.0 in
        let below = within q.locks k place at in
        let first : k ≡ 0 = omega (arith, long, below) in
        let here : slice_get q.locks 0 ≡ Some place = subst (λ i. slice_get q.locks i ≡ Some place) first at in
        let same : Some place ≡ Some (Some free.0) = sym here ∙ free.1 in
        (free.0, (let e : place ≡ Some free.0 = cc in e)))

    module _ (acts : List Act) (did : Acted acts p q) where
      size-seats : All (λ (s : SizeSeat). s.seat.share ≡ share_of q) q.sizes
      size-seats = all-from (λ (s : SizeSeat). s.seat.share ≡ share_of q) q.sizes (λ k t at.
          let cell = λ (s : SizeSeat). s.seat.cell in
          let at_cell = λ (c : CellView SizesView). c.cell in
          let long : length q.sizes ≡ length p.sizes = same-length cell at_cell q.sizes m.sizes of.sizes ∙ sym (same-length cell at_cell p.sizes m.sizes ready.alone.of.sizes) in
          let below = within q.sizes k t at in
          let s = there p.sizes k (omega (arith, long, below)) in
          let whole : s.0.seat.share ≡ share_of p = all-at (λ (x : SizeSeat). x.seat.share ≡ share_of p) p.sizes k s.0 ready.alone.size_shares s.1 in
          let after = acted-size k acts p q s.0 did s.1 in
          let both : Some t ≡ Some after.0 = sym at ∙ after.1 in
          let same : t ≡ after.0 = cc in
          ap (λ (x : SizeSeat). x.seat.share) same ∙ after.2.share ∙ whole ∙ sym same-share)

      -- acts after which it holds no class and has its shares leave it ready for the next call
      pub stays-acted : Stays m p q
      stays-acted = record {
        ready = record {
          alone = record {
            geometry = ready.alone.geometry;
            exists = ready.alone.exists;
            cached = ready.alone.cached;
            of = of;
            shares = seats;
            size_shares = size-seats;
            home = homes;
          };
          one = ready.one;
          enough = subst (λ n. 128 ≤ n) (sym same-share) ready.enough;
        };
        share = same-share;
      }

  -- a call leaves it ready for the next one
  pub stays-called : (q : PassView) (call : ℕ) (acts : List Act) → LeavesPass m only_file call p q → Acted acts p q → Stays m p q
  stays-called q call acts leaves did = stays-acted q leaves.of leaves.shares leaves.free acts did

  -- what runs inside a call leaves it ready too
  pub stays-within : (q : PassView) (acts : List Act) → LeavesCall m p q → Acted acts p q → Stays m p q
  stays-within q acts leaves did =
      let free : HoldsNone q only_file = (home-first.0, ap (λ ls. slice_get ls 0) leaves.locks ∙ home-first.1) in
      stays-acted q leaves.of leaves.shares free acts did

-- turns at stripes leave it ready
pub stays-goes : (m : MountView) (p q : PassView) → IsReady m p → IsPassOf m q → Goes p q → Stays m p q
stays-goes m p q ready of goes =
    let same : share_of q ≡ share_of p = share-goes p q goes in
    record {
      ready = record { alone = alone-goes m p q ready.alone of goes; one = ready.one; enough = subst (λ n. 128 ≤ n) (sym same) ready.enough };
      share = same;
    }
