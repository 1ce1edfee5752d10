use Rattle.std.proofs.Common.{◌≡◌, Some, ap, ◌∙◌, sym, subst}
use Rattle.inode_lock.specs.View.{LockView}
use Rattle.mini_fs.specs.Holds.{IsHoldOf, hold_view}
use Rattle.mount_parts.specs.MountView.{MountView}
use Rattle.mini_fs.specs.PassView.{PassView, IsPassOf}
use Rattle.mount_parts.proofs.Places.{within}
use Rattle.mini_fs.proofs.Seats.{lock-file, of-lock_home}
use Rattle.mini_fs.proofs.mount.Mount.leave_exclusive.Goals as goal

pub lock-requires : goal.lock-requires
lock-requires c =
    let h : IsHoldOf c.args.self.now c.args.pass.now (hold_view c.hold.inside.file c.hold.inside.caller c.hold.inside.hold) = subst (IsHoldOf c.args.self.now c.args.pass.now) (sym c.hold.view_is) c.requires.hold in
    lock-file c.args.self.now c.hold.inside.file _ c.is_laid_out.ensures h.lock

pub seat_home-requires : goal.seat_home-requires
seat_home-requires c =
    let h : IsHoldOf c.args.self.now c.args.pass.now (hold_view c.hold.inside.file c.hold.inside.caller c.hold.inside.hold) = subst (IsHoldOf c.args.self.now c.args.pass.now) (sym c.hold.view_is) c.requires.hold in
    within c.args.pass.now.locks _ _ h.out

pub returns-clause-of : goal.returns-clause-of
returns-clause-of c =
    let m : MountView = c.args.self.now in
    let p : PassView = c.args.pass.now in
    let seat : LockView = c.leave_exclusive-seat.result in
    let h : IsHoldOf m p (hold_view c.hold.inside.file c.hold.inside.caller c.hold.inside.hold) = subst (IsHoldOf m p) (sym c.hold.view_is) c.requires.hold in
    let lock : seat.lock ≡ c.hold.inside.hold.lock = ap (λ (v : LockView). v.lock) c.leave_exclusive-seat.ensures.3 in
    subst (IsPassOf m) (sym c.seat_home.ensures) (of-lock_home m p c.hold.inside.file seat c.requires.of (h.lock ∙ ap (λ l. Some l) (sym lock)))
