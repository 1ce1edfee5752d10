-- A pass that tries a call under a hold of the file is ready for the next one.
use Rattle.std.proofs.Common.{◌≡◌, ℕ, List, [], ◌∷◌, ◌++◌, Some, None, refl, sym, ap, ◌∙◌, subst}
use Rattle.std.specs.Prelude.{slice_get}
use Rattle.inode_lock.specs.Calls.{IsLeft, IsWon}
use Rattle.inode_lock.specs.declared.word.Class.TheVariants.{Cached}
use Rattle.mount_parts.specs.MountView.{IsLaidOut, MountView}
use Rattle.mount_parts.proofs.Places.{set-same}
use Rattle.mini_fs.specs.Acts.{Act, Acted}
use Rattle.mini_fs.specs.Acts.Act.{Leave, Take}
use Rattle.mini_fs.specs.Calls.{KeepsShares}
use Rattle.mini_fs.specs.Holds.{BringsBack, HoldView, HoldsNone, IsHoldOf, TakesOut, with_lock}
use Rattle.mini_fs.specs.PassView.{IsPassOf, PassView, share_at, share_in}
use Rattle.mini_fs.proofs.ActLemmas.{acted-more, acted-then, left-act, taken-act}
use Rattle.worked_mounts.specs.Alone.{only_file}
use Rattle.worked_calls.specs.Stands.{IsReady, Stays}
use Rattle.worked_calls.proofs.Standing.{stays-acted}

module _ (m : MountView) (p q r s : PassView) (laid : IsLaidOut m) (ready : IsReady m p) (h : HoldView) (won : TakesOut (IsWon Cached) p only_file q h) (hold : IsHoldOf m r h) (acts : List Act) (did : Acted acts q r) (kept : (stripe : ℕ) → share_at r stripe ≡ share_at q stripe) (left : BringsBack (IsLeft Cached) r h s) (of : IsPassOf m s) where
  shares : KeepsShares p s
  shares stripe seat here = ap (λ (v : PassView). share_at v stripe) left.pass_is ∙ kept stripe ∙ ap (λ (v : PassView). share_at v stripe) won.pass_is ∙ ap share_in here

  free : HoldsNone s only_file
  free =
      let home : slice_get s.locks h.file.0 ≡ Some (Some left.next) = ap (λ (v : PassView). slice_get v.locks h.file.0) left.pass_is ∙ set-same r.locks h.file.0 None (Some left.next) hold.out in
      (left.next, subst (λ f. slice_get s.locks f.0 ≡ Some (Some left.next)) won.file_is home)

  -- it took a class, made acts that keep its shares, and left the class
  pub stays-tried : Stays m p s
  stays-tried =
      let under : Acted (Take only_file Cached won.seat h.seat ∷ acts) p r = (q, taken-act won, did) in
      stays-acted m p laid ready s of shares free ((Take only_file Cached won.seat h.seat ∷ acts) ++ Leave h.file Cached h.seat left.next ∷ []) (acted-more (Take only_file Cached won.seat h.seat ∷ acts) (Leave h.file Cached h.seat left.next) p r s under (left-act hold left))
