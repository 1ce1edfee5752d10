-- Mappings that a pass began and has not ended.
use Rattle.std.proofs.Common.{◌≡◌, ℕ, List, inl, inr, Some, None, Option, refl, sym, ap, ◌∙◌, subst}
use Rattle.std.specs.Prelude.{IfSome}
use Rattle.iob_base.specs.declared.stamp.FileId.{FileId}
use Rattle.iomap_core.specs.Mappings.{IsSameMapping}
use Rattle.iomap_core.specs.declared.mapping.Iomap.{Iomap}
use Rattle.range_core.specs.ClaimsView.{ClaimsView}
use Rattle.range_core.specs.RangeView.{RangeView}
use Rattle.range_core.specs.declared.entry.Entry.{Entry}
use Rattle.mount_parts.specs.MountView.{MountView}
use Rattle.mini_fs.specs.Mappings.{IsOpen, LiesInStripe, Tells, TellsFrom, mapping_in, mapping_of, with_begun}
use Rattle.mini_fs.specs.PassView.{IsPassOf, PassView}
use Rattle.mini_fs.specs.Turns.{TurnsAt}
use Rattle.mini_fs.specs.declared.begun.Begun.{Begun}

-- a pass of the mount is one whatever mapping it notes
pub of-noted : (m : MountView) (p q : PassView) (begun : Option Begun) → IsPassOf m p → q ≡ with_begun p begun → IsPassOf m q
of-noted m p q begun of is = subst (IsPassOf m) (sym is) (record { stripes = of.stripes; sizes = of.sizes; locks = of.locks; queue = of.queue })

tells-from : (m : MountView) (file : FileId) (b : ℕ) (begun : Begun) → TellsFrom m file b begun → Tells m begun
tells-from m file b begun t =
    let s = begun.sample in
    let file_is : begun.iomap.file ≡ file = ap (λ (x : Begun). x.iomap.file) t.is in
    let new_is : begun.iomap.flags.new ≡ t.new = ap (λ (x : Begun). x.iomap.flags.new) t.is in
    record {
      iomap_is = ap (λ (x : Begun). x.iomap) t.is ∙ ap (λ f. mapping_of m f t.new s) (sym file_is) ∙ ap (λ n. mapping_of m begun.iomap.file n s) (sym new_is);
      lies = subst (λ f. LiesInStripe m f s.extent) (sym file_is) t.lies;
    }

-- a mapping that is noted is open
pub noted-open : (m : MountView) (file : FileId) (b : ℕ) (begun : Begun) (p q : PassView) → IsPassOf m p → TellsFrom m file b begun → q ≡ with_begun p (Some begun) → IsOpen m q begun.iomap
noted-open m file b begun p q of t is = subst (λ x. IsOpen m x begun.iomap) (sym is) (record { of = of-noted m p (with_begun p (Some begun)) (Some begun) of refl; same = inl refl; tells = tells-from m file b begun t })

-- a pass that began no mapping has none to end
pub none-open : (m : MountView) (p : PassView) (iomap : Iomap) → IsOpen m p iomap → p.begun ≡ None → ⊥
none-open m p iomap is none = subst (λ o. IsSameMapping (mapping_in o) iomap) none is.same

same-file : (was iomap : Iomap) → IsSameMapping (Some was) iomap → was.file ≡ iomap.file
same-file was iomap same = elim same [ inl e ↦ sym (ap (λ (x : Iomap). x.file) e) | inr e ↦ sym (ap (λ (x : Iomap). x.file) e) ]

-- the extent of an open mapping lies in one stripe
pub open-lies : (m : MountView) (p : PassView) (iomap : Iomap) (begun : Begun) → IsOpen m p iomap → p.begun ≡ Some begun → LiesInStripe m iomap.file begun.sample.extent
open-lies m p iomap begun is e =
    let same = subst (λ o. IsSameMapping (mapping_in o) iomap) e is.same in
    let tells = subst (λ o. IfSome o (Tells m)) e is.tells in
    subst (λ f. LiesInStripe m f begun.sample.extent) (same-file begun.iomap iomap same) tells.lies

-- what a pass began stays open while it makes turns
pub still-open : (m : MountView) (p q : PassView) (iomap : Iomap) → IsOpen m p iomap → IsPassOf m q → q.begun ≡ p.begun → IsOpen m q iomap
still-open m p q iomap is of same = record { of = of; same = subst (λ o. IsSameMapping (mapping_in o) iomap) (sym same) is.same; tells = subst (λ o. IfSome o (Tells m)) (sym same) is.tells }

-- a turn leaves the mapping that the pass began
pub turned-begun : (does : RangeView → List Entry → RangeView → RangeView → Entry → Type 0) (m : MountView) (stripe : ℕ) (claims left : ClaimsView) (p q : PassView) → TurnsAt does m stripe claims left p q → q.begun ≡ p.begun
turned-begun does m stripe claims left p q t = ap (λ (x : PassView). x.begun) t.pass_is
