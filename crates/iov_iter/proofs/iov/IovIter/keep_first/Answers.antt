use Rattle.std.proofs.Common.{◌≡◌, ◌≤◌, length, set, arith, sym, ap, ◌∙◌, subst}
use Rattle.iov_iter.specs.Home.{AllHome}
use Rattle.iov_iter.specs.IovView.{IovView}
use Rattle.iov_iter.specs.Kept.{IsIov}
use Rattle.iov_iter.specs.Moving.{kept_first}
use Rattle.iov_iter.specs.Slots.{iov_view, joined}
use Rattle.iov_iter.proofs.KeepLemmas.{KeepsAt, keeps_at, kept_cut, set_one, view_kept}
use Rattle.iov_iter.proofs.iov.IovIter.keep_first.Goals as goal

pub cut_after-requires-clause-page : goal.cut_after-requires-clause-page
cut_after-requires-clause-page c =
    let W : IovView → Type 0 = λ v. c.args.n ≤ length v.bytes in
    let within : c.args.n ≤ length (joined c.self.inside.slots.items) = subst W (sym c.self.view_is) c.requires.within in
    let k : KeepsAt c.self.inside.slots.items c.args.n c.spot_at-last.result.page c.spot_at-last.result.offset =
    keeps_at c.self.inside.page_size c.self.inside.slots.items c.self.inside.lengths.items c.deref.result.now c.args.n c.spot_at-last.result c.self.invariant.cut c.deref.ensures.value c.spot_at-last.ensures.stands c.spot_at-last.ensures.byte c.requires.some within in
    omega (arith, k.page_there)

pub cut_after-requires-clause-within : goal.cut_after-requires-clause-within
cut_after-requires-clause-within c =
    let W : IovView → Type 0 = λ v. c.args.n ≤ length v.bytes in
    let within : c.args.n ≤ length (joined c.self.inside.slots.items) = subst W (sym c.self.view_is) c.requires.within in
    let k : KeepsAt c.self.inside.slots.items c.args.n c.spot_at-last.result.page c.spot_at-last.result.offset =
    keeps_at c.self.inside.page_size c.self.inside.slots.items c.self.inside.lengths.items c.deref.result.now c.args.n c.spot_at-last.result c.self.invariant.cut c.deref.ensures.value c.spot_at-last.ensures.stands c.spot_at-last.ensures.byte c.requires.some within in
    k.within

pub cut_after-requires-clause-home : goal.cut_after-requires-clause-home
cut_after-requires-clause-home c =
    let W : IovView → Type 0 = λ v. c.args.n ≤ length v.bytes in
    let within : c.args.n ≤ length (joined c.self.inside.slots.items) = subst W (sym c.self.view_is) c.requires.within in
    let k : KeepsAt c.self.inside.slots.items c.args.n c.spot_at-last.result.page c.spot_at-last.result.offset =
    keeps_at c.self.inside.page_size c.self.inside.slots.items c.self.inside.lengths.items c.deref.result.now c.args.n c.spot_at-last.result c.self.invariant.cut c.deref.ensures.value c.spot_at-last.ensures.stands c.spot_at-last.ensures.byte c.requires.some within in
    let H : AllHome (iov_view c.self.inside.page_size c.self.inside.slots.items c.self.inside.lengths.items c.self.inside.place) = subst AllHome (sym c.self.view_is) c.requires.home in
    H _ (omega arith) (omega (arith, k.ends, within))

view_is : (c : goal.After-self-1) → iov_view c.self.inside.page_size c.cut_after.new.slots.items (set c.self.inside.lengths.items 0 c.args.n) c.self.inside.place ≡ kept_first c.args.n (iov_view c.self.inside.page_size c.self.inside.slots.items c.self.inside.lengths.items c.self.inside.place)
view_is c =
    let O : IovView → Type 0 = λ v. length v.lengths ≡ 1 in
    let W : IovView → Type 0 = λ v. c.args.n ≤ length v.bytes in
    let within : c.args.n ≤ length (joined c.self.inside.slots.items) = subst W (sym c.self.view_is) c.requires.within in
    let k : KeepsAt c.self.inside.slots.items c.args.n c.spot_at-last.result.page c.spot_at-last.result.offset =
    keeps_at c.self.inside.page_size c.self.inside.slots.items c.self.inside.lengths.items c.deref.result.now c.args.n c.spot_at-last.result c.self.invariant.cut c.deref.ensures.value c.spot_at-last.ensures.stands c.spot_at-last.ensures.byte c.requires.some within in
    view_kept c.self.inside.page_size c.self.inside.slots.items c.cut_after.new.slots.items c.self.inside.lengths.items (set c.self.inside.lengths.items 0 c.args.n) c.self.inside.place c.args.n _ k.ends c.cut_after.ensures.bytes c.cut_after.ensures.places
    (set_one c.self.inside.lengths.items c.args.n (subst O (sym c.self.view_is) c.requires.one))

pub invariant_of-self : goal.invariant_of-self
invariant_of-self c =
    let O : IovView → Type 0 = λ v. length v.lengths ≡ 1 in
    let P : IovView → Type 0 = λ v. v.place ≡ 0 in
    let W : IovView → Type 0 = λ v. c.args.n ≤ length v.bytes in
    subst IsIov (sym (view_is c))
    (kept_cut (iov_view c.self.inside.page_size c.self.inside.slots.items c.self.inside.lengths.items c.self.inside.place) c.args.n c.self.invariant (subst O (sym c.self.view_is) c.requires.one) (subst P (sym c.self.view_is) c.requires.start) (subst AllHome (sym c.self.view_is) c.requires.home) c.requires.some (subst W (sym c.self.view_is) c.requires.within))

pub returns : goal.returns
returns c = view_is c ∙ ap (kept_first c.args.n) c.self.view_is
