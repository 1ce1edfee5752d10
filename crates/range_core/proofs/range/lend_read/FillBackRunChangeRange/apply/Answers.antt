use Rattle.std.proofs.Common.{◌≡◌, Option, Some, [], ◌∷◌, ◌++◌, set, refl, sym, ◌∙◌, ap, subst}
use Rattle.iob_base.specs.declared.stamp.Op.TheVariants.{Read}
use Rattle.range_core.specs.ClaimsView.{ClaimsView}
use Rattle.range_core.specs.LendReads.{fill_entry, after_fill_back}
use Rattle.range_core.specs.RangeTruth.{RangeTruth}
use Rattle.range_core.specs.RangeView.{RangeView}
use Rattle.range_core.specs.Returning.{ComesBack, MayComeBack}
use Rattle.range_core.specs.declared.entry.Entry.{Entry}
use Rattle.range_core.specs.declared.lending.Lender.TheVariants.{Reading}
use Rattle.range_core.specs.declared.lending.Lent.{Lent}
use Rattle.range_core.proofs.FillBackTruth.{filled_holds}
use Rattle.range_core.proofs.ReturnLemmas.{comes_back}
use Rattle.range_core.proofs.range.lend_read.FillBackRunChangeRange.apply.Goals as goal
use Rattle.range_core.proofs.StakeTruth.{works}

pub fill_back-requires : goal.fill_back-requires
fill_back-requires c =
    let s = c.requires in
    let ready = s.is_ready.may in
    let given : c.args.self.now.back ≡ Some c.in-Some.back = sym c.take.ensures.value ∙ c.in-Some.is in
    let same : ready.back ≡ c.in-Some.back = let both : Some ready.back ≡ Some c.in-Some.back = sym ready.given_is ∙ given in cc in
    let C : Lent → Type 0 = λ l. ComesBack c.args.value.now c.args.claims.now Reading Read l c.args.self.now.done in
    subst C same (comes_back s.opening c.args.value.now s.history s.stakes s.number c.args.claims.now s.made Reading Read ready.back c.args.self.now.done s.stands.holds (works s.stands.here s.is_ready.own) ready.may)

pub returns : goal.returns
returns c s =
    let claims = c.args.claims.now in
    let now = c.args.value.now in
    let back : Lent = c.in-Some.back in
    let done = c.args.self.now.done in
    let ready = s.is_ready.may in
    let given : c.args.self.now.back ≡ Some back = sym c.take.ensures.value ∙ c.in-Some.is in
    let same : ready.back ≡ back = let both : Some ready.back ≡ Some back = sym ready.given_is ∙ given in cc in
    let M : Lent → Type 0 = λ l. MayComeBack s.opening claims Reading Read l done in
    let entry : Entry = fill_entry claims back done in
    let N : RangeView → Type 0 = λ r. RangeTruth s.opening r (s.history ++ entry ∷ []) (set s.stakes s.number (Some c.fill_back.new.claims, s.made ++ entry ∷ [])) in
    let L : ClaimsView → Type 0 = λ l. RangeTruth s.opening (after_fill_back now back done) (s.history ++ entry ∷ []) (set s.stakes s.number (Some l, s.made ++ entry ∷ [])) in
    record {
      entry = entry;
      done = record { back = back; given = given; change_is = ap (λ (b : Option Lent). record c.args.self.now { back = b }) c.take.ensures.after; value = c.fill_back.ensures.state; emptied = c.fill_back.ensures.emptied; claims_are = c.fill_back.ensures.claims; entry_is = refl };
      holds = subst N (sym c.fill_back.ensures.state) (subst L (sym c.fill_back.ensures.claims) (filled_holds s.opening now s.history s.stakes s.number claims s.made back done s.stands.holds (works s.stands.here s.is_ready.own) (subst M same ready.may)));
    }
