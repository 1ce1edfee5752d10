use Rattle.std.proofs.Common.{◌≡◌, Option, Some, [], ◌∷◌, ◌++◌, set, refl, sym, ◌∙◌, ap, subst}
use Rattle.iob_base.specs.declared.stamp.Op.TheVariants.{Write}
use Rattle.range_core.specs.ClaimsView.{ClaimsView}
use Rattle.range_core.specs.LendWritebacks.{written, written_entry}
use Rattle.range_core.specs.Lookups.{first_kind}
use Rattle.range_core.specs.RangeTruth.{RangeTruth}
use Rattle.range_core.specs.RangeView.{RangeView, cells_from}
use Rattle.range_core.specs.Returning.{ComesBack, MayComeBack}
use Rattle.range_core.specs.declared.entry.Entry.{Entry}
use Rattle.range_core.specs.declared.lending.Lender.TheVariants.{Writeback}
use Rattle.range_core.specs.declared.lending.Lent.{Lent}
use Rattle.range_core.proofs.WrittenBackTruth.{written_holds}
use Rattle.range_core.proofs.ReturnLemmas.{comes_back}
use Rattle.range_core.proofs.range.lend_writeback.WrittenBackRunChangeRange.apply.Goals as goal
use Rattle.range_core.proofs.StakeTruth.{works}

pub written_back-requires-clause-back : goal.written_back-requires-clause-back
written_back-requires-clause-back c =
    let s = c.requires in
    let ready = s.is_ready.may in
    let given : c.args.self.now.back ≡ Some c.in-Some.back = sym c.take.ensures.value ∙ c.in-Some.is in
    let same : ready.back ≡ c.in-Some.back = let both : Some ready.back ≡ Some c.in-Some.back = sym ready.given_is ∙ given in cc in
    let C : Lent → Type 0 = λ l. ComesBack c.args.value.now c.args.claims.now Writeback Write l c.args.self.now.done in
    subst C same (comes_back s.opening c.args.value.now s.history s.stakes s.number c.args.claims.now s.made Writeback Write ready.back c.args.self.now.done s.stands.holds (works s.stands.here s.is_ready.own) ready.may)

pub returns : goal.returns
returns c s =
    let claims = c.args.claims.now in
    let now = c.args.value.now in
    let back : Lent = c.in-Some.back in
    let done = c.args.self.now.done in
    let ready = s.is_ready.may in
    let given : c.args.self.now.back ≡ Some back = sym c.take.ensures.value ∙ c.in-Some.is in
    let same : ready.back ≡ back = let both : Some ready.back ≡ Some back = sym ready.given_is ∙ given in cc in
    let M : Lent → Type 0 = λ l. MayComeBack s.opening claims Writeback Write l done in
    let entry : Entry = written_entry claims back (first_kind (cells_from now back.block)) done c.written_back.result.blocks in
    let N : RangeView → Type 0 = λ r. RangeTruth s.opening r (s.history ++ entry ∷ []) (set s.stakes s.number (Some c.written_back.new.claims, s.made ++ entry ∷ [])) in
    let L : ClaimsView → Type 0 = λ l. RangeTruth s.opening (written now back done) (s.history ++ entry ∷ []) (set s.stakes s.number (Some l, s.made ++ entry ∷ [])) in
    record {
      entry = entry;
      done = record { back = back; count = c.written_back.ensures.count; given = given; change_is = ap (λ (b : Option Lent). record c.args.self.now { back = b }) c.take.ensures.after; value = c.written_back.ensures.state; emptied = c.written_back.ensures.emptied; claims_are = c.written_back.ensures.claims; entry_is = refl };
      holds = subst N (sym c.written_back.ensures.state) (subst L (sym c.written_back.ensures.claims) (written_holds s.opening now s.history s.stakes s.number claims s.made back done c.written_back.result.blocks s.stands.holds (works s.stands.here s.is_ready.own) (subst M same ready.may)));
    }
