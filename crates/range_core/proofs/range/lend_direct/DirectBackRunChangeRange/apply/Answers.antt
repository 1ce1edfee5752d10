use Rattle.std.proofs.Common.{Option, sym, ◌∙◌, ap}
use Rattle.range_core.specs.declared.lending.Lent.{Lent}
use Rattle.range_core.proofs.DirectBackTruth.{comes_home, cookie_ready, turned_back}
use Rattle.range_core.proofs.range.lend_direct.DirectBackRunChangeRange.apply.Goals as goal
use Rattle.range_core.proofs.StakeTruth.{works}

pub direct_back-requires-clause-comes : goal.direct_back-requires-clause-comes
direct_back-requires-clause-comes c =
    let s = c.requires in
    comes_home s.opening c.args.value.now s.history s.stakes s.number c.args.claims.now s.made c.args.self.now c.in-Some.back s.stands.holds (works s.stands.here s.is_ready.own) s.is_ready.may (sym c.take.ensures.value ∙ c.in-Some.is)

pub direct_back-requires-clause-cookie : goal.direct_back-requires-clause-cookie
direct_back-requires-clause-cookie c =
    let s = c.requires in
    cookie_ready s.opening c.args.value.now s.history s.stakes s.number c.args.claims.now s.made c.args.self.now c.in-Some.back s.stands.holds (works s.stands.here s.is_ready.own) s.is_ready.may (sym c.take.ensures.value ∙ c.in-Some.is)

pub returns : goal.returns
returns c s =
    let change = c.args.self.now in
    let e = c.direct_back.ensures in
    turned_back s.opening c.args.value.now s.history s.stakes s.number c.args.claims.now s.made change c.in-Some.back s.stands.holds (works s.stands.here s.is_ready.own) s.is_ready.may (sym c.take.ensures.value ∙ c.in-Some.is) _ _ _ c.direct_back.result
    (ap (λ (o : Option Lent). record change { back = o }) c.take.ensures.after)
    (record { state = e.state; claims_are = e.claims; pages_are = e.pages; bare = e.bare; kept = e.kept })
