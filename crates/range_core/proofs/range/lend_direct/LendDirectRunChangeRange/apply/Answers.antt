use Rattle.std.proofs.Common.{List, Option, sym, ◌∙◌, ap}
use Rattle.iob_base.specs.declared.part.Part.{Part}
use Rattle.range_core.proofs.LendDirectTruth.{bare_ready, can_lend, turned_to_lend}
use Rattle.range_core.proofs.range.lend_direct.LendDirectRunChangeRange.apply.Goals as goal
use Rattle.range_core.proofs.StakeTruth.{works}

pub lend_direct-requires-clause-bare : goal.lend_direct-requires-clause-bare
lend_direct-requires-clause-bare c =
    let s = c.requires in
    bare_ready s.opening s.seen c.args.claims.now c.args.self.now c.in-Some.pages s.is_ready.may (sym c.take.ensures.value ∙ c.in-Some.is)

pub lend_direct-requires-clause-can : goal.lend_direct-requires-clause-can
lend_direct-requires-clause-can c =
    let s = c.requires in
    can_lend s.opening c.args.value.now s.history s.seen s.stakes c.args.claims.now c.args.self.now c.in-Some.pages s.stands.holds s.begins s.is_ready.may (sym c.take.ensures.value ∙ c.in-Some.is)

pub returns : goal.returns
returns c s =
    let change = c.args.self.now in
    let e = c.lend_direct.ensures in
    turned_to_lend s.opening c.args.value.now _ s.history s.seen s.stakes s.number c.args.claims.now _ s.made change _ c.in-Some.pages s.stands.holds (works s.stands.here s.is_ready.own) s.begins s.is_ready.may
    (sym c.take.ensures.value ∙ c.in-Some.is) (ap (λ (o : Option (List Part)). record change { pages = o }) c.take.ensures.after) c.lend_direct.result
    (record { made = e.made; state = e.state; answer = e.answer; ready = e.ready; claims_are = e.claims; refused = e.refused; pages_back = e.pages_back; unchanged = e.unchanged; unclaimed = e.unclaimed })
