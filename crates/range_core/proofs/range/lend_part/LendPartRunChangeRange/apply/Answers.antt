use Rattle.std.proofs.Common.{List, Option, sym, ◌∙◌, ap}
use Rattle.iob_base.specs.declared.part.Part.{Part}
use Rattle.range_core.proofs.FetchTruth.{pages_whole}
use Rattle.range_core.proofs.LendPartTruth.{can_lend_part, turned_to_lend_part}
use Rattle.range_core.proofs.StakeTruth.{works}
use Rattle.range_core.proofs.range.lend_part.LendPartRunChangeRange.apply.Goals as goal

pub lend_part-requires-clause-can : goal.lend_part-requires-clause-can
lend_part-requires-clause-can c =
    let s = c.requires in
    can_lend_part s.opening c.args.value.now s.history s.seen s.stakes c.args.claims.now c.args.self.now c.in-Some.page s.stands.holds s.begins s.is_ready.may (sym c.take.ensures.value ∙ c.in-Some.is)

pub lend_part-requires-clause-pages : goal.lend_part-requires-clause-pages
lend_part-requires-clause-pages c = pages_whole c.requires.opening c.args.value.now c.requires.history c.requires.stakes c.requires.stands.holds

pub returns : goal.returns
returns c s =
    let change = c.args.self.now in
    let e = c.lend_part.ensures in
    turned_to_lend_part s.opening c.args.value.now _ s.history s.seen s.stakes s.number c.args.claims.now _ s.made change _ c.in-Some.page s.stands.holds (works s.stands.here s.is_ready.own) s.begins s.is_ready.may
    (sym c.take.ensures.value ∙ c.in-Some.is) (ap (λ (o : Option (List Part)). record change { page = o }) c.take.ensures.after) e.met c.lend_part.result
    (record { made = e.made; state = e.state; lent = e.lent; ready = e.ready; claims_are = e.claims; refused = e.refused; page_back = e.page_back; unchanged = e.unchanged; unclaimed = e.unclaimed })
