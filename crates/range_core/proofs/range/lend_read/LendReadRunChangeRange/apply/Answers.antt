use Rattle.std.proofs.Common.{◌≡◌, List, [], Option, Some, sym, ap, ◌∙◌}
use Rattle.iob_base.specs.declared.part.Part.{Part}
use Rattle.range_core.proofs.LendReadTruth.{cold_turn}
use Rattle.range_core.proofs.range.lend_read.LendReadRunChangeRange.apply.Goals as goal
use Rattle.range_core.proofs.StakeTruth.{works}

pub lend_read-requires-clause-empty : goal.lend_read-requires-clause-empty
lend_read-requires-clause-empty c =
    let both : Some c.in-Some.parts ≡ Some [] = sym c.in-Some.is ∙ c.take.ensures.value ∙ c.requires.is_ready.may.list in
    cc

pub returns : goal.returns
returns c s =
    let change = c.args.self.now in
    let e = c.lend_read.ensures in
    cold_turn s.opening c.args.value.now c.lend_read.new.self s.history s.stakes s.number c.args.claims.now c.lend_read.new.claims s.made change _ c.lend_read.result s.stands.holds (works s.stands.here s.is_ready.own) s.is_ready.may.may
    (ap (λ (o : Option (List Part)). record change { parts = o }) c.take.ensures.after)
    (record { refused = e.refused; list = e.list; made = e.made; run = e.run; unchanged = e.unchanged; free = e.free; state = e.state; loan = e.lent; ready = e.ready; claims_are = e.claims })
