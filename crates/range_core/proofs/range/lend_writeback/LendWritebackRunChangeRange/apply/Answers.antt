use Rattle.std.proofs.Common.{◌≡◌, List, [], Option, Some, sym, ap, ◌∙◌}
use Rattle.iob_base.specs.declared.part.Part.{Part}
use Rattle.range_core.proofs.LendWritebackTruth.{dirty_turn, writable_now}
use Rattle.range_core.proofs.range.lend_writeback.LendWritebackRunChangeRange.apply.Goals as goal
use Rattle.range_core.proofs.StakeTruth.{works}

pub lend_writeback-requires-clause-writable : goal.lend_writeback-requires-clause-writable
lend_writeback-requires-clause-writable c = let s = c.requires in writable_now s.opening c.args.value.now s.history s.stakes s.stands.holds

pub lend_writeback-requires-clause-empty : goal.lend_writeback-requires-clause-empty
lend_writeback-requires-clause-empty c =
    let both : Some c.in-Some.parts ≡ Some [] = sym c.in-Some.is ∙ c.take.ensures.value ∙ c.requires.is_ready.may.list in
    cc

pub returns : goal.returns
returns c s =
    let change = c.args.self.now in
    let e = c.lend_writeback.ensures in
    dirty_turn s.opening c.args.value.now c.lend_writeback.new.self s.history s.stakes s.number c.args.claims.now c.lend_writeback.new.claims s.made change _ c.lend_writeback.result s.stands.holds (works s.stands.here s.is_ready.own) s.is_ready.may.may
    (ap (λ (o : Option (List Part)). record change { parts = o }) c.take.ensures.after)
    (record { refused = e.refused; list = e.list; made = e.made; run = e.run; unchanged = e.unchanged; free = e.free; state = e.state; lent = e.lent; ready = e.ready; claims_are = e.claims })
