use Rattle.std.proofs.Common.{ℕ, length, refl, ◌∙◌, arith}
use Rattle.iob_base.specs.Parting.{pages_of}
use Rattle.range_core.specs.DirectNowTurns.{now_entry}
use Rattle.range_core.specs.declared.entry.Entry.{Entry}
use Rattle.range_core.proofs.DirectNowTruth.{answered_truth, read_contents}
use Rattle.range_core.proofs.range.direct_now.DirectNowRunChangeRange.apply.Goals as goal
use Rattle.range_core.proofs.StakeTruth.{works}

pub returns : goal.returns
returns g c s =
    let was = c.args.value.now in
    let change = c.args.self.now in
    let claims = c.args._claims.now in
    let most : ℕ = length (pages_of change.pages.now) in
    let entry : Entry = now_entry claims change.by change.block most c.read_now.result in
    let e = c.read_now.ensures in
    let t = s.stands.holds in
    let can = s.is_ready.may.1 in
    let low = can.here.low in
    let first = t.same_run.first in
    record {
      entry = entry;
      done = record {
        by_stays = refl;
        block_stays = refl;
        pages_stay = refl;
        claims_are = refl;
        answers = e;
        contents = read_contents s.opening was s.history s.stakes change.block most (pages_of change.pages.now) (pages_of c.read_now.new.pages) c.read_now.result t e.count e.read;
        entry_is = refl;
      };
      holds = answered_truth s.opening was s.history change.by change.block most s.stakes s.number claims s.made c.read_now.new.self c.read_now.result t (works s.stands.here s.is_ready.own)
          (t.same_run.mode ∙ can.cached) (omega arith) e.count e.state e.unchanged;
    }
