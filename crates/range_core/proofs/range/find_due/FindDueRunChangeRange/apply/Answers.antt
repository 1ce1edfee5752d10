use Rattle.std.proofs.Common.{◌≡◌, refl, arith}
use Rattle.range_core.specs.Lookups.{sample_at}
use Rattle.range_core.specs.declared.entry.Entry.{Entry}
use Rattle.range_core.specs.declared.entry.Event.TheVariants as events
use Rattle.range_core.specs.declared.entry.Outcome.TheVariants.{Sampled}
use Rattle.range_core.specs.declared.range.find_due.Found.{Found}
use Rattle.range_core.proofs.AfterEntry.{quiet_truth}
use Rattle.range_core.proofs.FindDueLemmas.{told}
use Rattle.range_core.proofs.KindRuns.{present_sample}
use Rattle.range_core.proofs.LiesLemmas.{lies_now, sample_lies}
use Rattle.range_core.proofs.StakeTruth.{works}
use Rattle.range_core.proofs.range.find_due.FindDueRunChangeRange.apply.Goals as goal

pub find_due-requires : goal.find_due-requires
find_due-requires c = let s = c.requires in lies_now s.opening c.args.value.now c.args.self.now.block 1 s.stands.holds.same_run s.is_ready.may.lies

pub returns : goal.returns
returns c s =
    let was = c.args.value.now in
    let change = c.args.self.now in
    let claims = c.args._claims.now in
    let found : Found = c.find_due.result in
    let entry : Entry = record { caller = claims.caller; event = events.Sample change.block change.most; outcome = Sampled found.sample } in
    let is : found.sample ≡ sample_at was change.block change.most = c.find_due.ensures.sample in
    let lies = s.is_ready.may.lies in
    let due = told s.opening was change.block change.most found.due s.stands.holds.same_run lies c.find_due.ensures.due in
    record {
      entry = entry;
      done = record {
        change_is = refl;
        value = refl;
        claims_are = refl;
        sample_is = is;
        lies = sample_lies s.opening was change.block change.most found.sample s.stands.holds.same_run s.is_ready.may is;
        due_is = c.find_due.ensures.due;
        calm = due.calm;
        due = due.due_here;
        due_lies = due.lies;
        entry_is = refl;
      };
      holds = quiet_truth s.opening was s.history entry s.stakes s.number claims s.made s.stands.holds (works s.stands.here s.is_ready.own)
          (record { content = λ b x. refl; state = λ b x. refl; failed = refl; lent = refl; changed = refl; stamps = refl; found = λ b s. refl })
          (present_sample was change.block change.most found.sample (omega (arith, lies.low, s.stands.holds.same_run.first)) is)
          refl;
    }
