use Rattle.std.proofs.Common.{◌≡◌, refl, arith}
use Rattle.range_core.specs.Lookups.{sample_at}
use Rattle.range_core.specs.Samples.{sample_entry}
use Rattle.range_core.specs.declared.entry.Entry.{Entry}
use Rattle.range_core.specs.declared.sample.Sample.{Sample}
use Rattle.range_core.proofs.AfterEntry.{quiet_truth}
use Rattle.range_core.proofs.KindRuns.{present_sample}
use Rattle.range_core.proofs.range.sample.SampleRunChangeRange.apply.Goals as goal
use Rattle.range_core.proofs.StakeTruth.{works}
use Rattle.range_core.proofs.LiesLemmas.{lies_now, sample_lies}

pub sample-requires : goal.sample-requires
sample-requires c = let s = c.requires in lies_now s.opening c.args.value.now c.args.self.now.block 1 s.stands.holds.same_run s.is_ready.may.lies

pub returns : goal.returns
returns c s =
    let was = c.args.value.now in
    let look = c.args.self.now in
    let claims = c.args._claims.now in
    let sample : Sample = c.sample.result in
    let entry : Entry = sample_entry claims look sample in
    let is : sample ≡ sample_at was look.block look.most = c.sample.ensures in
    record {
      entry = entry;
      done = record { change = refl; value = refl; claims_are = refl; sample_is = is; entry_is = refl; lies = sample_lies s.opening was look.block look.most sample s.stands.holds.same_run s.is_ready.may is };
      holds = quiet_truth s.opening was s.history entry s.stakes s.number claims s.made s.stands.holds (works s.stands.here s.is_ready.own)
          (record { content = λ b x. refl; state = λ b x. refl; failed = refl; lent = refl; changed = refl; stamps = refl; found = λ b s. refl })
          (present_sample was look.block look.most sample (omega (arith, s.is_ready.may.lies.low, s.stands.holds.same_run.first)) is)
          refl;
    }
