use Rattle.std.proofs.Common.{◌≡◌, refl, sym, subst, arith}
use Rattle.range_core.specs.Lookups.{sample_at}
use Rattle.range_core.specs.RangeView.{LiesAt}
use Rattle.range_core.specs.Surveys.{survey_at}
use Rattle.range_core.specs.declared.entry.Entry.{Entry}
use Rattle.range_core.specs.declared.entry.Event.TheVariants as events
use Rattle.range_core.specs.declared.entry.Outcome.TheVariants.{Sampled}
use Rattle.range_core.specs.declared.sample.Sample.{Sample}
use Rattle.range_core.specs.declared.range.survey.Survey.{Survey}
use Rattle.range_core.proofs.AfterEntry.{quiet_truth}
use Rattle.range_core.proofs.KindRuns.{present_sample}
use Rattle.range_core.proofs.LiesLemmas.{lies_now, sample_lies}
use Rattle.range_core.proofs.StakeTruth.{works}
use Rattle.range_core.proofs.SurveyLemmas.{survey_tells}
use Rattle.range_core.proofs.range.survey.SurveyRunChangeRange.apply.Goals as goal

pub survey-requires : goal.survey-requires
survey-requires c = let s = c.requires in lies_now s.opening c.args.value.now c.args.self.now.block 1 s.stands.holds.same_run s.is_ready.may.lies

pub returns : goal.returns
returns c s =
    let was = c.args.value.now in
    let change = c.args.self.now in
    let claims = c.args._claims.now in
    let survey : Survey = c.survey.result in
    let sample : Sample = sample_at was change.block change.most in
    let entry : Entry = record { caller = claims.caller; event = events.Sample change.block change.most; outcome = Sampled sample } in
    let is : survey ≡ survey_at was change.block change.most = c.survey.ensures in
    let lies = s.is_ready.may.lies in
    let L : Survey → Type 0 = λ v. LiesAt s.opening v.extent.block v.extent.length in
    record {
      entry = entry;
      done = record {
        change_is = refl;
        value = refl;
        claims_are = refl;
        survey_is = is;
        lies = subst L (sym is) (sample_lies s.opening was change.block change.most sample s.stands.holds.same_run s.is_ready.may refl);
        tells = survey_tells was change.block change.most survey is;
        entry_is = refl;
      };
      holds = quiet_truth s.opening was s.history entry s.stakes s.number claims s.made s.stands.holds (works s.stands.here s.is_ready.own)
          (record { content = λ b x. refl; state = λ b x. refl; failed = refl; lent = refl; changed = refl; stamps = refl; found = λ b s. refl })
          (present_sample was change.block change.most sample (omega (arith, lies.low, s.stands.holds.same_run.first)) refl)
          refl;
    }
