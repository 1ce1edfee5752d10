-- What a turn that surveys an extent tells.
use Rattle.std.specs.Prelude.{◌≡◌, ℕ, zero, suc, ◌+◌, ◌-◌, ◌*◌, ◌<◌, List, [], ◌∷◌, slice_get, Some}
use Rattle.std.specs.Int.{bit_at}
use Rattle.range_core.specs.ClaimsView.{ClaimsView}
use Rattle.range_core.specs.EntryCounts.{one_where}
use Rattle.range_core.specs.Lookups.{extent_at, sample_at}
use Rattle.range_core.specs.RangeView.{LiesAt, RangeView, cells_from}
use Rattle.range_core.specs.declared.cell.Cell.{Cell}
use Rattle.range_core.specs.declared.entry.Entry.{Entry}
use Rattle.range_core.specs.declared.entry.Event.TheVariants as events
use Rattle.range_core.specs.declared.entry.Outcome.TheVariants.{Sampled}
use Rattle.range_core.specs.declared.range.survey.Survey.{Survey}
use Rattle.range_core.specs.declared.range.survey.SurveyRun.{SurveyRun}

-- the dirty bits of n blocks as one number, that of the first lowest
abbrev pub dirty_word : List Cell → ℕ → ℕ
dirty_word [] n = 0
dirty_word (c ∷ cells) zero = 0
dirty_word (c ∷ cells) (suc n) = dirty_word cells n * 2 + one_where c.dirty

-- the survey of a block: the extent of its sample, and which blocks of it are dirty
abbrev pub survey_at : RangeView → ℕ → ℕ → Survey
survey_at r b most = record { cookie = r.cookie; extent = extent_at r b most; dirty = dirty_word (cells_from r b) (extent_at r b most).length }

-- bit i tells whether the i-th of these blocks is dirty
abbrev pub TellsDirty : RangeView → Survey → Type 0
TellsDirty r survey = (i : ℕ) (c : Cell) → i < survey.extent.length → slice_get r.cells (survey.extent.block - r.first + i) ≡ Some c → bit_at survey.dirty i ≡ one_where c.dirty

-- The turn gave the present survey, and nothing changed
pub record Surveyed (opening : RangeView) (change later : SurveyRun) (before after : RangeView) (claims left : ClaimsView) (survey : Survey) (entry : Entry) : Type 0 where
  pub change_is : later ≡ change
  pub value : after ≡ before
  pub claims_are : left ≡ claims
  pub survey_is : survey ≡ survey_at before change.block change.most
  pub lies : LiesAt opening survey.extent.block survey.extent.length
  pub tells : TellsDirty before survey
  pub entry_is : entry ≡ record { caller = claims.caller; event = events.Sample change.block change.most; outcome = Sampled (sample_at before change.block change.most) }
