-- What is true of a block at home.
use Rattle.std.proofs.Common.{◌≡◌, ◌≢◌, ℕ, ◌≤◌, ◌&&◌, ◌||◌, Bool, true, false, Option, Some, None, IfSome, List, length, refl, sym, ◌∙◌, ap, subst, arith}
use Rattle.std.specs.Prelude.{IsSomeAnd}
use Rattle.iob_base.specs.DeviceBlock.{DeviceBlock}
use Rattle.io_model.specs.Contents.{Content}
use Rattle.io_model.specs.declared.file.Kind.{Kind}
use Rattle.io_model.specs.declared.file.Kind.TheVariants.{Hole}
use Rattle.turn_cell.specs.Stakes.{total}
use Rattle.range_core.specs.BlockTruth.{AwayIsClaimed, FitsAway, HomeContent, IsHomeContent, IsTrueAt, gone}
use Rattle.range_core.specs.Cells.{HasPlace, IsPlaced}
use Rattle.range_core.specs.EntryCounts.{one_where}
use Rattle.range_core.specs.Kinds.{has_space, is_delalloc, is_unwritten}
use Rattle.range_core.specs.RangeTruth.{is_lent_for_writing, pending}
use Rattle.range_core.specs.Stakes.{RangeStake, held_by, names}
use Rattle.range_core.specs.declared.cell.Cell.{Cell}
use Rattle.range_core.specs.declared.lending.Away.{Away}

-- a block without a sector is at home
pub home_of : (size : ℕ) (kind : Kind) (sector : Option DeviceBlock) (away : Option Away) → has_space kind ≡ false → HasPlace size kind sector away → away ≡ None
home_of size kind sector None e h = refl
home_of size kind sector (Some a) e h = absurd (let t : has_space kind ≡ true = h.1 in cc)

-- the content of a block at home
pub home_content : (size : ℕ) (c : Cell) (content : Content) → c.away ≡ None → HomeContent size c content c.away → IsHomeContent size c content
home_content size c content home h = let H : Option Away → Type 0 = λ a. HomeContent size c content a in subst H home h

-- no claim names a block at home
pub unnamed : (size b : ℕ) (c : Cell) (content : Content) (stakes : List RangeStake) → c.away ≡ None → AwayIsClaimed size b c content stakes → total (names b) stakes ≡ 0
unnamed size b c content stakes home a = a.once ∙ ap gone home

-- What is true of a block at home that no claim names
pub record IsHomeTrue (size b : ℕ) (c : Cell) (content : Content) (stakes : List RangeStake) : Type 0 where
  pub home : c.away ≡ None
  pub whole : length content ≡ size
  pub place : IsPlaced size c
  pub uptodate : IfSome c.page (λ p. p.bytes ≡ content)
  pub reads : IsHomeContent size c content
  pub dirty : c.dirty ≡ true → IsSomeAnd c.page (λ p. c.kind ≢ Hole)
  pub unclaimed : total (names b) stakes ≡ 0

pub home_true : (size b : ℕ) (c : Cell) (content : Content) (stakes : List RangeStake) → IsHomeTrue size b c content stakes → IsTrueAt size b c content stakes
home_true size b c content stakes h = record {
  whole = h.whole;
  place = h.place;
  uptodate_is_replay = h.uptodate;
  home_is_on_device = let H : Option Away → Type 0 = λ a. HomeContent size c content a in subst H (sym h.home) h.reads;
  dirty_is_uptodate = h.dirty;
  away_is_claimed = record {
    once = h.unclaimed ∙ sym (ap gone h.home);
    fits = λ n s at more. let F : Option Away → Type 0 = λ a. FitsAway size b c content a (held_by s.0) in subst F (sym h.home) tt;
  };
}

pub one_where-few : (t : Bool) → one_where t ≤ 1
one_where-few true = omega arith
one_where-few false = omega arith

-- a block weighs at most one of those whose kind an event without refusal may change
pub pending-few : (c : Cell) → pending c ≤ 1
pending-few c = one_where-few (is_delalloc c.kind || (is_unwritten c.kind && is_lent_for_writing c.away))
