-- A block of a fetch is as true with the page of zeros that it got.
use Rattle.std.proofs.Common.{◌≡◌, ℕ, true, false, Option, Some, None, List, refl, sym, subst}
use Rattle.std.specs.Prelude.{is_none}
use Rattle.io_model.specs.Contents.{Content}
use Rattle.range_core.specs.BlockTruth.{FitsAway, HomeContent, IsHomeContent, IsTrueAt}
use Rattle.range_core.specs.Pages.{zero_page}
use Rattle.range_core.specs.Paging.{filled, lacks_page}
use Rattle.range_core.specs.Refusals.{is_cold, pageless_at}
use Rattle.range_core.specs.Stakes.{RangeStake, held_by}
use Rattle.range_core.specs.declared.cell.Cell.{Cell}
use Rattle.range_core.specs.declared.lending.Away.{Away}
use Rattle.range_core.proofs.ClaimedPages.{IsBlank, is_blank}
use Rattle.range_core.proofs.PagingLemmas.{either_filled}

none_is : {A : Type 0} (o : Option A) → is_none o ≡ true → o ≡ None
none_is None e = refl
none_is (Some x) e = absurd (cc)

-- a block that reads as zeros is true with a page of zeros
paged_true : (size b : ℕ) (c : Cell) (content : Content) (stakes : List RangeStake) → IsBlank size c content → IsTrueAt size b c content stakes → IsTrueAt size b (record c { page = Some (zero_page size) }) content stakes
paged_true size b c content stakes blank t =
    let d : Cell = record c { page = Some (zero_page size) } in
    record {
      whole = t.whole;
      place = t.place;
      uptodate_is_replay = sym blank.content_is;
      home_is_on_device =
          let H : Option Away → Type 0 = λ a. HomeContent size c content a in
          let G : Option Away → Type 0 = λ a. HomeContent size d content a in
          let here : IsHomeContent size c content = subst H blank.home t.home_is_on_device in
          subst G (sym blank.home) (record { clean_is_on_device = here.clean_is_on_device; spaceless_is_zeros = here.spaceless_is_zeros });
      dirty_is_uptodate = λ e. let clean = blank.clean in absurd (cc);
      away_is_claimed = record {
        once = t.away_is_claimed.once;
        fits = λ n s at more. let F : Option Away → Type 0 = λ a. FitsAway size b d content a (held_by s.0) in subst F (sym blank.home) tt;
      };
    }

pub filled_true : (size b : ℕ) (c : Cell) (content : Content) (stakes : List RangeStake) → IsTrueAt size b c content stakes → pageless_at b c.away ≡ None → is_cold c ≡ false → IsTrueAt size b (filled size c) content stakes
filled_true size b c content stakes t h cold =
    either_filled (λ d. IsTrueAt size b d content stakes) lacks_page size c (λ _. t) (λ e. paged_true size b c content stakes (is_blank size b c content stakes t h cold (none_is c.page e)) t)
