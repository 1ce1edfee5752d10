-- A block of a store is true of the content that the store leaves.
use Rattle.std.proofs.Common.{◌≡◌, ◌≢◌, ℕ, ◌+◌, ◌-◌, ◌*◌, ◌<◌, ◌≤◌, Bool, true, false, ◌&&◌, Option, Some, None, List, ◌++◌, length, drop, refl, sym, ◌∙◌, ap, subst, arith, append-nil, length-append, length-drop, length-take}
use Rattle.std.specs.Prelude.{IfSome, IsSomeAnd, is_none, nat_lt}
use Rattle.std.proofs.lemmas.Bool.{ltb-false, or_parts}
use Rattle.std.proofs.lemmas.List.{drop_all, length-replicate, length-take-le}
use Rattle.iob_base.specs.declared.sector.Page.{Page}
use Rattle.io_model.specs.Contents.{Content, zeros}
use Rattle.io_model.specs.Effects.{overlay}
use Rattle.io_model.specs.Lists.{bytes_between}
use Rattle.io_model.specs.Parts.{part_in, span}
use Rattle.io_model.specs.declared.file.Kind.TheVariants.{Hole}
use Rattle.range_core.specs.BlockTruth.{AwayIsClaimed, FitsAway, FitsLender, HomeContent, IsAround, IsTrueAt}
use Rattle.range_core.specs.ByteRuns.{IsByteRun, part_at}
use Rattle.range_core.specs.Cells.{HasPlace}
use Rattle.range_core.specs.Pages.{zero_page}
use Rattle.range_core.specs.Paging.{lacks_page}
use Rattle.range_core.specs.Refusals.{covers_in_part, is_cold, pageless_at}
use Rattle.range_core.specs.Spots.{overlaid}
use Rattle.range_core.specs.Stakes.{RangeStake, held_by}
use Rattle.range_core.specs.Stores.{laid, on_page, stored}
use Rattle.range_core.specs.declared.cell.Cell.{Cell}
use Rattle.range_core.specs.declared.lending.Away.{Away}
use Rattle.range_core.specs.declared.lending.Held.{Held}
use Rattle.range_core.specs.declared.lending.Lender.{Lender}
use Rattle.range_core.specs.declared.parts.ByteRun.{ByteRun}
use Rattle.range_core.proofs.ByteRunLemmas.{begun, next_part}
use Rattle.range_core.proofs.ClaimedPages.{home_without_page, is_blank, lent_for_writeback}
use Rattle.range_core.proofs.PagingLemmas.{either_filled}
use Rattle.range_core.proofs.StoreLemmas.{part_piece}

pub length-overlay : (place : ℕ) (bytes content : List ℕ) → place + length bytes ≤ length content → length (overlay place bytes content) ≡ length content
length-overlay place bytes content h = simp (length-append, length-drop, length-take) (omega arith)

module _ (run : ByteRun) (r : IsByteRun run) (bytes : List ℕ) (all : length bytes ≡ run.to - run.from) (k : ℕ) (l : k < run.blocks) where
  abbrev b : ℕ
  b = run.first + k

  abbrev piece : List ℕ
  piece = bytes_between ((part_in run.size (span run.from run.to) b).from - run.from) ((part_in run.size (span run.from run.to) b).to - run.from) bytes

  length-piece : length piece ≡ (part_at run b).length
  length-piece =
      let p = next_part run r k l in
      let behind = p.behind in
      ap length (part_piece run r k l bytes) ∙ length-take-le (part_at run b).length (drop (begun run k) bytes) (omega (arith, length-drop (begun run k) bytes))

  -- a content stays as long
  pub length-overlaid : (content : Content) → length content ≡ run.size → length (overlaid run.size run.from run.to bytes b content) ≡ run.size
  length-overlaid content whole =
      let within = (next_part run r k l).within in
      length-overlay (part_at run b).at piece content (omega (arith, length-piece)) ∙ whole

  -- over a block that is covered whole, it does not matter what the content was
  pub covered : covers_in_part run.size run.from run.to b ≡ false → (x y : Content) → length x ≡ run.size → length y ≡ run.size → overlaid run.size run.from run.to bytes b x ≡ overlaid run.size run.from run.to bytes b y
  covered e x y long_x long_y =
      let parts = or_parts (nat_lt (b * run.size) run.from) (nat_lt run.to ((b + 1) * run.size)) e in
      let low : run.from ≤ b * run.size = ltb-false _ _ parts.0 in
      let high : (b + 1) * run.size ≤ run.to = ltb-false _ _ parts.1 in
      let some = r.some in
      let start : (part_at run b).at ≡ 0 = omega arith in
      let size : (part_at run b).length ≡ run.size = omega arith in
      let only = λ (z : Content) (long : length z ≡ run.size).
      let e : overlay 0 piece z ≡ piece = ap (λ d. piece ++ d) (drop_all (0 + length piece) z (omega (arith, length-piece))) ∙ append-nil piece in
      ap (λ n. overlay n piece z) start ∙ e in
      only x long_x ∙ sym (only y long_y)

  -- a page with the bytes laid over it has the content that the store leaves
  laid_page : (o : Option Page) (after : Content) → IsSomeAnd o (λ p. overlaid run.size run.from run.to bytes b p.bytes ≡ after) → IfSome (on_page (overlaid run.size run.from run.to bytes b) o) (λ p. p.bytes ≡ after)
  laid_page None after h = tt
  laid_page (Some p) after h = h

  has_page : (o : Option Page) (P : Page → Type 0) (Q : Type 0) → IsSomeAnd o P → Q → IsSomeAnd (on_page (overlaid run.size run.from run.to bytes b) o) (λ _. Q)
  has_page None P Q h q = absurd h
  has_page (Some p) P Q h q = q

  -- a claim on a block that is lent for writeback fits it once a store made it dirty
  fits_dirty : (c : Cell) (content after : Content) (P : Page → Type 0) (a : Option Away) (o : Option Held) → IsSomeAnd c.page P → pageless_at b a ≡ None → FitsAway run.size b c content a o → FitsAway run.size b (laid run bytes k c) after a o
  fits_dirty c content after P None o page free f = tt
  fits_dirty c content after P (Some away) None page free f = tt
  fits_dirty c content after P (Some away) (Some h) page free f =
      let L : Lender → Type 0 = λ x. FitsLender run.size (laid run bytes k c) after f.part x in
      let A : Lender → Type 0 = λ x. IsAround run.size b after h.lent.value f.part.page x in
      record {
        ticket = f.ticket;
        lender = f.lender;
        kind = f.kind;
        part = f.part;
        part_is = f.part_is;
        sector = f.sector;
        page = f.page;
        fits = subst L (sym (lent_for_writeback b away.ticket away.lender free)) (unclean c.page page);
        around = subst A (sym (lent_for_writeback b away.ticket away.lender free)) tt;
      }
    where
      unclean : (o : Option Page) → IsSomeAnd o P → IsSomeAnd (on_page (overlaid run.size run.from run.to bytes b) o) (λ p. true ≡ false → p.bytes ≡ f.part.page.bytes)
      unclean None x = absurd x
      unclean (Some p) x = λ e. absurd (cc)

  -- a block with a page, over which the bytes are laid, is true of the content after the store
  laid_true : (c : Cell) (content after : Content) (stakes : List RangeStake) → length after ≡ run.size → HasPlace run.size c.kind c.sector c.away → c.kind ≢ Hole → IsSomeAnd c.page (λ p. overlaid run.size run.from run.to bytes b p.bytes ≡ after)
      → pageless_at b c.away ≡ None → AwayIsClaimed run.size b c content stakes → IsTrueAt run.size b (laid run bytes k c) after stakes
  laid_true c content after stakes whole place kind page free claimed = record {
    whole = whole;
    place = place;
    uptodate_is_replay = laid_page c.page after page;
    home_is_on_device = home c.away;
    dirty_is_uptodate = λ _. has_page c.page _ (c.kind ≢ Hole) page kind;
    away_is_claimed = record {
      once = claimed.once;
      fits = λ n s at more. fits_dirty c content after _ c.away (held_by s.0) page free (claimed.fits n s at more);
    };
  }
    where
      home : (a : Option Away) → HomeContent run.size (laid run bytes k c) after a
      home None = record { clean_is_on_device = λ _ e. absurd (cc); spaceless_is_zeros = λ _ e. absurd (cc) }
      home (Some away) = tt

  -- a block of a store is true of the content that the store leaves, with the page that it had or got
  pub stored_true : (c : Cell) (content : Content) (stakes : List RangeStake) → c.kind ≢ Hole → pageless_at b c.away ≡ None → (covers_in_part run.size run.from run.to b && is_cold c) ≡ false → IsTrueAt run.size b c content stakes
      → IsTrueAt run.size b (stored run bytes k c) (overlaid run.size run.from run.to bytes b content) stakes
  stored_true c content stakes kind free warm t =
      let g : Content → Content = overlaid run.size run.from run.to bytes b in
      let whole : length (g content) ≡ run.size = length-overlaid content t.whole in
      either_filled (λ d. IsTrueAt run.size b (laid run bytes k d) (g content) stakes) lacks_page run.size c
      (λ e. laid_true c content (g content) stakes whole t.place kind (same c.page e t.uptodate_is_replay) free t.away_is_claimed)
      (λ e.
      let none : c.page ≡ None = none_is c.page e in
      let home : c.away ≡ None = home_without_page run.size b c content stakes t free none in
      let zeroed : g (zeros run.size) ≡ g content = over_zeros none home in
      laid_true (record c { page = Some (zero_page run.size) }) content (g content) stakes whole t.place kind zeroed free
      (record { once = t.away_is_claimed.once; fits = λ n s at more. let F : Option Away → Type 0 = λ a. FitsAway run.size b (record c { page = Some (zero_page run.size) }) content a (held_by s.0) in subst F (sym home) tt }))
    where
      none_is : (o : Option Page) → is_none o ≡ true → o ≡ None
      none_is None e = refl
      none_is (Some x) e = absurd (cc)

      same : (o : Option Page) → is_none o ≡ false → IfSome o (λ p. p.bytes ≡ content) → IsSomeAnd o (λ p. overlaid run.size run.from run.to bytes b p.bytes ≡ overlaid run.size run.from run.to bytes b content)
      same None e h = absurd (cc)
      same (Some p) e h = ap (overlaid run.size run.from run.to bytes b) h

      over_zeros : c.page ≡ None → c.away ≡ None → overlaid run.size run.from run.to bytes b (zeros run.size) ≡ overlaid run.size run.from run.to bytes b content
      over_zeros none home = at (covers_in_part run.size run.from run.to b) refl warm
        where
          at : (t : Bool) → covers_in_part run.size run.from run.to b ≡ t → (t && is_cold c) ≡ false → overlaid run.size run.from run.to bytes b (zeros run.size) ≡ overlaid run.size run.from run.to bytes b content
          at true e w = ap (overlaid run.size run.from run.to bytes b) (sym (is_blank run.size b c content stakes t free w none).content_is)
          at false e w = covered e (zeros run.size) content (length-replicate run.size 0) t.whole
