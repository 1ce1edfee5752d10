-- The truth of blocks that are lent and come back, and of those that a seat's claim does not name.
use Rattle.std.proofs.Common.{◌≡◌, ◌≢◌, ℕ, ◌+◌, ◌-◌, Bool, true, false, Option, Some, None, IsTrue, IfSome, IsSomeAnd, List, [], ◌∷◌, ◌++◌, length, drop, set, refl, sym, ◌∙◌, ap, subst, arith}
use Rattle.std.specs.Prelude.{is_some, slice_get, unwrap_or}
use Rattle.iob_base.specs.DeviceBlock.{BLANK, DeviceBlock}
use Rattle.iob_base.specs.declared.sector.Page.{Page}
use Rattle.iob_base.specs.declared.part.Part.{Part}
use Rattle.io_model.specs.Contents.{Content}
use Rattle.io_model.specs.Kinds.{device_number, kind_after}
use Rattle.io_model.specs.declared.file.Kind.{Kind}
use Rattle.io_model.specs.declared.file.Kind.TheVariants.{Hole}
use Rattle.range_core.specs.BlockTruth.{FitsClaim, FitsLender, HomeContent, IsAround, IsHomeContent, IsTrueAt, IsWholePage}
use Rattle.range_core.specs.Cells.{HasPlace, HasSector, IsBlock, IsPlaced}
use Rattle.range_core.specs.ClaimsView.{ClaimsView}
use Rattle.range_core.specs.Kinds.{has_space, is_mapped}
use Rattle.range_core.specs.Lends.{lent_of, part_of, parts_of}
use Rattle.range_core.specs.Loans.{ChangesSeat}
use Rattle.range_core.specs.Stakes.{RangeStake, names_block}
use Rattle.range_core.specs.declared.cell.Cell.{Cell}
use Rattle.range_core.specs.declared.entry.Entry.{Entry}
use Rattle.range_core.specs.declared.lending.Away.{Away}
use Rattle.range_core.specs.declared.lending.Held.{Held}
use Rattle.range_core.specs.declared.lending.Lender.{Lender}
use Rattle.range_core.specs.declared.lending.Lent.{Lent}
use Rattle.range_core.proofs.ReturnHomeLemmas.{away_space}
use Rattle.range_core.proofs.LendLemmas.{parts_of-at}
use Rattle.range_core.proofs.LoanLemmas.{loan_is_claimed, others_stay_claimed, return_frees_claim}
use Rattle.range_core.proofs.ReturnLemmas.{claim_at}
use Rattle.range_core.proofs.StakeTruth.{Works}

-- the seat whose claim changes by an entry
pub changes_seat : (stakes : List RangeStake) (number : ℕ) (claims left : ClaimsView) (made : List Entry) (e : Entry) → Works stakes number claims made → ChangesSeat stakes (set stakes number (Some left, made ++ e ∷ [])) claims left
changes_seat stakes number claims left made e here = record { number = number; made = made; now = made ++ e ∷ []; here = here.here; is = refl }

-- a block that neither the claim before nor the claim after names is as true as it was
pub true_outside : (size b : ℕ) (c : Cell) (content : Content) (stakes others : List RangeStake) (claims left : ClaimsView) → ChangesSeat stakes others claims left → names_block b claims.held ≡ false → names_block b left.held ≡ false
    → IsTrueAt size b c content stakes → IsTrueAt size b c content others
true_outside size b c content stakes others claims left g before after t = record {
  whole = t.whole;
  place = t.place;
  uptodate_is_replay = t.uptodate_is_replay;
  home_is_on_device = t.home_is_on_device;
  dirty_is_uptodate = t.dirty_is_uptodate;
  away_is_claimed = others_stay_claimed size b c content stakes others claims left g before after t.away_is_claimed;
}

-- a block that is lent is true of the claim on it
pub true_lent : (size b : ℕ) (was c : Cell) (content : Content) (away : Away) (h : Held) (stakes others : List RangeStake) (claims left : ClaimsView) → ChangesSeat stakes others claims left
    → claims.held ≡ None → left.held ≡ Some h → names_block b (Some h) ≡ true → was.away ≡ None → c.away ≡ Some away → c.sector ≡ None → IsTrue (has_space c.kind)
    → IfSome c.page (λ p. p.bytes ≡ content) → (c.dirty ≡ true → IsSomeAnd c.page (λ p. c.kind ≢ Hole)) → FitsClaim size b c content away h
    → IsTrueAt size b was content stakes → IsTrueAt size b c content others
true_lent size b was c content away h stakes others claims left g none held named home lent empty space page dirty fits t =
    let P : Option Away → Type 0 = λ a. HasPlace size c.kind c.sector a in
    let H : Option Away → Type 0 = λ a. HomeContent size c content a in
    record {
      whole = t.whole;
      place = subst P (sym lent) (empty, space);
      uptodate_is_replay = page;
      home_is_on_device = subst H (sym lent) tt;
      dirty_is_uptodate = dirty;
      away_is_claimed = loan_is_claimed size b was c content away h stakes others claims left g none held named home lent fits t.away_is_claimed;
    }

-- the sector that a block has, where its kind has space
pub record HasBlock (size : ℕ) (c : Cell) : Type 0 where
  pub sector : DeviceBlock
  pub is : c.sector ≡ Some sector
  pub block : IfSome (device_number c.kind) (λ d. IsBlock size d sector)

pub has_block : (size : ℕ) (c : Cell) → HasPlace size c.kind c.sector c.away → c.away ≡ None → IsTrue (has_space c.kind) → HasBlock size c
has_block size c p home space = let P : Option Away → Type 0 = λ a. HasPlace size c.kind c.sector a in at (device_number c.kind) refl space (subst P home p)
  where
    at : (d : Option ℕ) → device_number c.kind ≡ d → IsTrue (is_some d) → HasSector size d c.sector → HasBlock size c
    at None e s h = absurd (cc)
    at (Some d) e s h = there c.sector refl h
      where
        there : (o : Option DeviceBlock) → c.sector ≡ o → HasSector size (Some d) o → HasBlock size c
        there None f k = absurd k
        there (Some x) f k = let I : Option ℕ → Type 0 = λ n. IfSome n (λ m. IsBlock size m x) in record { sector = x; is = f; block = subst I (sym e) k }

-- the claim on a loan fits each of its blocks
pub loan_fits : (size low block ticket k : ℕ) (cells : List Cell) (pages : List Page) (lender : Lender) (h : Held) (was c : Cell) (page : Page) (content : Content) → h.lent.value ≡ lent_of ticket block (parts_of (drop low cells) pages) → h.lender ≡ lender
    → slice_get cells (low + k) ≡ Some was → slice_get pages k ≡ Some page → kind_after h.kind k ≡ c.kind → c.kind ≡ was.kind → HasBlock size was → IsWholePage size page → FitsLender size c content (part_of was page) lender
    → IsAround size (block + k) content (lent_of ticket block (parts_of (drop low cells) pages)) page lender
    → FitsClaim size (block + k) c content (record { ticket = ticket; lender = lender }) h
loan_fits size low block ticket k cells pages lender h was c page content lent for at pat kind same has whole fits around =
    let begins : h.lent.value.block ≡ block = ap (λ l. l.block) lent in
    let off : block + k - h.lent.value.block ≡ k = omega arith in
    let parts : h.lent.value.parts ≡ parts_of (drop low cells) pages = ap (λ l. l.parts) lent in
    let sector : (part_of was page).sector ≡ has.sector = ap (λ o. unwrap_or o BLANK) has.is in
    let S : DeviceBlock → Type 0 = λ s. IfSome (device_number was.kind) (λ d. IsBlock size d s) in
    let K : Kind → Type 0 = λ x. IfSome (device_number x) (λ d. IsBlock size d (part_of was page).sector) in
    let A : Lent → Type 0 = λ l. IsAround size (block + k) content l page lender in
    record {
      ticket = ap (λ l. l.ticket) lent;
      lender = for;
      kind = ap (λ j. kind_after h.kind j) off ∙ kind;
      part = part_of was page;
      part_is = ap (slice_get h.lent.value.parts) off ∙ ap (λ ps. slice_get ps k) parts ∙ parts_of-at low k cells pages was page at pat;
      sector = subst K (sym same) (subst S (sym sector) has.block);
      page = whole;
      fits = fits;
      around = subst A (sym lent) around;
    }

-- at home, the sector of a clean mapped block has its content
pub home_bytes : (size b : ℕ) (c : Cell) (content : Content) (stakes : List RangeStake) (sector : DeviceBlock) → IsTrueAt size b c content stakes → c.away ≡ None → is_mapped c.kind ≡ true → c.dirty ≡ false → c.sector ≡ Some sector → sector.bytes ≡ content
home_bytes size b c content stakes sector t home mapped clean is =
    let H : Option Away → Type 0 = λ a. HomeContent size c content a in
    let here : IsHomeContent size c content = subst H home t.home_is_on_device in
    let S : Option DeviceBlock → Type 0 = λ o. IfSome o (λ s. s.bytes ≡ content) in
    subst S is (here.clean_is_on_device mapped clean)

-- a block without a page is clean
pub clean_without_page : (size b : ℕ) (c : Cell) (content : Content) (stakes : List RangeStake) → IsTrueAt size b c content stakes → c.page ≡ None → c.dirty ≡ false
clean_without_page size b c content stakes t none = at c.dirty refl
  where
    at : (d : Bool) → c.dirty ≡ d → c.dirty ≡ false
    at false e = e
    at true e = let P : Option Page → Type 0 = λ o. IsSomeAnd o (λ p. c.kind ≢ Hole) in absurd (subst P none (t.dirty_is_uptodate e))

-- a block that comes back is claimed by nobody, and true of its content as it is now
pub true_returned : (size b : ℕ) (was c : Cell) (content after : Content) (h : Held) (stakes others : List RangeStake) (claims left : ClaimsView) → ChangesSeat stakes others claims left
    → claims.held ≡ Some h → left.held ≡ None → names_block b (Some h) ≡ true → c.away ≡ None → IsPlaced size c → length after ≡ size
    → IfSome c.page (λ p. p.bytes ≡ after) → IsHomeContent size c after → (c.dirty ≡ true → IsSomeAnd c.page (λ p. c.kind ≢ Hole))
    → IsTrueAt size b was content stakes → IsTrueAt size b c after others
true_returned size b was c content after h stakes others claims left g held none named home place whole page at_home dirty t =
    let H : Option Away → Type 0 = λ a. HomeContent size c after a in
    record {
      whole = whole;
      place = place;
      uptodate_is_replay = page;
      home_is_on_device = subst H (sym home) at_home;
      dirty_is_uptodate = dirty;
      away_is_claimed = return_frees_claim size b was c content after h stakes others claims left g held none named home t.away_is_claimed;
    }

-- what a block tells that a seat's claim names, as what it was lent for
pub record IsLentBlock (size k : ℕ) (c : Cell) (content : Content) (h : Held) : Type 0 where
  pub away : Away
  pub gone : c.away ≡ Some away
  pub lender : away.lender ≡ h.lender
  pub space : IsTrue (has_space c.kind)
  pub kind : kind_after h.kind k ≡ c.kind
  pub part : Part
  pub part_is : slice_get h.lent.value.parts k ≡ Some part
  pub sector : IfSome (device_number c.kind) (λ d. IsBlock size d part.sector)
  pub page : IsWholePage size part.page
  pub fits : FitsLender size c content part h.lender
  pub ticket : away.ticket ≡ h.lent.value.ticket

pub lent_block : (size b k : ℕ) (c : Cell) (content : Content) (stakes : List RangeStake) (number : ℕ) (claims : ClaimsView) (made : List Entry) (h : Held) → b ≡ h.lent.value.block + k → IsTrueAt size b c content stakes
    → Works stakes number claims made → claims.held ≡ Some h → names_block b (Some h) ≡ true → IsLentBlock size k c content h
lent_block size b k c content stakes number claims made h at t here held named =
    let claimed = claim_at size b c content stakes number claims made h t here held named in
    let fits = claimed.fits in
    let off : b - h.lent.value.block ≡ k = omega arith in
    let F : Lender → Type 0 = λ l. FitsLender size c content fits.part l in
    record {
      away = claimed.away;
      gone = claimed.is;
      lender = sym fits.lender;
      space = away_space size c claimed.away claimed.is t.place;
      kind = ap (λ j. kind_after h.kind j) (sym off) ∙ fits.kind;
      part = fits.part;
      part_is = ap (slice_get h.lent.value.parts) (sym off) ∙ fits.part_is;
      sector = fits.sector;
      page = fits.page;
      fits = subst F (sym fits.lender) fits.fits;
      ticket = sym fits.ticket;
    }
