-- What the truth tells of a block without a page that hinders neither a fetch nor a store.
use Rattle.std.proofs.Common.{◌≡◌, ℕ, zero, suc, ◌<◌, Bool, true, false, ◌&&◌, Option, Some, None, List, [], ◌∷◌, refl, ◌∙◌, ap, subst, arith}
use Rattle.std.specs.Prelude.{IsSomeAnd, is_none}
use mathlib.Core.Option.{some}
use lib.ListN.{get_elem?}
use Rattle.iob_base.specs.declared.sector.Page.{Page}
use Rattle.io_model.specs.Contents.{Content, zeros}
use Rattle.turn_cell.specs.Stakes.{total}
use Rattle.range_core.specs.BlockTruth.{FitsAway, FitsClaim, FitsLender, HomeContent, IsHomeContent, IsTrueAt, gone}
use Rattle.range_core.specs.EntryCounts.{one_where}
use Rattle.range_core.specs.Kinds.{is_mapped}
use Rattle.range_core.specs.Refusals.{is_cold, pageless_at}
use Rattle.range_core.specs.Stakes.{RangeStake, held_by, names, names_block}
use Rattle.range_core.specs.declared.cell.Cell.{Cell}
use Rattle.range_core.specs.declared.lending.Away.{Away}
use Rattle.range_core.specs.declared.lending.Held.{Held}
use Rattle.range_core.specs.declared.lending.Lender.{Lender}
use Rattle.range_core.specs.declared.lending.Lender.TheVariants.{Reading, Writeback, Direct, Part as InPart}

-- a sum that is not zero has an item that weighs something
record Weighs {A : Type 0} (w : A → ℕ) (xs : List A) : Type 0 where
  place : ℕ
  item : A
  here : get_elem? xs place ≡ some item
  some : 0 < w item

weighs : {A : Type 0} (w : A → ℕ) (xs : List A) → 0 < total w xs → Weighs w xs
weighs w [] h = absurd (omega arith)
weighs {A} w (x ∷ xs) h = at (w x) refl (λ g. weighs w xs g)
  where
    at : (n : ℕ) → w x ≡ n → (0 < total w xs → Weighs w xs) → Weighs w (x ∷ xs)
    at zero e rest = let r = rest (omega arith) in record { place = suc r.place; item = r.item; here = r.here; some = r.some }
    at (suc n) e rest = record { place = 0; item = x; here = refl; some = omega arith }

-- the claim on a block that is away
pub record HasClaim (size b : ℕ) (c : Cell) (content : Content) (away : Away) : Type 0 where
  pub held : Held
  pub fits : FitsClaim size b c content away held

pub away_has_claim : (size b : ℕ) (c : Cell) (content : Content) (stakes : List RangeStake) (away : Away) → IsTrueAt size b c content stakes → c.away ≡ Some away → HasClaim size b c content away
away_has_claim size b c content stakes away t e =
    let once = t.away_is_claimed.once in
    let one : gone c.away ≡ 1 = ap gone e in
    let w = weighs (names b) stakes (omega arith) in
    let F : Option Away → Type 0 = λ a. FitsAway size b c content a (held_by w.item.0) in
    at (held_by w.item.0) refl w.some (subst F e (t.away_is_claimed.fits w.place w.item w.here w.some))
  where
    at : (o : Option Held) → o ≡ o → 0 < one_where (names_block b o) → FitsAway size b c content (Some away) o → HasClaim size b c content away
    at None e l f = absurd (omega arith)
    at (Some h) e l f = record { held = h; fits = f }

-- a block that is away and hinders no fetch is away for writeback
pub lent_for_writeback : (b : ℕ) (ticket : ℕ) (lender : Lender) → pageless_at b (Some (record { ticket = ticket; lender = lender })) ≡ None → lender ≡ Writeback
lent_for_writeback b ticket Reading e = absurd (cc)
lent_for_writeback b ticket Writeback e = refl
lent_for_writeback b ticket (Direct by op) e = absurd (cc)
lent_for_writeback b ticket (InPart by from to) e = absurd (cc)

-- so it has a page, and without a page it is at home
pub home_without_page : (size b : ℕ) (c : Cell) (content : Content) (stakes : List RangeStake) → IsTrueAt size b c content stakes → pageless_at b c.away ≡ None → c.page ≡ None → c.away ≡ None
home_without_page size b c content stakes t h none = at c.away refl h
  where
    has : (o : Option Page) (P : Page → Type 0) → IsSomeAnd o P → o ≡ None → ⊥
    has None P x e = x
    has (Some p) P x e = absurd (cc)

    at : (a : Option Away) → c.away ≡ a → pageless_at b a ≡ None → c.away ≡ None
    at None e h = e
    at (Some away) e h =
        let claim = away_has_claim size b c content stakes away t e in
        let L : Lender → Type 0 = λ l. FitsLender size c content claim.fits.part l in
        absurd (has c.page _ (subst L (lent_for_writeback b away.ticket away.lender h) claim.fits.fits) none)

-- A block without a page that is at home and not mapped reads as zeros
pub record IsBlank (size : ℕ) (c : Cell) (content : Content) : Type 0 where
  pub home : c.away ≡ None
  pub clean : c.dirty ≡ false
  pub content_is : content ≡ zeros size

pub clean_without_page : (size b : ℕ) (c : Cell) (content : Content) (stakes : List RangeStake) → IsTrueAt size b c content stakes → c.page ≡ None → c.dirty ≡ false
clean_without_page size b c content stakes t none = at c.dirty refl
  where
    has : (o : Option Page) (P : Page → Type 0) → IsSomeAnd o P → o ≡ None → ⊥
    has None P x e = x
    has (Some p) P x e = absurd (cc)

    at : (d : Bool) → c.dirty ≡ d → c.dirty ≡ false
    at false e = e
    at true e = absurd (has c.page _ (t.dirty_is_uptodate e) none)

unmapped : (m a p : Bool) → a ≡ true → p ≡ true → (m && (a && p)) ≡ false → m ≡ false
unmapped true a p e f g = absurd (let z : (a && p) ≡ true = ap (λ t. t && p) e ∙ f in cc)
unmapped false a p e f g = refl

pub is_blank : (size b : ℕ) (c : Cell) (content : Content) (stakes : List RangeStake) → IsTrueAt size b c content stakes → pageless_at b c.away ≡ None → is_cold c ≡ false → c.page ≡ None → IsBlank size c content
is_blank size b c content stakes t h cold none =
    let home : c.away ≡ None = home_without_page size b c content stakes t h none in
    let clean : c.dirty ≡ false = clean_without_page size b c content stakes t none in
    let H : Option Away → Type 0 = λ a. HomeContent size c content a in
    let here : IsHomeContent size c content = subst H home t.home_is_on_device in
    record { home = home; clean = clean; content_is = here.spaceless_is_zeros (unmapped (is_mapped c.kind) (is_none c.away) (is_none c.page) (ap is_none home) (ap is_none none) cold) clean }
