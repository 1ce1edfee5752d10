-- What a block keeps when its clean page is dropped.
use Rattle.std.proofs.Common.{◌≡◌, ℕ, Bool, true, false, not, ◌&&◌, if◌then◌else◌, Option, Some, None, List, refl, sym, subst}
use Rattle.std.specs.Prelude.{is_none, is_some}
use Rattle.std.proofs.lemmas.Bool.{and_parts}
use Rattle.io_model.specs.Contents.{Content}
use Rattle.range_core.specs.BlockStates.{state_of, without_page}
use Rattle.range_core.specs.BlockTruth.{FitsAway, HomeContent, IsHomeContent, IsTrueAt, is_gone}
use Rattle.range_core.specs.Cells.{IsPlaced}
use Rattle.range_core.specs.DropCleans.{is_droppable, without_clean_page}
use Rattle.range_core.specs.RangeTruth.{IsUncached, pending}
use Rattle.range_core.specs.Stakes.{RangeStake, held_by}
use Rattle.range_core.specs.declared.cell.Cell.{Cell}
use Rattle.range_core.specs.declared.lending.Away.{Away}
use Rattle.iob_base.specs.declared.sector.Page.{Page}

-- a block without its page
abbrev pub bare : Cell → Cell
bare c = record c { page = None }

-- what holds of a block with its page and without it holds of it afterwards
either_way : (P : Cell → Type 0) (c : Cell) → P c → (is_droppable c ≡ true → P (bare c)) → P (without_clean_page c)
either_way P c kept bared = at (is_droppable c) bared
  where
    at : (t : Bool) → (t ≡ true → P (bare c)) → P (if t then bare c else c)
    at true h = h refl
    at false h = kept

pub dropped-placed : (size : ℕ) (c : Cell) → IsPlaced size c → IsPlaced size (without_clean_page c)
dropped-placed size c h = either_way (IsPlaced size) c h (λ _. h)

-- a block of the run is in the state of one that dropped its page where it is clean and at home
pub dropped-state : (c : Cell) (t : Bool) → t ≡ true → state_of (without_clean_page c) ≡ (if t && (not c.dirty && not (is_some c.away)) then without_page (state_of c) else state_of c)
dropped-state c true e = at c.dirty c.away c.page
  where
    at : (d : Bool) (a : Option Away) (p : Option Page) → state_of (without_clean_page (record c { dirty = d; away = a; page = p })) ≡ (if not d && not (is_some a) then without_page (state_of (record c { dirty = d; away = a; page = p })) else state_of (record c { dirty = d; away = a; page = p }))
    at true a p = refl
    at false (Some a) p = refl
    at false None None = refl
    at false None (Some p) = refl
dropped-state c false e = absurd (cc)

pub dropped-kind : (c : Cell) → (without_clean_page c).kind ≡ c.kind
dropped-kind c = either_way (λ d. d.kind ≡ c.kind) c refl (λ _. refl)

pub dropped-gone : (c : Cell) → is_gone (without_clean_page c) ≡ is_gone c
dropped-gone c = either_way (λ d. is_gone d ≡ is_gone c) c refl (λ _. refl)

pub dropped-pending : (c : Cell) → pending (without_clean_page c) ≡ pending c
dropped-pending c = either_way (λ d. pending d ≡ pending c) c refl (λ _. refl)

pub dropped-uncached : (c : Cell) → IsUncached c → IsUncached (without_clean_page c)
dropped-uncached c u = either_way IsUncached c u (λ _. record { page = refl; clean = u.clean; reserved = u.reserved; home = u.home })

pub none_is : {A : Type 0} (o : Option A) → is_none o ≡ true → o ≡ None
none_is None e = refl
none_is (Some x) e = absurd (cc)

pub not_is : (t : Bool) → not t ≡ true → t ≡ false
not_is true e = absurd (cc)
not_is false e = refl

-- a block at home that is not dirty is as true without its page
pub bare_true : (size b : ℕ) (c : Cell) (content : Content) (stakes : List RangeStake) → c.dirty ≡ false → c.away ≡ None → IsTrueAt size b c content stakes → IsTrueAt size b (bare c) content stakes
bare_true size b c content stakes clean home t = record {
  whole = t.whole;
  place = t.place;
  uptodate_is_replay = tt;
  home_is_on_device =
      let H : Option Away → Type 0 = λ a. HomeContent size c content a in
      let G : Option Away → Type 0 = λ a. HomeContent size (bare c) content a in
      let here : IsHomeContent size c content = subst H home t.home_is_on_device in
      subst G (sym home) (record { clean_is_on_device = here.clean_is_on_device; spaceless_is_zeros = here.spaceless_is_zeros });
  dirty_is_uptodate = λ d. absurd (cc);
  away_is_claimed = record {
    once = t.away_is_claimed.once;
    fits = λ n s at more.
        let F : Option Away → Type 0 = λ a. FitsAway size b (bare c) content a (held_by s.0) in
        subst F (sym home) tt;
  };
}

pub dropped-true : (size b : ℕ) (c : Cell) (content : Content) (stakes : List RangeStake) → IsTrueAt size b c content stakes → IsTrueAt size b (without_clean_page c) content stakes
dropped-true size b c content stakes t =
    either_way (λ d. IsTrueAt size b d content stakes) c t
    (λ e.
    let p = and_parts (not c.dirty) (is_none c.away && is_some c.page) e in
    let q = and_parts (is_none c.away) (is_some c.page) p.1 in
    bare_true size b c content stakes (not_is c.dirty p.0) (none_is c.away q.0) t)
