-- What is true of blocks that are lent for a caller's own pages.
use Rattle.std.proofs.Common.{◌≡◌, ℕ, ◌+◌, ◌-◌, ◌<◌, ◌≤◌, Bool, true, false, not, ◌&&◌, ◌||◌, Option, Some, None, IsSome, List, [], length, get_or, append-nil, refl, sym, ◌∙◌, ap, subst, arith}
use Rattle.std.specs.Prelude.{IfSome, IsSomeAnd, IsTrue, max, slice_get, unwrap_or}
use Rattle.std.proofs.lemmas.Bool.{eqb-true}
use Rattle.std.proofs.lemmas.List.Elements.{All-nil}
use Rattle.std.proofs.lemmas.Option.{slice_get-get_or}
use Rattle.iob_base.specs.DeviceBlock.{BLANK, DeviceBlock}
use Rattle.iob_base.specs.declared.TheConstants.{WORN}
use Rattle.iob_base.specs.declared.sector.Page.{Page}
use Rattle.iob_base.specs.declared.stamp.Op.{Op}
use Rattle.iob_base.specs.declared.stamp.Op.TheVariants.{Read, Write}
use Rattle.iob_base.specs.declared.stamp.Stamp.{Stamp}
use Rattle.iob_base.specs.declared.stamp.Tag.{Tag}
use Rattle.io_model.specs.Contents.{Content, zeros}
use Rattle.io_model.specs.Kinds.{device_number, kind_after}
use Rattle.io_model.specs.declared.file.Kind.{Kind}
use Rattle.io_model.specs.declared.file.Kind.TheVariants.{Hole, Delalloc, Unwritten, Mapped}
use Rattle.turn_cell.specs.Stakes.{total}
use Rattle.range_core.specs.BlockTruth.{FitsClaim, HomeContent, IsHomeContent, IsLentContent, IsTrueAt, IsWholePage, is_gone}
use Rattle.range_core.specs.Cells.{HasPlace, HasSector, IsBlock, IsPlaced}
use Rattle.range_core.specs.ClaimsView.{ClaimsView}
use Rattle.range_core.specs.LendDirects.{CanLendDirect, CanTake, GoesOut, away_direct, direct_loan, goes_out}
use Rattle.range_core.specs.EntryCounts.{one_where}
use Rattle.range_core.specs.Kinds.{has_space, is_delalloc, is_mapped, is_unwritten}
use Rattle.range_core.specs.Lends.{HaveSectors, lent_cell, part_of}
use Rattle.range_core.specs.Loans.{ChangesSeat}
use Rattle.range_core.specs.Lookups.{first_kind}
use Rattle.range_core.specs.OnRun.{on_each, on_run}
use Rattle.range_core.specs.RangeTruth.{is_lent_for_writing, pending}
use Rattle.range_core.specs.RangeView.{IsOfRange, IsSound, RangeView, cells_from, range_view}
use Rattle.range_core.specs.Refusals.{◌orElse◌, away, dirty, first_that_stops, lend_direct_refusal, run_of, stale, where_true, will_convert, worn}
use Rattle.range_core.specs.Stakes.{RangeStake, names_block}
use Rattle.range_core.specs.declared.cell.Cell.{Cell}
use Rattle.range_core.specs.declared.direct_answer.Direct.TheVariants.{Lent as LentOut}
use Rattle.range_core.specs.declared.lending.Away.{Away}
use Rattle.range_core.specs.declared.lending.Held.{Held}
use Rattle.range_core.specs.declared.lending.Lender.TheVariants.{Direct}
use Rattle.range_core.specs.declared.sample.Sample.{Sample}
use Rattle.range_core.proofs.FirstTruth.{All-there, total-few}
use Rattle.range_core.proofs.KindRuns.{first_kind-drop}
use Rattle.range_core.proofs.KindSteps.{mapped-after, space-after, unwritten-after}
use Rattle.range_core.proofs.LendLemmas.{MayLend, can_transfer}
use Rattle.range_core.proofs.LoanLemmas.{loan_is_claimed, others_stay_claimed}
use Rattle.range_core.proofs.OnRunLemmas.{length-on_each, map-on_each}
use Rattle.range_core.proofs.SoundLemmas.{All-on_each_at, sound_next, total-moved}
use Rattle.range_core.proofs.SpaceLemmas.{space_by_kinds}
use Rattle.range_core.proofs.StopLemmas.{neither, none_stops, run_of-at, unworn, where_true-not}

-- a block that a loan may take: at home, clean, and of the kind that the sample says
pub record IsLendable (seen : Sample) (block k : ℕ) (c : Cell) : Type 0 where
  pub home : c.away ≡ None
  pub clean : c.dirty ≡ false
  pub kind : c.kind ≡ kind_after seen.extent.kind (block - seen.extent.block + k)

-- what it tells of the range that nothing hinders a loan
pub record AreLendable (r : RangeView) (seen : Sample) (op : Op) (block n : ℕ) : Type 0 where
  pub cookie : seen.cookie ≡ r.cookie
  pub each : (k : ℕ) (c : Cell) → k < n → slice_get r.cells (block - r.first + k) ≡ Some c → IsLendable seen block k c
  pub left : will_convert op seen.extent.kind ≡ true → r.cookie < WORN

pub not-false : (t : Bool) → not t ≡ false → t ≡ true
not-false true e = refl
not-false false e = absurd (cc)

pub at_home : (b : ℕ) (c : Cell) → away b c ≡ None → c.away ≡ None
at_home b c e = at c.away e
  where
    at : (a : Option Away) → Rattle.range_core.specs.Refusals.away_at b a ≡ None → a ≡ None
    at None h = refl
    at (Some x) h = absurd (cc)

pub lendable : (r : RangeView) (claims : ClaimsView) (seen : Sample) (op : Op) (block : ℕ) (pages : List Page) → CanLendDirect r claims seen op block pages → lend_direct_refusal r seen op block (length pages) ≡ None → AreLendable r seen op block (length pages)
lendable r claims seen op block pages can free =
    let n : ℕ = length pages in
    let a = neither (stale r seen) _ free in
    let b = neither (first_that_stops away block (run_of r block n)) _ a.1 in
    let d = neither (first_that_stops dirty block (run_of r block n)) _ b.1 in
    let same : seen.cookie ≡ r.cookie = eqb-true _ _ (not-false _ (where_true-not _ _ a.0)) in
    let known = can.known same in
    let in_range = known.begins in
    let low = can.low in
    let high = can.high in
    record {
      cookie = same;
      each = λ k c l at.
          let place : seen.extent.block - r.first + (block - seen.extent.block + k) ≡ block - r.first + k = omega arith in
          let within : block - seen.extent.block + k < seen.extent.length = omega arith in
          let here = run_of-at r block n k c l at in
          record {
            home = at_home (block + k) c (none_stops away block (run_of r block n) k c b.0 here);
            clean = where_true-not _ _ (none_stops dirty block (run_of r block n) k c d.0 here);
            kind = known.kinds (block - seen.extent.block + k) c within (ap (slice_get r.cells) place ∙ at);
          };
      left = λ t. unworn r (ap (worn r) (sym t) ∙ d.1);
    }

-- blocks that go out have space
pub out_has_space : (op : Op) (kind : Kind) → CanTake op kind → goes_out op kind ≡ true → has_space kind ≡ true
out_has_space Read Hole h e = absurd (cc)
out_has_space Read Delalloc h e = absurd (cc)
out_has_space Read (Unwritten d) h e = absurd (cc)
out_has_space Read (Mapped d) h e = refl
out_has_space Write kind h e = h

-- the blocks of an extent go out together
goes-after : (op : Op) (k : Kind) (i : ℕ) → goes_out op (kind_after k i) ≡ goes_out op k
goes-after Read k i = mapped-after k i
goes-after Write k i = refl

-- at home a block with space has its sector
pub sector_of : (size : ℕ) (kind : Kind) (sector : Option DeviceBlock) → HasSector size (device_number kind) sector → has_space kind ≡ true → IsSome sector
sector_of size kind sector h e = at (device_number kind) sector h e
  where
    at : (d : Option ℕ) (s : Option DeviceBlock) → HasSector size d s → Rattle.std.specs.Prelude.is_some d ≡ true → IsSome s
    at None s h e = absurd (cc)
    at (Some d) None h e = absurd h
    at (Some d) (Some s) h e = refl

-- a block that goes out has its sector, and is placed when it is out
module _ (r : RangeView) (claims : ClaimsView) (seen : Sample) (op : Op) (block : ℕ) (pages : List Page) where
  sector_there : IsSound r → CanLendDirect r claims seen op block pages → AreLendable r seen op block (length pages) → goes_out op seen.extent.kind ≡ true
      → (k : ℕ) (c : Cell) → k < length pages → slice_get r.cells (block - r.first + k) ≡ Some c → IsSome c.sector × (has_space c.kind ≡ true)
  sector_there s can free out k c l at =
      let here = free.each k c l at in
      let space : has_space c.kind ≡ true = ap has_space here.kind ∙ space-after seen.extent.kind _ ∙ out_has_space op seen.extent.kind can.takes out in
      let P : Option Away → Type 0 = λ a. HasPlace r.geometry.block_size c.kind c.sector a in
      let placed : IsPlaced r.geometry.block_size c = All-there (IsPlaced r.geometry.block_size) r.cells (block - r.first + k) c s.places at in
      (sector_of r.geometry.block_size c.kind c.sector (subst P here.home placed) space, space)

  pub have_sectors : IsSound r → CanLendDirect r claims seen op block pages → AreLendable r seen op block (length pages) → goes_out op seen.extent.kind ≡ true → HaveSectors r.cells (block - r.first) (length pages)
  have_sectors s can free out = record { each = λ k c l at. (sector_there s can free out k c l at).0 }

  -- what goes out can be transferred, and is of a kind that goes out
  pub goes_ready : IsSound r → CanLendDirect r claims seen op block pages → AreLendable r seen op block (length pages) → goes_out op seen.extent.kind ≡ true → length pages ≤ 16 → GoesOut op (first_kind (cells_from r block)) (LentOut (direct_loan r block pages))
  goes_ready s can free out few =
      let low : ℕ = block - r.first in
      let begins = can.lies.low in
      let ends = can.lies.high in
      let some = can.lies.some in
      let may : MayLend r.cells low (length pages) = record {
        within = omega arith;
        home = λ k c l at. (free.each k c l at).home;
        space = λ k c l at. (sector_there s can free out k c l at).1;
      } in
      let z : low + 0 ≡ low = omega arith in
      let within : low < length r.cells = omega arith in
      let blank : Cell = record { kind = Hole; sector = None; away = None; page = None; dirty = false } in
      let head : Cell = get_or r.cells low blank in
      let first : slice_get r.cells low ≡ Some head = slice_get-get_or r.cells low blank within in
      let kind : head.kind ≡ kind_after seen.extent.kind (block - seen.extent.block + 0) = (free.each 0 head some (ap (slice_get r.cells) z ∙ first)).kind in (
        can_transfer r.geometry.block_size low r.cells pages s.places may can.whole some few,
        ap (goes_out op) (first_kind-drop r.cells low head first ∙ kind) ∙ goes-after op seen.extent.kind _ ∙ out,
      )

  pub lent_sound : (by : Tag) (ticket cookie errors tickets : ℕ) (log : List (ℕ × Stamp)) → IsSound r → CanLendDirect r claims seen op block pages → AreLendable r seen op block (length pages) → goes_out op seen.extent.kind ≡ true → log ≡ r.log
      → IsSound (range_view r.geometry r.mode r.first (on_run (lent_cell (away_direct by op ticket)) (block - r.first) (length pages) r.cells) log cookie errors tickets r.seat r.space)
  lent_sound by ticket cookie errors tickets log s can free out same =
      let low : ℕ = block - r.first in
      let n : ℕ = length pages in
      let size : ℕ = r.geometry.block_size in
      let f : ℕ → Cell → Cell = λ _ c. lent_cell (away_direct by op ticket) c in
      let begins = can.lies.low in
      let ends = can.lies.high in
      sound_next r (on_each f 0 low n r.cells) log [] cookie errors tickets r.seat r.space s (length-on_each f 0 low n r.cells)
      (All-on_each_at f is_gone (IsPlaced size) 0 low n r.cells (omega arith) (λ j x l at _. (refl, (sector_there s can free out j x l at).1)) s.places)
      (same ∙ sym (append-nil r.log)) (All-nil (IsOfRange r.first (length r.cells)))
      (space_by_kinds size r.cells (on_each f 0 low n r.cells) r.space (map-on_each f (λ (x : Cell). x.kind) (λ _ _. refl) 0 low n r.cells) s.space)

-- at home, the sector of a block with space is the one of its kind
part_block : (size : ℕ) (number : Option ℕ) (sector : Option DeviceBlock) → HasSector size number sector → IfSome number (λ d. IsBlock size d (unwrap_or sector BLANK))
part_block size None sector h = tt
part_block size (Some d) None h = absurd h
part_block size (Some d) (Some s) h = h

-- a clean block at home that is lent has its content in the sector where it is mapped, and reads as zeros elsewhere
pub part_content : (size : ℕ) (mapped : Bool) (sector : Option DeviceBlock) (content : Content) → IsSome sector → (mapped ≡ true → IfSome sector (λ s. s.bytes ≡ content)) → (mapped ≡ false → content ≡ zeros size)
    → (page : Page) → IsLentContent size mapped content (record { sector = unwrap_or sector BLANK; page = page })
part_content size true None content h on_device zero page = absurd (cc)
part_content size true (Some s) content h on_device zero page = on_device refl
part_content size false sector content h on_device zero page = zero refl

-- a claim names a block with this page on a ticket
pub record ClaimsBlock (by : Tag) (op : Op) (ticket b : ℕ) (was : Cell) (p : Page) (h : Held) : Type 0 where
  pub named : names_block b (Some h) ≡ true
  pub ticket_is : h.lent.value.ticket ≡ ticket
  pub lender_is : h.lender ≡ Direct by op
  pub kind_is : kind_after h.kind (b - h.lent.value.block) ≡ was.kind
  pub part_is : slice_get h.lent.value.parts (b - h.lent.value.block) ≡ Some (part_of was p)

-- a block that is lent for a caller's own page is true of the claim on it
pub lent_true : (size b : ℕ) (was : Cell) (content : Content) (by : Tag) (op : Op) (ticket : ℕ) (p : Page) (h : Held) (stakes others : List RangeStake) (claims left : ClaimsView) → ChangesSeat stakes others claims left
    → claims.held ≡ None → left.held ≡ Some h → ClaimsBlock by op ticket b was p h → was.away ≡ None → was.dirty ≡ false → has_space was.kind ≡ true → IsWholePage size p
    → IsTrueAt size b was content stakes → IsTrueAt size b (lent_cell (away_direct by op ticket) was) content others
lent_true size b was content by op ticket p h stakes others claims left g none some named home clean space whole t =
    let P : Option Away → Type 0 = λ a. HasPlace size was.kind was.sector a in
    let H : Option Away → Type 0 = λ a. HomeContent size was content a in
    let placed : HasSector size (device_number was.kind) was.sector = subst P home t.place in
    let here : IsHomeContent size was content = subst H home t.home_is_on_device in
    let c : Cell = lent_cell (away_direct by op ticket) was in
    let fits : FitsClaim size b c content (away_direct by op ticket) h = record {
      ticket = named.ticket_is;
      lender = named.lender_is;
      kind = named.kind_is;
      part = part_of was p;
      part_is = named.part_is;
      sector = part_block size (device_number was.kind) was.sector placed;
      page = whole;
      fits = (part_content size (is_mapped was.kind) was.sector content (sector_of size was.kind was.sector placed space) (λ m. here.clean_is_on_device m clean) (λ m. here.spaceless_is_zeros m clean) p, refl);
      around = tt;
    } in
    record {
      whole = t.whole;
      place = (refl, space);
      uptodate_is_replay = tt;
      home_is_on_device = tt;
      dirty_is_uptodate = λ d. absurd (cc);
      away_is_claimed = loan_is_claimed size b was c content (away_direct by op ticket) h stakes others claims left g none some named.named home refl fits t.away_is_claimed;
    }

-- a block that a seat's claims do not name, before and after, is as true
pub unnamed_true : (size b : ℕ) (c : Cell) (content : Content) (stakes others : List RangeStake) (claims left : ClaimsView) → ChangesSeat stakes others claims left → names_block b claims.held ≡ false → names_block b left.held ≡ false
    → IsTrueAt size b c content stakes → IsTrueAt size b c content others
unnamed_true size b c content stakes others claims left g before after t = record {
  whole = t.whole;
  place = t.place;
  uptodate_is_replay = t.uptodate_is_replay;
  home_is_on_device = t.home_is_on_device;
  dirty_is_uptodate = t.dirty_is_uptodate;
  away_is_claimed = others_stay_claimed size b c content stakes others claims left g before after t.away_is_claimed;
}

-- a block at home that is lent for a read, or is not unwritten, changes its kind no more than before
lent_pending : (by : Tag) (op : Op) (ticket : ℕ) (c : Cell) → c.away ≡ None → will_convert op c.kind ≡ false → pending (lent_cell (away_direct by op ticket) c) ≡ pending c
lent_pending by op ticket c home stays = at op c.kind stays ∙ ap (λ a. one_where (is_delalloc c.kind || (is_unwritten c.kind && is_lent_for_writing a))) (sym home)
  where
    at : (op : Op) (k : Kind) → will_convert op k ≡ false → one_where (is_delalloc k || (is_unwritten k && is_lent_for_writing (Some (away_direct by op ticket)))) ≡ one_where (is_delalloc k || (is_unwritten k && false))
    at Read k e = refl
    at Write Hole e = refl
    at Write Delalloc e = refl
    at Write (Unwritten d) e = absurd (cc)
    at Write (Mapped d) e = refl

one_where-few : (t : Bool) → one_where t ≤ 1
one_where-few true = omega arith
one_where-few false = omega arith

-- there is room for the cookies that a loan may use when it comes back
pub lent_headroom : (r : RangeView) (seen : Sample) (by : Tag) (op : Op) (block n ticket : ℕ) → AreLendable r seen op block n → block - r.first + n ≤ length r.cells → length r.cells ≤ 65536
    → max r.cookie WORN + total pending r.cells ≤ WORN + 65536 → max r.cookie WORN + total pending (on_run (lent_cell (away_direct by op ticket)) (block - r.first) n r.cells) ≤ WORN + 65536
lent_headroom r seen by op block n ticket free within few room = at (will_convert op seen.extent.kind) refl
  where
    f : ℕ → Cell → Cell
    f _ c = lent_cell (away_direct by op ticket) c

    convert-after : (op : Op) (k : Kind) (i : ℕ) → will_convert op (kind_after k i) ≡ will_convert op k
    convert-after Read k i = refl
    convert-after Write k i = unwritten-after k i

    at : (t : Bool) → will_convert op seen.extent.kind ≡ t → max r.cookie WORN + total pending (on_each f 0 (block - r.first) n r.cells) ≤ WORN + 65536
    at true e =
        let left : r.cookie < WORN = free.left e in
        let most : total pending (on_each f 0 (block - r.first) n r.cells) ≤ length (on_each f 0 (block - r.first) n r.cells) = total-few pending (on_each f 0 (block - r.first) n r.cells) (λ c. one_where-few _) in
        omega (arith, length-on_each f 0 (block - r.first) n r.cells)
    at false e =
        let same = total-moved f pending 0 0 0 (block - r.first) n r.cells within
        (λ j x l there. let k = free.each j x l there in ap (λ m. m + 0) (lent_pending by op ticket x k.home (ap (will_convert op) k.kind ∙ convert-after op seen.extent.kind _ ∙ e))) in
        omega arith
