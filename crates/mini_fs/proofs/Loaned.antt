-- What a loan leaves on a ticket, and when what was lent may come back on it.
use Rattle.std.proofs.Common.{◌≡◌, ℕ, ◌+◌, ◌-◌, ◌<◌, ◌≤◌, List, [], ◌∷◌, length, map, drop, refl, sym, ap, ◌∙◌, subst, arith, length-drop}
use Rattle.std.specs.Prelude.{◌/◌, Bool, true, false, if◌then◌else◌, Option, Some, Result, Ok, Err, slice_get, nat_lt, IfOk}
use Rattle.std.proofs.lemmas.Bool.{false≢true}
use Rattle.std.proofs.lemmas.List.{length-map}
use Rattle.iob_base.proofs.PartLemmas.{pages_of-bare}
use Rattle.iob_base.specs.Layout.{Layout}
use Rattle.iob_base.specs.Parting.{pages_of}
use Rattle.iob_base.specs.declared.sector.Page.{Page}
use Rattle.iob_base.specs.declared.part.Part.{Part}
use Rattle.iob_base.specs.declared.stamp.FileId.{FileId}
use Rattle.iob_base.specs.declared.stamp.Op.{Op}
use Rattle.iob_base.specs.declared.stamp.Op.TheVariants.{Read, Write}
use Rattle.iob_base.specs.declared.stamp.Tag.{Tag}
use Rattle.fault_device.specs.Transfer.{parts_after}
use Rattle.fault_device.specs.declared.lane.Done.{Done}
use Rattle.bio_pages.specs.Running.{IsRun}
use Rattle.bio_pages.specs.declared.bio.Bio.{Bio}
use Rattle.turn_cell.specs.Views.{CellView}
use Rattle.range_core.specs.ClaimsView.{ClaimsView}
use Rattle.range_core.specs.DirectBacks.{ReadyToReturn}
use Rattle.range_core.specs.ByteRuns.{part_at, run_between}
use Rattle.range_core.specs.LendDirects.{ReadyToLend, TurnedToLend, direct_loan, goes_out}
use Rattle.range_core.specs.LendParts.{ReadyToLendPart, TurnedToLendPart, around_first, pages_around, with_around}
use Rattle.range_core.specs.Lends.{lent_of, parts_of}
use Rattle.range_core.specs.Pages.{zeroed_page}
use Rattle.range_core.specs.RangeView.{LiesAt, RangeView, cells_from}
use Rattle.range_core.specs.Returning.{MayComeBack}
use Rattle.range_core.specs.declared.cell.Cell.{Cell}
use Rattle.range_core.specs.declared.direct_answer.Direct.{Direct as Answer}
use Rattle.range_core.specs.declared.direct_answer.Direct.TheVariants.{Lent as LentOut, Zeros}
use Rattle.range_core.specs.declared.direct_answer.DirectRefused.{DirectRefused}
use Rattle.range_core.specs.declared.direct_answer.PartRefused.{PartRefused}
use Rattle.range_core.specs.declared.lending.Held.{Held}
use Rattle.range_core.specs.declared.lending.Lender.{Lender}
use Rattle.range_core.specs.declared.lending.Lender.TheVariants.{Reading, Writeback, Direct, Part as InPart}
use Rattle.range_core.specs.declared.lending.Lent.{Lent}
use Rattle.range_core.specs.declared.range.lend_direct.LendDirectRun.{LendDirectRun}
use Rattle.range_core.specs.declared.range.lend_part.LendPartRun.{LendPartRun}
use Rattle.range_core.specs.declared.sample.Sample.{Sample}
use Rattle.mount_parts.specs.MountView.{MountView, IsLaidOut, stripe_at}
use Rattle.mini_fs.proofs.Layouts.{stripe-sizes}
use Rattle.mini_fs.specs.Loans.{AnswersPages, CarriesLoan, IsLoaned, LieInStripe, direct_back_run, lend_direct_run, lend_part_run}
use Rattle.mini_fs.specs.PassView.{PassView}
use Rattle.mini_fs.specs.TicketView.{TicketView}
use Rattle.mini_fs.specs.Tickets.{lent_claims}
use Rattle.mini_fs.specs.Turns.{ReadyAt, TurnsAt}

-- blocks of the range that a turn was at are blocks of its stripe
lies-at : (m : MountView) (stripe : ℕ) (cell : CellView RangeView) (b n : ℕ) → slice_get m.stripes stripe ≡ Some cell → LiesAt cell.opening b n → LieInStripe m stripe b n
lies-at m stripe cell b n here lies other there =
    let both : Some cell ≡ Some other = sym here ∙ there in
    let same : cell ≡ other = cc in
    subst (λ (c : CellView RangeView). LiesAt c.opening b n) same lies

-- a ticket carries the block that was lent on it for a write of a part, whose place is told in the sizes of the mount
pub part-held : (m : MountView) (file : FileId) (p q : PassView) (stripe : ℕ) (held : Option Held) (t : TicketView) (c d : ClaimsView) (change later : LendPartRun)
    → IsLaidOut m → t.stripe ≡ stripe → stripe ≡ stripe_at m file (change.from / m.geometry.block_size) → (out : Result Lent PartRefused)
    → TurnsAt (λ opening history value next entry. TurnedToLendPart change later opening history value next (lent_claims p held) (lent_claims p t.held) out entry) m stripe c d p q
    → IfOk out (λ lent. IsLoaned m file t lent (InPart change.by change.from change.to))
part-held m file p q stripe held t c d change later laid home at (Err refused) turn = tt
part-held m file p q stripe held t c d change later laid home at (Ok lent) turn =
    let did = turn.turned.done.did in
    let takes = did.claims_are in
    let here : slice_get m.stripes t.stripe ≡ Some turn.cell = ap (slice_get m.stripes) home ∙ turn.stand.cell_is in
    let sizes : turn.turned.value.geometry ≡ m.geometry = turn.turned.stood.holds.same_run.geometry ∙ stripe-sizes m stripe turn.cell laid turn.stand.cell_is in
    let begins : lent.block ≡ change.from / m.geometry.block_size = ap (λ (l : Lent). l.block) did.lent_is ∙ ap (λ (g : Layout). change.from / g.block_size) sizes in
    record {
      claim = takes.claim;
      held = ap (λ (k : ClaimsView). k.held) takes.left_is;
      lent_is = takes.lent_is;
      lender_is = takes.lender_is;
      at = home ∙ at ∙ ap (stripe_at m file) (sym begins);
      lies = lies-at m t.stripe turn.cell lent.block (length lent.parts) here did.lies;
      ready = did.ready;
    }

-- whether an answer lends
abbrev is_lent : Answer → Bool
is_lent (LentOut lent) = true
is_lent (Zeros pages) = false

-- what an answer that lends lent, and the zeros of one that does not
lent-is : (P : Lent → Type 0) (goes : Bool) (lent loan : Lent) (zeros : List Part) → LentOut lent ≡ (if goes then LentOut loan else Zeros zeros) → P loan → P lent
lent-is P true lent loan zeros is has = let same : lent ≡ loan = cc in subst P (sym same) has
lent-is P false lent loan zeros is has = absurd (false≢true (sym (ap is_lent is)))

zeros-are : (goes : Bool) (pages zeros : List Part) (loan : Lent) → Zeros pages ≡ (if goes then LentOut loan else Zeros zeros) → pages ≡ zeros
zeros-are true pages zeros loan is = absurd (false≢true (ap is_lent is))
zeros-are false pages zeros loan is = cc

-- blocks go out with the pages that are for them
parts-pages : (cells : List Cell) (pages : List Page) → length pages ≤ length cells → pages_of (parts_of cells pages) ≡ pages
parts-pages cells [] h = refl
parts-pages [] (page ∷ pages) h = absurd (omega arith)
parts-pages (c ∷ cells) (page ∷ pages) h = ap (λ l. page ∷ l) (parts-pages cells pages (omega arith))

-- the pages that were handed in go out, or are answered as zeros
pub direct-pages : (m : MountView) (p q : PassView) (stripe : ℕ) (k claims left c d : ClaimsView) (by : Tag) (seen : Sample) (op : Op) (block : ℕ) (pages : List Part) (later : LendDirectRun)
    → ReadyAt (λ opening history claims. ReadyToLend (lend_direct_run by seen op block (Some pages)) opening history claims) m p stripe k → (out : Result Answer DirectRefused)
    → TurnsAt (λ opening history value next entry. TurnedToLend (lend_direct_run by seen op block (Some pages)) later opening history value next claims left out entry) m stripe c d p q
    → IfOk out (λ answer. AnswersPages pages answer)
direct-pages m p q stripe k claims left c d by seen op block pages later ready (Err refused) turn = tt
direct-pages m p q stripe k claims left c d by seen op block pages later ready (Ok (LentOut lent)) turn =
    let r = ready turn.cell turn.before turn.stand in
    let same : pages ≡ r.pages = (let e : Some pages ≡ Some r.pages = r.pages_are in cc) in
    let run = turn.turned.stood.holds.same_run in
    let value = turn.turned.value in
    let lies : LiesAt turn.cell.opening block (length (pages_of pages)) = subst (λ ps. LiesAt turn.cell.opening block (length (pages_of ps))) (sym same) r.lies in
    let first = run.first in
    let blocks = run.blocks in
    let low = lies.low in
    let high = lies.high in
    let room : length (pages_of pages) ≤ length (drop (block - value.first) value.cells) = omega (arith, length-drop (block - value.first) value.cells) in
    lent-is (λ l. pages_of l.parts ≡ pages_of pages) (goes_out op seen.extent.kind) lent (direct_loan value block (pages_of pages)) _ turn.turned.done.did.answer_is (parts-pages (cells_from value block) (pages_of pages) room)
direct-pages m p q stripe k claims left c d by seen op block pages later ready (Ok (Zeros zeros)) turn =
    ap pages_of (zeros-are (goes_out op seen.extent.kind) zeros _ (direct_loan turn.turned.value block (pages_of pages)) turn.turned.done.did.answer_is) ∙ pages_of-bare (map zeroed_page (pages_of pages))

-- so many blocks of an opened range are left from a block on, as they lie in it
room-for : (cells : List Cell) (first now block place n total : ℕ) → now ≡ first → place ≡ block → first ≤ block → block + n ≤ first + total → length cells ≡ total → n ≤ length (drop (place - now) cells)
room-for cells first now block place n total e f low high many = omega (arith, length-drop (place - now) cells)

numbers-kept : (f : Page → Page) → ((p : Page) → (f p).number ≡ p.number) → (pages : List Page) → map (λ p. p.number) (map f pages) ≡ map (λ p. p.number) pages
numbers-kept f same [] = refl
numbers-kept f same (p ∷ pages) = (λ i. same p i ∷ numbers-kept f same pages i)

-- the page that was handed in goes out, with its number
pub part-pages : (m : MountView) (p q : PassView) (stripe : ℕ) (k claims left c d : ClaimsView) (by : Tag) (seen : Sample) (from to : ℕ) (page : List Part) (later : LendPartRun)
    → ReadyAt (λ opening history claims. ReadyToLendPart (lend_part_run by seen from to (Some page)) opening history claims) m p stripe k → (out : Result Lent PartRefused)
    → TurnsAt (λ opening history value next entry. TurnedToLendPart (lend_part_run by seen from to (Some page)) later opening history value next claims left out entry) m stripe c d p q
    → IfOk out (λ lent. map (λ p. p.number) (pages_of lent.parts) ≡ map (λ p. p.number) (pages_of page))
part-pages m p q stripe k claims left c d by seen from to page later ready (Err refused) turn = tt
part-pages m p q stripe k claims left c d by seen from to page later ready (Ok lent) turn =
    let r = ready turn.cell turn.before turn.stand in
    let same : page ≡ r.page = (let e : Some page ≡ Some r.page = r.page_is in cc) in
    let one : length (pages_of page) ≡ 1 = ap (λ ps. length (pages_of ps)) same ∙ r.one in
    let run = turn.turned.stood.holds.same_run in
    let value = turn.turned.value in
    let cut = run_between value.geometry.block_size from to in
    let around = pages_around value cut (pages_of page) in
    let many : length around ≡ 1 = length-map (pages_of page) _ ∙ one in
    let place : cut.first ≡ from / turn.cell.opening.geometry.block_size = ap (λ (g : Layout). from / g.block_size) run.geometry in
    let room : 1 ≤ length (drop (cut.first - value.first) value.cells) =
    room-for value.cells turn.cell.opening.first value.first (from / turn.cell.opening.geometry.block_size) cut.first 1 (length turn.cell.opening.cells) run.first place r.bytes.lies.low
    (subst (λ n. from / turn.cell.opening.geometry.block_size + n ≤ turn.cell.opening.first + length turn.cell.opening.cells) r.bytes.one r.bytes.lies.high) run.blocks
    in
    ap (λ (l : Lent). map (λ p. p.number) (pages_of l.parts)) turn.turned.done.did.lent_is
    ∙ ap (map (λ p. p.number)) (parts-pages (cells_from value cut.first) around (subst (λ n. n ≤ length (cells_from value cut.first)) (sym many) room))
    ∙ numbers-kept (with_around (part_at cut cut.first) (around_first value.geometry.block_size (cells_from value cut.first))) (λ p. refl) (pages_of page)

-- What was lent on a ticket may come back on it, after the transfer that `done` tells
returned : (m : MountView) (file : FileId) (t : TicketView) (lender : Lender) (op : Op) (done : Done) (lent : Lent) (parts : List Part) → IsLoaned m file t lent lender
    → parts ≡ parts_after op done.landed lent.parts → done.landed ≤ length lent.parts → done.failed ≡ nat_lt done.landed (length lent.parts)
    → (p : PassView) → ReadyAt (λ opening seen claims. MayComeBack opening claims lender op (lent_of lent.ticket lent.block parts) done) m p t.stripe (lent_claims p t.held)
returned m file t lender op done lent parts is same landed failed p cell seat stand =
    let e : lent ≡ is.claim.lent.value = sym is.lent_is in
    record {
      claim = is.claim;
      lent_for = is.lender_is;
      is_return = record {
        held = is.held;
        ticket = ap (λ (l : Lent). l.ticket) e;
        block = ap (λ (l : Lent). l.block) e;
        some = subst (λ (l : Lent). 0 < length l.parts) e is.ready.some;
        parts = same ∙ ap (λ (l : Lent). parts_after op done.landed l.parts) e;
        landed = subst (λ (l : Lent). done.landed ≤ length l.parts) e landed;
        failed = failed ∙ ap (λ (l : Lent). nat_lt done.landed (length l.parts)) e;
      };
      lies = subst (λ (l : Lent). LiesAt cell.opening l.block (length l.parts)) e (is.lies cell stand.cell_is);
    }

-- What went with a bio may come back with it when it was run, on its ticket
module _ (m : MountView) (file : FileId) (number : ℕ) (b r : Bio TicketView) (done : Done) (run : IsRun b r done) where
  -- a bio that was run has its ticket
  pub run-ticket : r.ticket ≡ b.ticket
  run-ticket = ap (λ (x : Bio TicketView). x.ticket) run.bio

  -- it comes back at the stripe of its file
  pub returned-at : (lender : Lender) (op : Op) → CarriesLoan m file lender op number b → r.ticket.stripe ≡ stripe_at m file r.block
  returned-at lender op carries = subst (λ (x : Bio TicketView). x.ticket.stripe ≡ stripe_at m file x.block) (sym run.bio) carries.loan.at

  returned-ready : (lender : Lender) (op : Op) → CarriesLoan m file lender op number b → (p : PassView)
      → ReadyAt (λ opening seen claims. MayComeBack opening claims lender op (lent_of number r.block r.parts) done) m p r.ticket.stripe (lent_claims p r.ticket.held)
  returned-ready lender op carries p =
      let parts : r.parts ≡ parts_after op done.landed b.parts = run.parts ∙ ap (λ o. parts_after o done.landed b.parts) carries.way in
      subst (λ (x : Bio TicketView). ReadyAt (λ opening seen claims. MayComeBack opening claims lender op (lent_of number x.block r.parts) done) m p x.ticket.stripe (lent_claims p x.ticket.held)) (sym run.bio)
      (returned m file b.ticket lender op done (lent_of number b.block b.parts) r.parts carries.loan parts run.landed run.failed p)

  pub returned-ready-read : CarriesLoan m file Reading Read number b → (p : PassView)
      → ReadyAt (λ opening seen claims. MayComeBack opening claims Reading Read (lent_of number r.block r.parts) done) m p r.ticket.stripe (lent_claims p r.ticket.held)
  returned-ready-read carries p = returned-ready Reading Read carries p

  pub returned-ready-writeback : CarriesLoan m file Writeback Write number b → (p : PassView)
      → ReadyAt (λ opening seen claims. MayComeBack opening claims Writeback Write (lent_of number r.block r.parts) done) m p r.ticket.stripe (lent_claims p r.ticket.held)
  returned-ready-writeback carries p = returned-ready Writeback Write carries p

  pub returned-ready-direct : (by : Tag) (op : Op) → CarriesLoan m file (Direct by op) op number b → (p : PassView)
      → ReadyAt (λ opening seen claims. ReadyToReturn (direct_back_run by op (Some (lent_of number r.block r.parts)) done) opening claims) m p r.ticket.stripe (lent_claims p r.ticket.held)
  returned-ready-direct by op carries p cell seat stand =
      record { back = lent_of number r.block r.parts; back_is = refl; lender = Direct by op; may = returned-ready (Direct by op) op carries p cell seat stand; lent_to = (refl, refl) }

  pub returned-ready-part : (by : Tag) (from to : ℕ) → CarriesLoan m file (InPart by from to) Write number b → (p : PassView)
      → ReadyAt (λ opening seen claims. ReadyToReturn (direct_back_run by Write (Some (lent_of number r.block r.parts)) done) opening claims) m p r.ticket.stripe (lent_claims p r.ticket.held)
  returned-ready-part by from to carries p cell seat stand =
      record { back = lent_of number r.block r.parts; back_is = refl; lender = InPart by from to; may = returned-ready (InPart by from to) Write carries p cell seat stand; lent_to = (refl, refl) }
