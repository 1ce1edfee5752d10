-- What is true of each block that comes back from a caller's own page.
use Rattle.std.proofs.Common.{◌≡◌, ◌≢◌, ℕ, zero, suc, ◌+◌, ◌-◌, ◌<◌, ◌≤◌, ◌⊎◌, Bool, true, false, not, ◌&&◌, ◌||◌, if◌then◌else◌, Option, Some, None, List, [], ◌∷◌, length, map, refl, sym, ◌∙◌, ap, subst, arith, ⊎_elim, inl, inr}
use Rattle.std.specs.Prelude.{IfSome, IsSomeAnd, nat_le, nat_lt, slice_get, unwrap_or}
use Rattle.std.proofs.lemmas.Bool.{leb-false, lt-ltb, ltb-false, ltb-true}
use Rattle.std.proofs.lemmas.Option.{slice_get_past}
use Rattle.iob_base.specs.declared.sector.Page.{Page}
use Rattle.iob_base.specs.declared.stamp.Op.{Op}
use Rattle.iob_base.specs.declared.stamp.Op.TheVariants.{Read, Write}
use Rattle.iob_base.specs.declared.stamp.Tag.{Tag}
use Rattle.fault_device.specs.declared.lane.Done.{Done}
use Rattle.iob_base.specs.declared.part.Part.{Part}
use Rattle.io_model.specs.Contents.{Content, zeros}
use Rattle.io_model.specs.Kinds.{kind_after}
use Rattle.io_model.specs.declared.file.Kind.{Kind}
use Rattle.io_model.specs.declared.file.Kind.TheVariants.{Hole, Delalloc, Unwritten, Mapped}
use Rattle.range_core.specs.BlockContents.{content_back, has_arrived}
use Rattle.range_core.specs.BlockStates.{directly_back, state_of}
use Rattle.range_core.specs.BlockTruth.{FitsLender, IsAround, IsLentContent, IsTrueAt, IsWholePage}
use Rattle.range_core.specs.Cells.{HasPlace, IsPlaced}
use Rattle.range_core.specs.ClaimsView.{ClaimsView}
use Rattle.range_core.specs.DirectBacks.{IsLentTo, came_back}
use Rattle.range_core.specs.EntryCounts.{is_write_back, one_where}
use Rattle.range_core.specs.Kinds.{has_space, is_delalloc, is_mapped, is_unwritten, written_kind}
use Rattle.range_core.specs.Loans.{ChangesSeat}
use Rattle.range_core.specs.OnRun.{on_each}
use Rattle.range_core.specs.RangeTruth.{is_lent_for_writing, pending}
use Rattle.fault_device.specs.Transfer.{parts_after}
use Rattle.range_core.specs.Spots.{in_run}
use Rattle.range_core.specs.Stakes.{RangeStake, names_block}
use Rattle.range_core.specs.declared.cell.Cell.{Cell}
use Rattle.range_core.specs.declared.lending.Away.{Away}
use Rattle.range_core.specs.declared.lending.Held.{Held}
use Rattle.range_core.specs.declared.lending.Lender.{Lender}
use Rattle.range_core.specs.declared.lending.Lender.TheVariants.{Reading, Writeback, Direct, Part as InPart}
use Rattle.range_core.proofs.DirectBackLemmas.{back-is, back_cell, kind_back}
use Rattle.range_core.proofs.LoanLemmas.{return_frees_claim}
use Rattle.range_core.proofs.ReturnLemmas.{IsClaimed}
use Rattle.range_core.proofs.TransferLemmas.{after-at, moved, part_after}

-- a block that is out on a claim for a caller's own page: what its part has, and that it has no page in the cache
pub record IsDirectlyOut (size b k : ℕ) (c : Cell) (content : Content) (lender : Lender) (h : Held) : Type 0 where
  pub part : Part
  pub part_is : slice_get h.lent.value.parts k ≡ Some part
  pub whole : IsWholePage size part.page
  pub lent : IsLentContent size (is_mapped c.kind) content part
  pub pageless : c.page ≡ None
  pub around : IsAround size b content h.lent.value part.page lender
  pub space : has_space c.kind ≡ true
  pub kind : kind_after h.kind k ≡ c.kind
  pub ticket : ℕ
  pub away : c.away ≡ Some (record { ticket = ticket; lender = lender })
  pub ticket_is : ticket ≡ h.lent.value.ticket

-- such a block has its content in the part, or reads as zeros, and no page
lent_as : (size : ℕ) (c : Cell) (content : Content) (part : Part) (by : Tag) (op : Op) (lender : Lender) → IsLentTo by op lender → FitsLender size c content part lender → IsLentContent size (is_mapped c.kind) content part × (c.page ≡ None)
lent_as size c content part by op Reading to fits = absurd to
lent_as size c content part by op Writeback to fits = absurd to
lent_as size c content part by op (Direct tag way) to fits = fits
lent_as size c content part by op (InPart tag from last) to fits = fits

pub directly_out : (size b k : ℕ) (c : Cell) (content : Content) (by : Tag) (op : Op) (lender : Lender) (h : Held) → IsLentTo by op lender → b ≡ h.lent.value.block + k → h.lender ≡ lender → HasPlace size c.kind c.sector c.away → IsClaimed size b c content h
    → IsDirectlyOut size b k c content lender h
directly_out size b k c content by op lender h to at for place claimed =
    let fits = claimed.fits in
    let off : b - h.lent.value.block ≡ k = omega arith in
    let P : Option Away → Type 0 = λ a. HasPlace size c.kind c.sector a in
    let L : Lender → Type 0 = λ l. FitsLender size c content fits.part l in
    let A : Lender → Type 0 = λ l. IsAround size b content h.lent.value fits.part.page l in
    let same : claimed.away.lender ≡ lender = sym fits.lender ∙ for in
    let here = lent_as size c content fits.part by op lender to (subst L same fits.fits) in
    record {
      part = fits.part;
      part_is = ap (slice_get h.lent.value.parts) (sym off) ∙ fits.part_is;
      whole = fits.page;
      lent = here.0;
      pageless = here.1;
      around = subst A same fits.around;
      space = (subst P claimed.is place).1;
      kind = ap (λ j. kind_after h.kind j) (sym off) ∙ fits.kind;
      ticket = claimed.away.ticket;
      away = claimed.is ∙ ap (λ (l : Lender). Some (record { ticket = claimed.away.ticket; lender = l })) same;
      ticket_is = sym fits.ticket;
    }

-- the content of the k-th block after the return
abbrev pub content_then : Op → Kind → Done → ℕ → List ℕ → Content → Content
content_then Read kind done k bytes content = content
content_then Write kind done k bytes content = if has_arrived kind done k then bytes else content

pub content_inside : (op : Op) (block k : ℕ) (kind : Kind) (pages : List (List ℕ)) (done : Done) (bytes : List ℕ) (content : Content) → slice_get pages k ≡ Some bytes → content_back op block kind pages done (block + k) content ≡ content_then op kind done k bytes content
content_inside Read block k kind pages done bytes content e = refl
content_inside Write block k kind pages done bytes content e =
    let off : block + k - block ≡ k = omega arith in
    let after : nat_lt (block + k) block ≡ false = at (nat_lt (block + k) block) refl in
    let A : ℕ → Content = λ j. if has_arrived kind done j then unwrap_or (slice_get pages j) content else content in
    ap (λ t. if t then content else A (block + k - block)) after ∙ ap A off ∙ ap (λ o. if has_arrived kind done k then unwrap_or o content else content) e
  where
    at : (t : Bool) → nat_lt (block + k) block ≡ t → t ≡ false
    at false l = refl
    at true l = absurd (let m : block + k < block = ltb-true _ _ l in omega arith)

-- no other block has another content
pub content_outside : (op : Op) (block : ℕ) (kind : Kind) (pages : List (List ℕ)) (done : Done) (b : ℕ) (content : Content) → (b < block) ⊎ (block + length pages ≤ b) → content_back op block kind pages done b content ≡ content
content_outside Read block kind pages done b content h = refl
content_outside Write block kind pages done b content h = ⊎_elim (λ (l : b < block). ap (λ t. if t then content else A (b - block)) (lt-ltb b block l)) (λ (l : block + length pages ≤ b). past l) h
  where
    A : ℕ → Content
    A j = if has_arrived kind done j then unwrap_or (slice_get pages j) content else content

    same : (t : Bool) → (if t then content else content) ≡ content
    same true = refl
    same false = refl

    past : block + length pages ≤ b → (if nat_lt b block then content else A (b - block)) ≡ content
    past l =
        let none : slice_get pages (b - block) ≡ None = slice_get_past pages (b - block) (omega arith) in
        ap (λ o. if nat_lt b block then content else (if has_arrived kind done (b - block) then unwrap_or o content else content)) none
        ∙ ap (λ x. if nat_lt b block then content else x) (same (has_arrived kind done (b - block))) ∙ same (nat_lt b block)

-- the sector and the content agree after the return: where the block is mapped then its sector has the content, and where it is not it reads as zeros
pub record AgreesBack (size : ℕ) (op : Op) (done : Done) (k : ℕ) (kind : Kind) (p : Part) (content after : Content) : Type 0 where
  pub whole : length after ≡ size
  pub on_device : is_mapped (kind_back op done.failed kind) ≡ true → (part_after op done.landed k p).sector.bytes ≡ after
  pub zero : is_mapped (kind_back op done.failed kind) ≡ false → after ≡ zeros size

-- a transfer that did not fail has landed everywhere
pub all_landed : (landed n k : ℕ) → false ≡ nat_lt landed n → k < n → nat_lt k landed ≡ true
all_landed landed n k e l = let m : n ≤ landed = ltb-false _ _ (sym e) in lt-ltb k landed (omega arith)

pub agrees_back : (size : ℕ) (op : Op) (done : Done) (n k : ℕ) (first kind : Kind) (p : Part) (content : Content) → is_mapped first ≡ is_mapped kind → has_space kind ≡ true → length content ≡ size → IsWholePage size p.page → IsLentContent size (is_mapped kind) content p
    → done.failed ≡ nat_lt done.landed n → k < n → AgreesBack size op done k kind p content (content_then op first done k p.page.bytes content)
agrees_back size Read done n k first kind p content same space whole page lent failed l = record {
  whole = whole;
  on_device = λ m. let L : Bool → Type 0 = λ t. IsLentContent size t content p in sector_read (nat_lt k done.landed) ∙ subst L (ap is_mapped (sym (kind_read done.failed)) ∙ m) lent;
  zero = λ m. let L : Bool → Type 0 = λ t. IsLentContent size t content p in subst L (ap is_mapped (sym (kind_read done.failed)) ∙ m) lent;
}
  where
    kind_read : (t : Bool) → kind_back Read t kind ≡ kind
    kind_read true = refl
    kind_read false = refl

    sector_read : (t : Bool) → (if t then moved Read p else p).sector.bytes ≡ p.sector.bytes
    sector_read true = refl
    sector_read false = refl
agrees_back size Write done n k first kind p content same space whole page lent failed l = at done.failed refl
  where
    Then : Bool → Content
    Then f = if not f || (is_mapped first && nat_lt k done.landed) then p.page.bytes else content

    Agrees : Bool → Content → Type 0
    Agrees f after = (length after ≡ size) × (is_mapped (kind_back Write f kind) ≡ true → (part_after Write done.landed k p).sector.bytes ≡ after) × (is_mapped (kind_back Write f kind) ≡ false → after ≡ zeros size)

    written : (k : Kind) → has_space k ≡ true → is_mapped (written_kind k) ≡ true
    written Hole e = absurd (cc)
    written Delalloc e = absurd (cc)
    written (Unwritten d) e = refl
    written (Mapped d) e = refl

    landed_bytes : nat_lt k done.landed ≡ true → (part_after Write done.landed k p).sector.bytes ≡ p.page.bytes
    landed_bytes e = ap (λ t. (if t then moved Write p else p).sector.bytes) e

    missed_bytes : nat_lt k done.landed ≡ false → (part_after Write done.landed k p).sector.bytes ≡ p.sector.bytes
    missed_bytes e = ap (λ t. (if t then moved Write p else p).sector.bytes) e

    of_failed : (m u : Bool) → is_mapped kind ≡ m → nat_lt k done.landed ≡ u → Agrees true (if false || (m && u) then p.page.bytes else content)
    of_failed true true e g = (page, λ _. landed_bytes g, λ z. absurd (cc))
    of_failed true false e g = (whole, λ _. missed_bytes g ∙ (let L : Bool → Type 0 = λ t. IsLentContent size t content p in subst L e lent), λ z. absurd (cc))
    of_failed false u e g = (whole, λ z. absurd (cc), λ _. let L : Bool → Type 0 = λ t. IsLentContent size t content p in subst L e lent)

    by : (f : Bool) → done.failed ≡ f → Agrees f (Then f)
    by false e = (page, λ _. landed_bytes (all_landed done.landed n k (sym e ∙ failed) l), λ z. absurd (let w = written kind space in cc))
    by true e =
        let A : Bool → Type 0 = λ m. Agrees true (if false || (m && nat_lt k done.landed) then p.page.bytes else content) in
        subst A (sym same) (of_failed (is_mapped kind) (nat_lt k done.landed) refl refl)

    at : (f : Bool) → done.failed ≡ f → AgreesBack size Write done k kind p content (content_then Write first done k p.page.bytes content)
    at f e =
        let B : Bool → Type 0 = λ g. Agrees g (Then g) in
        let r : B done.failed = subst B (sym e) (by f e) in
        record { whole = r.0; on_device = r.1; zero = r.2 }

-- a block without a page is clean
pub pageless_clean : (size b : ℕ) (c : Cell) (content : Content) (stakes : List RangeStake) → IsTrueAt size b c content stakes → c.page ≡ None → c.dirty ≡ false
pageless_clean size b c content stakes t none = at c.dirty refl
  where
    at : (d : Bool) → c.dirty ≡ d → d ≡ false
    at false e = refl
    at true e = absurd (let P : Option Page → Type 0 = λ o. IsSomeAnd o (λ p. c.kind ≢ Hole) in subst P none (t.dirty_is_uptodate e))

-- a block that comes back is true of what its transfer left
pub back_true : (size b k : ℕ) (was : Cell) (content after : Content) (op : Op) (lender : Lender) (done : Done) (h : Held) (stakes others : List RangeStake) (claims left : ClaimsView) → ChangesSeat stakes others claims left
    → claims.held ≡ Some h → left.held ≡ None → names_block b (Some h) ≡ true → (out : IsDirectlyOut size b k was content lender h) → AgreesBack size op done k was.kind out.part content after
    → IsPlaced size (came_back op done.failed (parts_after op done.landed h.lent.value.parts) k was) → IsTrueAt size b was content stakes
    → IsTrueAt size b (came_back op done.failed (parts_after op done.landed h.lent.value.parts) k was) after others
back_true size b k was content after op lender done h stakes others claims left g some_h none named out agrees placed t =
    let q : Part = part_after op done.landed k out.part in
    let c : Cell = back_cell op done.failed q was in
    let is : came_back op done.failed (parts_after op done.landed h.lent.value.parts) k was ≡ c = back-is op done.failed _ k q was (after-at op done.landed k h.lent.value.parts out.part out.part_is) in
    let T : Cell → Type 0 = λ x. IsTrueAt size b x after others in
    let Q : Cell → Type 0 = λ x. IsPlaced size x in
    let U : Option Page → Type 0 = λ o. IfSome o (λ p. p.bytes ≡ after) in
    let clean : was.dirty ≡ false = pageless_clean size b was content stakes t out.pageless in
    subst T (sym is) (record {
      whole = agrees.whole;
      place = subst Q is placed;
      uptodate_is_replay = subst U (sym out.pageless) tt;
      home_is_on_device = record { clean_is_on_device = λ m d. agrees.on_device m; spaceless_is_zeros = λ m d. agrees.zero m };
      dirty_is_uptodate = λ d. absurd (cc);
      away_is_claimed = return_frees_claim size b was c content after h stakes others claims left g some_h none named refl t.away_is_claimed;
    })

-- its state is the one that the entry leaves
pub back_state : (op : Op) (failed : Bool) (parts : List Part) (k : ℕ) (p : Part) (c : Cell) → slice_get parts k ≡ Some p → state_of (came_back op failed parts k c) ≡ directly_back op failed (state_of c)
back_state op failed parts k p c e = ap state_of (back-is op failed parts k p c e) ∙ at op failed
  where
    at : (op : Op) (failed : Bool) → state_of (back_cell op failed p c) ≡ directly_back op failed (state_of c)
    at Read true = refl
    at Read false = refl
    at Write true = refl
    at Write false = refl

-- how many cookies each block of a claim might have used when it came back
pub lost_by : Op → Bool → ℕ
lost_by Read unwritten = 0
lost_by Write unwritten = one_where unwritten

-- whether it is lent for writing is told by the direction
for_writing : (by : Tag) (op : Op) (ticket : ℕ) (lender : Lender) → IsLentTo by op lender → is_lent_for_writing (Some (record { ticket = ticket; lender = lender })) ≡ is_lent_for_writing (Some (record { ticket = ticket; lender = Direct by op }))
for_writing by op ticket Reading to = absurd to
for_writing by op ticket Writeback to = absurd to
for_writing by op ticket (Direct tag way) to =
    ap (λ (t : Tag). is_lent_for_writing (Some (record { ticket = ticket; lender = Direct t way }))) to.0 ∙ ap (λ (o : Op). is_lent_for_writing (Some (record { ticket = ticket; lender = Direct by o }))) to.1
for_writing by op ticket (InPart tag from last) to = ap (λ (o : Op). is_lent_for_writing (Some (record { ticket = ticket; lender = Direct by o }))) (sym to.1)

-- each block that comes back uses none any more
pub back_pending : (op : Op) (by : Tag) (lender : Lender) (failed : Bool) (parts : List Part) (k ticket : ℕ) (p : Part) (c : Cell) → IsLentTo by op lender → slice_get parts k ≡ Some p → c.away ≡ Some (record { ticket = ticket; lender = lender }) → has_space c.kind ≡ true
    → pending (came_back op failed parts k c) + lost_by op (is_unwritten c.kind) ≡ pending c + 0
unfolding lost_by
back_pending op by lender failed parts k ticket p c to e away space =
    let is = ap pending (back-is op failed parts k p c e) in
    let Pends : Bool → ℕ = λ u. one_where (is_delalloc c.kind || (is_unwritten c.kind && u)) in
    let was = ap (λ a. one_where (is_delalloc c.kind || (is_unwritten c.kind && is_lent_for_writing a))) away ∙ ap Pends (for_writing by op ticket lender to) in
    let step = at op failed c.kind space in
    omega arith
  where
    at : (op : Op) (failed : Bool) (kind : Kind) → has_space kind ≡ true
        → one_where (is_delalloc (kind_back op failed kind) || (is_unwritten (kind_back op failed kind) && false)) + lost_by op (is_unwritten kind) ≡ one_where (is_delalloc kind || (is_unwritten kind && is_lent_for_writing (Some (record { ticket = ticket; lender = Direct by op }))))
    at op failed Hole s = absurd (cc)
    at op failed Delalloc s = absurd (cc)
    at Read true (Unwritten d) s = refl
    at Read false (Unwritten d) s = refl
    at Read true (Mapped d) s = refl
    at Read false (Mapped d) s = refl
    at Write true (Unwritten d) s = refl
    at Write false (Unwritten d) s = refl
    at Write true (Mapped d) s = refl
    at Write false (Mapped d) s = refl

-- a block that is not of a run is before it or past it
pub out_of_run : (low n b m : ℕ) → m ≡ n → in_run low n b ≡ false → (b < low) ⊎ (low + m ≤ b)
out_of_run low n b m e out = at (nat_le low b) (nat_lt b (low + n)) refl refl out
  where
    at : (u v : Bool) → nat_le low b ≡ u → nat_lt b (low + n) ≡ v → (u && v) ≡ false → (b < low) ⊎ (low + m ≤ b)
    at true true l k o = absurd (cc)
    at true false l k o = let past : low + n ≤ b = ltb-false _ _ k in inr (omega arith)
    at false v l k o = inl (leb-false _ _ l)

-- the turn uses a cookie only where its blocks might have used one each
pub rise-within : (op : Op) (failed unwritten : Bool) → one_where (unwritten && is_write_back op failed) ≤ lost_by op unwritten
unfolding lost_by
rise-within Read true true = omega arith
rise-within Read true false = omega arith
rise-within Read false true = omega arith
rise-within Read false false = omega arith
rise-within Write true true = omega arith
rise-within Write true false = omega arith
rise-within Write false true = omega arith
rise-within Write false false = omega arith

-- what each item of a run keeps, all keep
pub map-on_each-at : {A B : Type 0} (f : ℕ → A → A) (g : A → B) (k low n : ℕ) (xs : List A) → low + n ≤ length xs → ((j : ℕ) (x : A) → j < n → slice_get xs (low + j) ≡ Some x → g (f (k + j) x) ≡ g x) → map g (on_each f k low n xs) ≡ map g xs
map-on_each-at f g k zero zero xs h e = refl
map-on_each-at f g k zero (suc n) [] h e = absurd (omega arith)
map-on_each-at {B = B} f g k zero (suc n) (x ∷ xs) h e =
    let at : k + 0 ≡ k = omega arith in
    let G : ℕ → Type 0 = λ m. ◌≡◌ {A = B} (g (f m x)) (g x) in
    let here : g (f k x) ≡ g x = subst G at (e 0 x (omega arith) refl) in
    ap (λ y. y ∷ map g (on_each f (suc k) zero n xs)) here
    ∙ ap (λ l. g x ∷ l) (map-on_each-at f g (suc k) zero n xs (omega arith) (λ j y l there. let m : suc k + j ≡ k + suc j = omega arith in let H : ℕ → Type 0 = λ i. ◌≡◌ {A = B} (g (f i y)) (g y) in subst H (sym m) (e (suc j) y (omega arith) (let z : 0 + suc j ≡ suc (0 + j) = omega arith in ap (slice_get (x ∷ xs)) z ∙ there))))
map-on_each-at f g k (suc low) n [] h e = absurd (omega arith)
map-on_each-at f g k (suc low) n (x ∷ xs) h e =
    ap (λ l. g x ∷ l) (map-on_each-at f g k low n xs (omega arith) (λ j y l there. e j y l (let z : suc low + j ≡ suc (low + j) = omega arith in ap (slice_get (x ∷ xs)) z ∙ there)))

-- the kinds stay where the cookie does
pub kind-stays : (op : Op) (failed : Bool) (kind : Kind) → has_space kind ≡ true → (is_unwritten kind && is_write_back op failed) ≡ false → kind_back op failed kind ≡ kind
kind-stays Read true kind s e = refl
kind-stays Read false kind s e = refl
kind-stays Write true kind s e = refl
kind-stays Write false Hole s e = refl
kind-stays Write false Delalloc s e = refl
kind-stays Write false (Unwritten d) s e = absurd (cc)
kind-stays Write false (Mapped d) s e = refl
