-- What the entry of a return tells of each block: of blocks for a caller's own pages, and of a block that was lent in part.
use Rattle.std.proofs.Common.{◌≡◌, ℕ, zero, suc, ◌+◌, ◌<◌, true, false, ◌&&◌, if◌then◌else◌, Some, List, [], ◌∷◌, length, map, refl, sym, ◌∙◌, ap, subst, arith}
use Rattle.std.specs.Prelude.{slice_get}
use Rattle.iob_base.specs.declared.part.Part.{Part}
use Rattle.iob_base.specs.declared.sector.Page.{Page}
use Rattle.iob_base.specs.declared.stamp.Op.{Op}
use Rattle.iob_base.specs.declared.stamp.Op.TheVariants.{Write}
use Rattle.iob_base.specs.declared.stamp.Tag.{Tag}
use Rattle.fault_device.specs.declared.lane.Done.{Done}
use Rattle.io_model.specs.Contents.{Content}
use Rattle.io_model.specs.Kinds.{is_kind, kind_after}
use Rattle.io_model.specs.declared.file.Kind.{Kind}
use Rattle.range_core.specs.BlockContents.{content_after, has_arrived}
use Rattle.range_core.specs.BlockStates.{BlockState, directly_back, state_after}
use Rattle.range_core.specs.BlockTruth.{IsAround}
use Rattle.range_core.specs.ClaimsView.{ClaimsView}
use Rattle.range_core.specs.DirectBacks.{IsLentTo, back_event, first_bytes, kind_held, pages_held}
use Rattle.range_core.specs.EntryCounts.{changes, failures, is_write_back, lendings, one_where}
use Rattle.range_core.specs.EntryStamps.{direct_stamps, stamps_of}
use Rattle.range_core.specs.Happened.{fits_by, is_out}
use Rattle.range_core.specs.Kinds.{is_unwritten}
use Rattle.range_core.specs.Lookups.{GivesPresent}
use Rattle.range_core.specs.RangeView.{RangeView}
use Rattle.range_core.specs.Returning.{IsReturn}
use Rattle.range_core.specs.Spots.{bytes_of_part, in_run, overlaid}
use Rattle.range_core.specs.declared.entry.Entry.{Entry}
use Rattle.range_core.specs.declared.entry.Event.TheVariants.{DirectBack, PartBack}
use Rattle.range_core.specs.declared.entry.Outcome.TheVariants.{Finished}
use Rattle.range_core.specs.declared.lending.Held.{Held}
use Rattle.range_core.specs.declared.lending.Lender.{Lender}
use Rattle.range_core.specs.declared.lending.Lender.TheVariants.{Reading, Writeback, Direct, Part as InPart}
use Rattle.range_core.specs.declared.lending.Lent.{Lent}
use Rattle.range_core.proofs.AfterRun.{in_run-true}
use Rattle.range_core.proofs.DirectBackBlocks.{content_inside, content_outside, content_then, out_of_run}
use Rattle.range_core.proofs.FoundLemmas.{if_any, if_none, kind-found}
use Rattle.range_core.proofs.KindLemmas.{is_kind-same, kind_after-zero}
use Rattle.range_core.proofs.LawfulLemmas.{both}
use Rattle.range_core.proofs.TransferLemmas.{length-after}

-- a loan in part is of one block
abbrev pub IsAlone : ℕ → Lender → Type 0
IsAlone n Reading = Unit {0}
IsAlone n Writeback = Unit {0}
IsAlone n (Direct by op) = Unit {0}
IsAlone n (InPart by from last) = n ≡ 1

pub alone_of : (size b n : ℕ) (content : Content) (lent : Lent) (page : Page) (lender : Lender) → n ≡ length lent.parts → IsAround size b content lent page lender → IsAlone n lender
alone_of size b n content lent page Reading many around = tt
alone_of size b n content lent page Writeback many around = tt
alone_of size b n content lent page (Direct by op) many around = tt
alone_of size b n content lent page (InPart by from last) many around = many ∙ around.alone

-- An entry tells that these blocks came back as their transfer left them, and says nothing of others
pub record TellsBack (size : ℕ) (by : Tag) (op : Op) (lender : Lender) (back : Lent) (done : Done) (kind : Kind) (h : Held) (caller : ℕ) (entry : Entry) : Type 0 where
  pub caller_is : entry.caller ≡ caller
  pub outside : (b : ℕ) (x : Content) → in_run back.block (length back.parts) b ≡ false → content_after size b x entry ≡ x
  pub inside : (k : ℕ) (p : Part) (x : Content) → k < length back.parts → slice_get h.lent.value.parts k ≡ Some p → IsAround size (back.block + k) x h.lent.value p.page lender
      → content_after size (back.block + k) x entry ≡ content_then op kind done k p.page.bytes x
  pub stays : (b : ℕ) (s : BlockState) → in_run back.block (length back.parts) b ≡ false → state_after size b s entry ≡ s
  pub becomes : (b : ℕ) (s : BlockState) → in_run back.block (length back.parts) b ≡ true → state_after size b s entry ≡ directly_back op done.failed s
  pub failed : failures entry ≡ 0
  pub lent : lendings entry ≡ 0
  pub changed : changes entry ≡ one_where (is_unwritten kind && is_write_back op done.failed)
  pub stamps : stamps_of size entry ≡ direct_stamps by op back.block kind (length back.parts) done
  pub sample : (v : RangeView) → GivesPresent v entry
  pub found_out : (b : ℕ) (s : BlockState) → in_run back.block (length back.parts) b ≡ false → fits_by size b entry s ≡ true
  pub found_in : (k : ℕ) (s : BlockState) → k < length back.parts → is_out back.ticket lender s.away ≡ true → kind_after h.kind k ≡ s.kind → fits_by size (back.block + k) entry s ≡ true

length-page_bytes : (parts : List Part) → length (map (λ (p : Page). p.bytes) (map (λ (p : Part). p.page) parts)) ≡ length parts
length-page_bytes [] = refl
length-page_bytes (p ∷ parts) = ap suc (length-page_bytes parts)

bytes-at : (k : ℕ) (parts : List Part) (p : Part) → slice_get parts k ≡ Some p → slice_get (map (λ (p : Page). p.bytes) (map (λ (p : Part). p.page) parts)) k ≡ Some p.page.bytes
bytes-at k [] p e = absurd (cc)
bytes-at zero (q ∷ parts) p e = let is : q ≡ p = cc in ap (λ (x : Part). Some x.page.bytes) is
bytes-at (suc k) (q ∷ parts) p e = bytes-at k parts p e

first-bytes : (parts : List Part) (p : Part) → slice_get parts 0 ≡ Some p → first_bytes (map (λ (q : Part). q.page) parts) ≡ p.page.bytes
first-bytes [] p e = absurd (cc)
first-bytes (q ∷ parts) p e = let is : q ≡ p = cc in ap (λ (x : Part). x.page.bytes) is

module _ (size : ℕ) (by : Tag) (op : Op) (back : Lent) (done : Done) (h : Held) (claims : ClaimsView) (r : IsReturn claims h op back done) where
  abbrev n : ℕ
  n = length back.parts

  abbrev kind : Kind
  kind = kind_held claims.held

  abbrev bytes : List (List ℕ)
  bytes = map (λ p. p.bytes) (pages_held claims.held)

  kind_is : kind ≡ h.kind
  kind_is = ap kind_held r.held

  pages_are : pages_held claims.held ≡ map (λ p. p.page) h.lent.value.parts
  pages_are = ap pages_held r.held

  many : n ≡ length h.lent.value.parts
  many = ap length r.parts ∙ length-after op done.landed h.lent.value.parts

  bytes_many : length bytes ≡ n
  bytes_many = ap (λ l. length (map (λ (p : Page). p.bytes) l)) pages_are ∙ length-page_bytes h.lent.value.parts ∙ sym many

  -- of blocks that were lent for a caller's own pages
  abbrev direct_entry : Entry
  direct_entry = record { caller = claims.caller; event = DirectBack by op back.ticket back.block kind bytes done; outcome = Finished }

  direct_tells : TellsBack size by op (Direct by op) back done kind h claims.caller direct_entry
  direct_tells = record {
    caller_is = refl;
    outside = λ b x out. content_outside op back.block kind bytes done b x (out_of_run back.block n b (length bytes) bytes_many out);
    inside = λ k p x l at around.
        content_inside op back.block k kind bytes done p.page.bytes x (ap (λ ps. slice_get (map (λ (q : Page). q.bytes) ps) k) pages_are ∙ bytes-at k h.lent.value.parts p at);
    stays = λ b s out. ap (λ m. if in_run back.block m b then directly_back op done.failed s else s) bytes_many ∙ ap (λ u. if u then directly_back op done.failed s else s) out;
    becomes = λ b s met. ap (λ m. if in_run back.block m b then directly_back op done.failed s else s) bytes_many ∙ ap (λ u. if u then directly_back op done.failed s else s) met;
    failed = refl;
    lent = refl;
    changed = refl;
    stamps = ap (λ m. direct_stamps by op back.block kind m done) bytes_many;
    sample = λ v. tt;
    found_out = λ b s out. if_none (in_run back.block (length bytes) b) _ (ap (λ m. in_run back.block m b) bytes_many ∙ out);
    found_in = λ k s l gone is.
        if_any (in_run back.block (length bytes) (back.block + k)) _
        (both (is_out back.ticket (Direct by op) s.away) _ gone (kind-found kind h.kind s.kind back.block k (sym kind_is) is));
  }

-- of a block that was lent for a write of a part of it
module _ (size : ℕ) (by : Tag) (from last : ℕ) (back : Lent) (done : Done) (h : Held) (claims : ClaimsView) (r : IsReturn claims h Write back done) (alone : length back.parts ≡ 1) where
  abbrev told : Kind
  told = kind_held claims.held

  abbrev part_bytes : List ℕ
  part_bytes = bytes_of_part size from last back.block (first_bytes (pages_held claims.held))

  abbrev part_entry : Entry
  part_entry = record { caller = claims.caller; event = PartBack by back.ticket back.block told from last part_bytes done; outcome = Finished }

  one_block : (b : ℕ) → in_run back.block 1 b ≡ in_run back.block (length back.parts) b
  one_block b = ap (λ m. in_run back.block m b) (sym alone)

  first_one : (k : ℕ) → k < length back.parts → k ≡ 0
  first_one k l = omega arith

  -- where the write arrived, the content is the page's
  part_inside : (k : ℕ) (p : Part) (x : Content) → k < length back.parts → slice_get h.lent.value.parts k ≡ Some p → IsAround size (back.block + k) x h.lent.value p.page (InPart by from last)
      → content_after size (back.block + k) x part_entry ≡ content_then Write told done k p.page.bytes x
  part_inside k p x l at around =
      let none : k ≡ 0 = first_one k l in
      let b : ℕ = back.block + k in
      let met : in_run back.block 1 b ≡ true = in_run-true back.block 1 b (omega arith) (omega arith) in
      let there : slice_get h.lent.value.parts 0 ≡ Some p = ap (slice_get h.lent.value.parts) (sym none) ∙ at in
      let first : first_bytes (pages_held claims.held) ≡ p.page.bytes = ap (λ o. first_bytes (pages_held o)) r.held ∙ first-bytes h.lent.value.parts p there in
      let place : back.block ≡ b = omega arith in
      let same : part_bytes ≡ bytes_of_part size from last b p.page.bytes = ap (bytes_of_part size from last back.block) first ∙ ap (λ m. bytes_of_part size from last m p.page.bytes) place in
      let page : overlaid size from last part_bytes b x ≡ p.page.bytes = ap (λ bs. overlaid size from last bs b x) same ∙ sym around.around in
      ap (λ u. if u then (if has_arrived told done 0 then overlaid size from last part_bytes b x else x) else x) met
      ∙ ap (λ j. if has_arrived told done j then overlaid size from last part_bytes b x else x) (sym none) ∙ ap (λ y. if has_arrived told done k then y else x) page

  part_tells : TellsBack size by Write (InPart by from last) back done told h claims.caller part_entry
  part_tells = record {
    caller_is = refl;
    outside = λ b x out. ap (λ u. if u then (if has_arrived told done 0 then overlaid size from last part_bytes b x else x) else x) (one_block b ∙ out);
    inside = part_inside;
    stays = λ b s out. ap (λ u. if u then directly_back Write done.failed s else s) (one_block b ∙ out);
    becomes = λ b s met. ap (λ u. if u then directly_back Write done.failed s else s) (one_block b ∙ met);
    failed = refl;
    lent = refl;
    changed = refl;
    stamps = ap (λ m. direct_stamps by Write back.block told m done) (sym alone);
    sample = λ v. tt;
    found_out = λ b s out. if_none (in_run back.block 1 b) _ (one_block b ∙ out);
    found_in = λ k s l gone is.
        let kind : s.kind ≡ told = sym is ∙ ap (kind_after h.kind) (first_one k l) ∙ kind_after-zero h.kind ∙ sym (ap kind_held r.held) in
        if_any (in_run back.block 1 (back.block + k)) _ (both (is_out back.ticket (InPart by from last) s.away) _ gone (ap (is_kind told) kind ∙ is_kind-same told));
  }

-- whichever it was
pub tells_back : (size : ℕ) (by : Tag) (op : Op) (lender : Lender) (back : Lent) (done : Done) (h : Held) (claims : ClaimsView) → IsLentTo by op lender → IsReturn claims h op back done → IsAlone (length back.parts) lender
    → TellsBack size by op lender back done (kind_held claims.held) h claims.caller (record { caller = claims.caller; event = back_event size by op back claims.held done lender; outcome = Finished })
tells_back size by op Reading back done h claims to r alone = absurd to
tells_back size by op Writeback back done h claims to r alone = absurd to
tells_back size by op (Direct tag way) back done h claims to r alone =
    let entry : Entry = direct_entry size by op back done h claims r in
    let T : Tag → Type 0 = λ t. TellsBack size by op (Direct t op) back done (kind_held claims.held) h claims.caller entry in
    let W : Op → Type 0 = λ o. TellsBack size by op (Direct tag o) back done (kind_held claims.held) h claims.caller entry in
    subst W (sym to.1) (subst T (sym to.0) (direct_tells size by op back done h claims r))
tells_back size by op (InPart tag from last) back done h claims to r alone =
    let R : Op → Type 0 = λ o. IsReturn claims h o back done in
    let write : IsReturn claims h Write back done = subst R to.1 r in
    let entry : Entry = part_entry size by from last back done h claims write alone in
    let T : Tag → Type 0 = λ t. TellsBack size by Write (InPart t from last) back done (kind_held claims.held) h claims.caller entry in
    let W : Op → Type 0 = λ o. TellsBack size by o (InPart tag from last) back done (kind_held claims.held) h claims.caller entry in
    subst W (sym to.1) (subst T (sym to.0) (part_tells size by from last back done h claims write alone))
