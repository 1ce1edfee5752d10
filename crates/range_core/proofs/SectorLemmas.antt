-- A block that has a sector keeps it until it is wiped.
use Rattle.std.proofs.Common.{◌≡◌, ℕ, Bool, true, false, ◌&&◌, not, if◌then◌else◌, Option, Some, None, [], ◌∷◌, length, is_some, refl, sym, ◌∙◌, ap}
use Rattle.std.proofs.lemmas.Bool.{and_parts}
use Rattle.iob_base.specs.declared.stamp.Op.TheVariants.{Read, Write}
use Rattle.io_model.specs.declared.file.Kind.{Kind}
use Rattle.io_model.specs.declared.file.Kind.TheVariants.{Hole, Delalloc, Unwritten, Mapped}
use Rattle.range_core.specs.BlockStates.{BlockState, at_home_again, becomes_hole, directly_back, is_zero_already, lent_clean, lent_for, put_through, state_after, state_by, taken_by, with_space, written_back, becomes_dirty, becomes_uptodate, lent_directly, lent_in_part, read_back, without_page}
use Rattle.range_core.specs.Happened.{fits_by, found_by, lawful_from, took_just}
use Rattle.range_core.specs.Kinds.{has_space, is_delalloc, is_hole, is_mapped, written_kind}
use Rattle.range_core.specs.Lasting.{KeepsSector, SectorsLast, is_unwiped, wipes}
use Rattle.range_core.specs.Spots.{in_run, is_met}
use Rattle.range_core.specs.declared.entry.Event.{Event}
use Rattle.range_core.specs.declared.entry.Event.TheVariants.{Sample, Reserve, Unreserve, Attach, Preallocate, Fetch, LendRead, FillBack, Store, StoreZeros, LendWriteback, WrittenBack, DropClean, LendDirect, LendPart, DirectBack, PartBack, DirectNow, Wipe, DaxGet, DaxPut, DaxZero}
use Rattle.range_core.specs.declared.entry.Outcome.{Outcome}
use Rattle.range_core.specs.declared.entry.Outcome.TheVariants.{Refused, Sampled, Counted, Took, Lending, Finished}
use Rattle.range_core.specs.declared.lending.Lender.TheVariants.{Reading}

stays : (k : Kind) → KeepsSector k k
stays k = record { number = refl; mapped = λ m. m }

written_keeps : (k : Kind) → has_space k ≡ true → KeepsSector k (written_kind k)
written_keeps Hole space = absurd (cc)
written_keeps Delalloc space = absurd (cc)
written_keeps (Unwritten d) space = record { number = refl; mapped = λ m. refl }
written_keeps (Mapped d) space = stays (Mapped d)

-- a block with space is no hole, and needs no promise
hole_space : {A : Type 0} (k : Kind) → is_hole k ≡ true → has_space k ≡ true → A
hole_space Hole h space = absurd (cc)
hole_space Delalloc h space = absurd (cc)
hole_space (Unwritten d) h space = absurd (cc)
hole_space (Mapped d) h space = absurd (cc)

promised_space : {A : Type 0} (k : Kind) → is_delalloc k ≡ true → has_space k ≡ true → A
promised_space Hole h space = absurd (cc)
promised_space Delalloc h space = absurd (cc)
promised_space (Unwritten d) h space = absurd (cc)
promised_space (Mapped d) h space = absurd (cc)

if_keeps : (t : Bool) (x s : BlockState) → KeepsSector s.kind x.kind → KeepsSector s.kind (if t then x else s).kind
if_keeps true x s k = k
if_keeps false x s k = stays s.kind

spared : (t : Bool) (x s : BlockState) → t ≡ false → KeepsSector s.kind (if t then x else s).kind
spared true x s e = absurd (cc)
spared false x s e = stays s.kind

hole_keeps : (t : Bool) (x s : BlockState) → (if t then is_hole s.kind else true) ≡ true → has_space s.kind ≡ true → KeepsSector s.kind (if t then x else s).kind
hole_keeps true x s found space = hole_space s.kind found space
hole_keeps false x s found space = stays s.kind

promise_keeps : (t clean : Bool) (s : BlockState) → has_space s.kind ≡ true → KeepsSector s.kind (if t && (is_delalloc s.kind && clean) then becomes_hole s else s).kind
promise_keeps t clean s space = at (t && (is_delalloc s.kind && clean)) refl
  where
    at : (u : Bool) → (t && (is_delalloc s.kind && clean)) ≡ u → KeepsSector s.kind (if u then becomes_hole s else s).kind
    at true e = let p = and_parts t (is_delalloc s.kind && clean) e in let q = and_parts (is_delalloc s.kind) clean p.1 in promised_space s.kind q.0 space
    at false e = stays s.kind

-- no sector is taken where there is one
took_keeps : (t : Bool) (o : Option ℕ) (s : BlockState) → (t ≡ true → KeepsSector s.kind (with_space o s).kind) → took_just t o ≡ true → KeepsSector s.kind (with_space o s).kind
took_keeps t None s none found = stays s.kind
took_keeps t (Some d) s none found = none found

read_keeps : (failed : Bool) (s : BlockState) → KeepsSector s.kind (read_back failed s).kind
read_keeps true s = stays s.kind
read_keeps false s = stays s.kind

back_keeps : (failed : Bool) (s : BlockState) → has_space s.kind ≡ true → KeepsSector s.kind (written_back failed s).kind
back_keeps true s space = stays s.kind
back_keeps false s space = written_keeps s.kind space

direct_keeps : (failed : Bool) (s : BlockState) → has_space s.kind ≡ true → KeepsSector s.kind (directly_back Write failed s).kind
direct_keeps true s space = stays s.kind
direct_keeps false s space = written_keeps s.kind space

put_keeps : (t : Bool) (o : Option ℕ) (s : BlockState) → has_space s.kind ≡ true → took_just (t && is_hole s.kind) o ≡ true → KeepsSector s.kind (put_through o s).kind
put_keeps t None s space found = written_keeps s.kind space
put_keeps t (Some d) s space found = let p = and_parts t (is_hole s.kind) found in hole_space s.kind p.1 space

keeps : (size b : ℕ) (s : BlockState) (event : Event) (outcome : Outcome) → found_by size b event outcome s ≡ true → wipes b event outcome ≡ false → has_space s.kind ≡ true → KeepsSector s.kind (state_by size b event outcome s).kind
keeps size b s (Sample a0 a1) o found kept space = stays s.kind
keeps size b s (Reserve seen n) (Refused f) found kept space = stays s.kind
keeps size b s (Reserve seen n) (Sampled g) found kept space = hole_keeps (in_run g.extent.block g.extent.length b) (record s { kind = Delalloc }) s found space
keeps size b s (Reserve seen n) (Counted m) found kept space = absurd (cc)
keeps size b s (Reserve seen n) (Took t) found kept space = absurd (cc)
keeps size b s (Reserve seen n) (Lending t m) found kept space = absurd (cc)
keeps size b s (Reserve seen n) Finished found kept space = absurd (cc)
keeps size b s (Unreserve block n) (Refused f) found kept space = stays s.kind
keeps size b s (Unreserve block n) (Sampled g) found kept space = absurd (cc)
keeps size b s (Unreserve block n) (Counted m) found kept space = promise_keeps (in_run block n b) (not s.dirty) s space
keeps size b s (Unreserve block n) (Took t) found kept space = absurd (cc)
keeps size b s (Unreserve block n) (Lending t m) found kept space = absurd (cc)
keeps size b s (Unreserve block n) Finished found kept space = absurd (cc)
keeps size b s (Attach block n) (Refused f) found kept space = stays s.kind
keeps size b s (Attach block n) (Sampled g) found kept space = absurd (cc)
keeps size b s (Attach block n) (Counted m) found kept space = absurd (cc)
keeps size b s (Attach block n) (Took t) found kept space = took_keeps (in_run block n b && (is_delalloc s.kind && s.dirty)) (taken_by b t) s (λ u. let p = and_parts (in_run block n b) (is_delalloc s.kind && s.dirty) u in let q = and_parts (is_delalloc s.kind) s.dirty p.1 in promised_space s.kind q.0 space) found
keeps size b s (Attach block n) (Lending t m) found kept space = absurd (cc)
keeps size b s (Attach block n) Finished found kept space = absurd (cc)
keeps size b s (Preallocate block n) (Refused f) found kept space = stays s.kind
keeps size b s (Preallocate block n) (Sampled g) found kept space = absurd (cc)
keeps size b s (Preallocate block n) (Counted m) found kept space = absurd (cc)
keeps size b s (Preallocate block n) (Took t) found kept space = took_keeps (in_run block n b && not (has_space s.kind)) (taken_by b t) s (λ u. let p = and_parts (in_run block n b) (not (has_space s.kind)) u in let e : not true ≡ true = ap not (sym space) ∙ p.1 in absurd (cc)) found
keeps size b s (Preallocate block n) (Lending t m) found kept space = absurd (cc)
keeps size b s (Preallocate block n) Finished found kept space = absurd (cc)
keeps size b s (Fetch by from to) (Refused f) found kept space = stays s.kind
keeps size b s (Fetch by from to) (Sampled g) found kept space = absurd (cc)
keeps size b s (Fetch by from to) (Counted m) found kept space = absurd (cc)
keeps size b s (Fetch by from to) (Took t) found kept space = absurd (cc)
keeps size b s (Fetch by from to) (Lending t m) found kept space = absurd (cc)
keeps size b s (Fetch by from to) Finished found kept space = if_keeps (is_met size from to b) (becomes_uptodate s) s (stays s.kind)
keeps size b s (LendRead block n) (Refused f) found kept space = stays s.kind
keeps size b s (LendRead block n) (Sampled g) found kept space = absurd (cc)
keeps size b s (LendRead block n) (Counted m) found kept space = absurd (cc)
keeps size b s (LendRead block n) (Took t) found kept space = absurd (cc)
keeps size b s (LendRead block n) (Lending t m) found kept space = if_keeps (in_run block m b) (lent_for Reading t s) s (stays s.kind)
keeps size b s (LendRead block n) Finished found kept space = absurd (cc)
keeps size b s (FillBack ticket block n done) (Refused f) found kept space = stays s.kind
keeps size b s (FillBack ticket block n done) (Sampled g) found kept space = absurd (cc)
keeps size b s (FillBack ticket block n done) (Counted m) found kept space = absurd (cc)
keeps size b s (FillBack ticket block n done) (Took t) found kept space = absurd (cc)
keeps size b s (FillBack ticket block n done) (Lending t m) found kept space = absurd (cc)
keeps size b s (FillBack ticket block n done) Finished found kept space = if_keeps (in_run block n b) (read_back done.failed s) s (read_keeps done.failed s)
keeps size b s (Store by seen from to bytes) (Refused f) found kept space = stays s.kind
keeps size b s (Store by seen from to bytes) (Sampled g) found kept space = absurd (cc)
keeps size b s (Store by seen from to bytes) (Counted m) found kept space = absurd (cc)
keeps size b s (Store by seen from to bytes) (Took t) found kept space = absurd (cc)
keeps size b s (Store by seen from to bytes) (Lending t m) found kept space = absurd (cc)
keeps size b s (Store by seen from to bytes) Finished found kept space = if_keeps (is_met size from to b) (becomes_dirty s) s (stays s.kind)
keeps size b s (StoreZeros by seen from to) (Refused f) found kept space = stays s.kind
keeps size b s (StoreZeros by seen from to) (Sampled g) found kept space = absurd (cc)
keeps size b s (StoreZeros by seen from to) (Counted m) found kept space = absurd (cc)
keeps size b s (StoreZeros by seen from to) (Took t) found kept space = absurd (cc)
keeps size b s (StoreZeros by seen from to) (Lending t m) found kept space = absurd (cc)
keeps size b s (StoreZeros by seen from to) Finished found kept space = if_keeps (is_met size from to b && not (is_zero_already s)) (becomes_dirty s) s (stays s.kind)
keeps size b s (LendWriteback block n) (Refused f) found kept space = stays s.kind
keeps size b s (LendWriteback block n) (Sampled g) found kept space = absurd (cc)
keeps size b s (LendWriteback block n) (Counted m) found kept space = absurd (cc)
keeps size b s (LendWriteback block n) (Took t) found kept space = absurd (cc)
keeps size b s (LendWriteback block n) (Lending t m) found kept space = if_keeps (in_run block m b) (lent_clean t s) s (stays s.kind)
keeps size b s (LendWriteback block n) Finished found kept space = absurd (cc)
keeps size b s (WrittenBack ticket block kind n done) (Refused f) found kept space = stays s.kind
keeps size b s (WrittenBack ticket block kind n done) (Sampled g) found kept space = absurd (cc)
keeps size b s (WrittenBack ticket block kind n done) (Counted m) found kept space = if_keeps (in_run block n b) (written_back done.failed s) s (back_keeps done.failed s space)
keeps size b s (WrittenBack ticket block kind n done) (Took t) found kept space = absurd (cc)
keeps size b s (WrittenBack ticket block kind n done) (Lending t m) found kept space = absurd (cc)
keeps size b s (WrittenBack ticket block kind n done) Finished found kept space = absurd (cc)
keeps size b s (DropClean block n) (Refused f) found kept space = stays s.kind
keeps size b s (DropClean block n) (Sampled g) found kept space = absurd (cc)
keeps size b s (DropClean block n) (Counted m) found kept space = if_keeps (in_run block n b && (not s.dirty && not (is_some s.away))) (without_page s) s (stays s.kind)
keeps size b s (DropClean block n) (Took t) found kept space = absurd (cc)
keeps size b s (DropClean block n) (Lending t m) found kept space = absurd (cc)
keeps size b s (DropClean block n) Finished found kept space = absurd (cc)
keeps size b s (LendDirect by seen op block n) (Refused f) found kept space = stays s.kind
keeps size b s (LendDirect by seen op block n) (Sampled g) found kept space = absurd (cc)
keeps size b s (LendDirect by seen op block n) (Counted m) found kept space = absurd (cc)
keeps size b s (LendDirect by seen op block n) (Took t) found kept space = absurd (cc)
keeps size b s (LendDirect by seen op block n) (Lending t m) found kept space = if_keeps (in_run block n b) (lent_directly by op t s) s (stays s.kind)
keeps size b s (LendDirect by seen op block n) Finished found kept space = stays s.kind
keeps size b s (LendPart by seen block from to) (Refused f) found kept space = stays s.kind
keeps size b s (LendPart by seen block from to) (Sampled g) found kept space = absurd (cc)
keeps size b s (LendPart by seen block from to) (Counted m) found kept space = absurd (cc)
keeps size b s (LendPart by seen block from to) (Took t) found kept space = absurd (cc)
keeps size b s (LendPart by seen block from to) (Lending t m) found kept space = if_keeps (in_run block 1 b) (lent_in_part by from to t s) s (stays s.kind)
keeps size b s (LendPart by seen block from to) Finished found kept space = absurd (cc)
keeps size b s (DirectBack by Read ticket block kind pages done) (Refused f) found kept space = stays s.kind
keeps size b s (DirectBack by Read ticket block kind pages done) (Sampled g) found kept space = absurd (cc)
keeps size b s (DirectBack by Read ticket block kind pages done) (Counted m) found kept space = absurd (cc)
keeps size b s (DirectBack by Read ticket block kind pages done) (Took t) found kept space = absurd (cc)
keeps size b s (DirectBack by Read ticket block kind pages done) (Lending t m) found kept space = absurd (cc)
keeps size b s (DirectBack by Read ticket block kind pages done) Finished found kept space = if_keeps (in_run block (length pages) b) (at_home_again s) s (stays s.kind)
keeps size b s (DirectBack by Write ticket block kind pages done) (Refused f) found kept space = stays s.kind
keeps size b s (DirectBack by Write ticket block kind pages done) (Sampled g) found kept space = absurd (cc)
keeps size b s (DirectBack by Write ticket block kind pages done) (Counted m) found kept space = absurd (cc)
keeps size b s (DirectBack by Write ticket block kind pages done) (Took t) found kept space = absurd (cc)
keeps size b s (DirectBack by Write ticket block kind pages done) (Lending t m) found kept space = absurd (cc)
keeps size b s (DirectBack by Write ticket block kind pages done) Finished found kept space = if_keeps (in_run block (length pages) b) (directly_back Write done.failed s) s (direct_keeps done.failed s space)
keeps size b s (PartBack by ticket block kind from to bytes done) (Refused f) found kept space = stays s.kind
keeps size b s (PartBack by ticket block kind from to bytes done) (Sampled g) found kept space = absurd (cc)
keeps size b s (PartBack by ticket block kind from to bytes done) (Counted m) found kept space = absurd (cc)
keeps size b s (PartBack by ticket block kind from to bytes done) (Took t) found kept space = absurd (cc)
keeps size b s (PartBack by ticket block kind from to bytes done) (Lending t m) found kept space = absurd (cc)
keeps size b s (PartBack by ticket block kind from to bytes done) Finished found kept space = if_keeps (in_run block 1 b) (directly_back Write done.failed s) s (direct_keeps done.failed s space)
keeps size b s (DirectNow by block most) (Refused f) found kept space = stays s.kind
keeps size b s (DirectNow by block most) (Sampled g) found kept space = absurd (cc)
keeps size b s (DirectNow by block most) (Counted m) found kept space = if_keeps (in_run block m b && is_mapped s.kind) (without_page s) s (stays s.kind)
keeps size b s (DirectNow by block most) (Took t) found kept space = absurd (cc)
keeps size b s (DirectNow by block most) (Lending t m) found kept space = absurd (cc)
keeps size b s (DirectNow by block most) Finished found kept space = absurd (cc)
keeps size b s (Wipe by block n) (Refused f) found kept space = stays s.kind
keeps size b s (Wipe by block n) (Sampled g) found kept space = absurd (cc)
keeps size b s (Wipe by block n) (Counted m) found kept space = spared (in_run block n b) (becomes_hole s) s kept
keeps size b s (Wipe by block n) (Took t) found kept space = absurd (cc)
keeps size b s (Wipe by block n) (Lending t m) found kept space = absurd (cc)
keeps size b s (Wipe by block n) Finished found kept space = absurd (cc)
keeps size b s (DaxGet a0 a1 a2 a3) o found kept space = stays s.kind
keeps size b s (DaxPut by seen from to bytes) (Refused f) found kept space = stays s.kind
keeps size b s (DaxPut by seen from to bytes) (Sampled g) found kept space = absurd (cc)
keeps size b s (DaxPut by seen from to bytes) (Counted m) found kept space = absurd (cc)
keeps size b s (DaxPut by seen from to bytes) (Took t) found kept space = if_keeps (is_met size from to b) (put_through (taken_by b t) s) s (put_keeps (is_met size from to b) (taken_by b t) s space (and_parts (took_just (is_met size from to b && is_hole s.kind) (taken_by b t)) _ found).0)
keeps size b s (DaxPut by seen from to bytes) (Lending t m) found kept space = absurd (cc)
keeps size b s (DaxPut by seen from to bytes) Finished found kept space = absurd (cc)
keeps size b s (DaxZero a0 a1 a2 a3) o found kept space = stays s.kind

not_not : (t : Bool) → not t ≡ true → t ≡ false
not_not true e = absurd (cc)
not_not false e = refl

pub sectors_last : SectorsLast
sectors_last size b s [] lawful unwiped space = stays s.kind
sectors_last size b s (e ∷ history) lawful unwiped space =
    let p = and_parts (fits_by size b e s) (lawful_from size b (state_after size b s e) history) lawful in
    let q = and_parts (not (wipes b e.event e.outcome)) (is_unwiped b history) unwiped in
    let now = keeps size b s e.event e.outcome p.0 (not_not (wipes b e.event e.outcome) q.0) space in
    let later = sectors_last size b (state_after size b s e) history p.1 q.1 (ap is_some now.number ∙ space) in
    record { number = later.number ∙ now.number; mapped = λ m. later.mapped (now.mapped m) }
