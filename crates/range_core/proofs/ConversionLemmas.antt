-- What makes a block mapped.
use Rattle.std.proofs.Common.{◌≡◌, ℕ, Bool, true, false, ◌&&◌, not, Option, Some, None, if◌then◌else◌, length, refl}
use Rattle.iob_base.specs.declared.stamp.Op.TheVariants.{Read, Write}
use Rattle.io_model.specs.declared.file.Kind.{Kind}
use Rattle.io_model.specs.declared.file.Kind.TheVariants.{Delalloc}
use Rattle.range_core.specs.BlockStates.{BlockState, at_home_again, becomes_hole, directly_back, is_zero_already, lent_clean, lent_for, put_through, state_by, taken_by, with_space, written_back, becomes_dirty, lent_directly, lent_in_part, read_back, becomes_uptodate, without_page}
use Rattle.range_core.specs.Conversions.{OnlyWritesMap, writes_out}
use Rattle.range_core.specs.Kinds.{is_delalloc, is_mapped}
use Rattle.range_core.specs.Spots.{in_run, is_met}
use Rattle.range_core.specs.declared.entry.Event.{Event}
use Rattle.range_core.specs.declared.entry.Event.TheVariants.{Sample, Reserve, Unreserve, Attach, Preallocate, Fetch, LendRead, FillBack, Store, StoreZeros, LendWriteback, WrittenBack, DropClean, LendDirect, LendPart, DirectBack, PartBack, DirectNow, Wipe, DaxGet, DaxPut, DaxZero}
use Rattle.range_core.specs.declared.entry.Outcome.{Outcome}
use Rattle.range_core.specs.declared.entry.Outcome.TheVariants.{Refused, Sampled, Counted, Took, Lending, Finished}
use Rattle.range_core.specs.declared.lending.Lender.TheVariants.{Reading}
use Rattle.std.specs.Prelude.{is_some}

-- no block both is and is not mapped
never : (k : Kind) (t : Bool) → is_mapped k ≡ false → is_mapped k ≡ true → t ≡ true
never k t is_not is = absurd (cc)

unmapped_if : (t : Bool) (x s : BlockState) → is_mapped x.kind ≡ false → is_mapped s.kind ≡ false → is_mapped (if t then x else s).kind ≡ false
unmapped_if true x s e was = e
unmapped_if false x s e was = was

-- space that was just taken was never written
unmapped_space : (taken : Option ℕ) (s : BlockState) → is_mapped s.kind ≡ false → is_mapped (with_space taken s).kind ≡ false
unmapped_space None s was = was
unmapped_space (Some d) s was = refl

unmapped_read : (failed : Bool) (s : BlockState) → is_mapped s.kind ≡ false → is_mapped (read_back failed s).kind ≡ false
unmapped_read true s was = was
unmapped_read false s was = was

came_back : (met failed : Bool) (s : BlockState) → is_mapped s.kind ≡ false → is_mapped (if met then written_back failed s else s).kind ≡ true → (met && not failed) ≡ true
came_back true true s was now = never s.kind false was now
came_back true false s was now = refl
came_back false failed s was now = never s.kind false was now

directly : (met failed : Bool) (s : BlockState) → is_mapped s.kind ≡ false → is_mapped (if met then directly_back Write failed s else s).kind ≡ true → (met && not failed) ≡ true
directly true true s was now = never s.kind false was now
directly true false s was now = refl
directly false failed s was now = never s.kind false was now

went_through : (met : Bool) (taken : Option ℕ) (s : BlockState) → is_mapped s.kind ≡ false → is_mapped (if met then put_through taken s else s).kind ≡ true → met ≡ true
went_through true taken s was now = refl
went_through false taken s was now = never s.kind false was now

maps : (size b : ℕ) (s : BlockState) (event : Event) (outcome : Outcome) → is_mapped s.kind ≡ false → is_mapped (state_by size b event outcome s).kind ≡ true → writes_out size b event outcome ≡ true
maps size b s (Sample a0 a1) o was now = never _ _ was now
maps size b s (Reserve seen n) (Refused f) was now = never _ _ was now
maps size b s (Reserve seen n) (Sampled g) was now = never _ _ (unmapped_if (in_run g.extent.block g.extent.length b) (record s { kind = Delalloc }) s refl was) now
maps size b s (Reserve seen n) (Counted m) was now = never _ _ was now
maps size b s (Reserve seen n) (Took t) was now = never _ _ was now
maps size b s (Reserve seen n) (Lending t m) was now = never _ _ was now
maps size b s (Reserve seen n) Finished was now = never _ _ was now
maps size b s (Unreserve block n) (Refused f) was now = never _ _ was now
maps size b s (Unreserve block n) (Sampled g) was now = never _ _ was now
maps size b s (Unreserve block n) (Counted m) was now = never _ _ (unmapped_if (in_run block n b && (is_delalloc s.kind && not s.dirty)) (becomes_hole s) s refl was) now
maps size b s (Unreserve block n) (Took t) was now = never _ _ was now
maps size b s (Unreserve block n) (Lending t m) was now = never _ _ was now
maps size b s (Unreserve block n) Finished was now = never _ _ was now
maps size b s (Attach block n) (Refused f) was now = never _ _ was now
maps size b s (Attach block n) (Sampled g) was now = never _ _ was now
maps size b s (Attach block n) (Counted m) was now = never _ _ was now
maps size b s (Attach block n) (Took t) was now = never _ _ (unmapped_space (taken_by b t) s was) now
maps size b s (Attach block n) (Lending t m) was now = never _ _ was now
maps size b s (Attach block n) Finished was now = never _ _ was now
maps size b s (Preallocate block n) (Refused f) was now = never _ _ was now
maps size b s (Preallocate block n) (Sampled g) was now = never _ _ was now
maps size b s (Preallocate block n) (Counted m) was now = never _ _ was now
maps size b s (Preallocate block n) (Took t) was now = never _ _ (unmapped_space (taken_by b t) s was) now
maps size b s (Preallocate block n) (Lending t m) was now = never _ _ was now
maps size b s (Preallocate block n) Finished was now = never _ _ was now
maps size b s (Fetch by from to) (Refused f) was now = never _ _ was now
maps size b s (Fetch by from to) (Sampled g) was now = never _ _ was now
maps size b s (Fetch by from to) (Counted m) was now = never _ _ was now
maps size b s (Fetch by from to) (Took t) was now = never _ _ was now
maps size b s (Fetch by from to) (Lending t m) was now = never _ _ was now
maps size b s (Fetch by from to) Finished was now = never _ _ (unmapped_if (is_met size from to b) (becomes_uptodate s) s was was) now
maps size b s (LendRead block n) (Refused f) was now = never _ _ was now
maps size b s (LendRead block n) (Sampled g) was now = never _ _ was now
maps size b s (LendRead block n) (Counted m) was now = never _ _ was now
maps size b s (LendRead block n) (Took t) was now = never _ _ was now
maps size b s (LendRead block n) (Lending t m) was now = never _ _ (unmapped_if (in_run block m b) (lent_for Reading t s) s was was) now
maps size b s (LendRead block n) Finished was now = never _ _ was now
maps size b s (FillBack ticket block n done) (Refused f) was now = never _ _ was now
maps size b s (FillBack ticket block n done) (Sampled g) was now = never _ _ was now
maps size b s (FillBack ticket block n done) (Counted m) was now = never _ _ was now
maps size b s (FillBack ticket block n done) (Took t) was now = never _ _ was now
maps size b s (FillBack ticket block n done) (Lending t m) was now = never _ _ was now
maps size b s (FillBack ticket block n done) Finished was now = never _ _ (unmapped_if (in_run block n b) (read_back done.failed s) s (unmapped_read done.failed s was) was) now
maps size b s (Store by seen from to bytes) (Refused f) was now = never _ _ was now
maps size b s (Store by seen from to bytes) (Sampled g) was now = never _ _ was now
maps size b s (Store by seen from to bytes) (Counted m) was now = never _ _ was now
maps size b s (Store by seen from to bytes) (Took t) was now = never _ _ was now
maps size b s (Store by seen from to bytes) (Lending t m) was now = never _ _ was now
maps size b s (Store by seen from to bytes) Finished was now = never _ _ (unmapped_if (is_met size from to b) (becomes_dirty s) s was was) now
maps size b s (StoreZeros by seen from to) (Refused f) was now = never _ _ was now
maps size b s (StoreZeros by seen from to) (Sampled g) was now = never _ _ was now
maps size b s (StoreZeros by seen from to) (Counted m) was now = never _ _ was now
maps size b s (StoreZeros by seen from to) (Took t) was now = never _ _ was now
maps size b s (StoreZeros by seen from to) (Lending t m) was now = never _ _ was now
maps size b s (StoreZeros by seen from to) Finished was now = never _ _ (unmapped_if (is_met size from to b && not (is_zero_already s)) (becomes_dirty s) s was was) now
maps size b s (LendWriteback block n) (Refused f) was now = never _ _ was now
maps size b s (LendWriteback block n) (Sampled g) was now = never _ _ was now
maps size b s (LendWriteback block n) (Counted m) was now = never _ _ was now
maps size b s (LendWriteback block n) (Took t) was now = never _ _ was now
maps size b s (LendWriteback block n) (Lending t m) was now = never _ _ (unmapped_if (in_run block m b) (lent_clean t s) s was was) now
maps size b s (LendWriteback block n) Finished was now = never _ _ was now
maps size b s (WrittenBack ticket block kind n done) (Refused f) was now = never _ _ was now
maps size b s (WrittenBack ticket block kind n done) (Sampled g) was now = never _ _ was now
maps size b s (WrittenBack ticket block kind n done) (Counted m) was now = came_back (in_run block n b) done.failed s was now
maps size b s (WrittenBack ticket block kind n done) (Took t) was now = never _ _ was now
maps size b s (WrittenBack ticket block kind n done) (Lending t m) was now = never _ _ was now
maps size b s (WrittenBack ticket block kind n done) Finished was now = never _ _ was now
maps size b s (DropClean block n) (Refused f) was now = never _ _ was now
maps size b s (DropClean block n) (Sampled g) was now = never _ _ was now
maps size b s (DropClean block n) (Counted m) was now = never _ _ (unmapped_if (in_run block n b && (not s.dirty && not (is_some s.away))) (without_page s) s was was) now
maps size b s (DropClean block n) (Took t) was now = never _ _ was now
maps size b s (DropClean block n) (Lending t m) was now = never _ _ was now
maps size b s (DropClean block n) Finished was now = never _ _ was now
maps size b s (LendDirect by seen op block n) (Refused f) was now = never _ _ was now
maps size b s (LendDirect by seen op block n) (Sampled g) was now = never _ _ was now
maps size b s (LendDirect by seen op block n) (Counted m) was now = never _ _ was now
maps size b s (LendDirect by seen op block n) (Took t) was now = never _ _ was now
maps size b s (LendDirect by seen op block n) (Lending t m) was now = never _ _ (unmapped_if (in_run block n b) (lent_directly by op t s) s was was) now
maps size b s (LendDirect by seen op block n) Finished was now = never _ _ was now
maps size b s (LendPart by seen block from to) (Refused f) was now = never _ _ was now
maps size b s (LendPart by seen block from to) (Sampled g) was now = never _ _ was now
maps size b s (LendPart by seen block from to) (Counted m) was now = never _ _ was now
maps size b s (LendPart by seen block from to) (Took t) was now = never _ _ was now
maps size b s (LendPart by seen block from to) (Lending t m) was now = never _ _ (unmapped_if (in_run block 1 b) (lent_in_part by from to t s) s was was) now
maps size b s (LendPart by seen block from to) Finished was now = never _ _ was now
maps size b s (DirectBack by Read ticket block kind pages done) (Refused f) was now = never _ _ was now
maps size b s (DirectBack by Read ticket block kind pages done) (Sampled g) was now = never _ _ was now
maps size b s (DirectBack by Read ticket block kind pages done) (Counted m) was now = never _ _ was now
maps size b s (DirectBack by Read ticket block kind pages done) (Took t) was now = never _ _ was now
maps size b s (DirectBack by Read ticket block kind pages done) (Lending t m) was now = never _ _ was now
maps size b s (DirectBack by Read ticket block kind pages done) Finished was now = never _ _ (unmapped_if (in_run block (length pages) b) (at_home_again s) s was was) now
maps size b s (DirectBack by Write ticket block kind pages done) (Refused f) was now = never _ _ was now
maps size b s (DirectBack by Write ticket block kind pages done) (Sampled g) was now = never _ _ was now
maps size b s (DirectBack by Write ticket block kind pages done) (Counted m) was now = never _ _ was now
maps size b s (DirectBack by Write ticket block kind pages done) (Took t) was now = never _ _ was now
maps size b s (DirectBack by Write ticket block kind pages done) (Lending t m) was now = never _ _ was now
maps size b s (DirectBack by Write ticket block kind pages done) Finished was now = directly (in_run block (length pages) b) done.failed s was now
maps size b s (PartBack by ticket block kind from to bytes done) (Refused f) was now = never _ _ was now
maps size b s (PartBack by ticket block kind from to bytes done) (Sampled g) was now = never _ _ was now
maps size b s (PartBack by ticket block kind from to bytes done) (Counted m) was now = never _ _ was now
maps size b s (PartBack by ticket block kind from to bytes done) (Took t) was now = never _ _ was now
maps size b s (PartBack by ticket block kind from to bytes done) (Lending t m) was now = never _ _ was now
maps size b s (PartBack by ticket block kind from to bytes done) Finished was now = directly (in_run block 1 b) done.failed s was now
maps size b s (DirectNow by block most) (Refused f) was now = never _ _ was now
maps size b s (DirectNow by block most) (Sampled g) was now = never _ _ was now
maps size b s (DirectNow by block most) (Counted m) was now = never _ _ (unmapped_if (in_run block m b && is_mapped s.kind) (without_page s) s was was) now
maps size b s (DirectNow by block most) (Took t) was now = never _ _ was now
maps size b s (DirectNow by block most) (Lending t m) was now = never _ _ was now
maps size b s (DirectNow by block most) Finished was now = never _ _ was now
maps size b s (Wipe by block n) (Refused f) was now = never _ _ was now
maps size b s (Wipe by block n) (Sampled g) was now = never _ _ was now
maps size b s (Wipe by block n) (Counted m) was now = never _ _ (unmapped_if (in_run block n b) (becomes_hole s) s refl was) now
maps size b s (Wipe by block n) (Took t) was now = never _ _ was now
maps size b s (Wipe by block n) (Lending t m) was now = never _ _ was now
maps size b s (Wipe by block n) Finished was now = never _ _ was now
maps size b s (DaxGet a0 a1 a2 a3) o was now = never _ _ was now
maps size b s (DaxPut by seen from to bytes) (Refused f) was now = never _ _ was now
maps size b s (DaxPut by seen from to bytes) (Sampled g) was now = never _ _ was now
maps size b s (DaxPut by seen from to bytes) (Counted m) was now = never _ _ was now
maps size b s (DaxPut by seen from to bytes) (Took t) was now = went_through (is_met size from to b) (taken_by b t) s was now
maps size b s (DaxPut by seen from to bytes) (Lending t m) was now = never _ _ was now
maps size b s (DaxPut by seen from to bytes) Finished was now = never _ _ was now
maps size b s (DaxZero a0 a1 a2 a3) o was now = never _ _ was now

pub only_writes_map : OnlyWritesMap
only_writes_map size b s e was now = maps size b s e.event e.outcome was now
