-- A block that is mapped after a history was mapped at first, or a call wrote to it.
use Rattle.std.proofs.Common.{◌≡◌, ℕ, ◌-◌, Bool, true, false, ◌&&◌, ◌||◌, not, if◌then◌else◌, Option, Some, None, List, [], ◌∷◌, length, is_none, is_some, nat_eq, refl, sym, ◌∙◌, ap}
use Rattle.std.proofs.lemmas.Bool.{and_parts}
use Rattle.iob_base.specs.declared.stamp.Op.TheVariants.{Read, Write}
use Rattle.io_model.specs.Kinds.{is_kind, kind_after}
use Rattle.io_model.specs.declared.file.Kind.TheVariants.{Delalloc}
use Rattle.range_core.specs.BlockStates.{BlockState, at_home_again, becomes_hole, directly_back, is_zero_already, lent_clean, lent_for, put_through, state_after, state_by, states_replayed, taken_by, with_space, written_back, becomes_dirty, becomes_uptodate, lent_directly, lent_in_part, read_back, without_page}
use Rattle.range_core.specs.Happened.{fits_by, found_by, is_at_home, is_out, is_same_lender, keeps_page, lawful_from, is_cold_in}
use Rattle.range_core.specs.Kinds.{has_space, is_delalloc, is_mapped}
use Rattle.range_core.specs.Lasting.{MappedWasWritten, is_written, wipes, writes_to, written_after}
use Rattle.range_core.specs.Spots.{in_run, is_met}
use Rattle.range_core.specs.declared.entry.Entry.{Entry}
use Rattle.range_core.specs.declared.entry.Event.{Event}
use Rattle.range_core.specs.declared.entry.Event.TheVariants.{Sample, Reserve, Unreserve, Attach, Preallocate, Fetch, LendRead, FillBack, Store, StoreZeros, LendWriteback, WrittenBack, DropClean, LendDirect, LendPart, DirectBack, PartBack, DirectNow, Wipe, DaxGet, DaxPut, DaxZero}
use Rattle.range_core.specs.declared.entry.Outcome.{Outcome}
use Rattle.range_core.specs.declared.entry.Outcome.TheVariants.{Refused, Sampled, Counted, Took, Lending, Finished}
use Rattle.range_core.specs.declared.lending.Away.{Away}
use Rattle.range_core.specs.declared.lending.Lender.TheVariants.{Reading, Writeback}
use Rattle.range_core.specs.Refusals.{covers_in_part}

abbrev is_out_for_writeback : Option Away → Bool
is_out_for_writeback None = false
is_out_for_writeback (Some away) = is_same_lender away.lender Writeback

-- a block is mapped, or may become so though no call writes to it: it is dirty, or away for writeback
abbrev has_bytes : Bool → Bool → Option Away → Bool
has_bytes mapped dirty away = mapped || (dirty || is_out_for_writeback away)

abbrev Holds : BlockState → Type 0
Holds s = has_bytes (is_mapped s.kind) s.dirty s.away ≡ true

by_dirty : (mapped dirty : Bool) (o : Option Away) → dirty ≡ true → has_bytes mapped dirty o ≡ true
by_dirty true d o e = refl
by_dirty false true o e = refl
by_dirty false false o e = absurd (cc)

by_loan : (mapped dirty : Bool) (o : Option Away) → is_out_for_writeback o ≡ true → has_bytes mapped dirty o ≡ true
by_loan true d o e = refl
by_loan false true o e = refl
by_loan false false o e = e

unmapped : (mapped dirty : Bool) (o : Option Away) → has_bytes false dirty o ≡ true → has_bytes mapped dirty o ≡ true
unmapped true d o e = refl
unmapped false d o e = e

home : (mapped dirty : Bool) (o : Option Away) → (mapped || (dirty || false)) ≡ true → has_bytes mapped dirty o ≡ true
home true d o e = refl
home false true o e = refl
home false false o e = absurd (cc)

unmapped_was : (s : BlockState) → Holds (record s { kind = Delalloc }) → Holds s
unmapped_was s now = unmapped (is_mapped s.kind) s.dirty s.away now

hole_was : (s : BlockState) → Holds (becomes_hole s) → Holds s
hole_was s now = by_loan (is_mapped s.kind) s.dirty s.away now

home_was : (s : BlockState) → (is_mapped s.kind || (s.dirty || false)) ≡ true → Holds s
home_was s now = home (is_mapped s.kind) s.dirty s.away now

read_was : (failed : Bool) (s : BlockState) → Holds (read_back failed s) → Holds s
read_was true s now = home_was s now
read_was false s now = home_was s now

space_was : (o : Option ℕ) (s : BlockState) → Holds (with_space o s) → Holds s
space_was None s now = now
space_was (Some d) s now = unmapped (is_mapped s.kind) s.dirty s.away now

either : (t : Bool) (x s : BlockState) → (Holds x → Holds s) → Holds (if t then x else s) → Holds s
either true x s was now = was now
either false x s was now = now

-- zeros change a block that is mapped, dirty, or away with its page here
changed : (mapped dirty : Bool) (o : Option Away) → (not mapped && (not dirty && not (is_some o))) ≡ false → keeps_page o ≡ true → has_bytes mapped dirty o ≡ true
changed true d o e page = refl
changed false true o e page = refl
changed false false None e page = absurd (cc)
changed false false (Some away) e page = page

zeroed_was : (met cold : Bool) (s : BlockState) → (if met then keeps_page s.away && cold else true) ≡ true → Holds (if met && not (is_zero_already s) then becomes_dirty s else s) → Holds s
zeroed_was false cold s found now = now
zeroed_was true cold s found now = at (is_zero_already s) refl now
  where
    at : (z : Bool) → is_zero_already s ≡ z → Holds (if true && not z then becomes_dirty s else s) → Holds s
    at true e now = now
    at false e now = changed (is_mapped s.kind) s.dirty s.away e (and_parts (keeps_page s.away) cold found).0

dirty_was : (t : Bool) (ticket : ℕ) (s : BlockState) → (if t then has_space s.kind && (is_at_home s && s.dirty) else true) ≡ true → Holds (if t then lent_clean ticket s else s) → Holds s
dirty_was true ticket s found now =
    let p = and_parts (has_space s.kind) (is_at_home s && s.dirty) found in
    let q = and_parts (is_at_home s) s.dirty p.1 in
    by_dirty (is_mapped s.kind) s.dirty s.away q.1
dirty_was false ticket s found now = now

out_for_writeback : (ticket : ℕ) (o : Option Away) → is_out ticket Writeback o ≡ true → is_out_for_writeback o ≡ true
out_for_writeback ticket None e = absurd (cc)
out_for_writeback ticket (Some away) e = (and_parts (nat_eq away.ticket ticket) (is_same_lender away.lender Writeback) e).1

back_was : (t kind : Bool) (ticket : ℕ) (x s : BlockState) → (if t then is_out ticket Writeback s.away && kind else true) ≡ true → Holds (if t then x else s) → Holds s
back_was true kind ticket x s found now = by_loan (is_mapped s.kind) s.dirty s.away (out_for_writeback ticket s.away (and_parts (is_out ticket Writeback s.away) kind found).0)
back_was false kind ticket x s found now = now

stored : (met before : Bool) (x s : BlockState) → (Holds s → before ≡ true) → Holds (if met then x else s) → (met || before) ≡ true
stored true before x s was now = refl
stored false before x s was now = was now

sent : (t failed before : Bool) (s : BlockState) → (Holds s → before ≡ true) → Holds (if t then directly_back Write failed s else s) → ((t && not failed) || before) ≡ true
sent true true before s was now = was (home_was s now)
sent true false before s was now = refl
sent false failed before s was now = was now

wiped : (t before : Bool) (s : BlockState) → (Holds s → before ≡ true) → (if t then is_at_home s else true) ≡ true → Holds (if t then becomes_hole s else s) → (not t && before) ≡ true
wiped true before s was found now = none s.away found now
  where
    none : (o : Option Away) → is_none o ≡ true → is_out_for_writeback o ≡ true → false ≡ true
    none None found now = now
    none (Some away) found now = absurd (cc)
wiped false before s was found now = was now

writes : (size b : ℕ) (s : BlockState) (event : Event) (outcome : Outcome) (before : Bool) → found_by size b event outcome s ≡ true → (Holds s → before ≡ true) → Holds (state_by size b event outcome s)
    → (not (wipes b event outcome) && (writes_to size b event outcome || before)) ≡ true
writes size b s (Sample a0 a1) o before found was now = was now
writes size b s (Reserve seen n) (Refused f) before found was now = was now
writes size b s (Reserve seen n) (Sampled g) before found was now = was (either (in_run g.extent.block g.extent.length b) (record s { kind = Delalloc }) s (unmapped_was s) now)
writes size b s (Reserve seen n) (Counted m) before found was now = absurd (cc)
writes size b s (Reserve seen n) (Took t) before found was now = absurd (cc)
writes size b s (Reserve seen n) (Lending t m) before found was now = absurd (cc)
writes size b s (Reserve seen n) Finished before found was now = absurd (cc)
writes size b s (Unreserve block n) (Refused f) before found was now = was now
writes size b s (Unreserve block n) (Sampled g) before found was now = absurd (cc)
writes size b s (Unreserve block n) (Counted m) before found was now = was (either (in_run block n b && (is_delalloc s.kind && not s.dirty)) (becomes_hole s) s (hole_was s) now)
writes size b s (Unreserve block n) (Took t) before found was now = absurd (cc)
writes size b s (Unreserve block n) (Lending t m) before found was now = absurd (cc)
writes size b s (Unreserve block n) Finished before found was now = absurd (cc)
writes size b s (Attach block n) (Refused f) before found was now = was now
writes size b s (Attach block n) (Sampled g) before found was now = absurd (cc)
writes size b s (Attach block n) (Counted m) before found was now = absurd (cc)
writes size b s (Attach block n) (Took t) before found was now = was (space_was (taken_by b t) s now)
writes size b s (Attach block n) (Lending t m) before found was now = absurd (cc)
writes size b s (Attach block n) Finished before found was now = absurd (cc)
writes size b s (Preallocate block n) (Refused f) before found was now = was now
writes size b s (Preallocate block n) (Sampled g) before found was now = absurd (cc)
writes size b s (Preallocate block n) (Counted m) before found was now = absurd (cc)
writes size b s (Preallocate block n) (Took t) before found was now = was (space_was (taken_by b t) s now)
writes size b s (Preallocate block n) (Lending t m) before found was now = absurd (cc)
writes size b s (Preallocate block n) Finished before found was now = absurd (cc)
writes size b s (Fetch by from to) (Refused f) before found was now = was now
writes size b s (Fetch by from to) (Sampled g) before found was now = absurd (cc)
writes size b s (Fetch by from to) (Counted m) before found was now = absurd (cc)
writes size b s (Fetch by from to) (Took t) before found was now = absurd (cc)
writes size b s (Fetch by from to) (Lending t m) before found was now = absurd (cc)
writes size b s (Fetch by from to) Finished before found was now = was (either (is_met size from to b) (becomes_uptodate s) s (λ h. h) now)
writes size b s (LendRead block n) (Refused f) before found was now = was now
writes size b s (LendRead block n) (Sampled g) before found was now = absurd (cc)
writes size b s (LendRead block n) (Counted m) before found was now = absurd (cc)
writes size b s (LendRead block n) (Took t) before found was now = absurd (cc)
writes size b s (LendRead block n) (Lending t m) before found was now = was (either (in_run block m b) (lent_for Reading t s) s (home_was s) now)
writes size b s (LendRead block n) Finished before found was now = absurd (cc)
writes size b s (FillBack ticket block n done) (Refused f) before found was now = was now
writes size b s (FillBack ticket block n done) (Sampled g) before found was now = absurd (cc)
writes size b s (FillBack ticket block n done) (Counted m) before found was now = absurd (cc)
writes size b s (FillBack ticket block n done) (Took t) before found was now = absurd (cc)
writes size b s (FillBack ticket block n done) (Lending t m) before found was now = absurd (cc)
writes size b s (FillBack ticket block n done) Finished before found was now = was (either (in_run block n b) (read_back done.failed s) s (read_was done.failed s) now)
writes size b s (Store by seen from to bytes) (Refused f) before found was now = was now
writes size b s (Store by seen from to bytes) (Sampled g) before found was now = absurd (cc)
writes size b s (Store by seen from to bytes) (Counted m) before found was now = absurd (cc)
writes size b s (Store by seen from to bytes) (Took t) before found was now = absurd (cc)
writes size b s (Store by seen from to bytes) (Lending t m) before found was now = absurd (cc)
writes size b s (Store by seen from to bytes) Finished before found was now = stored (is_met size from to b) before (becomes_dirty s) s was now
writes size b s (StoreZeros by seen from to) (Refused f) before found was now = was now
writes size b s (StoreZeros by seen from to) (Sampled g) before found was now = absurd (cc)
writes size b s (StoreZeros by seen from to) (Counted m) before found was now = absurd (cc)
writes size b s (StoreZeros by seen from to) (Took t) before found was now = absurd (cc)
writes size b s (StoreZeros by seen from to) (Lending t m) before found was now = absurd (cc)
writes size b s (StoreZeros by seen from to) Finished before found was now = was (zeroed_was (is_met size from to b) (not (covers_in_part size from to b && is_cold_in s)) s found now)
writes size b s (LendWriteback block n) (Refused f) before found was now = was now
writes size b s (LendWriteback block n) (Sampled g) before found was now = absurd (cc)
writes size b s (LendWriteback block n) (Counted m) before found was now = absurd (cc)
writes size b s (LendWriteback block n) (Took t) before found was now = absurd (cc)
writes size b s (LendWriteback block n) (Lending t m) before found was now = was (dirty_was (in_run block m b) t s found now)
writes size b s (LendWriteback block n) Finished before found was now = absurd (cc)
writes size b s (WrittenBack ticket block kind n done) (Refused f) before found was now = was now
writes size b s (WrittenBack ticket block kind n done) (Sampled g) before found was now = absurd (cc)
writes size b s (WrittenBack ticket block kind n done) (Counted m) before found was now = was (back_was (in_run block n b) (is_kind (kind_after kind (b - block)) s.kind) ticket (written_back done.failed s) s found now)
writes size b s (WrittenBack ticket block kind n done) (Took t) before found was now = absurd (cc)
writes size b s (WrittenBack ticket block kind n done) (Lending t m) before found was now = absurd (cc)
writes size b s (WrittenBack ticket block kind n done) Finished before found was now = absurd (cc)
writes size b s (DropClean block n) (Refused f) before found was now = was now
writes size b s (DropClean block n) (Sampled g) before found was now = absurd (cc)
writes size b s (DropClean block n) (Counted m) before found was now = was (either (in_run block n b && (not s.dirty && not (is_some s.away))) (without_page s) s (λ h. h) now)
writes size b s (DropClean block n) (Took t) before found was now = absurd (cc)
writes size b s (DropClean block n) (Lending t m) before found was now = absurd (cc)
writes size b s (DropClean block n) Finished before found was now = absurd (cc)
writes size b s (LendDirect by seen op block n) (Refused f) before found was now = was now
writes size b s (LendDirect by seen op block n) (Sampled g) before found was now = absurd (cc)
writes size b s (LendDirect by seen op block n) (Counted m) before found was now = absurd (cc)
writes size b s (LendDirect by seen op block n) (Took t) before found was now = absurd (cc)
writes size b s (LendDirect by seen op block n) (Lending t m) before found was now = was (either (in_run block n b) (lent_directly by op t s) s (home_was s) now)
writes size b s (LendDirect by seen op block n) Finished before found was now = was now
writes size b s (LendPart by seen block from to) (Refused f) before found was now = was now
writes size b s (LendPart by seen block from to) (Sampled g) before found was now = absurd (cc)
writes size b s (LendPart by seen block from to) (Counted m) before found was now = absurd (cc)
writes size b s (LendPart by seen block from to) (Took t) before found was now = absurd (cc)
writes size b s (LendPart by seen block from to) (Lending t m) before found was now = was (either (in_run block 1 b) (lent_in_part by from to t s) s (home_was s) now)
writes size b s (LendPart by seen block from to) Finished before found was now = absurd (cc)
writes size b s (DirectBack by Read ticket block kind pages done) (Refused f) before found was now = was now
writes size b s (DirectBack by Read ticket block kind pages done) (Sampled g) before found was now = absurd (cc)
writes size b s (DirectBack by Read ticket block kind pages done) (Counted m) before found was now = absurd (cc)
writes size b s (DirectBack by Read ticket block kind pages done) (Took t) before found was now = absurd (cc)
writes size b s (DirectBack by Read ticket block kind pages done) (Lending t m) before found was now = absurd (cc)
writes size b s (DirectBack by Read ticket block kind pages done) Finished before found was now = was (either (in_run block (length pages) b) (at_home_again s) s (home_was s) now)
writes size b s (DirectBack by Write ticket block kind pages done) (Refused f) before found was now = was now
writes size b s (DirectBack by Write ticket block kind pages done) (Sampled g) before found was now = absurd (cc)
writes size b s (DirectBack by Write ticket block kind pages done) (Counted m) before found was now = absurd (cc)
writes size b s (DirectBack by Write ticket block kind pages done) (Took t) before found was now = absurd (cc)
writes size b s (DirectBack by Write ticket block kind pages done) (Lending t m) before found was now = absurd (cc)
writes size b s (DirectBack by Write ticket block kind pages done) Finished before found was now = sent (in_run block (length pages) b) done.failed before s was now
writes size b s (PartBack by ticket block kind from to bytes done) (Refused f) before found was now = was now
writes size b s (PartBack by ticket block kind from to bytes done) (Sampled g) before found was now = absurd (cc)
writes size b s (PartBack by ticket block kind from to bytes done) (Counted m) before found was now = absurd (cc)
writes size b s (PartBack by ticket block kind from to bytes done) (Took t) before found was now = absurd (cc)
writes size b s (PartBack by ticket block kind from to bytes done) (Lending t m) before found was now = absurd (cc)
writes size b s (PartBack by ticket block kind from to bytes done) Finished before found was now = sent (in_run block 1 b) done.failed before s was now
writes size b s (DirectNow by block most) (Refused f) before found was now = was now
writes size b s (DirectNow by block most) (Sampled g) before found was now = absurd (cc)
writes size b s (DirectNow by block most) (Counted m) before found was now = was (either (in_run block m b && is_mapped s.kind) (without_page s) s (λ h. h) now)
writes size b s (DirectNow by block most) (Took t) before found was now = absurd (cc)
writes size b s (DirectNow by block most) (Lending t m) before found was now = absurd (cc)
writes size b s (DirectNow by block most) Finished before found was now = absurd (cc)
writes size b s (Wipe by block n) (Refused f) before found was now = was now
writes size b s (Wipe by block n) (Sampled g) before found was now = absurd (cc)
writes size b s (Wipe by block n) (Counted m) before found was now = wiped (in_run block n b) before s was found now
writes size b s (Wipe by block n) (Took t) before found was now = absurd (cc)
writes size b s (Wipe by block n) (Lending t m) before found was now = absurd (cc)
writes size b s (Wipe by block n) Finished before found was now = absurd (cc)
writes size b s (DaxGet a0 a1 a2 a3) o before found was now = was now
writes size b s (DaxPut by seen from to bytes) (Refused f) before found was now = was now
writes size b s (DaxPut by seen from to bytes) (Sampled g) before found was now = absurd (cc)
writes size b s (DaxPut by seen from to bytes) (Counted m) before found was now = absurd (cc)
writes size b s (DaxPut by seen from to bytes) (Took t) before found was now = stored (is_met size from to b) before (put_through (taken_by b t) s) s was now
writes size b s (DaxPut by seen from to bytes) (Lending t m) before found was now = absurd (cc)
writes size b s (DaxPut by seen from to bytes) Finished before found was now = absurd (cc)
writes size b s (DaxZero a0 a1 a2 a3) o before found was now = was now

-- through a history, a block that is mapped, dirty or away for writeback counts as written
counted : (size b : ℕ) (s : BlockState) (history : List Entry) (before : Bool) → lawful_from size b s history ≡ true → (Holds s → before ≡ true) → Holds (states_replayed size b s history) → is_written size b before history ≡ true
counted size b s [] before lawful was now = was now
counted size b s (e ∷ history) before lawful was now =
    let p = and_parts (fits_by size b e s) (lawful_from size b (state_after size b s e) history) lawful in
    counted size b (state_after size b s e) history (written_after size b before e) p.1 (λ h. writes size b s e.event e.outcome before p.0 was h) now

by_mapped : (mapped dirty : Bool) (o : Option Away) → mapped ≡ true → has_bytes mapped dirty o ≡ true
by_mapped true d o e = refl
by_mapped false d o e = absurd (cc)

only_mapped : (mapped dirty : Bool) (o : Option Away) → dirty ≡ false → o ≡ None → has_bytes mapped dirty o ≡ true → mapped ≡ true
only_mapped true d o clean here e = refl
only_mapped false d o clean here e = let none : has_bytes false false None ≡ true = ap (λ a. has_bytes false false a) (sym here) ∙ ap (λ u. has_bytes false u o) (sym clean) ∙ e in absurd (cc)

pub mapped_was_written : MappedWasWritten
mapped_was_written size b s history lawful clean here mapped =
    let now : BlockState = states_replayed size b s history in
    counted size b s history (is_mapped s.kind) lawful (only_mapped (is_mapped s.kind) s.dirty s.away clean here) (by_mapped (is_mapped now.kind) now.dirty now.away mapped)
