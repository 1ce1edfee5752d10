-- What the entries of a history that can have happened do to a block's space, its dirty bit and its loan.
use Rattle.std.proofs.Common.{◌≡◌, ℕ, ◌-◌, Bool, true, false, ◌&&◌, ◌||◌, not, if◌then◌else◌, Option, Some, None, length, is_none, is_some, nat_eq, refl, sym, ◌∙◌, ap}
use Rattle.std.proofs.lemmas.Bool.{and_parts, or_left, or_right}
use Rattle.iob_base.specs.declared.stamp.Op.TheVariants.{Read, Write}
use Rattle.io_model.specs.Kinds.{is_kind, kind_after}
use Rattle.io_model.specs.declared.file.Kind.{Kind}
use Rattle.io_model.specs.declared.file.Kind.TheVariants.{Hole, Delalloc, Unwritten, Mapped}
use Rattle.range_core.specs.BlockStates.{BlockState, at_home_again, becomes_dirty, becomes_hole, becomes_uptodate, directly_back, is_zero_already, lent_clean, lent_directly, lent_for, lent_in_part, put_through, read_back, state_by, taken_by, with_space, without_page, written_back}
use Rattle.range_core.specs.Happened.{found_by, is_at_home, is_cold_in, is_out, is_same_lender, keeps_page, took_just}
use Rattle.range_core.specs.Kinds.{has_space, is_delalloc, is_hole, is_mapped, written_kind}
use Rattle.range_core.specs.Lasting.{wipes}
use Rattle.range_core.specs.Refusals.{covers_in_part}
use Rattle.range_core.specs.Spots.{in_run, is_met}
use Rattle.range_core.specs.declared.entry.Event.{Event}
use Rattle.range_core.specs.declared.entry.Event.TheVariants.{Sample, Reserve, Unreserve, Attach, Preallocate, Fetch, LendRead, FillBack, Store, StoreZeros, LendWriteback, WrittenBack, DropClean, LendDirect, LendPart, DirectBack, PartBack, DirectNow, Wipe, DaxGet, DaxPut, DaxZero}
use Rattle.range_core.specs.declared.entry.Outcome.{Outcome}
use Rattle.range_core.specs.declared.entry.Outcome.TheVariants.{Refused, Sampled, Counted, Took, Lending, Finished}
use Rattle.range_core.specs.declared.lending.Away.{Away}
use Rattle.range_core.specs.declared.lending.Lender.TheVariants.{Reading, Writeback}
use Rattle.call_traces.specs.BlockCalls.{gives_space}

abbrev pub is_out_for_writeback : Option Away → Bool
is_out_for_writeback None = false
is_out_for_writeback (Some away) = is_same_lender away.lender Writeback

-- a block has space, or may come by it though nobody gives it any: it is dirty, or away for writeback
abbrev pub claims : Bool → Bool → Option Away → Bool
claims space dirty away = space || (dirty || is_out_for_writeback away)

-- A block with space was given it, a dirty one is no hole, and one that is away for writeback has space
pub record IsGiven (s : BlockState) (given : Bool) : Type 0 where
  pub given_it : claims (has_space s.kind) s.dirty s.away ≡ true → given ≡ true
  pub dirty : s.dirty ≡ true → is_hole s.kind ≡ false
  pub out : is_out_for_writeback s.away ≡ true → has_space s.kind ≡ true

pub by_space : (space dirty : Bool) (o : Option Away) → space ≡ true → claims space dirty o ≡ true
by_space true d o e = refl
by_space false d o e = absurd (cc)

by_dirty : (space dirty : Bool) (o : Option Away) → dirty ≡ true → claims space dirty o ≡ true
by_dirty true d o e = refl
by_dirty false true o e = refl
by_dirty false false o e = absurd (cc)

by_loan : (space dirty : Bool) (o : Option Away) → is_out_for_writeback o ≡ true → claims space dirty o ≡ true
by_loan true d o e = refl
by_loan false true o e = refl
by_loan false false o e = e

more_space : (space dirty : Bool) (o : Option Away) → claims false dirty o ≡ true → claims space dirty o ≡ true
more_space true d o e = refl
more_space false d o e = e

-- what a block claims that is not away for writeback, it claims wherever it is
from_home : (space dirty : Bool) (o p : Option Away) → is_out_for_writeback p ≡ false → claims space dirty p ≡ true → claims space dirty o ≡ true
from_home true d o p home e = refl
from_home false true o p home e = refl
from_home false false o p home e = absurd (cc)

not_false : (t : Bool) → not t ≡ true → t ≡ false
not_false true e = absurd (cc)
not_false false e = refl

-- a block with space is no hole, and needs no promise
no_hole : (k : Kind) → has_space k ≡ true → is_hole k ≡ false
no_hole Hole e = absurd (cc)
no_hole Delalloc e = refl
no_hole (Unwritten d) e = refl
no_hole (Mapped d) e = refl

promised : {A : Type 0} (k : Kind) → is_delalloc k ≡ true → has_space k ≡ true → A
promised Hole p e = absurd (cc)
promised Delalloc p e = absurd (cc)
promised (Unwritten d) p e = absurd (cc)
promised (Mapped d) p e = absurd (cc)

mapped_space : (k : Kind) → is_mapped k ≡ true → has_space k ≡ true
mapped_space Hole e = absurd (cc)
mapped_space Delalloc e = absurd (cc)
mapped_space (Unwritten d) e = refl
mapped_space (Mapped d) e = refl

written_space : (k : Kind) → has_space (written_kind k) ≡ has_space k
written_space Hole = refl
written_space Delalloc = refl
written_space (Unwritten d) = refl
written_space (Mapped d) = refl

written_hole : (k : Kind) → is_hole (written_kind k) ≡ is_hole k
written_hole Hole = refl
written_hole Delalloc = refl
written_hole (Unwritten d) = refl
written_hole (Mapped d) = refl

-- an entry that met a block or not
on : (t u : Bool) (x s : BlockState) (given : Bool) → (if t then u else true) ≡ true → (u ≡ true → IsGiven x given) → IsGiven s given → IsGiven (if t then x else s) given
on true u x s given found met i = met found
on false u x s given found met i = i

-- one that says nothing of what it met
when : (t : Bool) (x s : BlockState) (given : Bool) → (t ≡ true → IsGiven x given) → IsGiven s given → IsGiven (if t then x else s) given
when true x s given met i = met refl
when false x s given met i = i

-- one that gives space where it met the block
or_given : (t : Bool) (x s : BlockState) (given : Bool) → (t ≡ true → IsGiven x true) → IsGiven s given → IsGiven (if t then x else s) (t || given)
or_given true x s given met i = met refl
or_given false x s given met i = i

weaker : (t : Bool) (s : BlockState) (given : Bool) → IsGiven s given → IsGiven s (t || given)
weaker t s given i = record { given_it = λ h. or_right t given (i.given_it h); dirty = i.dirty; out = i.out }

paged : (u : Bool) (s : BlockState) (given : Bool) → IsGiven s given → IsGiven (record s { uptodate = u }) given
paged u s given i = record { given_it = i.given_it; dirty = i.dirty; out = i.out }

-- a block that goes out for anything but writeback, or comes home
away_as : (o : Option Away) (s : BlockState) (given : Bool) → is_out_for_writeback o ≡ false → IsGiven s given → IsGiven (record s { away = o }) given
away_as o s given home i = record { given_it = λ h. i.given_it (from_home (has_space s.kind) s.dirty s.away o home h); dirty = i.dirty; out = λ h. absurd (cc) }

reserved : (s : BlockState) (given : Bool) → is_hole s.kind ≡ true → IsGiven s given → IsGiven (record s { kind = Delalloc }) given
reserved s given hole i = record {
  given_it = λ h. i.given_it (more_space (has_space s.kind) s.dirty s.away h);
  dirty = λ h. refl;
  out = λ h. let is = no_hole s.kind (i.out h) in absurd (cc);
}

unreserved : (t clean : Bool) (s : BlockState) (given : Bool) → IsGiven s given → IsGiven (if t && (is_delalloc s.kind && clean) then becomes_hole s else s) given
unreserved t clean s given i = when (t && (is_delalloc s.kind && clean)) (becomes_hole s) s given emptied i
  where
    emptied : (t && (is_delalloc s.kind && clean)) ≡ true → IsGiven (becomes_hole s) given
    emptied e =
        let p = and_parts t (is_delalloc s.kind && clean) e in
        let q = and_parts (is_delalloc s.kind) clean p.1 in
        record {
          given_it = λ h. i.given_it (by_loan (has_space s.kind) s.dirty s.away h);
          dirty = λ h. absurd (cc);
          out = λ h. promised s.kind q.0 (i.out h);
        }

-- a dirty block takes the sector that was promised to it
attached : (t : Bool) (o : Option ℕ) (s : BlockState) (given : Bool) → took_just (t && (is_delalloc s.kind && s.dirty)) o ≡ true → IsGiven s given → IsGiven (with_space o s) given
attached t None s given found i = i
attached t (Some d) s given found i =
    let p = and_parts t (is_delalloc s.kind && s.dirty) found in
    let q = and_parts (is_delalloc s.kind) s.dirty p.1 in
    record { given_it = λ h. i.given_it (by_dirty (has_space s.kind) s.dirty s.away q.1); dirty = λ h. refl; out = λ h. refl }

-- a block of an allocated run takes a sector where it has none
allocated : (t u : Bool) (o : Option ℕ) (s : BlockState) (given : Bool) → took_just (t && u) o ≡ true → IsGiven s given → IsGiven (with_space o s) (t || given)
allocated t u None s given found i = weaker t s given i
allocated t u (Some d) s given found i =
    let p = and_parts t u found in
    record { given_it = λ h. or_left t given p.0; dirty = λ h. refl; out = λ h. refl }

read : (failed : Bool) (s : BlockState) (given : Bool) → IsGiven s given → IsGiven (read_back failed s) given
read true s given i = away_as None s given refl i
read false s given i = paged true (record s { away = None }) given (away_as None s given refl i)

stored : (met u : Bool) (s : BlockState) (given : Bool) → (if met then not (is_hole s.kind) && u else true) ≡ true → IsGiven s given → IsGiven (if met then becomes_dirty s else s) (met || given)
stored true u s given found i = record { given_it = λ h. refl; dirty = λ h. not_false (is_hole s.kind) (and_parts (not (is_hole s.kind)) u found).0; out = i.out }
stored false u s given found i = i

-- zeros change a block that is mapped, dirty, or away with its page here
changed : (mapped dirty : Bool) (o : Option Away) → (not mapped && (not dirty && not (is_some o))) ≡ false → keeps_page o ≡ true → (mapped || (dirty || is_out_for_writeback o)) ≡ true
changed true d o e page = refl
changed false true o e page = refl
changed false false None e page = absurd (cc)
changed false false (Some away) e page = page

dirtied : (s : BlockState) (given : Bool) → claims (is_mapped s.kind) s.dirty s.away ≡ true → IsGiven s given → IsGiven (becomes_dirty s) given
dirtied s given h i = at (is_mapped s.kind) refl s.dirty refl h
  where
    zeroed : claims (has_space s.kind) s.dirty s.away ≡ true → is_hole s.kind ≡ false → IsGiven (becomes_dirty s) given
    zeroed c e = record { given_it = λ _. i.given_it c; dirty = λ _. e; out = i.out }

    at : (mapped : Bool) → is_mapped s.kind ≡ mapped → (dirty : Bool) → s.dirty ≡ dirty → claims mapped dirty s.away ≡ true → IsGiven (becomes_dirty s) given
    at true m dirty d h = let space = mapped_space s.kind m in zeroed (by_space (has_space s.kind) s.dirty s.away space) (no_hole s.kind space)
    at false m true d h = zeroed (by_dirty (has_space s.kind) s.dirty s.away d) (i.dirty d)
    at false m false d h = zeroed (by_loan (has_space s.kind) s.dirty s.away h) (no_hole s.kind (i.out h))

zeroed : (met cold : Bool) (s : BlockState) (given : Bool) → (if met then keeps_page s.away && cold else true) ≡ true → IsGiven s given → IsGiven (if met && not (is_zero_already s) then becomes_dirty s else s) given
zeroed false cold s given found i = i
zeroed true cold s given found i = at (is_zero_already s) refl
  where
    at : (z : Bool) → is_zero_already s ≡ z → IsGiven (if true && not z then becomes_dirty s else s) given
    at true e = i
    at false e = dirtied s given (changed (is_mapped s.kind) s.dirty s.away e (and_parts (keeps_page s.away) cold found).0) i

lent : (t : Bool) (ticket : ℕ) (s : BlockState) (given : Bool) → (if t then has_space s.kind && (is_at_home s && s.dirty) else true) ≡ true → IsGiven s given → IsGiven (if t then lent_clean ticket s else s) given
lent t ticket s given found i = on t _ (lent_clean ticket s) s given found away i
  where
    away : (has_space s.kind && (is_at_home s && s.dirty)) ≡ true → IsGiven (lent_clean ticket s) given
    away e =
        let p = and_parts (has_space s.kind) (is_at_home s && s.dirty) e in
        record { given_it = λ h. i.given_it (by_space (has_space s.kind) s.dirty s.away p.0); dirty = λ h. absurd (cc); out = λ h. p.0 }

out_for_writeback : (ticket : ℕ) (o : Option Away) → is_out ticket Writeback o ≡ true → is_out_for_writeback o ≡ true
out_for_writeback ticket None e = absurd (cc)
out_for_writeback ticket (Some away) e = (and_parts (nat_eq away.ticket ticket) (is_same_lender away.lender Writeback) e).1

-- a block comes home, written or not
home_written : (s : BlockState) (given : Bool) → IsGiven s given → IsGiven (record s { kind = written_kind s.kind; away = None }) given
home_written s given i = record {
  given_it = λ h. i.given_it (from_home (has_space s.kind) s.dirty s.away None refl (ap (λ t. claims t s.dirty None) (sym (written_space s.kind)) ∙ h));
  dirty = λ h. written_hole s.kind ∙ i.dirty h;
  out = λ h. absurd (cc);
}

back : (failed : Bool) (s : BlockState) (given : Bool) → is_out_for_writeback s.away ≡ true → IsGiven s given → IsGiven (written_back failed s) given
back true s given o i = record { given_it = λ h. i.given_it (by_loan (has_space s.kind) s.dirty s.away o); dirty = λ h. no_hole s.kind (i.out o); out = λ h. absurd (cc) }
back false s given o i = home_written s given i

came_back : (t kind failed : Bool) (ticket : ℕ) (s : BlockState) (given : Bool) → (if t then is_out ticket Writeback s.away && kind else true) ≡ true → IsGiven s given → IsGiven (if t then written_back failed s else s) given
came_back t kind failed ticket s given found i =
    on t _ (written_back failed s) s given found (λ e. back failed s given (out_for_writeback ticket s.away (and_parts (is_out ticket Writeback s.away) kind e).0) i) i

sent : (t failed : Bool) (s : BlockState) (given : Bool) → IsGiven s given → IsGiven (if t then directly_back Write failed s else s) ((t && not failed) || given)
sent true true s given i = away_as None s given refl i
sent true false s given i = weaker true _ given (home_written s given i)
sent false failed s given i = i

wiped : (t : Bool) (s : BlockState) (given : Bool) → (if t then is_at_home s else true) ≡ true → IsGiven s given → IsGiven (if t then becomes_hole s else s) (not t && given)
wiped true s given found i = record { given_it = λ h. none s.away found h; dirty = λ h. absurd (cc); out = λ h. none s.away found h }
  where
    none : (o : Option Away) → is_none o ≡ true → is_out_for_writeback o ≡ true → false ≡ true
    none None found now = now
    none (Some away) found now = absurd (cc)
wiped false s given found i = i

put : (o : Option ℕ) (s : BlockState) (given : Bool) → IsGiven s given → IsGiven (put_through o s) true
put None s given i = record { given_it = λ h. refl; dirty = λ h. written_hole s.kind ∙ i.dirty h; out = λ h. written_space s.kind ∙ i.out h }
put (Some d) s given i = record { given_it = λ h. refl; dirty = λ h. refl; out = λ h. refl }

-- what was given is so after each event that came about
pub given_on : (size b : ℕ) (s : BlockState) (event : Event) (outcome : Outcome) (given : Bool) → found_by size b event outcome s ≡ true → IsGiven s given
    → IsGiven (state_by size b event outcome s) (not (wipes b event outcome) && (gives_space size b event outcome || given))
given_on size b s (Sample block n) (Refused f) given found i = i
given_on size b s (Sample block n) (Sampled g) given found i = i
given_on size b s (Sample block n) (Counted m) given found i = absurd (cc)
given_on size b s (Sample block n) (Took t) given found i = absurd (cc)
given_on size b s (Sample block n) (Lending t m) given found i = absurd (cc)
given_on size b s (Sample block n) Finished given found i = absurd (cc)
given_on size b s (Reserve seen n) (Refused f) given found i = i
given_on size b s (Reserve seen n) (Sampled g) given found i = on (in_run g.extent.block g.extent.length b) _ (record s { kind = Delalloc }) s given found (λ e. reserved s given e i) i
given_on size b s (Reserve seen n) (Counted m) given found i = absurd (cc)
given_on size b s (Reserve seen n) (Took t) given found i = absurd (cc)
given_on size b s (Reserve seen n) (Lending t m) given found i = absurd (cc)
given_on size b s (Reserve seen n) Finished given found i = absurd (cc)
given_on size b s (Unreserve block n) (Refused f) given found i = i
given_on size b s (Unreserve block n) (Sampled g) given found i = absurd (cc)
given_on size b s (Unreserve block n) (Counted m) given found i = unreserved (in_run block n b) (not s.dirty) s given i
given_on size b s (Unreserve block n) (Took t) given found i = absurd (cc)
given_on size b s (Unreserve block n) (Lending t m) given found i = absurd (cc)
given_on size b s (Unreserve block n) Finished given found i = absurd (cc)
given_on size b s (Attach block n) (Refused f) given found i = i
given_on size b s (Attach block n) (Sampled g) given found i = absurd (cc)
given_on size b s (Attach block n) (Counted m) given found i = absurd (cc)
given_on size b s (Attach block n) (Took t) given found i = attached (in_run block n b) (taken_by b t) s given found i
given_on size b s (Attach block n) (Lending t m) given found i = absurd (cc)
given_on size b s (Attach block n) Finished given found i = absurd (cc)
given_on size b s (Preallocate block n) (Refused f) given found i = i
given_on size b s (Preallocate block n) (Sampled g) given found i = absurd (cc)
given_on size b s (Preallocate block n) (Counted m) given found i = absurd (cc)
given_on size b s (Preallocate block n) (Took t) given found i = allocated (in_run block n b) (not (has_space s.kind)) (taken_by b t) s given found i
given_on size b s (Preallocate block n) (Lending t m) given found i = absurd (cc)
given_on size b s (Preallocate block n) Finished given found i = absurd (cc)
given_on size b s (Fetch by from to) (Refused f) given found i = i
given_on size b s (Fetch by from to) (Sampled g) given found i = absurd (cc)
given_on size b s (Fetch by from to) (Counted m) given found i = absurd (cc)
given_on size b s (Fetch by from to) (Took t) given found i = absurd (cc)
given_on size b s (Fetch by from to) (Lending t m) given found i = absurd (cc)
given_on size b s (Fetch by from to) Finished given found i = when (is_met size from to b) (becomes_uptodate s) s given (λ e. paged true s given i) i
given_on size b s (LendRead block n) (Refused f) given found i = i
given_on size b s (LendRead block n) (Sampled g) given found i = absurd (cc)
given_on size b s (LendRead block n) (Counted m) given found i = absurd (cc)
given_on size b s (LendRead block n) (Took t) given found i = absurd (cc)
given_on size b s (LendRead block n) (Lending t m) given found i = when (in_run block m b) (lent_for Reading t s) s given (λ e. away_as _ s given refl i) i
given_on size b s (LendRead block n) Finished given found i = absurd (cc)
given_on size b s (FillBack ticket block n done) (Refused f) given found i = i
given_on size b s (FillBack ticket block n done) (Sampled g) given found i = absurd (cc)
given_on size b s (FillBack ticket block n done) (Counted m) given found i = absurd (cc)
given_on size b s (FillBack ticket block n done) (Took t) given found i = absurd (cc)
given_on size b s (FillBack ticket block n done) (Lending t m) given found i = absurd (cc)
given_on size b s (FillBack ticket block n done) Finished given found i = when (in_run block n b) (read_back done.failed s) s given (λ e. read done.failed s given i) i
given_on size b s (Store by seen from to bytes) (Refused f) given found i = i
given_on size b s (Store by seen from to bytes) (Sampled g) given found i = absurd (cc)
given_on size b s (Store by seen from to bytes) (Counted m) given found i = absurd (cc)
given_on size b s (Store by seen from to bytes) (Took t) given found i = absurd (cc)
given_on size b s (Store by seen from to bytes) (Lending t m) given found i = absurd (cc)
given_on size b s (Store by seen from to bytes) Finished given found i = stored (is_met size from to b) _ s given found i
given_on size b s (StoreZeros by seen from to) (Refused f) given found i = i
given_on size b s (StoreZeros by seen from to) (Sampled g) given found i = absurd (cc)
given_on size b s (StoreZeros by seen from to) (Counted m) given found i = absurd (cc)
given_on size b s (StoreZeros by seen from to) (Took t) given found i = absurd (cc)
given_on size b s (StoreZeros by seen from to) (Lending t m) given found i = absurd (cc)
given_on size b s (StoreZeros by seen from to) Finished given found i = zeroed (is_met size from to b) (not (covers_in_part size from to b && is_cold_in s)) s given found i
given_on size b s (LendWriteback block n) (Refused f) given found i = i
given_on size b s (LendWriteback block n) (Sampled g) given found i = absurd (cc)
given_on size b s (LendWriteback block n) (Counted m) given found i = absurd (cc)
given_on size b s (LendWriteback block n) (Took t) given found i = absurd (cc)
given_on size b s (LendWriteback block n) (Lending t m) given found i = lent (in_run block m b) t s given found i
given_on size b s (LendWriteback block n) Finished given found i = absurd (cc)
given_on size b s (WrittenBack ticket block kind n done) (Refused f) given found i = i
given_on size b s (WrittenBack ticket block kind n done) (Sampled g) given found i = absurd (cc)
given_on size b s (WrittenBack ticket block kind n done) (Counted m) given found i = came_back (in_run block n b) (is_kind (kind_after kind (b - block)) s.kind) done.failed ticket s given found i
given_on size b s (WrittenBack ticket block kind n done) (Took t) given found i = absurd (cc)
given_on size b s (WrittenBack ticket block kind n done) (Lending t m) given found i = absurd (cc)
given_on size b s (WrittenBack ticket block kind n done) Finished given found i = absurd (cc)
given_on size b s (DropClean block n) (Refused f) given found i = i
given_on size b s (DropClean block n) (Sampled g) given found i = absurd (cc)
given_on size b s (DropClean block n) (Counted m) given found i = when (in_run block n b && (not s.dirty && not (is_some s.away))) (without_page s) s given (λ e. paged false s given i) i
given_on size b s (DropClean block n) (Took t) given found i = absurd (cc)
given_on size b s (DropClean block n) (Lending t m) given found i = absurd (cc)
given_on size b s (DropClean block n) Finished given found i = absurd (cc)
given_on size b s (LendDirect by seen op block n) (Refused f) given found i = i
given_on size b s (LendDirect by seen op block n) (Sampled g) given found i = absurd (cc)
given_on size b s (LendDirect by seen op block n) (Counted m) given found i = absurd (cc)
given_on size b s (LendDirect by seen op block n) (Took t) given found i = absurd (cc)
given_on size b s (LendDirect by seen op block n) (Lending t m) given found i = when (in_run block n b) (lent_directly by op t s) s given (λ e. paged false _ given (away_as _ s given refl i)) i
given_on size b s (LendDirect by seen op block n) Finished given found i = i
given_on size b s (LendPart by seen block from to) (Refused f) given found i = i
given_on size b s (LendPart by seen block from to) (Sampled g) given found i = absurd (cc)
given_on size b s (LendPart by seen block from to) (Counted m) given found i = absurd (cc)
given_on size b s (LendPart by seen block from to) (Took t) given found i = absurd (cc)
given_on size b s (LendPart by seen block from to) (Lending t m) given found i = when (in_run block 1 b) (lent_in_part by from to t s) s given (λ e. paged false _ given (away_as _ s given refl i)) i
given_on size b s (LendPart by seen block from to) Finished given found i = absurd (cc)
given_on size b s (DirectBack by Read ticket block kind pages done) (Refused f) given found i = i
given_on size b s (DirectBack by Read ticket block kind pages done) (Sampled g) given found i = absurd (cc)
given_on size b s (DirectBack by Read ticket block kind pages done) (Counted m) given found i = absurd (cc)
given_on size b s (DirectBack by Read ticket block kind pages done) (Took t) given found i = absurd (cc)
given_on size b s (DirectBack by Read ticket block kind pages done) (Lending t m) given found i = absurd (cc)
given_on size b s (DirectBack by Read ticket block kind pages done) Finished given found i = when (in_run block (length pages) b) (at_home_again s) s given (λ e. away_as None s given refl i) i
given_on size b s (DirectBack by Write ticket block kind pages done) (Refused f) given found i = i
given_on size b s (DirectBack by Write ticket block kind pages done) (Sampled g) given found i = absurd (cc)
given_on size b s (DirectBack by Write ticket block kind pages done) (Counted m) given found i = absurd (cc)
given_on size b s (DirectBack by Write ticket block kind pages done) (Took t) given found i = absurd (cc)
given_on size b s (DirectBack by Write ticket block kind pages done) (Lending t m) given found i = absurd (cc)
given_on size b s (DirectBack by Write ticket block kind pages done) Finished given found i = sent (in_run block (length pages) b) done.failed s given i
given_on size b s (PartBack by ticket block kind from to bytes done) (Refused f) given found i = i
given_on size b s (PartBack by ticket block kind from to bytes done) (Sampled g) given found i = absurd (cc)
given_on size b s (PartBack by ticket block kind from to bytes done) (Counted m) given found i = absurd (cc)
given_on size b s (PartBack by ticket block kind from to bytes done) (Took t) given found i = absurd (cc)
given_on size b s (PartBack by ticket block kind from to bytes done) (Lending t m) given found i = absurd (cc)
given_on size b s (PartBack by ticket block kind from to bytes done) Finished given found i = sent (in_run block 1 b) done.failed s given i
given_on size b s (DirectNow by block n) (Refused f) given found i = i
given_on size b s (DirectNow by block n) (Sampled g) given found i = absurd (cc)
given_on size b s (DirectNow by block n) (Counted m) given found i = when (in_run block m b && is_mapped s.kind) (without_page s) s given (λ e. paged false s given i) i
given_on size b s (DirectNow by block n) (Took t) given found i = absurd (cc)
given_on size b s (DirectNow by block n) (Lending t m) given found i = absurd (cc)
given_on size b s (DirectNow by block n) Finished given found i = absurd (cc)
given_on size b s (Wipe by block n) (Refused f) given found i = i
given_on size b s (Wipe by block n) (Sampled g) given found i = absurd (cc)
given_on size b s (Wipe by block n) (Counted m) given found i = wiped (in_run block n b) s given found i
given_on size b s (Wipe by block n) (Took t) given found i = absurd (cc)
given_on size b s (Wipe by block n) (Lending t m) given found i = absurd (cc)
given_on size b s (Wipe by block n) Finished given found i = absurd (cc)
given_on size b s (DaxGet by seen from to) (Refused f) given found i = i
given_on size b s (DaxGet by seen from to) (Sampled g) given found i = absurd (cc)
given_on size b s (DaxGet by seen from to) (Counted m) given found i = absurd (cc)
given_on size b s (DaxGet by seen from to) (Took t) given found i = absurd (cc)
given_on size b s (DaxGet by seen from to) (Lending t m) given found i = absurd (cc)
given_on size b s (DaxGet by seen from to) Finished given found i = i
given_on size b s (DaxPut by seen from to bytes) (Refused f) given found i = i
given_on size b s (DaxPut by seen from to bytes) (Sampled g) given found i = absurd (cc)
given_on size b s (DaxPut by seen from to bytes) (Counted m) given found i = absurd (cc)
given_on size b s (DaxPut by seen from to bytes) (Took t) given found i = or_given (is_met size from to b) (put_through (taken_by b t) s) s given (λ e. put (taken_by b t) s given i) i
given_on size b s (DaxPut by seen from to bytes) (Lending t m) given found i = absurd (cc)
given_on size b s (DaxPut by seen from to bytes) Finished given found i = absurd (cc)
given_on size b s (DaxZero by seen from to) (Refused f) given found i = i
given_on size b s (DaxZero by seen from to) (Sampled g) given found i = absurd (cc)
given_on size b s (DaxZero by seen from to) (Counted m) given found i = absurd (cc)
given_on size b s (DaxZero by seen from to) (Took t) given found i = absurd (cc)
given_on size b s (DaxZero by seen from to) (Lending t m) given found i = absurd (cc)
given_on size b s (DaxZero by seen from to) Finished given found i = i
