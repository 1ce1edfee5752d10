-- What an entry changes, it stamps.
use Rattle.std.proofs.Common.{◌≡◌, ℕ, zero, suc, ◌+◌, ◌-◌, ◌*◌, ◌/◌, ◌<◌, ◌≤◌, ⊎_elim, Bool, true, false, not, ◌&&◌, ◌||◌, ◌==◌, Option, Some, None, List, [], ◌∷◌, ◌++◌, length, min, max, if◌then◌else◌, refl, sym, ◌∙◌, ap, arith}
use Rattle.std.specs.Prelude.{nat_le, nat_lt, slice_get, unwrap_or}
use Rattle.std.proofs.Math.Nat.{div-mul-le_self}
use Rattle.std.proofs.lemmas.Bool.{and_parts, cases_lt, eqb-false, leb-true, ltb-false, ltb-true}
use Rattle.std.proofs.lemmas.Nat.{le-div}
use Rattle.std.proofs.lemmas.Option.{slice_get_within}
use Rattle.iob_base.specs.declared.stamp.Op.{Op}
use Rattle.iob_base.specs.declared.stamp.Op.TheVariants.{Read, Write}
use Rattle.iob_base.specs.declared.stamp.Stamp.{Stamp}
use Rattle.iob_base.specs.declared.stamp.Tag.{Tag}
use Rattle.fault_device.specs.declared.lane.Done.{Done}
use Rattle.io_model.specs.Contents.{Content}
use Rattle.io_model.specs.declared.file.Kind.{Kind}
use Rattle.range_core.specs.BlockContents.{content_back, content_by, has_arrived, part_back}
use Rattle.range_core.specs.ByteRuns.{IsByteRun, run_between}
use Rattle.range_core.specs.EntryStamps.{direct_stamps, failed_stamps, landed_by, missed_by, stamps_by}
use Rattle.range_core.specs.Kinds.{is_mapped}
use Rattle.range_core.specs.Spots.{blocks_met, in_run, is_met, overlaid}
use Rattle.range_core.specs.StampedChanges.{OnlyStampsChange, is_marked, may_change}
use Rattle.range_core.specs.Stamps.{done_by, stamps_from}
use Rattle.range_core.specs.declared.entry.Event.{Event}
use Rattle.range_core.specs.declared.entry.Event.TheVariants.{Sample, Reserve, Unreserve, Attach, Preallocate, Fetch, LendRead, FillBack, Store, StoreZeros, LendWriteback, WrittenBack, DropClean, LendDirect, LendPart, DirectBack, PartBack, DirectNow, Wipe, DaxGet, DaxPut, DaxZero}
use Rattle.range_core.specs.declared.entry.Outcome.{Outcome}
use Rattle.range_core.specs.declared.entry.Outcome.TheVariants.{Refused, Sampled, Counted, Took, Lending, Finished}
use Rattle.range_core.proofs.ByteRunLemmas.{met-outside}

if_not : {A : Type 0} (t : Bool) (x y : A) → t ≡ false → (if t then x else y) ≡ y
if_not true x y e = absurd (cc)
if_not false x y e = refl

or-right : (s t : Bool) → (s || t) ≡ false → t ≡ false
or-right true t e = absurd (cc)
or-right false t e = e

or-left : (s t : Bool) → (s || t) ≡ false → s ≡ false
or-left true t e = absurd (cc)
or-left false t e = refl

-- the first of these stamps
marked-front : (b : ℕ) (xs ys : List (ℕ × Stamp)) → is_marked b (xs ++ ys) ≡ false → is_marked b xs ≡ false
marked-front b [] ys e = refl
marked-front b (s ∷ xs) ys e = at ((s.0 == b) && may_change s.1.mark) refl (marked-front b xs ys)
  where
    at : (t : Bool) → ((s.0 == b) && may_change s.1.mark) ≡ t → (is_marked b (xs ++ ys) ≡ false → is_marked b xs ≡ false) → (((s.0 == b) && may_change s.1.mark) || is_marked b xs) ≡ false
    at true is rest = absurd (let no = or-left ((s.0 == b) && may_change s.1.mark) (is_marked b (xs ++ ys)) e in cc)
    at false is rest = ap (λ t. t || is_marked b xs) is ∙ rest (or-right ((s.0 == b) && may_change s.1.mark) (is_marked b (xs ++ ys)) e)

-- a run is stamped block by block
absent : (first n b : ℕ) (st : Stamp) → may_change st.mark ≡ true → is_marked b (stamps_from first n st) ≡ false → first ≤ b → b < first + n → ⊥
absent first zero b st may none low high = absurd (omega arith)
absent first (suc n) b st may none low high = at (first == b) refl (absent (first + 1) n b st may)
  where
    at : (t : Bool) → (first == b) ≡ t → (is_marked b (stamps_from (first + 1) n st) ≡ false → first + 1 ≤ b → b < first + 1 + n → ⊥) → ⊥
    at true is rest =
        let here : ((first == b) && may_change st.mark) ≡ true = ap (λ t. t && may_change st.mark) is ∙ may in
        let no = or-left ((first == b) && may_change st.mark) (is_marked b (stamps_from (first + 1) n st)) none in
        absurd (cc)
    at false is rest =
        let other = eqb-false first b is in
        rest (or-right ((first == b) && may_change st.mark) (is_marked b (stamps_from (first + 1) n st)) none) (omega arith) (omega arith)

outside : (first n b : ℕ) (st : Stamp) → may_change st.mark ≡ true → is_marked b (stamps_from first n st) ≡ false → in_run first n b ≡ false
outside first n b st may none = at (nat_le first b) refl (nat_lt b (first + n)) refl
  where
    at : (s : Bool) → nat_le first b ≡ s → (t : Bool) → nat_lt b (first + n) ≡ t → in_run first n b ≡ false
    at true s true t = absurd (absent first n b st may none (leb-true first b s) (ltb-true b (first + n) t))
    at true s false t = ap (λ u. u && nat_lt b (first + n)) s ∙ t
    at false s t u = ap (λ v. v && nat_lt b (first + n)) s

-- the blocks that have bytes from one place up to another
pub byte_run : (size from to : ℕ) → 0 < size → from < to → IsByteRun (run_between size from to)
byte_run size from to some more =
    let first : ℕ = from / size in
    let last : ℕ = (to - 1) / size in
    let low : first * size ≤ from = div-mul-le_self from size in
    let end : last * size ≤ to - 1 = div-mul-le_self (to - 1) size in
    let next : first ≤ last = le-div first (to - 1) size some (omega (arith, low, more)) in
    let starts : from < first * size + size = below from in
    let over : to - 1 < last * size + size = below (to - 1) in
    let reach : first + (last + 1 - first) ≡ last + 1 = omega (arith, next) in
    let whole : (first + (last + 1 - first)) * size ≡ last * size + size = ap (λ m. m * size) reach ∙ after last in
    record {
      some = more;
      met = omega (arith, next);
      begins = low;
      starts = starts;
      reaches = omega (arith, whole, over, more);
      ends = omega (arith, whole, end, more);
    }
  where
    after : (m : ℕ) → (m + 1) * size ≡ m * size + size
    after m = omega arith

    below : (n : ℕ) → n < n / size * size + size
    below n = ⊎_elim (λ (h : n < n / size * size + size). h) (λ (h : n / size * size + size ≤ n). absurd (let m = le-div (n / size + 1) n size some (omega (arith, h, after (n / size))) in omega (arith, m))) (cases_lt n (n / size * size + size))

-- a block without a stamp has none of these bytes
unmet : (size from to b : ℕ) (st : Stamp) → may_change st.mark ≡ true → 0 < size → is_marked b (stamps_from (from / size) (blocks_met size from to) st) ≡ false → is_met size from to b ≡ false
unmet size from to b st may some none = at (is_met size from to b) refl
  where
    at : (t : Bool) → is_met size from to b ≡ t → t ≡ false
    at false e = refl
    at true e =
        let met : max from (b * size) < min to ((b + 1) * size) = ltb-true _ _ e in
        let more : from < to = omega arith in
        sym e ∙ met-outside (run_between size from to) (byte_run size from to some more) b (outside (from / size) (blocks_met size from to) b st may none)

-- a block of a write that came back has not got its bytes where no such stamp is on it
unarrived : (by : Tag) (block : ℕ) (kind : Kind) (n : ℕ) (done : Done) (b : ℕ) → is_marked b (direct_stamps by Write block kind n done) ≡ false → block ≤ b → b < block + n → has_arrived kind done (b - block) ≡ true → ⊥
unarrived by block kind n done b none starts ends here = left done.failed refl (is_mapped kind) refl
  where
    i : ℕ
    i = b - block

    left : (failed : Bool) → done.failed ≡ failed → (mapped : Bool) → is_mapped kind ≡ mapped → ⊥
    left false whole mapped m =
        let unmarked : is_marked b (stamps_from block n (done_by by)) ≡ false = ap (λ t. is_marked b (if t then failed_stamps by Write block n (is_mapped kind) done.landed else stamps_from block n (done_by by))) (sym whole) ∙ none in
        absent block n b (done_by by) refl unmarked starts ends
    left true fails true m =
        let unmarked : is_marked b (failed_stamps by Write block n true done.landed) ≡ false =
        ap (λ t. is_marked b (failed_stamps by Write block n t done.landed)) (sym m)
        ∙ ap (λ t. is_marked b (if t then failed_stamps by Write block n (is_mapped kind) done.landed else stamps_from block n (done_by by))) (sym fails) ∙ none in
        let landed : nat_lt i done.landed ≡ true = sym (ap (λ t. not t || (is_mapped kind && nat_lt i done.landed)) fails ∙ ap (λ t. t && nat_lt i done.landed) m) ∙ here in
        let few = ltb-true i done.landed landed in
        absent block done.landed b (landed_by by) refl (marked-front b (stamps_from block done.landed (landed_by by)) (stamps_from (block + done.landed) (n - done.landed) (missed_by by)) unmarked) starts (omega (arith, starts, few))
    left true fails false m =
        let gone : has_arrived kind done i ≡ false = ap (λ t. not t || (is_mapped kind && nat_lt i done.landed)) fails ∙ ap (λ t. t && nat_lt i done.landed) m in
        absurd (cc)

-- pages that came back from a write
came_back : (by : Tag) (op : Op) (block : ℕ) (kind : Kind) (pages : List (List ℕ)) (done : Done) (b : ℕ) (content : Content) → is_marked b (direct_stamps by op block kind (length pages) done) ≡ false → content_back op block kind pages done b content ≡ content
came_back by Read block kind pages done b content none = refl
came_back by Write block kind pages done b content none = at (nat_lt b block) refl
  where
    i : ℕ
    i = b - block

    page_at : (p : Option (List ℕ)) → slice_get pages i ≡ p → nat_lt b block ≡ false → has_arrived kind done i ≡ true → unwrap_or p content ≡ content
    page_at None is low here = refl
    page_at (Some p) is low here =
        let starts : block ≤ b = ltb-false b block low in
        let within : i < length pages = slice_get_within pages i p is in
        absurd (unarrived by block kind (length pages) done b none starts (omega (arith, starts, within)) here)

    arrived : nat_lt b block ≡ false → (t : Bool) → has_arrived kind done i ≡ t → (if t then unwrap_or (slice_get pages i) content else content) ≡ content
    arrived low false is = refl
    arrived low true is = page_at (slice_get pages i) refl low is

    at : (t : Bool) → nat_lt b block ≡ t → (if nat_lt b block then content else (if has_arrived kind done i then unwrap_or (slice_get pages i) content else content)) ≡ content
    at true low = ap (λ t. if t then content else (if has_arrived kind done i then unwrap_or (slice_get pages i) content else content)) low
    at false low = ap (λ t. if t then content else (if has_arrived kind done i then unwrap_or (slice_get pages i) content else content)) low ∙ arrived low (has_arrived kind done i) refl

-- a part of a block that came back from a write
part_came : (size : ℕ) (by : Tag) (block : ℕ) (kind : Kind) (from to : ℕ) (bytes : List ℕ) (done : Done) (b : ℕ) (content : Content) → is_marked b (direct_stamps by Write block kind 1 done) ≡ false → part_back size block kind from to bytes done b content ≡ content
part_came size by block kind from to bytes done b content none = at (in_run block 1 b) refl (has_arrived kind done 0) refl
  where
    at : (t : Bool) → in_run block 1 b ≡ t → (u : Bool) → has_arrived kind done 0 ≡ u → (if t then (if u then overlaid size from to bytes b content else content) else content) ≡ content
    at false met u is = refl
    at true met false is = refl
    at true met true is =
        let p = and_parts (nat_le block b) (nat_lt b (block + 1)) met in
        let starts : block ≤ b = leb-true block b p.0 in
        let ends : b < block + 1 = ltb-true b (block + 1) p.1 in
        let none_before : b - block ≡ 0 = omega arith in
        absurd (unarrived by block kind 1 done b none starts ends (ap (has_arrived kind done) none_before ∙ is))

kept : (size b : ℕ) (content : Content) (event : Event) (outcome : Outcome) → 0 < size → is_marked b (stamps_by size event outcome) ≡ false → content_by size b event outcome content ≡ content
kept size b content (Sample a0 a1) o some none = refl
kept size b content (Reserve a0 a1) o some none = refl
kept size b content (Unreserve a0 a1) o some none = refl
kept size b content (Attach a0 a1) o some none = refl
kept size b content (Preallocate a0 a1) o some none = refl
kept size b content (Fetch a0 a1 a2) o some none = refl
kept size b content (LendRead a0 a1) o some none = refl
kept size b content (FillBack a0 a1 a2 a3) o some none = refl
kept size b content (Store by seen from to bytes) (Refused f) some none = refl
kept size b content (Store by seen from to bytes) (Sampled g) some none = refl
kept size b content (Store by seen from to bytes) (Counted m) some none = refl
kept size b content (Store by seen from to bytes) (Took t) some none = refl
kept size b content (Store by seen from to bytes) (Lending t m) some none = refl
kept size b content (Store by seen from to bytes) Finished some none = if_not (is_met size from to b) _ content (unmet size from to b (done_by by) refl some none)
kept size b content (StoreZeros by seen from to) (Refused f) some none = refl
kept size b content (StoreZeros by seen from to) (Sampled g) some none = refl
kept size b content (StoreZeros by seen from to) (Counted m) some none = refl
kept size b content (StoreZeros by seen from to) (Took t) some none = refl
kept size b content (StoreZeros by seen from to) (Lending t m) some none = refl
kept size b content (StoreZeros by seen from to) Finished some none = if_not (is_met size from to b) _ content (unmet size from to b (done_by by) refl some none)
kept size b content (LendWriteback a0 a1) o some none = refl
kept size b content (WrittenBack a0 a1 a2 a3 a4) o some none = refl
kept size b content (DropClean a0 a1) o some none = refl
kept size b content (LendDirect a0 a1 a2 a3 a4) o some none = refl
kept size b content (LendPart a0 a1 a2 a3 a4) o some none = refl
kept size b content (DirectBack by op ticket block kind pages done) (Refused f) some none = refl
kept size b content (DirectBack by op ticket block kind pages done) (Sampled g) some none = refl
kept size b content (DirectBack by op ticket block kind pages done) (Counted m) some none = refl
kept size b content (DirectBack by op ticket block kind pages done) (Took t) some none = refl
kept size b content (DirectBack by op ticket block kind pages done) (Lending t m) some none = refl
kept size b content (DirectBack by op ticket block kind pages done) Finished some none = came_back by op block kind pages done b content none
kept size b content (PartBack by ticket block kind from to bytes done) (Refused f) some none = refl
kept size b content (PartBack by ticket block kind from to bytes done) (Sampled g) some none = refl
kept size b content (PartBack by ticket block kind from to bytes done) (Counted m) some none = refl
kept size b content (PartBack by ticket block kind from to bytes done) (Took t) some none = refl
kept size b content (PartBack by ticket block kind from to bytes done) (Lending t m) some none = refl
kept size b content (PartBack by ticket block kind from to bytes done) Finished some none = part_came size by block kind from to bytes done b content none
kept size b content (DirectNow a0 a1 a2) o some none = refl
kept size b content (Wipe by block n) (Refused f) some none = refl
kept size b content (Wipe by block n) (Sampled g) some none = refl
kept size b content (Wipe by block n) (Counted m) some none = if_not (in_run block n b) _ content (outside block n b (done_by by) refl none)
kept size b content (Wipe by block n) (Took t) some none = refl
kept size b content (Wipe by block n) (Lending t m) some none = refl
kept size b content (Wipe by block n) Finished some none = refl
kept size b content (DaxGet a0 a1 a2 a3) o some none = refl
kept size b content (DaxPut by seen from to bytes) (Refused f) some none = refl
kept size b content (DaxPut by seen from to bytes) (Sampled g) some none = refl
kept size b content (DaxPut by seen from to bytes) (Counted m) some none = refl
kept size b content (DaxPut by seen from to bytes) (Took t) some none = if_not (is_met size from to b) _ content (unmet size from to b (done_by by) refl some none)
kept size b content (DaxPut by seen from to bytes) (Lending t m) some none = refl
kept size b content (DaxPut by seen from to bytes) Finished some none = refl
kept size b content (DaxZero by seen from to) (Refused f) some none = refl
kept size b content (DaxZero by seen from to) (Sampled g) some none = refl
kept size b content (DaxZero by seen from to) (Counted m) some none = refl
kept size b content (DaxZero by seen from to) (Took t) some none = refl
kept size b content (DaxZero by seen from to) (Lending t m) some none = refl
kept size b content (DaxZero by seen from to) Finished some none = if_not (is_met size from to b) _ content (unmet size from to b (done_by by) refl some none)

pub only_stamps_change : OnlyStampsChange
only_stamps_change size b content e some none = kept size b content e.event e.outcome some none
