-- Each block that a write answered has its stamp, and no other block has one.
use Rattle.std.proofs.Common.{◌≡◌, ℕ, zero, suc, ◌+◌, ◌-◌, ◌/◌, ◌<◌, ◌≤◌, ◌≢◌, ⊎_elim, inl, inr, Bool, true, false, ◌&&◌, ◌==◌, List, [], ◌∷◌, ◌++◌, length, if◌then◌else◌, refl, sym, ◌∙◌, ap, arith}
use Rattle.std.specs.Prelude.{nat_lt, Some, None}
use Rattle.std.specs.List.{cons_option}
use Rattle.std.proofs.lemmas.Bool.{cases_lt, eqb-false, eqb-true, le-ltb, lt-ltb}
use Rattle.std.proofs.lemmas.List.Elements.{filter_map-append}
use Rattle.iob_base.specs.declared.stamp.Op.{Op}
use Rattle.iob_base.specs.declared.stamp.Op.TheVariants.{Read, Write}
use Rattle.iob_base.specs.declared.stamp.Stamp.{Stamp}
use Rattle.iob_base.specs.declared.stamp.Tag.{Tag}
use Rattle.fault_device.specs.declared.lane.Done.{Done}
use Rattle.io_model.specs.declared.file.Kind.{Kind}
use Rattle.range_core.specs.ByteRuns.{run_between}
use Rattle.range_core.specs.EntryStamps.{direct_stamps, failed_stamps, landed_by, missed_by, stamps_by, stamps_met}
use Rattle.range_core.specs.Kinds.{is_mapped}
use Rattle.range_core.specs.Spots.{blocks_met, in_run, is_met}
use Rattle.range_core.specs.Stamps.{done_by, stamp_at, stamps_at, stamps_from}
use Rattle.range_core.specs.WrittenStamps.{StampsOfWrite, WritesAreStamped, one_where_met, written_stamp}
use Rattle.range_core.specs.declared.entry.Event.{Event}
use Rattle.range_core.specs.declared.entry.Event.TheVariants.{Sample, Reserve, Unreserve, Attach, Preallocate, Fetch, LendRead, FillBack, Store, StoreZeros, LendWriteback, WrittenBack, DropClean, LendDirect, LendPart, DirectBack, PartBack, DirectNow, Wipe, DaxGet, DaxPut, DaxZero}
use Rattle.range_core.specs.declared.entry.Outcome.{Outcome}
use Rattle.range_core.specs.declared.entry.Outcome.TheVariants.{Refused, Sampled, Counted, Took, Lending, Finished}
use Rattle.range_core.proofs.AfterRun.{in_run-bounds, in_run-false, in_run-true}
use Rattle.range_core.proofs.ByteRunLemmas.{met-inside, met-outside}
use Rattle.range_core.proofs.ChangeLemmas.{byte_run}

-- where the block is met, and where it is not
met : (t : Bool) (st : Stamp) → t ≡ true → one_where_met t st ≡ st ∷ []
met true st e = refl
met false st e = absurd (cc)

unmet : (t : Bool) (st : Stamp) → t ≡ false → one_where_met t st ≡ []
unmet true st e = absurd (cc)
unmet false st e = refl

-- one more stamp in front, of this block and of another
front : (b first : ℕ) (st : Stamp) (log : List (ℕ × Stamp)) (t : Bool) → (first == b) ≡ t → stamps_at b ((first, st) ∷ log) ≡ (if t then st ∷ stamps_at b log else stamps_at b log)
front b first st log true e = ap (λ t. cons_option (if t then Some st else None) (stamps_at b log)) e
front b first st log false e = ap (λ t. cons_option (if t then Some st else None) (stamps_at b log)) e

-- a run stamps each of its blocks once, and no other
run_stamps : (b first n : ℕ) (st : Stamp) → stamps_at b (stamps_from first n st) ≡ one_where_met (in_run first n b) st
run_stamps b first zero st =
    sym (unmet (in_run first 0 b) st (in_run-false first 0 b (⊎_elim (λ (h : b < first). inl h) (λ (h : first ≤ b). inr (omega arith)) (cases_lt b first))))
run_stamps b first (suc n) st = at (run_stamps b (first + 1) n st) (first == b) refl
  where
    Rest : Type 0
    Rest = stamps_at b (stamps_from (first + 1) n st) ≡ one_where_met (in_run (first + 1) n b) st

    others : b ≢ first → in_run (first + 1) n b ≡ in_run first (suc n) b
    others apart = by (in_run first (suc n) b) refl
      where
        by : (t : Bool) → in_run first (suc n) b ≡ t → in_run (first + 1) n b ≡ in_run first (suc n) b
        by true e = let p = in_run-bounds first (suc n) b e in let low = p.0 in let high = p.1 in in_run-true (first + 1) n b (omega (arith, low, apart)) (omega (arith, high)) ∙ sym e
        by false e = in_run-false (first + 1) n b (⊎_elim (λ (h : b < first + 1). inl h) (λ (h : first + 1 ≤ b). ⊎_elim (λ (g : b < first + 1 + n). absurd (let is = in_run-true first (suc n) b (omega arith) (omega arith) in cc)) (λ (g : first + 1 + n ≤ b). inr g) (cases_lt b (first + 1 + n))) (cases_lt b (first + 1))) ∙ sym e

    at : Rest → (t : Bool) → (first == b) ≡ t → stamps_at b (stamps_from first (suc n) st) ≡ one_where_met (in_run first (suc n) b) st
    at rest true e =
        let same : first ≡ b = eqb-true first b e in
        front b first st (stamps_from (first + 1) n st) true e
        ∙ ap (λ l. st ∷ l) (rest ∙ unmet (in_run (first + 1) n b) st (in_run-false (first + 1) n b (inl (omega (arith, same)))))
        ∙ sym (met (in_run first (suc n) b) st (in_run-true first (suc n) b (omega (arith, same)) (omega (arith, same))))
    at rest false e =
        let other = eqb-false first b e in
        front b first st (stamps_from (first + 1) n st) false e
        ∙ rest ∙ ap (λ t. one_where_met t st) (others (λ (h : b ≡ first). other (sym h)))

-- the bytes of a run lie in the blocks that it stamps
met_run : (size from to b : ℕ) → 0 < size → from < to → in_run (from / size) (blocks_met size from to) b ≡ is_met size from to b
met_run size from to b some more = at (in_run (from / size) (blocks_met size from to) b) refl
  where
    first : ℕ
    first = from / size

    at : (t : Bool) → in_run first (blocks_met size from to) b ≡ t → in_run first (blocks_met size from to) b ≡ is_met size from to b
    at true e =
        let p = in_run-bounds first (blocks_met size from to) b e in
        let low : first ≤ b = p.0 in
        let high : b < first + blocks_met size from to = p.1 in
        let place : first + (b - first) ≡ b = omega (arith, low) in
        let in_it : b - first < blocks_met size from to = omega (arith, low, high) in
        e ∙ sym (ap (is_met size from to) (sym place) ∙ met-inside (run_between size from to) (byte_run size from to some more) (b - first) in_it)
    at false e = e ∙ sym (met-outside (run_between size from to) (byte_run size from to some more) b e)

-- bytes stamp the blocks that have some of them
bytes_stamped : (size from to b : ℕ) (by : Tag) → 0 < size → from < to → stamps_at b (stamps_met size by from to) ≡ one_where_met (is_met size from to b) (done_by by)
bytes_stamped size from to b by some more =
    run_stamps b (from / size) (blocks_met size from to) (done_by by) ∙ ap (λ t. one_where_met t (done_by by)) (met_run size from to b some more)

-- a run of which some first blocks have one stamp and the others another
two_runs : (b block n landed : ℕ) (here there : Stamp) → landed ≤ n
    → stamps_at b (stamps_from block landed here ++ stamps_from (block + landed) (n - landed) there) ≡ one_where_met (in_run block n b) (if nat_lt (b - block) landed then here else there)
two_runs b block n landed here there few =
    filter_map-append (stamp_at b) (stamps_from block landed here) (stamps_from (block + landed) (n - landed) there)
    ∙ ap (λ l. l ++ stamps_at b (stamps_from (block + landed) (n - landed) there)) (run_stamps b block landed here)
    ∙ ap (λ l. one_where_met (in_run block landed b) here ++ l) (run_stamps b (block + landed) (n - landed) there)
    ∙ ⊎_elim before (λ (h : block ≤ b). ⊎_elim (arrived h) (λ (g : block + landed ≤ b). ⊎_elim (missed g) behind (cases_lt b (block + n))) (cases_lt b (block + landed))) (cases_lt b block)
  where
    first : Bool
    first = in_run block landed b

    second : Bool
    second = in_run (block + landed) (n - landed) b

    whole : Bool
    whole = in_run block n b

    test : Bool
    test = nat_lt (b - block) landed

    Is : Type 0
    Is = one_where_met first here ++ one_where_met second there ≡ one_where_met whole (if test then here else there)

    put : (s t u : List Stamp) → one_where_met first here ≡ s → one_where_met second there ≡ t → one_where_met whole (if test then here else there) ≡ s ++ t → Is
    put s t u p q r = ap (λ l. l ++ one_where_met second there) p ∙ ap (λ l. s ++ l) q ∙ sym r

    outside : whole ≡ false → first ≡ false → second ≡ false → Is
    outside w f s = put [] [] [] (unmet first here f) (unmet second there s) (unmet whole (if test then here else there) w)

    before : b < block → Is
    before h = outside (in_run-false block n b (inl h)) (in_run-false block landed b (inl h)) (in_run-false (block + landed) (n - landed) b (inl (omega (arith, h))))

    behind : block + n ≤ b → Is
    behind h = outside (in_run-false block n b (inr h)) (in_run-false block landed b (inr (omega (arith, h, few)))) (in_run-false (block + landed) (n - landed) b (inr (omega (arith, h, few))))

    arrived : block ≤ b → b < block + landed → Is
    arrived low high =
        let t : test ≡ true = lt-ltb (b - block) landed (omega (arith, low, high)) in
        put (here ∷ []) [] [] (met first here (in_run-true block landed b low high)) (unmet second there (in_run-false (block + landed) (n - landed) b (inl high)))
        (ap (λ u. one_where_met whole (if u then here else there)) t ∙ met whole here (in_run-true block n b low (omega (arith, high, few))))

    missed : block + landed ≤ b → b < block + n → Is
    missed low high =
        let t : test ≡ false = le-ltb (b - block) landed (omega (arith, low)) in
        put [] (there ∷ []) [] (unmet first here (in_run-false block landed b (inr low))) (met second there (in_run-true (block + landed) (n - landed) b low (omega (arith, high, few))))
        (ap (λ u. one_where_met whole (if u then here else there)) t ∙ met whole there (in_run-true block n b (omega (arith, low)) high))

-- a direct write that came back stamps each of its blocks, done, landed or missed
write_stamped : (by : Tag) (block : ℕ) (kind : Kind) (n : ℕ) (done : Done) (b : ℕ) → done.landed ≤ n → stamps_at b (direct_stamps by Write block kind n done) ≡ one_where_met (in_run block n b) (written_stamp by kind done (b - block))
write_stamped by block kind n done b few = at done.failed refl (is_mapped kind) refl
  where
    i : ℕ
    i = b - block

    left : Bool → Bool → List (ℕ × Stamp)
    left failed mapped = if failed then failed_stamps by Write block n mapped done.landed else stamps_from block n (done_by by)

    mark : Bool → Bool → Stamp
    mark failed mapped = if failed then (if mapped && nat_lt i done.landed then landed_by by else missed_by by) else done_by by

    put : (failed mapped : Bool) → done.failed ≡ failed → is_mapped kind ≡ mapped → stamps_at b (left failed mapped) ≡ one_where_met (in_run block n b) (mark failed mapped)
        → stamps_at b (left done.failed (is_mapped kind)) ≡ one_where_met (in_run block n b) (mark done.failed (is_mapped kind))
    put failed mapped f m is =
        ap (λ t. stamps_at b (left t (is_mapped kind))) f ∙ ap (λ t. stamps_at b (left failed t)) m ∙ is
        ∙ sym (ap (λ t. one_where_met (in_run block n b) (mark t (is_mapped kind))) f ∙ ap (λ t. one_where_met (in_run block n b) (mark failed t)) m)

    at : (failed : Bool) → done.failed ≡ failed → (mapped : Bool) → is_mapped kind ≡ mapped → stamps_at b (left done.failed (is_mapped kind)) ≡ one_where_met (in_run block n b) (mark done.failed (is_mapped kind))
    at false f mapped m = put false mapped f m (run_stamps b block n (done_by by))
    at true f true m = put true true f m (two_runs b block n done.landed (landed_by by) (missed_by by) few)
    at true f false m = put true false f m (run_stamps b block n (missed_by by))

stamped : (size b : ℕ) (event : Event) (outcome : Outcome) → 0 < size → StampsOfWrite size b event outcome (stamps_at b (stamps_by size event outcome))
stamped size b (Sample a0 a1) o some = tt
stamped size b (Reserve a0 a1) o some = tt
stamped size b (Unreserve a0 a1) o some = tt
stamped size b (Attach a0 a1) o some = tt
stamped size b (Preallocate a0 a1) o some = tt
stamped size b (Fetch a0 a1 a2) o some = tt
stamped size b (LendRead a0 a1) o some = tt
stamped size b (FillBack a0 a1 a2 a3) o some = tt
stamped size b (Store by seen from to bytes) (Refused f) some = tt
stamped size b (Store by seen from to bytes) (Sampled g) some = tt
stamped size b (Store by seen from to bytes) (Counted m) some = tt
stamped size b (Store by seen from to bytes) (Took t) some = tt
stamped size b (Store by seen from to bytes) (Lending t m) some = tt
stamped size b (Store by seen from to bytes) Finished some = λ more. bytes_stamped size from to b by some more
stamped size b (StoreZeros by seen from to) (Refused f) some = tt
stamped size b (StoreZeros by seen from to) (Sampled g) some = tt
stamped size b (StoreZeros by seen from to) (Counted m) some = tt
stamped size b (StoreZeros by seen from to) (Took t) some = tt
stamped size b (StoreZeros by seen from to) (Lending t m) some = tt
stamped size b (StoreZeros by seen from to) Finished some = λ more. bytes_stamped size from to b by some more
stamped size b (LendWriteback a0 a1) o some = tt
stamped size b (WrittenBack a0 a1 a2 a3 a4) o some = tt
stamped size b (DropClean a0 a1) o some = tt
stamped size b (LendDirect a0 a1 a2 a3 a4) o some = tt
stamped size b (LendPart a0 a1 a2 a3 a4) o some = tt
stamped size b (DirectBack by Read ticket block kind pages done) (Refused f) some = tt
stamped size b (DirectBack by Write ticket block kind pages done) (Refused f) some = tt
stamped size b (DirectBack by Read ticket block kind pages done) (Sampled g) some = tt
stamped size b (DirectBack by Write ticket block kind pages done) (Sampled g) some = tt
stamped size b (DirectBack by Read ticket block kind pages done) (Counted m) some = tt
stamped size b (DirectBack by Write ticket block kind pages done) (Counted m) some = tt
stamped size b (DirectBack by Read ticket block kind pages done) (Took t) some = tt
stamped size b (DirectBack by Write ticket block kind pages done) (Took t) some = tt
stamped size b (DirectBack by Read ticket block kind pages done) (Lending t m) some = tt
stamped size b (DirectBack by Write ticket block kind pages done) (Lending t m) some = tt
stamped size b (DirectBack by Read ticket block kind pages done) Finished some = tt
stamped size b (DirectBack by Write ticket block kind pages done) Finished some = λ few. write_stamped by block kind (length pages) done b few
stamped size b (PartBack by ticket block kind from to bytes done) (Refused f) some = tt
stamped size b (PartBack by ticket block kind from to bytes done) (Sampled g) some = tt
stamped size b (PartBack by ticket block kind from to bytes done) (Counted m) some = tt
stamped size b (PartBack by ticket block kind from to bytes done) (Took t) some = tt
stamped size b (PartBack by ticket block kind from to bytes done) (Lending t m) some = tt
stamped size b (PartBack by ticket block kind from to bytes done) Finished some = λ few. write_stamped by block kind 1 done b few
stamped size b (DirectNow a0 a1 a2) o some = tt
stamped size b (Wipe by block n) (Refused f) some = tt
stamped size b (Wipe by block n) (Sampled g) some = tt
stamped size b (Wipe by block n) (Counted m) some = run_stamps b block n (done_by by)
stamped size b (Wipe by block n) (Took t) some = tt
stamped size b (Wipe by block n) (Lending t m) some = tt
stamped size b (Wipe by block n) Finished some = tt
stamped size b (DaxGet a0 a1 a2 a3) o some = tt
stamped size b (DaxPut by seen from to bytes) (Refused f) some = tt
stamped size b (DaxPut by seen from to bytes) (Sampled g) some = tt
stamped size b (DaxPut by seen from to bytes) (Counted m) some = tt
stamped size b (DaxPut by seen from to bytes) (Took t) some = λ more. bytes_stamped size from to b by some more
stamped size b (DaxPut by seen from to bytes) (Lending t m) some = tt
stamped size b (DaxPut by seen from to bytes) Finished some = tt
stamped size b (DaxZero by seen from to) (Refused f) some = tt
stamped size b (DaxZero by seen from to) (Sampled g) some = tt
stamped size b (DaxZero by seen from to) (Counted m) some = tt
stamped size b (DaxZero by seen from to) (Took t) some = tt
stamped size b (DaxZero by seen from to) (Lending t m) some = tt
stamped size b (DaxZero by seen from to) Finished some = λ more. bytes_stamped size from to b by some more

pub writes_are_stamped : WritesAreStamped
writes_are_stamped size b e some = stamped size b e.event e.outcome some
