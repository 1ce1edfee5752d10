-- Entries that change a block by what they lay.
use Rattle.std.proofs.Common.{◌≡◌, ℕ, ◌+◌, ◌-◌, ◌*◌, ◌/◌, ◌<◌, ◌≤◌, ⊎_elim, Bool, true, false, ◌==◌, List, ◌++◌, length, take, min, max, if◌then◌else◌, refl, sym, ap, ◌∙◌, subst, arith}
use Rattle.std.proofs.Math.Nat.{mul-le-mul_right}
use Rattle.std.proofs.lemmas.Bool.{cases_lt, eqb-true, ltb-true}
use Rattle.std.proofs.lemmas.List.{drop-replicate, drop_all, length-replicate, take-replicate}
use Rattle.std.proofs.Common.{append-nil}
use Rattle.iob_base.specs.declared.stamp.Stamp.{Stamp}
use Rattle.io_model.specs.Contents.{Content, zeros}
use Rattle.io_model.specs.Effects.{overlay}
use Rattle.io_model.specs.Lists.{bytes_between}
use Rattle.range_core.specs.BlockContents.{content_after}
use Rattle.range_core.specs.ByteRuns.{run_between}
use Rattle.range_core.specs.EntryStamps.{stamps_of}
use Rattle.range_core.specs.Spots.{blocks_met, in_run, is_met, overlaid}
use Rattle.range_core.specs.Stamps.{done_by, stamps_at, stamps_from}
use Rattle.range_core.specs.declared.entry.Entry.{Entry}
use Rattle.range_core.specs.declared.entry.Event.{Event}
use Rattle.range_core.specs.declared.entry.Event.TheVariants.{Sample, Reserve, Unreserve, Attach, Preallocate, Fetch, LendRead, FillBack, Store, StoreZeros, LendWriteback, WrittenBack, DropClean, LendDirect, LendPart, DirectBack, PartBack, DirectNow, Wipe, DaxGet, DaxPut, DaxZero}
use Rattle.range_core.specs.declared.entry.Outcome.{Outcome}
use Rattle.range_core.specs.declared.entry.Outcome.TheVariants.{Refused, Sampled, Counted, Took, Lending, Finished}
use Rattle.range_core.proofs.AfterRun.{in_run-true}
use Rattle.range_core.proofs.ChangeLemmas.{byte_run}
use Rattle.range_core.proofs.FoundLemmas.{met-run}
use Rattle.buffered_write.specs.Lays.{laid_at, laid_by}
use Rattle.call_traces.proofs.BlockStampLemmas.{one_if, run-stamps}
use Rattle.call_traces.proofs.OneLaysLemmas.{Lays, LaysBy, Meets, MeetsBy}

-- the event lays bytes, as many as it says, or neither lays any nor leaves a stamp
abbrev pub is_laying : Event → Bool
is_laying (Store by seen from to bytes) = length bytes == to - from
is_laying (Fetch by from to) = false
is_laying (LendDirect by seen op block n) = false
is_laying (DirectBack by op ticket block kind pages done) = false
is_laying (PartBack by ticket block kind from to bytes done) = false
is_laying (DirectNow by block most) = false
is_laying (DaxGet by seen from to) = false
is_laying (DaxPut by seen from to bytes) = false
is_laying _ = true

-- bytes between two places of zeros are zeros
pub between-zeros : (low high n : ℕ) → high ≤ n → bytes_between low high (zeros n) ≡ zeros (high - low)
between-zeros low high n within =
    let z : ℕ = 0 in
    ap (take (high - low)) (drop-replicate low n z) ∙ take-replicate (high - low) (n - low) z (omega (arith, within))

if-yes : {A : Type 0} (t : Bool) (x y : A) → t ≡ true → (if t then x else y) ≡ x
if-yes true x y e = refl
if-yes false x y e = absurd (cc)

module _ (size b : ℕ) (some : 0 < size) where
  next : (m : ℕ) → (m + 1) * size ≡ m * size + size
  next m = omega arith

  scaled : (m n : ℕ) → m ≤ n → m * size ≤ n * size
  scaled m n h = mul-le-mul_right size h

  run-stamped : (st : Stamp) (first n : ℕ) → in_run first n b ≡ true → 0 < length (stamps_at b (stamps_from first n st))
  run-stamped st first n inside =
      let one : length (stamps_at b (stamps_from first n st)) ≡ 1 = ap length (run-stamps b st first n ∙ ap (one_if b st) inside) in
      omega (arith, one)

  met-run-stamped : (st : Stamp) (from to : ℕ) → is_met size from to b ≡ true → 0 < length (stamps_at b (stamps_from (from / size) (blocks_met size from to) st))
  met-run-stamped st from to met =
      let lies : max from (b * size) < min to ((b + 1) * size) = ltb-true _ _ met in
      let less : from < to = omega (arith, lies) in
      run-stamped st (from / size) (blocks_met size from to) (sym (met-run (run_between size from to) (byte_run size from to some less) b) ∙ met)

  -- an entry that put bytes on the blocks that have some of them, and stamped these
  puts : (e : Entry) (st : Stamp) (from to : ℕ) (bytes : List ℕ) → length bytes ≡ to - from → stamps_of size e ≡ stamps_from (from / size) (blocks_met size from to) st
      → ((content : Content) → content_after size b content e ≡ (if is_met size from to b then overlaid size from to bytes b content else content)) → MeetsBy size b e (laid_at from bytes)
  puts e st from to bytes long stamps changes = record {
    stamped = λ met. subst (λ l. 0 < length (stamps_at b l)) (sym stamps) (met-run-stamped st from to (same met));
    changed = λ met content whole. changes content ∙ if-yes (is_met size from to b) (overlaid size from to bytes b content) content (same met) ∙ ap (λ n. overlaid size from n bytes b content) (sym (end met));
  }
    where
      end : Meets size b from bytes true → from + length bytes ≡ to
      end met = (let lies : max from (b * size) < min (from + length bytes) ((b + 1) * size) = ltb-true _ _ met in omega (arith, lies, long))

      same : Meets size b from bytes true → is_met size from to b ≡ true
      same met = ap (λ n. is_met size from n b) (sym (end met)) ∙ met

  zeros-long : (n : ℕ) → length (zeros n) ≡ n
  zeros-long n = length-replicate n 0

  puts-zeros : (e : Entry) (st : Stamp) (from to : ℕ) → stamps_of size e ≡ stamps_from (from / size) (blocks_met size from to) st
      → ((content : Content) → content_after size b content e ≡ (if is_met size from to b then overlaid size from to (zeros (to - from)) b content else content)) → MeetsBy size b e (laid_at from (zeros (to - from)))
  puts-zeros e st from to stamps changes = puts e st from to (zeros (to - from)) (zeros-long (to - from)) stamps changes

  -- an entry that made blocks holes, and stamped these
  wipes : (e : Entry) (st : Stamp) (block n : ℕ) → stamps_of size e ≡ stamps_from block n st → ((content : Content) → content_after size b content e ≡ (if in_run block n b then zeros size else content))
      → MeetsBy size b e (laid_at (block * size) (zeros (n * size)))
  wipes e st block n stamps changes = record {
    stamped = λ met. subst (λ l. 0 < length (stamps_at b l)) (sym stamps) (run-stamped st block n (inside met));
    changed = λ met content whole. changes content ∙ if-yes (in_run block n b) (zeros size) content (inside met) ∙ sym (all met content whole);
  }
    where
      end : block * size + length (zeros (n * size)) ≡ block * size + n * size
      end = ap (λ k. block * size + k) (zeros-long (n * size))

      lies : Meets size b (block * size) (zeros (n * size)) true → max (block * size) (b * size) < min (block * size + n * size) ((b + 1) * size)
      lies met = ltb-true _ _ (sym (ap (λ k. is_met size (block * size) k b) end) ∙ met)

      parts : (block + n) * size ≡ block * size + n * size
      parts = omega arith

      starts : Meets size b (block * size) (zeros (n * size)) true → block ≤ b
      starts met = ⊎_elim (λ (h : b < block). absurd (let m = scaled (b + 1) block (omega (arith, h)) in let l = lies met in omega (arith, m, l, next b))) (λ (h : block ≤ b). h) (cases_lt b block)

      stops : Meets size b (block * size) (zeros (n * size)) true → b < block + n
      stops met = ⊎_elim (λ (h : b < block + n). h) (λ (h : block + n ≤ b). absurd (let m = scaled (block + n) b h in let l = lies met in omega (arith, m, l, parts))) (cases_lt b (block + n))

      inside : Meets size b (block * size) (zeros (n * size)) true → in_run block n b ≡ true
      inside met = in_run-true block n b (starts met) (stops met)

      only : (content : Content) → length content ≡ size → overlay 0 (zeros size) content ≡ zeros size
      only content whole = ap (λ l. zeros size ++ l) (drop_all (0 + length (zeros size)) content (omega (arith, zeros-long size, whole))) ∙ append-nil (zeros size)

      all : Meets size b (block * size) (zeros (n * size)) true → (content : Content) → length content ≡ size → overlaid size (block * size) (block * size + length (zeros (n * size))) (zeros (n * size)) b content ≡ zeros size
      all met content whole =
          let from = scaled block b (starts met) in
          let to = scaled (b + 1) (block + n) (omega (arith, stops met)) in
          let low : max (block * size) (b * size) ≡ b * size = omega (arith, from) in
          let high : min (block * size + n * size) ((b + 1) * size) ≡ (b + 1) * size = omega (arith, to, parts) in
          let place : b * size - b * size ≡ 0 = omega arith in
          let within : (b + 1) * size - block * size ≤ n * size = omega (arith, to, parts, from) in
          let long : (b + 1) * size - block * size - (b * size - block * size) ≡ size = omega (arith, next b, from) in
          ap (λ k. overlaid size (block * size) k (zeros (n * size)) b content) end
          ∙ ap (λ l. overlay (l - b * size) (bytes_between (l - block * size) (min (block * size + n * size) ((b + 1) * size) - block * size) (zeros (n * size))) content) low
          ∙ ap (λ h. overlay (b * size - b * size) (bytes_between (b * size - block * size) (h - block * size) (zeros (n * size))) content) high
          ∙ ap (λ k. overlay k (bytes_between (b * size - block * size) ((b + 1) * size - block * size) (zeros (n * size))) content) place
          ∙ ap (λ l. overlay 0 l content) (between-zeros (b * size - block * size) ((b + 1) * size - block * size) (n * size) within ∙ ap zeros long)
          ∙ only content whole

  -- each entry of a laying event changes the block by what it laid, and only where it stamped it
  laying-by : (caller : ℕ) (event : Event) (outcome : Outcome) → is_laying event ≡ true → LaysBy size b (record { caller = caller; event = event; outcome = outcome }) (laid_by size event outcome)
  laying-by caller (Sample a0 a1) o is = refl
  laying-by caller (Reserve a0 a1) o is = refl
  laying-by caller (Unreserve a0 a1) o is = refl
  laying-by caller (Attach a0 a1) o is = refl
  laying-by caller (Preallocate a0 a1) o is = refl
  laying-by caller (Fetch by from to) o is = absurd (cc)
  laying-by caller (LendRead a0 a1) o is = refl
  laying-by caller (FillBack a0 a1 a2 a3) o is = refl
  laying-by caller (Store by seen from to bytes) (Refused f) is = refl
  laying-by caller (Store by seen from to bytes) (Sampled g) is = refl
  laying-by caller (Store by seen from to bytes) (Counted m) is = refl
  laying-by caller (Store by seen from to bytes) (Took t) is = refl
  laying-by caller (Store by seen from to bytes) (Lending t m) is = refl
  laying-by caller (Store by seen from to bytes) Finished is = puts _ (done_by by) from to bytes (eqb-true (length bytes) (to - from) is) refl (λ content. refl)
  laying-by caller (StoreZeros by seen from to) (Refused f) is = refl
  laying-by caller (StoreZeros by seen from to) (Sampled g) is = refl
  laying-by caller (StoreZeros by seen from to) (Counted m) is = refl
  laying-by caller (StoreZeros by seen from to) (Took t) is = refl
  laying-by caller (StoreZeros by seen from to) (Lending t m) is = refl
  laying-by caller (StoreZeros by seen from to) Finished is = puts-zeros _ (done_by by) from to refl (λ content. refl)
  laying-by caller (LendWriteback a0 a1) o is = refl
  laying-by caller (WrittenBack a0 a1 a2 a3 a4) o is = refl
  laying-by caller (DropClean a0 a1) o is = refl
  laying-by caller (LendDirect by seen op block n) o is = absurd (cc)
  laying-by caller (LendPart a0 a1 a2 a3 a4) o is = refl
  laying-by caller (DirectBack by op ticket block kind pages done) o is = absurd (cc)
  laying-by caller (PartBack by ticket block kind from to bytes done) o is = absurd (cc)
  laying-by caller (DirectNow by block most) o is = absurd (cc)
  laying-by caller (Wipe by block n) (Refused f) is = refl
  laying-by caller (Wipe by block n) (Sampled g) is = refl
  laying-by caller (Wipe by block n) (Counted m) is = wipes _ (done_by by) block n refl (λ content. refl)
  laying-by caller (Wipe by block n) (Took t) is = refl
  laying-by caller (Wipe by block n) (Lending t m) is = refl
  laying-by caller (Wipe by block n) Finished is = refl
  laying-by caller (DaxGet by seen from to) o is = absurd (cc)
  laying-by caller (DaxPut by seen from to bytes) o is = absurd (cc)
  laying-by caller (DaxZero by seen from to) (Refused f) is = refl
  laying-by caller (DaxZero by seen from to) (Sampled g) is = refl
  laying-by caller (DaxZero by seen from to) (Counted m) is = refl
  laying-by caller (DaxZero by seen from to) (Took t) is = refl
  laying-by caller (DaxZero by seen from to) (Lending t m) is = refl
  laying-by caller (DaxZero by seen from to) Finished is = puts-zeros _ (done_by by) from to refl (λ content. refl)

  pub laying : (e : Entry) → is_laying e.event ≡ true → Lays size b e
  laying e is = laying-by e.caller e.event e.outcome is
