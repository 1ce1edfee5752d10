-- The entries of a call change a block as its stamps say.
use Rattle.std.proofs.Common.{◌≡◌, ℕ, ◌+◌, ◌-◌, ◌*◌, ◌/◌, ◌%◌, ◌<◌, ◌≤◌, ◌⊎◌, inl, inr, ⊎_elim, Bool, true, false, ◌==◌, ◌&&◌, ◌||◌, List, [], ◌∷◌, ◌++◌, length, get_or, min, max, Some, None, if◌then◌else◌, refl, sym, ap, ◌∙◌, arith}
use Rattle.std.specs.Prelude.{All}
use Rattle.std.specs.List.{cons_option, fold}
use Rattle.std.proofs.Math.Nat.{mul-le-mul_right}
use Rattle.std.proofs.lemmas.Bool.{cases_lt, ltb-true}
use Rattle.std.proofs.lemmas.Nat.{div-add-mod'}
use Rattle.iob_base.specs.declared.stamp.Mark.TheVariants.{Done}
use Rattle.iob_base.specs.declared.stamp.Stamp.{Stamp}
use Rattle.iob_base.specs.declared.stamp.Tag.{Tag}
use Rattle.io_model.specs.Calls.{bytes_of, is_write, is_zeroing, offset_of}
use Rattle.io_model.specs.Contents.{Content, zeros}
use Rattle.io_model.specs.Effects.{effect, effect_of, overlay}
use Rattle.io_model.specs.Effects as model
use Rattle.io_model.specs.Lists.{bytes_between, numbered}
use Rattle.io_model.specs.Parts.{Span, blocks_met, meets, part_in}
use Rattle.io_model.specs.Ranges.{Ranged}
use Rattle.range_core.specs.EntryStamps.{stamps_in, stamps_of}
use Rattle.range_core.specs.Spots.{is_met, overlaid}
use Rattle.range_core.specs.StampedChanges.{is_marked, may_change}
use Rattle.range_core.specs.Stamps.{done_by, stamps_at, stamps_from}
use Rattle.range_core.specs.declared.entry.Entry.{Entry}
use Rattle.range_core.proofs.ChangeLemmas.{only_stamps_change}
use Rattle.call_traces.specs.Changes.{ChangesAsTold, told_by}
use Rattle.buffered_write.specs.Lays.{FollowOn, bytes_laid, laid_in}
use Rattle.call_traces.proofs.BlockStampLemmas.{IsStampedBy, IsUnstamped, none-stamped, one_if, one-stamped, span-stamps}
use Rattle.call_traces.proofs.LayingLemmas.{between-zeros, is_laying, laying}
use Rattle.call_traces.proofs.OneLaysLemmas.{IsOver, Lays, one-lays}
use Rattle.call_traces.proofs.OverlaidLemmas.{between-front}

-- a block without a stamp is marked by none
none-marked : (b : ℕ) (log : List (ℕ × Stamp)) → stamps_at b log ≡ [] → is_marked b log ≡ false
none-marked b [] none = refl
none-marked b (s ∷ log) none = by (s.0 == b) refl (none-marked b log)
  where
    by : (t : Bool) → (s.0 == b) ≡ t → (stamps_at b log ≡ [] → is_marked b log ≡ false) → is_marked b (s ∷ log) ≡ false
    by true is rest = absurd (let n : s.1 ∷ stamps_at b log ≡ [] = sym (ap (λ t. cons_option (if t then Some s.1 else None) (stamps_at b log)) is) ∙ none in cc)
    by false is rest = ap (λ t. (t && may_change s.1.mark) || is_marked b log) is ∙ rest (sym (ap (λ t. cons_option (if t then Some s.1 else None) (stamps_at b log)) is) ∙ none)

module _ (size : ℕ) (some : 0 < size) (calls : List Ranged) (b : ℕ) where
  -- an entry without a stamp leaves the content, as its stamps say
  pub unstamped-told : (e : Entry) → IsUnstamped size b e → ChangesAsTold size calls b e
  unstamped-told e none content whole =
      only_stamps_change size b content e some (none-marked b (stamps_of size e) none) ∙ sym (ap (fold (effect size calls b) content) none)

  -- entries without stamps at the block do so
  pub none-told : (es : List Entry) → stamps_at b (stamps_in size es) ≡ [] → All (ChangesAsTold size calls b) es
  none-told es none = let each = none-stamped size b es none in λ k d lt. unstamped-told (get_or es k d) (each k d lt)

  module _ (n : ℕ) (r : Ranged) (named : numbered calls n ≡ Some r) (by : Tag) (tag : by.call ≡ n) where
    -- the stamp of a call that was done says what the call does
    pub one-told : (e : Entry) (content : Content) → stamps_at b (stamps_of size e) ≡ done_by by ∷ [] → told_by size calls b content e ≡ model.content_after size r b content
    one-told e content is = ap (fold (effect size calls b) content) is ∙ ap (λ o. effect_of size b Done o content) (ap (numbered calls) tag ∙ named)

    -- what lies over the block of the bytes that a call laid is what the call does to it
    abbrev pub LiesAsCalled : ℕ → List ℕ → Type 0
    LiesAsCalled off bytes = (content : Content) → length content ≡ size → overlaid size off (off + length bytes) bytes b content ≡ model.content_after size r b content

    -- entries that lay bytes one after another and stamp each block of them once change the block as their stamps say
    pub laid-told : (es : List Entry) (off : ℕ) (answered : Span) → All (λ e. is_laying e.event ≡ true) es → FollowOn off (laid_in size es)
        → stamps_in size es ≡ stamps_from (answered.from / size) (blocks_met size answered) (done_by by)
        → (meets size answered b ≡ true → (is_met size off (off + length (bytes_laid (laid_in size es))) b ≡ true) × LiesAsCalled off (bytes_laid (laid_in size es)))
        → All (ChangesAsTold size calls b) es
    laid-told es off answered lay follow stamps covers = at (meets size answered b) refl
      where
        bytes : List ℕ
        bytes = bytes_laid (laid_in size es)

        left : stamps_at b (stamps_in size es) ≡ one_if b (done_by by) (meets size answered b)
        left = ap (stamps_at b) stamps ∙ span-stamps b (done_by by) size answered some

        told : LiesAsCalled off bytes → (e : Entry) → IsStampedBy size b (done_by by) e → IsOver size b off bytes e → ChangesAsTold size calls b e
        told lies e (inl none) over = unstamped-told e none
        told lies e (inr one) (inl none) = unstamped-told e none
        told lies e (inr one) (inr over) = λ content whole. over content whole ∙ lies content whole ∙ sym (one-told e content one)

        at : (t : Bool) → meets size answered b ≡ t → All (ChangesAsTold size calls b) es
        at false unmet = none-told es (left ∙ ap (one_if b (done_by by)) unmet)
        at true met =
            let once : stamps_at b (stamps_in size es) ≡ done_by by ∷ [] = left ∙ ap (one_if b (done_by by)) met in
            let few : length (stamps_at b (stamps_in size es)) ≤ 1 = (let n : length (stamps_at b (stamps_in size es)) ≡ 1 = ap length once in omega (arith, n)) in
            let lays : All (Lays size b) es = λ k d lt. laying size b some (get_or es k d) (lay k d lt) in
            let stamped = one-stamped size b (done_by by) es once in
            let over = one-lays size b es off lays follow few (covers met).0 in
            λ k d lt. told (covers met).1 (get_or es k d) (stamped k d lt) (over k d lt)

-- A range was done up to its end, or up to where a block begins
abbrev pub EndsRight : ℕ → ℕ → ℕ → Type 0
EndsRight size at to = (at ≡ to) ⊎ ((at ≤ to) × (at % size ≡ 0))

module _ (size b : ℕ) where
  next : (b + 1) * size ≡ b * size + size
  next = omega arith

  scaled : (m n : ℕ) → m ≤ n → m * size ≤ n * size
  scaled m n h = mul-le-mul_right size h

  -- in a block of what was done of a range, all that the range has there was done
  pub same-end : (off at to : ℕ) → is_met size off at b ≡ true → EndsRight size at to → min at ((b + 1) * size) ≡ min to ((b + 1) * size)
  same-end off at to met (inl same) = ap (λ k. min k ((b + 1) * size)) same
  same-end off at to met (inr (within, border)) =
      let lies : max off (b * size) < min at ((b + 1) * size) = ltb-true _ _ met in
      let blocks : at / size * size + at % size ≡ at = div-add-mod' at size in
      let past : b < at / size = ⊎_elim (λ (h : b < at / size). h) (λ (h : at / size ≤ b). absurd (let m = scaled (at / size) b h in omega (arith, m, lies, blocks, border))) (cases_lt b (at / size)) in
      let whole : (b + 1) * size ≤ at / size * size = scaled (b + 1) (at / size) (omega (arith, past)) in
      omega (arith, whole, blocks, within)

  module _ (r : Ranged) (off : ℕ) (bytes : List ℕ) (begins : r.range.from ≡ off) (met : is_met size off (off + length bytes) b ≡ true) (ends : EndsRight size (off + length bytes) r.range.to) where
    abbrev low : ℕ
    low = max off (b * size)

    abbrev high : ℕ
    high = min (off + length bytes) ((b + 1) * size)

    from-is : (part_in size r.range b).from ≡ low
    from-is = ap (λ k. max k (b * size)) begins

    to-is : (part_in size r.range b).to ≡ high
    to-is = sym (same-end off (off + length bytes) r.range.to met ends)

    lies : low < high
    lies = ltb-true _ _ met

    -- bytes of a write that lie over the block are those of the call
    pub write-lies : (rest : List ℕ) → is_write r.call.verb ≡ true → offset_of r.call.verb ≡ off → bytes_of r.call.verb ≡ bytes ++ rest → (content : Content)
        → overlaid size off (off + length bytes) bytes b content ≡ model.content_after size r b content
    write-lies rest writes place all content = sym (
        ap (λ t. if t then overlay (from - b * size) (bytes_between (from - offset_of r.call.verb) (to - offset_of r.call.verb) (bytes_of r.call.verb)) content else (if is_zeroing r.call.verb then overlay (from - b * size) (zeros (to - from)) content else content)) writes
        ∙ ap (λ k. overlay (from - b * size) (bytes_between (from - k) (to - k) (bytes_of r.call.verb)) content) place
        ∙ ap (λ l. overlay (from - b * size) (bytes_between (from - off) (to - off) l) content) all
        ∙ ap (λ k. overlay (k - b * size) (bytes_between (k - off) (to - off) (bytes ++ rest)) content) from-is
        ∙ ap (λ k. overlay (low - b * size) (bytes_between (low - off) (k - off) (bytes ++ rest)) content) to-is
        ∙ ap (λ l. overlay (low - b * size) l content) (between-front (low - off) (high - off) bytes rest (omega (arith, lies)) (omega arith)))
      where
        from : ℕ
        from = (part_in size r.range b).from

        to : ℕ
        to = (part_in size r.range b).to

    -- zeros that lie over the block are those of the call
    pub zeros-lie : is_write r.call.verb ≡ false → is_zeroing r.call.verb ≡ true → bytes ≡ zeros (length bytes) → (content : Content)
        → overlaid size off (off + length bytes) bytes b content ≡ model.content_after size r b content
    zeros-lie writes clears none content =
        ap (λ l. overlay (low - b * size) (bytes_between (low - off) (high - off) l) content) none
        ∙ ap (λ l. overlay (low - b * size) l content) (between-zeros (low - off) (high - off) (length bytes) (omega arith) ∙ ap zeros long)
        ∙ sym (
        ap (λ t. if t then overlay (from - b * size) (bytes_between (from - offset_of r.call.verb) (to - offset_of r.call.verb) (bytes_of r.call.verb)) content else (if is_zeroing r.call.verb then overlay (from - b * size) (zeros (to - from)) content else content)) writes
        ∙ ap (λ t. if t then overlay (from - b * size) (zeros (to - from)) content else content) clears
        ∙ ap (λ k. overlay (k - b * size) (zeros (to - k)) content) from-is
        ∙ ap (λ k. overlay (low - b * size) (zeros (k - low)) content) to-is)
      where
        from : ℕ
        from = (part_in size r.range b).from

        to : ℕ
        to = (part_in size r.range b).to

        long : high - off - (low - off) ≡ high - low
        long = omega (arith, lies)
