-- Of entries that lay bytes one after another, the one that stamps a block lays all that lies over it.
use Rattle.std.proofs.Common.{◌≡◌, ℕ, ◌+◌, ◌*◌, ◌<◌, ◌≤◌, ◌⊎◌, inl, inr, ⊎_elim, Bool, true, false, List, [], ◌∷◌, ◌++◌, length, min, max, refl, sym, ap, ◌∙◌, subst, arith, length-append}
use Rattle.std.specs.Prelude.{All}
use Rattle.std.proofs.lemmas.Bool.{ltb-true}
use Rattle.std.proofs.lemmas.List.Elements.{All-cons, All-head, All-tail}
use Rattle.iob_base.specs.declared.stamp.Stamp.{Stamp}
use Rattle.io_model.specs.Contents.{Content}
use Rattle.range_core.specs.BlockContents.{content_after}
use Rattle.range_core.specs.EntryStamps.{stamps_in, stamps_of}
use Rattle.range_core.specs.Spots.{is_met, overlaid}
use Rattle.range_core.specs.Stamps.{stamps_at}
use Rattle.range_core.specs.declared.entry.Entry.{Entry}
use Rattle.buffered_write.specs.Lays.{FollowOn, Laid, bytes_laid, laid_by, laid_in}
use Rattle.call_traces.proofs.BlockStampLemmas.{IsUnstamped, none-stamped, stamps-cons}
use Rattle.call_traces.proofs.OverlaidLemmas.{back-overlaid, front-overlaid, met-first}

module _ (size b : ℕ) where
  -- the stamps that entries left on the block
  abbrev count : List Entry → ℕ
  count es = length (stamps_at b (stamps_in size es))

  -- where bytes lie that were laid from a place on, over the block
  abbrev over : ℕ → List ℕ → Content → Content
  over at bytes content = overlaid size at (at + length bytes) bytes b content

  abbrev pub Meets : ℕ → List ℕ → Bool → Type 0
  Meets at bytes t = is_met size at (at + length bytes) b ≡ t

  -- What an entry laid: it stamped the block where some of these bytes are of the block, and then it changed the block's content by them
  pub record MeetsBy (e : Entry) (x : Laid) : Type 0 where
    pub stamped : Meets x.from x.bytes true → 0 < length (stamps_at b (stamps_of size e))
    pub changed : Meets x.from x.bytes true → (content : Content) → length content ≡ size → content_after size b content e ≡ over x.from x.bytes content

  -- an entry laid nothing and left no stamp on the block, or laid one piece
  abbrev pub LaysBy : Entry → List Laid → Type 0
  LaysBy e [] = IsUnstamped size b e
  LaysBy e (x ∷ []) = MeetsBy e x
  LaysBy e (x ∷ y ∷ laids) = ⊥

  abbrev pub Lays : Entry → Type 0
  Lays e = LaysBy e (laid_by size e.event e.outcome)

  -- it left no stamp on the block, or changed it by all these bytes
  abbrev pub IsOver : ℕ → List ℕ → Entry → Type 0
  IsOver at bytes e = IsUnstamped size b e ⊎ ((content : Content) → length content ≡ size → content_after size b content e ≡ over at bytes content)

  count-cons : (e : Entry) (es : List Entry) → count (e ∷ es) ≡ length (stamps_at b (stamps_of size e)) + count es
  count-cons e es = ap length (stamps-cons size b e es) ∙ length-append (stamps_at b (stamps_of size e)) (stamps_at b (stamps_in size es))

  nothing-met : (at : ℕ) → Meets at [] true → ⊥
  nothing-met at met = (let some : max at (b * size) < min (at + 0) ((b + 1) * size) = ltb-true _ _ met in omega (arith, some))

  -- the block is stamped where some of the bytes are of the block
  met-stamped : (es : List Entry) (at : ℕ) → All Lays es → FollowOn at (laid_in size es) → Meets at (bytes_laid (laid_in size es)) true → 0 < count es
  met-stamped [] at lays follow met = absurd (nothing-met at met)
  met-stamped (e ∷ es) at lays follow met =
      by (laid_by size e.event e.outcome) (All-head Lays e es lays) follow met (λ next. met-stamped es next (All-tail Lays e es lays))
    where
      by : (l : List Laid) → LaysBy e l → FollowOn at (l ++ laid_in size es) → Meets at (bytes_laid (l ++ laid_in size es)) true
          → ((next : ℕ) → FollowOn next (laid_in size es) → Meets next (bytes_laid (laid_in size es)) true → 0 < count es) → 0 < count (e ∷ es)
      by [] first follow met rest = let r = rest at follow met in omega (arith, count-cons e es, r)
      by (x ∷ []) first (from, follow) met rest = either (is_met size mid (mid + length tail) b) refl
        where
          mid : ℕ
          mid = at + length x.bytes

          tail : List ℕ
          tail = bytes_laid (laid_in size es)

          either : (t : Bool) → Meets mid tail t → 0 < count (e ∷ es)
          either true behind = let r = rest mid follow behind in omega (arith, count-cons e es, r)
          either false front =
              let here : Meets at x.bytes true = met-first size b at x.bytes tail met front in
              let one = first.stamped (subst (λ n. Meets n x.bytes true) (sym from) here) in
              omega (arith, count-cons e es, one)
      by (x ∷ y ∷ l) first follow met rest = absurd first

  -- bytes that a piece laid are those of the place where it follows on
  placed-over : (e : Entry) (x : Laid) (at : ℕ) → x.from ≡ at → MeetsBy e x → Meets at x.bytes true → (content : Content) → length content ≡ size → content_after size b content e ≡ over at x.bytes content
  placed-over e x at from first here content whole = first.changed (subst (λ n. Meets n x.bytes true) (sym from) here) content whole ∙ ap (λ n. over n x.bytes content) from

  -- an entry that left no stamp laid no byte of the block
  unmet-by : (e : Entry) (x : Laid) (at : ℕ) → x.from ≡ at → MeetsBy e x → length (stamps_at b (stamps_of size e)) ≡ 0 → Meets at x.bytes false
  unmet-by e x at from first none = by (is_met size at (at + length x.bytes) b) refl
    where
      by : (t : Bool) → Meets at x.bytes t → Meets at x.bytes false
      by false unmet = unmet
      by true met = absurd (let one = first.stamped (subst (λ n. Meets n x.bytes true) (sym from) met) in omega (arith, one, none))

  none-of : (l : List Stamp) → length l ≡ 0 → l ≡ []
  none-of [] e = refl
  none-of (x ∷ xs) e = absurd (omega arith)

  unstamped-over : (at : ℕ) (bytes : List ℕ) (es : List Entry) → count es ≡ 0 → All (IsOver at bytes) es
  unstamped-over at bytes es none = let each = none-stamped size b es (none-of (stamps_at b (stamps_in size es)) none) in λ k d lt. inl (each k d lt)

  -- where the block is stamped once, the entry that stamped it changed it by all the bytes that were laid
  pub one-lays : (es : List Entry) (at : ℕ) → All Lays es → FollowOn at (laid_in size es) → count es ≤ 1 → Meets at (bytes_laid (laid_in size es)) true → All (IsOver at (bytes_laid (laid_in size es))) es
  one-lays [] at lays follow few met = absurd (nothing-met at met)
  one-lays (e ∷ es) at lays follow few met =
      by (laid_by size e.event e.outcome) (All-head Lays e es lays) follow met (λ next more follows meets. one-lays es next (All-tail Lays e es lays) follows more meets) (λ next. met-stamped es next (All-tail Lays e es lays))
    where
      tail : List ℕ
      tail = bytes_laid (laid_in size es)

      by : (l : List Laid) → LaysBy e l → FollowOn at (l ++ laid_in size es) → Meets at (bytes_laid (l ++ laid_in size es)) true
          → ((next : ℕ) → count es ≤ 1 → FollowOn next (laid_in size es) → Meets next tail true → All (IsOver next tail) es)
          → ((next : ℕ) → FollowOn next (laid_in size es) → Meets next tail true → 0 < count es)
          → All (IsOver at (bytes_laid (l ++ laid_in size es))) (e ∷ es)
      by [] first follow met rest stamped = All-cons (IsOver at tail) e es (inl first) (rest at (omega (arith, count-cons e es, few)) follow met)
      by (x ∷ []) first (from, follow) met rest stamped = either (is_met size mid (mid + length tail) b) refl
        where
          mid : ℕ
          mid = at + length x.bytes

          all : List ℕ
          all = x.bytes ++ tail

          either : (t : Bool) → Meets mid tail t → All (IsOver at all) (e ∷ es)
          either true behind =
              let r = stamped mid follow behind in
              let none : length (stamps_at b (stamps_of size e)) ≡ 0 = omega (arith, count-cons e es, r, few) in
              let unmet = unmet-by e x at from first none in
              let others = rest mid (omega (arith, count-cons e es, few)) follow behind in
              All-cons (IsOver at all) e es (inl (none-of (stamps_at b (stamps_of size e)) none))
              (λ k d lt. ⊎_elim (λ h. inl h) (λ h. inr (λ content whole. h content whole ∙ back-overlaid size b at x.bytes tail content unmet behind)) (others k d lt))
          either false front =
              let here : Meets at x.bytes true = met-first size b at x.bytes tail met front in
              let one = first.stamped (subst (λ n. Meets n x.bytes true) (sym from) here) in
              All-cons (IsOver at all) e es
              (inr (λ content whole. placed-over e x at from first here content whole ∙ front-overlaid size b at x.bytes tail content met front))
              (unstamped-over at all es (omega (arith, count-cons e es, one, few)))
      by (x ∷ y ∷ l) first follow met rest stamped = absurd first
