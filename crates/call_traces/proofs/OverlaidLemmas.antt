-- What of bytes lies over a block, where they are laid in two pieces.
use Rattle.std.proofs.Common.{◌≡◌, ℕ, ◌+◌, ◌-◌, ◌*◌, ◌<◌, ◌≤◌, true, false, List, ◌++◌, length, take, drop, min, max, sym, ap, ◌∙◌, arith, length-append, length-drop}
use Rattle.std.proofs.Math.Seq.{drop-append-add}
use Rattle.std.proofs.lemmas.Bool.{ltb-false, ltb-true, lt-ltb}
use Rattle.std.proofs.lemmas.List.{drop-append-le, take-append-le}
use Rattle.io_model.specs.Contents.{Content}
use Rattle.io_model.specs.Effects.{overlay}
use Rattle.io_model.specs.Lists.{bytes_between}
use Rattle.range_core.specs.Spots.{is_met, overlaid}

-- bytes between two places of the first of two lists are those of the first list
pub between-front : (low high : ℕ) (xs ys : List ℕ) → low ≤ high → high ≤ length xs → bytes_between low high (xs ++ ys) ≡ bytes_between low high xs
between-front low high xs ys order within =
    ap (take (high - low)) (drop-append-le low xs ys (omega (arith, order, within)))
    ∙ take-append-le (high - low) (drop low xs) ys (omega (arith, length-drop low xs, order, within))

-- and those past it are those of the second
between-back : (low high : ℕ) (xs ys : List ℕ) → bytes_between (length xs + low) (length xs + high) (xs ++ ys) ≡ bytes_between low high ys
between-back low high xs ys =
    let same : length xs + high - (length xs + low) ≡ high - low = omega arith in
    ap (λ n. take n (drop (length xs + low) (xs ++ ys))) same ∙ ap (take (high - low)) (drop-append-add xs ys low)

module _ (size b at : ℕ) (xs ys : List ℕ) where
  abbrev mid : ℕ
  mid = at + length xs

  abbrev end : ℕ
  end = at + length (xs ++ ys)

  next : (b + 1) * size ≡ b * size + size
  next = omega arith

  ends : end ≡ mid + length ys
  ends = omega (arith, length-append xs ys)

  -- of a block that two pieces together meet, and the second does not, the first has some bytes
  pub met-first : is_met size at end b ≡ true → is_met size mid (mid + length ys) b ≡ false → is_met size at mid b ≡ true
  met-first met unmet =
      let some : max at (b * size) < min end ((b + 1) * size) = ltb-true _ _ met in
      let none : min (mid + length ys) ((b + 1) * size) ≤ max mid (b * size) = ltb-false _ _ unmet in
      lt-ltb _ _ (omega (arith, some, none, ends, next))

  module _ (content : Content) where
    -- bytes that begin at a place of the file, from one place of it up to another, over the block
    abbrev laid_part : ℕ → ℕ → ℕ → List ℕ → Content
    laid_part begin low high bytes = overlay (low - b * size) (bytes_between (low - begin) (high - begin) bytes) content

    -- where the second piece has no byte of the block, the first is all that lies over it
    pub front-overlaid : is_met size at end b ≡ true → is_met size mid (mid + length ys) b ≡ false → overlaid size at mid xs b content ≡ overlaid size at end (xs ++ ys) b content
    front-overlaid met unmet =
        let low : ℕ = max at (b * size) in
        let high : ℕ = min mid ((b + 1) * size) in
        let some : low < min end ((b + 1) * size) = ltb-true _ _ met in
        let none : min (mid + length ys) ((b + 1) * size) ≤ max mid (b * size) = ltb-false _ _ unmet in
        let same : min end ((b + 1) * size) ≡ high = omega (arith, some, none, ends, next) in
        let order : low ≤ high = omega (arith, same, some) in
        sym (ap (λ h. laid_part at low h (xs ++ ys)) same ∙ ap (λ l. overlay (low - b * size) l content) (between-front (low - at) (high - at) xs ys (omega (arith, order)) (omega arith)))

    -- where the first piece has none, the second is
    pub back-overlaid : is_met size at mid b ≡ false → is_met size mid (mid + length ys) b ≡ true → overlaid size mid (mid + length ys) ys b content ≡ overlaid size at end (xs ++ ys) b content
    back-overlaid unmet met =
        let low : ℕ = max mid (b * size) in
        let high : ℕ = min (mid + length ys) ((b + 1) * size) in
        let some : low < high = ltb-true _ _ met in
        let none : min mid ((b + 1) * size) ≤ max at (b * size) = ltb-false _ _ unmet in
        let same_low : max at (b * size) ≡ low = omega (arith, some, none, next) in
        let same_high : min end ((b + 1) * size) ≡ high = omega (arith, ends) in
        let from : low - at ≡ length xs + (low - mid) = omega arith in
        let to : high - at ≡ length xs + (high - mid) = omega (arith, some) in
        sym (ap (λ l. laid_part at l (min end ((b + 1) * size)) (xs ++ ys)) same_low ∙ ap (λ h. laid_part at low h (xs ++ ys)) same_high
        ∙ ap (λ l. overlay (low - b * size) (bytes_between l (high - at) (xs ++ ys)) content) from ∙ ap (λ h. overlay (low - b * size) (bytes_between (length xs + (low - mid)) h (xs ++ ys)) content) to
        ∙ ap (λ l. overlay (low - b * size) l content) (between-back (low - mid) (high - mid) xs ys))
