-- A set of blocks as the bits of a word, and what a run does to it.
use Rattle.std.proofs.Common.{◌≡◌, ℕ, ◌+◌, ◌-◌, ◌<◌, ◌≤◌, Bool, false, eqb, List, ◌++◌, length, take, drop, replicate, get_or, sym, ◌∙◌, ap, arith, inl, inr, length-append}
use Rattle.std.proofs.lemmas.Bool.{cases_lt}
use Rattle.std.proofs.lemmas.List.{get_or-take, get_or-drop, get_or-replicate, get_or_append_left, get_or-append_right, get_or_past, length-take-le, length-drop, length-replicate}
use Rattle.std.proofs.lemmas.List.FromFn.{fill_by_all, length-map-range_with_len, get_or-map-range_with_len}
use Rattle.std.proofs.lemmas.Nat.Bits.{bit_at-zero}
use Rattle.folio_bits.specs.BlockSets.{has, with_run, is_set, set_of}

pub length-set_of : (blocks mask : ℕ) → length (set_of blocks mask) ≡ blocks
length-set_of blocks mask = length-map-range_with_len (is_set mask) 0 blocks

pub has-set_of : (blocks mask i : ℕ) → i < blocks → has (set_of blocks mask) i ≡ is_set mask i
has-set_of blocks mask i inside = get_or-map-range_with_len (is_set mask) 0 blocks i i false inside (omega arith)

pub has-past : (blocks mask i : ℕ) → blocks ≤ i → has (set_of blocks mask) i ≡ false
has-past blocks mask i past = get_or_past (set_of blocks mask) i false (let wide = length-set_of blocks mask in omega arith)

pub set_of-zero : (blocks : ℕ) → set_of blocks 0 ≡ replicate blocks false
set_of-zero blocks =
    sym (fill_by_all (is_set 0) (replicate blocks false) blocks false (length-replicate blocks false) (λ k inside. get_or-replicate blocks k false false inside ∙ sym (ap (λ (b : ℕ). eqb b 1) (bit_at-zero k))))

module _ (xs : List Bool) (from n : ℕ) (b : Bool) (fits : from + n ≤ length xs) where
  length-front : length (take from xs ++ replicate n b) ≡ from + n
  length-front =
      let front : length (take from xs) ≡ from = length-take-le from xs (omega arith) in
      let run = length-replicate n b in
      let both = length-append (take from xs) (replicate n b) in
      omega arith

  pub length-with_run : length (with_run xs from n b) ≡ length xs
  length-with_run =
      let front = length-front in
      let back = length-drop (from + n) xs in
      let both = length-append (take from xs ++ replicate n b) (drop (from + n) xs) in
      omega arith

  pub below_run : (i : ℕ) → i < from → has (with_run xs from n b) i ≡ has xs i
  below_run i below =
      let front : length (take from xs) ≡ from = length-take-le from xs (omega arith) in
      let whole = length-front in
      get_or_append_left (take from xs ++ replicate n b) (drop (from + n) xs) false i (omega arith)
      ∙ get_or_append_left (take from xs) (replicate n b) false i (omega arith)
      ∙ get_or-take from xs i false below

  pub in_run : (i : ℕ) → from ≤ i → i < from + n → has (with_run xs from n b) i ≡ b
  in_run i after before =
      let front : length (take from xs) ≡ from = length-take-le from xs (omega arith) in
      let whole = length-front in
      get_or_append_left (take from xs ++ replicate n b) (drop (from + n) xs) false i (omega arith)
      ∙ get_or-append_right (take from xs) (replicate n b) from i false front after
      ∙ get_or-replicate n (i - from) b false (omega arith)

  pub above_run : (i : ℕ) → from + n ≤ i → has (with_run xs from n b) i ≡ has xs i
  above_run i past =
      let same : from + n + (i - (from + n)) ≡ i = omega arith in
      get_or-append_right (take from xs ++ replicate n b) (drop (from + n) xs) (from + n) i false length-front past
      ∙ get_or-drop (from + n) xs (i - (from + n)) false
      ∙ ap (λ (k : ℕ). get_or xs k false) same

-- a word that has the bits of a run all set, or all clear, and all other bits as they were
pub set_of-with_run : (blocks mask new from n : ℕ) (b : Bool) → from + n ≤ blocks → ((i : ℕ) → i < from → is_set new i ≡ is_set mask i)
    → ((i : ℕ) → from ≤ i → i < from + n → is_set new i ≡ b) → ((i : ℕ) → i < blocks → from + n ≤ i → is_set new i ≡ is_set mask i) → set_of blocks new ≡ with_run (set_of blocks mask) from n b
set_of-with_run blocks mask new from n b fits below within above =
    let xs : List Bool = set_of blocks mask in
    let wide : length xs ≡ blocks = length-set_of blocks mask in
    let fit : from + n ≤ length xs = omega arith in
    let at : (k : ℕ) → k < blocks → get_or (with_run xs from n b) k false ≡ is_set new k = λ k inside.
    elim (cases_lt k from) [
      | inl low ↦ below_run xs from n b fit k low ∙ has-set_of blocks mask k inside ∙ sym (below k low)
      | inr after ↦ elim (cases_lt k (from + n)) [
        | inl before ↦ in_run xs from n b fit k after before ∙ sym (within k after before)
        | inr past ↦ above_run xs from n b fit k past ∙ has-set_of blocks mask k inside ∙ sym (above k inside past)
      ]
    ] in
    sym (fill_by_all (is_set new) (with_run xs from n b) blocks false (length-with_run xs from n b fit ∙ wide) at)
