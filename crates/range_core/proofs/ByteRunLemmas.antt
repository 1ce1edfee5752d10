-- The parts of a run of bytes follow each other, and are all of it.
use Rattle.std.proofs.Common.{◌≡◌, ℕ, zero, suc, ◌+◌, ◌-◌, ◌*◌, ◌<◌, ◌≤◌, Bool, true, false, ⊎_elim, ◌++◌, length, drop, min, max, refl, sym, ◌∙◌, ap, arith, append-nil, append_assoc, length-append, length-drop}
use Rattle.std.proofs.lemmas.Bool.{cases_lt, lt-ltb, ltb-true}
use Rattle.std.proofs.lemmas.List.{length-take-le}
use Rattle.std.proofs.lemmas.Nat.{mul-le, row_fits}
use Rattle.io_model.specs.Contents.{Content}
use Rattle.io_model.specs.Parts.{part_in, span}
use Rattle.range_core.specs.ByteRuns.{IsByteRun, gathered, part_at, part_bytes, run_bytes}
use Rattle.range_core.specs.Spots.{in_run, is_met}
use Rattle.range_core.specs.declared.parts.ByteRun.{ByteRun}
use Rattle.range_core.proofs.AfterRun.{in_run-true}

-- how many bytes of a run lie before its k-th block
abbrev pub begun : ByteRun → ℕ → ℕ
begun run k = min run.to (max run.from ((run.first + k) * run.size)) - run.from

module _ (run : ByteRun) where
  -- the k-th block goes on where those before it end
  pub record IsNextPart (k : ℕ) : Type 0 where
    pub more : begun run (k + 1) ≡ begun run k + (part_at run (run.first + k)).length
    pub place : (part_in run.size (span run.from run.to) (run.first + k)).from - run.from ≡ begun run k
    pub within : (part_at run (run.first + k)).at + (part_at run (run.first + k)).length ≤ run.size
    pub behind : begun run k + (part_at run (run.first + k)).length ≤ run.to - run.from
    pub meets : (part_in run.size (span run.from run.to) (run.first + k)).from < (part_in run.size (span run.from run.to) (run.first + k)).to

  pub next_part : IsByteRun run → (k : ℕ) → k < run.blocks → IsNextPart k
  next_part r k l =
      let fits : k * run.size + run.size ≤ run.blocks * run.size = row_fits k run.size run.blocks run.size l (omega arith) in
      let some = r.some in
      let begins = r.begins in
      let starts = r.starts in
      let ends = r.ends in
      record { more = omega arith; place = omega arith; within = omega arith; behind = omega arith; meets = omega arith }

  pub begun-none : IsByteRun run → begun run 0 ≡ 0
  begun-none r = let begins = r.begins in let some = r.some in omega arith

  pub begun-all : IsByteRun run → begun run run.blocks ≡ run.to - run.from
  begun-all r = let reaches = r.reaches in let some = r.some in omega arith

  -- one more block
  pub gathered-more : (contents : ℕ → Content) (b n : ℕ) → gathered run contents b (suc n) ≡ gathered run contents b n ++ part_bytes (part_at run (b + n)) (contents (b + n))
  gathered-more contents b zero = let z : b ≡ b + 0 = omega arith in append-nil (part_bytes (part_at run b) (contents b)) ∙ ap (λ c. part_bytes (part_at run c) (contents c)) z
  gathered-more contents b (suc n) =
      let z : b + 1 + n ≡ b + suc n = omega arith in
      ap (λ l. part_bytes (part_at run b) (contents b) ++ l) (gathered-more contents (b + 1) n)
      ∙ sym (append_assoc (part_bytes (part_at run b) (contents b)) (gathered run contents (b + 1) n) _)
      ∙ ap (λ c. part_bytes (part_at run b) (contents b) ++ gathered run contents (b + 1) n ++ part_bytes (part_at run c) (contents c)) z

  -- contents that are equal give equal bytes
  pub gathered-same : (contents others : ℕ → Content) (b n : ℕ) → ((k : ℕ) → k < n → contents (b + k) ≡ others (b + k)) → gathered run contents b n ≡ gathered run others b n
  gathered-same contents others b zero e = refl
  gathered-same contents others b (suc n) e =
      let z : b + 0 ≡ b = omega arith in
      let here : contents b ≡ others b = sym (ap contents z) ∙ e 0 (omega arith) ∙ ap others z in
      ap (λ c. part_bytes (part_at run b) c ++ gathered run contents (b + 1) n) here
      ∙ ap (λ l. part_bytes (part_at run b) (others b) ++ l) (gathered-same contents others (b + 1) n (λ k l. let m : b + 1 + k ≡ b + suc k = omega arith in ap contents m ∙ e (suc k) (omega arith) ∙ sym (ap others m)))

  pub length-part : (contents : ℕ → Content) → IsByteRun run → ((k : ℕ) → k < run.blocks → length (contents (run.first + k)) ≡ run.size) → (k : ℕ) → k < run.blocks
      → length (part_bytes (part_at run (run.first + k)) (contents (run.first + k))) ≡ (part_at run (run.first + k)).length
  length-part contents r whole k l =
      let p = next_part r k l in
      let within = p.within in
      let w = whole k l in
      let rest = length-drop (part_at run (run.first + k)).at (contents (run.first + k)) in
      length-take-le (part_at run (run.first + k)).length (drop (part_at run (run.first + k)).at (contents (run.first + k))) (omega arith)

  -- so many bytes lie in the first n blocks
  pub length-gathered : (contents : ℕ → Content) → IsByteRun run → ((k : ℕ) → k < run.blocks → length (contents (run.first + k)) ≡ run.size) → (n : ℕ) → n ≤ run.blocks → length (gathered run contents run.first n) ≡ begun run n
  length-gathered contents r whole zero h = sym (begun-none r)
  length-gathered contents r whole (suc n) h =
      let l : n < run.blocks = omega arith in
      let p = next_part r n l in
      let more = p.more in
      let rest : length (gathered run contents run.first n) ≡ begun run n = length-gathered contents r whole n (omega arith) in
      let here = length-part contents r whole n l in
      let both = length-append (gathered run contents run.first n) (part_bytes (part_at run (run.first + n)) (contents (run.first + n))) in
      let one : begun run (suc n) ≡ begun run (n + 1) = let z : suc n ≡ n + 1 = omega arith in ap (begun run) z in
      ap length (gathered-more contents run.first n) ∙ (let q : length (gathered run contents run.first n ++ part_bytes (part_at run (run.first + n)) (contents (run.first + n))) ≡ begun run (suc n) = omega arith in q)

  -- as many bytes as the run has
  pub length-run_bytes : (contents : ℕ → Content) → IsByteRun run → ((k : ℕ) → k < run.blocks → length (contents (run.first + k)) ≡ run.size) → length (run_bytes run contents) ≡ run.to - run.from
  length-run_bytes contents r whole = length-gathered contents r whole run.blocks (omega arith) ∙ begun-all r

  -- the blocks of a run are those that it meets
  pub met-inside : IsByteRun run → (k : ℕ) → k < run.blocks → is_met run.size run.from run.to (run.first + k) ≡ true
  met-inside r k l = lt-ltb _ _ (next_part r k l).meets

  -- and no other block is met
  pub met-outside : IsByteRun run → (b : ℕ) → in_run run.first run.blocks b ≡ false → is_met run.size run.from run.to b ≡ false
  met-outside r b out = at (is_met run.size run.from run.to b) refl
    where
      before : (b + 1) * run.size ≤ run.first * run.size → max run.from (b * run.size) < min run.to ((b + 1) * run.size) → ⊥
      before h m = let begins = r.begins in absurd (omega arith)

      behind : (run.first + run.blocks) * run.size ≤ b * run.size → max run.from (b * run.size) < min run.to ((b + 1) * run.size) → ⊥
      behind h m = let reaches = r.reaches in absurd (omega arith)

      at : (t : Bool) → is_met run.size run.from run.to b ≡ t → t ≡ false
      at false e = refl
      at true e =
          let m : max run.from (b * run.size) < min run.to ((b + 1) * run.size) = ltb-true _ _ e in
          absurd
          (⊎_elim
          (λ (h : b < run.first). before (mul-le (b + 1) run.size run.first run.size (omega arith) (omega arith)) m)
          (λ (h : run.first ≤ b). ⊎_elim
          (λ (g : b < run.first + run.blocks). let is : in_run run.first run.blocks b ≡ true = in_run-true run.first run.blocks b h g in let z : ⊥ = absurd (cc) in z)
          (λ (g : run.first + run.blocks ≤ b). behind (mul-le (run.first + run.blocks) run.size b run.size g (omega arith)) m)
          (cases_lt b (run.first + run.blocks)))
          (cases_lt b run.first))
