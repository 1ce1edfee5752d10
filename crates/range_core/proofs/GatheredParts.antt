-- Of the bytes of a run, those of a block are its part of that block's content.
use Rattle.std.proofs.Common.{◌≡◌, ℕ, zero, suc, ◌+◌, ◌-◌, ◌<◌, ◌++◌, length, take, drop, sym, ◌∙◌, ap, arith, append_assoc}
use Rattle.std.proofs.lemmas.List.{drop_at, take_at}
use Rattle.io_model.specs.Contents.{Content}
use Rattle.io_model.specs.Lists.{bytes_between}
use Rattle.io_model.specs.Parts.{part_in, span}
use Rattle.range_core.specs.ByteRuns.{IsByteRun, gathered, part_at, part_bytes, run_bytes}
use Rattle.range_core.specs.declared.parts.ByteRun.{ByteRun}
use Rattle.range_core.proofs.ByteRunLemmas.{length-gathered, length-part}
use Rattle.range_core.proofs.StoreLemmas.{part_piece}

module _ (run : ByteRun) (contents : ℕ → Content) where
  -- the bytes of some blocks, and of those behind them
  gathered-append : (b n m : ℕ) → gathered run contents b (n + m) ≡ gathered run contents b n ++ gathered run contents (b + n) m
  gathered-append b zero m =
      let z : 0 + m ≡ m = omega arith in
      let y : b ≡ b + 0 = omega arith in
      ap (gathered run contents b) z ∙ ap (λ c. gathered run contents c m) y
  gathered-append b (suc n) m =
      let z : suc n + m ≡ suc (n + m) = omega arith in
      let y : b + 1 + n ≡ b + suc n = omega arith in
      let here = part_bytes (part_at run b) (contents b) in
      ap (gathered run contents b) z ∙ ap (λ l. here ++ l) (gathered-append (b + 1) n m)
      ∙ sym (append_assoc here (gathered run contents (b + 1) n) (gathered run contents (b + 1 + n) m))
      ∙ ap (λ c. here ++ gathered run contents (b + 1) n ++ gathered run contents c m) y

  pub gathered_part : IsByteRun run → ((k : ℕ) → k < run.blocks → length (contents (run.first + k)) ≡ run.size) → (k : ℕ) → k < run.blocks
      → bytes_between ((part_in run.size (span run.from run.to) (run.first + k)).from - run.from) ((part_in run.size (span run.from run.to) (run.first + k)).to - run.from) (run_bytes run contents)
      ≡ part_bytes (part_at run (run.first + k)) (contents (run.first + k))
  gathered_part r whole k l =
      let b : ℕ = run.first + k in
      let n : ℕ = (part_at run b).length in
      let rest : run.blocks ≡ k + suc (run.blocks - (k + 1)) = omega arith in
      let before = gathered run contents run.first k in
      let after = gathered run contents (b + 1) (run.blocks - (k + 1)) in
      let split : run_bytes run contents ≡ before ++ (part_bytes (part_at run b) (contents b) ++ after) =
      ap (gathered run contents run.first) rest ∙ gathered-append run.first k (suc (run.blocks - (k + 1))) in
      part_piece run r k l (run_bytes run contents)
      ∙ ap (take n) (ap (drop _) split ∙ drop_at before (part_bytes (part_at run b) (contents b) ++ after) _ (length-gathered run contents r whole k (omega arith)))
      ∙ take_at (part_bytes (part_at run b) (contents b)) after n (length-part run contents r whole k l)
