use Rattle.std.proofs.Common.{ℕ, Bool, ◌<◌, length, nat_eq, sym, ◌∙◌, arith}
use Rattle.std.specs.List.{position_or_len}
use Rattle.std.proofs.lemmas.List.Splits.{slice_split_first}
use Rattle.std.proofs.lemmas.Grind.{common_steps}
use Rattle.io_script.proofs.Cutting.{slice_split-whole}
use Rattle.io_script.proofs.read.words.cut.Goals as goal

pub returns-then-at-bytes-clause-pieces : goal.returns-then-at-bytes-clause-pieces
returns-then-at-bytes-clause-pieces c =
    slice_split-whole (λ b. nat_eq b c.args.separator) c.args.bytes.now (sym c.first_at-at.ensures.place ∙ c.if-at-bytes.true)

pub returns-clause-pieces : goal.returns-clause-pieces
returns-clause-pieces c =
    let p : ℕ → Bool = λ b. nat_eq b c.args.separator in
    let short : position_or_len p c.args.bytes.now < length c.args.bytes.now = omega arith in
    let first = slice_split_first p c.args.bytes.now 0 short in
    grind (arith, common_steps, first)
