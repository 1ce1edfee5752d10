use Rattle.std.proofs.Common.{drop, ◌++◌, ◌∙◌, sym, ap}
use Rattle.hex.specs.Hex.{encode_lower, lower_digits}
use Rattle.io_script.proofs.Digits.{encode_with-cut}
use Rattle.io_script.proofs.hexadecimal.append_digits.Goals as goal

pub loop-left-preserved : goal.loop-left-preserved
loop-left-preserved c rest =
    rw c.split_at.ensures.back (c.in_ok-append_chunk.ensures (encode_lower (drop 128 c.loop-left.left.now) ++ rest)
    ∙ rw c.split_at.ensures.front (ap (λ t. c.loop-left.text.items ++ t) (sym (encode_with-cut lower_digits 128 c.loop-left.left.now rest))) ∙ c.loop-left.invariant rest)

pub returns : goal.returns
returns c rest = c.in_ok-append_chunk-2.ensures rest ∙ c.loop-left.invariant rest
