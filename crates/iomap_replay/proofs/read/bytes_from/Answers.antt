use Rattle.std.proofs.Common.{◌≡◌, ℕ, List, ◌++◌, ◌∙◌, ap, arith, drop, length, take, ◌-◌}
use Rattle.std.proofs.lemmas.List.{length-drop, take_all}
use Rattle.iob_base.specs.Parting.{pages_of}
use Rattle.iomap_replay.specs.OneRead.{bytes_of}
use Rattle.iomap_replay.proofs.ReadRun.{after_first}
use Rattle.iomap_replay.proofs.read.bytes_from.Goals as goal

pub loop-part-init : goal.loop-part-init
loop-part-init c =
    let first : List ℕ = c.as_slice.result.now in
    let got : c.extend_from_slice.new.self.items ≡ drop c.args.place c.first-item.result.page.bytes =
    c.in_ok-extend_from_slice.ensures.items
    ∙ ap (λ l. l ++ take (length first - c.args.place) (drop c.args.place first)) c.new-bytes.ensures.items
    ∙ take_all (length first - c.args.place) (drop c.args.place first) (omega (arith, length-drop c.args.place first))
    ∙ ap (drop c.args.place) c.as_slice.ensures in
    ap (λ b. b ++ bytes_of (pages_of (take (length c.args.parts.now - 1) (drop 1 c.args.parts.now)))) got ∙ after_first c.args.place _ _ c.args.parts.now c.first-item.is c.in-len1-up.len_at_least c.requires
