use Rattle.std.proofs.Common.{◌≡◌, ◌+◌, ◌≤◌, ◌==◌, ◌&&◌, ◌∙◌, true, nat_le, arith, subst}
use Rattle.std.proofs.lemmas.Bool.{le-leb}
use Rattle.std.specs.List.{list_any}
use Rattle.fault_device.specs.Listing.{ListedView, telling_of}
use Rattle.fault_device.specs.Telling.{LAST_NUMBER, is_next_armed}
use Rattle.fault_device.proofs.listed.Listed.fails_next.Goals as goal

pub returns : goal.returns
returns c =
    let next = c.self.inside.judged + 1 in
    let numbered : next ≤ LAST_NUMBER = omega arith in
    let passes : nat_le next LAST_NUMBER ≡ true = le-leb _ _ numbered in
    let found : c.contains.result ≡ (nat_le next LAST_NUMBER && list_any (λ number. number == next) c.self.inside.armed.items) =
    rw passes (c.contains.ensures ∙ c.self.invariant next) in
    subst (λ (v : ListedView). c.contains.result ≡ is_next_armed (telling_of v)) c.self.view_is found
