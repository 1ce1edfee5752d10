-- What acts leave of a pass's numbers, shares and locks.
use Rattle.std.proofs.Common.{◌≡◌, ℕ, ◌+◌, List, [], ◌∷◌, Some, refl, sym, ap, ◌∙◌, arith}
use Rattle.std.specs.Prelude.{slice_get}
use Rattle.iob_base.specs.declared.stamp.FileId.{FileId}
use Rattle.turn_cell.specs.Views.{SeatView}
use Rattle.range_core.specs.declared.entry.Entry.{Entry}
use Rattle.range_core.specs.declared.entry.Event.{Event}
use Rattle.std.specs.Prelude.{Bool}
use Rattle.mount_parts.specs.MountView.{MountView}
use Rattle.mini_fs.specs.Acts.{Act, Acted, Acts, closed_in, opened_in}
use Rattle.mini_fs.specs.Acts.Act.{Turn, SizeTurn, Busy, Open, Close, Take, Refused, Leave, Run, Note, Number}
use Rattle.mini_fs.specs.CallActs.{CallActs, lock_acts}
use Rattle.mini_fs.specs.Calls.{KeepsShares}
use Rattle.mini_fs.specs.PassView.{PassView, share_at, share_in}
use Rattle.mini_fs.proofs.ActLemmas.{acted-seat}
use Rattle.mini_fs.proofs.PassActs.{acted-pass}

pub acted-caller : (acts : List Act) (p q : PassView) → Acted acts p q → q.caller ≡ p.caller
acted-caller acts p q did = (acted-pass acts p q did).caller

pub acted-spare : (acts : List Act) (p q : PassView) → Acted acts p q → q.spare ≡ p.spare
acted-spare acts p q did = (acted-pass acts p q did).spare

-- without an act at a lock the seats at the locks stay
pub acted-locks : (acts : List Act) (p q : PassView) → Acted acts p q → lock_acts acts ≡ [] → q.locks ≡ p.locks
acted-locks [] p q did none = ap (λ (v : PassView). v.locks) did
acted-locks (Turn stripe others own ∷ acts) p q (r, one, rest) none = acted-locks acts r q rest none ∙ ap (λ (v : PassView). v.locks) one.pass_is
acted-locks (SizeTurn cell others own ∷ acts) p q (r, one, rest) none = acted-locks acts r q rest none ∙ ap (λ (v : PassView). v.locks) one.pass_is
acted-locks (Busy stripe word ∷ acts) p q (r, one, rest) none = acted-locks acts r q rest none ∙ ap (λ (v : PassView). v.locks) one.pass_is
acted-locks (Open stripe ∷ acts) p q (r, one, rest) none = acted-locks acts r q rest none ∙ ap (λ (v : PassView). v.locks) one.pass_is
acted-locks (Close stripe ∷ acts) p q (r, one, rest) none = acted-locks acts r q rest none ∙ ap (λ (v : PassView). v.locks) one.pass_is
acted-locks (Take file c before after ∷ acts) p q (r, one, rest) none = absurd (cc none)
acted-locks (Refused file c before after ∷ acts) p q (r, one, rest) none = absurd (cc none)
acted-locks (Leave file c before after ∷ acts) p q (r, one, rest) none = absurd (cc none)
acted-locks (Run bios ∷ acts) p q (r, one, rest) none = acted-locks acts r q rest none ∙ ap (λ (v : PassView). v.locks) one.pass_is
acted-locks (Note begun ∷ acts) p q (r, one, rest) none = acted-locks acts r q rest none ∙ ap (λ (v : PassView). v.locks) one
acted-locks (Number call ∷ acts) p q (r, one, rest) none = acted-locks acts r q rest none ∙ ap (λ (v : PassView). v.locks) one

-- acts that close each ticket that they opened keep the shares
pub acted-shares : (acts : List Act) (p q : PassView) → Acted acts p q → ((stripe : ℕ) → opened_in stripe acts ≡ closed_in stripe acts) → KeepsShares p q
acted-shares acts p q did closed stripe seat here =
    let at = acted-seat stripe acts p q seat did here in
    let same = closed stripe in
    let more = at.2.share in
    ap share_in at.1 ∙ omega (arith, same, more)
