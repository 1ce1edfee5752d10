-- What a pass has seen, and has made itself, after acts put one after another.
use Rattle.std.proofs.Common.{◌≡◌, ℕ, ◌==◌, List, [], ◌∷◌, ◌++◌, Some, refl, sym, ap, ◌∙◌, if◌then◌else◌, arith, append_assoc}
use Rattle.std.specs.Prelude.{slice_get}
use Rattle.turn_cell.specs.Views.{CellView, SeatView}
use Rattle.range_core.specs.RangeView.{RangeView}
use Rattle.range_core.specs.declared.entry.Entry.{Entry}
use Rattle.mount_parts.specs.MountView.{MountView}
use Rattle.mount_parts.proofs.Places.{same-length, there, within}
use Rattle.mini_fs.specs.Acts.{Act, Acted, made_in, seen_in}
use Rattle.mini_fs.specs.Acts.Act.{Turn, SizeTurn, Busy, Open, Close, Take, Refused, Leave, Run, Note, Number}
use Rattle.mini_fs.specs.PassView.{IsPassOf, PassView}
use Rattle.mini_fs.proofs.ActLemmas.{acted-seat}
use Rattle.call_parts.specs.Reads.{seen_at, seen_by}

seen_in-append : (k : ℕ) (acts more : List Act) → seen_in k (acts ++ more) ≡ seen_in k acts ++ seen_in k more
seen_in-append k [] more = refl
seen_in-append k (Turn stripe others own ∷ acts) more =
    let mine : List Entry = if stripe == k then others ++ own ∷ [] else [] in
    ap (λ l. mine ++ l) (seen_in-append k acts more) ∙ sym (append_assoc mine (seen_in k acts) (seen_in k more))
seen_in-append k (SizeTurn cell others own ∷ acts) more = seen_in-append k acts more
seen_in-append k (Busy stripe word ∷ acts) more = seen_in-append k acts more
seen_in-append k (Open stripe ∷ acts) more = seen_in-append k acts more
seen_in-append k (Close stripe ∷ acts) more = seen_in-append k acts more
seen_in-append k (Take file c before after ∷ acts) more = seen_in-append k acts more
seen_in-append k (Refused file c before after ∷ acts) more = seen_in-append k acts more
seen_in-append k (Leave file c before after ∷ acts) more = seen_in-append k acts more
seen_in-append k (Run bios ∷ acts) more = seen_in-append k acts more
seen_in-append k (Note begun ∷ acts) more = seen_in-append k acts more
seen_in-append k (Number call ∷ acts) more = seen_in-append k acts more

pub made_in-append : (k : ℕ) (acts more : List Act) → made_in k (acts ++ more) ≡ made_in k acts ++ made_in k more
made_in-append k [] more = refl
made_in-append k (Turn stripe others own ∷ acts) more =
    let mine : List Entry = if stripe == k then own ∷ [] else [] in
    ap (λ l. mine ++ l) (made_in-append k acts more) ∙ sym (append_assoc mine (made_in k acts) (made_in k more))
made_in-append k (SizeTurn cell others own ∷ acts) more = made_in-append k acts more
made_in-append k (Busy stripe word ∷ acts) more = made_in-append k acts more
made_in-append k (Open stripe ∷ acts) more = made_in-append k acts more
made_in-append k (Close stripe ∷ acts) more = made_in-append k acts more
made_in-append k (Take file c before after ∷ acts) more = made_in-append k acts more
made_in-append k (Refused file c before after ∷ acts) more = made_in-append k acts more
made_in-append k (Leave file c before after ∷ acts) more = made_in-append k acts more
made_in-append k (Run bios ∷ acts) more = made_in-append k acts more
made_in-append k (Note begun ∷ acts) more = made_in-append k acts more
made_in-append k (Number call ∷ acts) more = made_in-append k acts more

-- at a stripe of the mount a pass has seen after acts what it had seen before them, and then what it saw in them
pub seen-after : (m : MountView) (p q : PassView) (first before : List Act) (stripe : ℕ) (cell : CellView RangeView) → IsPassOf m p → Acted first p q → slice_get m.stripes stripe ≡ Some cell
    → seen_at q stripe ++ seen_in stripe before ≡ seen_at p stripe ++ seen_in stripe (first ++ before)
seen-after m p q first before stripe cell of acted is =
    let long = same-length (λ (v : SeatView Entry). v.cell) (λ (c : CellView RangeView). c.cell) p.stripes m.stripes of.stripes in
    let low = within m.stripes stripe cell is in
    let here = there p.stripes stripe (omega (arith, long, low)) in
    let later = acted-seat stripe first p q here.0 acted here.1 in
    let seen : seen_at q stripe ≡ seen_at p stripe ++ seen_in stripe first = ap seen_by later.1 ∙ later.2.seen ∙ ap (λ o. seen_by o ++ seen_in stripe first) (sym here.1) in
    ap (λ l. l ++ seen_in stripe before) seen ∙ append_assoc (seen_at p stripe) (seen_in stripe first) (seen_in stripe before) ∙ ap (λ l. seen_at p stripe ++ l) (sym (seen_in-append stripe first before))
