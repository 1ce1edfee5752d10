-- What is held stays what is claimed, as one sector is taken or given back.
use Rattle.std.proofs.Common.{◌≡◌, ℕ, ◌+◌, ◌-◌, ◌≤◌, ◌==◌, cond, List, ◌++◌, length, sym, subst, ap, ◌∙◌, arith, length-append}
use Rattle.std.specs.Prelude.{All}
use Rattle.std.proofs.lemmas.List.{length-map}
use Rattle.iob_base.specs.DeviceBlock.{DeviceBlock}
use Rattle.turn_cell.specs.Stakes.{total}
use Rattle.turn_cell.proofs.Sums.{total-append, total-map}
use Rattle.space_pool.specs.Claims.{ClaimsView, numbers_of, times, without, AreAmong, with_more, with_given}
use Rattle.space_pool.specs.Pool.{PoolView, HasSize, misfit, IsClaimOn, CanGive, Takes}
use Rattle.space_pool.proofs.Removing.{without-weighs, without-length}
use Rattle.space_pool.proofs.Sizes.{none-misfits, all-fit}
use Rattle.worked_cells.specs.Claiming.{Holds}

-- the numbers of two lists weigh what both weigh
both-weigh : (f : ℕ → ℕ) (xs ys zs : List DeviceBlock) → zs ≡ xs ++ ys → total f (numbers_of zs) ≡ total f (numbers_of xs) + total f (numbers_of ys)
both-weigh f xs ys zs is =
    let w : DeviceBlock → ℕ = λ s. f s.number in
    let a : total f (numbers_of zs) ≡ total w zs = total-map f (λ (s : DeviceBlock). s.number) zs in
    let b : total w zs ≡ total w xs + total w ys = ap (total w) is ∙ total-append w xs ys in
    let c : total f (numbers_of xs) ≡ total w xs = total-map f (λ (s : DeviceBlock). s.number) xs in
    let d : total f (numbers_of ys) ≡ total w ys = total-map f (λ (s : DeviceBlock). s.number) ys in
    omega arith

both-fit : (size : ℕ) (xs ys zs : List DeviceBlock) → zs ≡ xs ++ ys → total (misfit size) zs ≡ total (misfit size) xs + total (misfit size) ys
both-fit size xs ys zs is = ap (total (misfit size)) is ∙ total-append (misfit size) xs ys

pub took : (before after : List DeviceBlock) (c c1 c2 : ClaimsView) (p q : PoolView) → Holds before c → c1 ≡ with_more c 1 → IsClaimOn p c1 → Takes 1 p c1 before q c2 after → Holds after c2 × (c2.cap ≡ c.cap)
took before after c c1 c2 p q holds is1 claim t =
    let taken : List DeviceBlock = t.lowest.taken in
    let after-is : after ≡ before ++ taken = t.lowest.appended in
    let one : length taken ≡ 1 = t.lowest.count in
    let numbers : c2.numbers ≡ c.numbers ++ numbers_of taken = ap (λ (d : ClaimsView). d.numbers) t.claims ∙ ap (λ (d : ClaimsView). d.numbers ++ numbers_of taken) is1 in
    let size : c2.size ≡ c1.size = ap (λ (d : ClaimsView). d.size) t.claims in
    let size1 : c1.size ≡ c.size = ap (λ (d : ClaimsView). d.size) is1 in
    let reserved : c2.reserved ≡ c1.reserved - length taken = ap (λ (d : ClaimsView). d.reserved) t.claims in
    let reserved1 : c1.reserved ≡ c.reserved + 1 = ap (λ (d : ClaimsView). d.reserved) is1 in
    let none = holds.reserved in
    let sized : All (HasSize c2.size) taken = subst (λ n. All (HasSize n) taken) (sym (size ∙ claim.size)) t.sized in
    let sized0 : All (HasSize c2.size) before = subst (λ n. All (HasSize n) before) (sym (size ∙ size1)) holds.can.sized in
    let fit : total (misfit c2.size) after ≡ 0 = omega (arith, both-fit c2.size before taken after after-is, none-misfits c2.size before sized0, none-misfits c2.size taken sized) in
    let few : length c2.numbers ≡ length c.numbers + length (numbers_of taken) = ap length numbers ∙ length-append c.numbers (numbers_of taken) in
    let m : length (numbers_of taken) ≡ length taken = length-map taken (λ (s : DeviceBlock). s.number) in
    let l : length after ≡ length before + length taken = ap length after-is ∙ length-append before taken in
    let count = holds.count in
    let among : AreAmong (numbers_of after) c2.numbers = λ x.
    let w : total (λ y. cond (y == x) 1 0) (numbers_of after) ≡ total (λ y. cond (y == x) 1 0) (numbers_of before) + total (λ y. cond (y == x) 1 0) (numbers_of taken) = both-weigh (λ y. cond (y == x) 1 0) before taken after after-is in
    let v : total (λ y. cond (y == x) 1 0) c2.numbers ≡ total (λ y. cond (y == x) 1 0) c.numbers + total (λ y. cond (y == x) 1 0) (numbers_of taken) = ap (total (λ y. cond (y == x) 1 0)) numbers ∙ total-append (λ y. cond (y == x) 1 0) c.numbers (numbers_of taken) in
    let u : times x (numbers_of before) ≤ times x c.numbers = holds.can.among x in omega arith in (
      record { can = record { among = among; sized = all-fit c2.size after fit }; count = omega arith; reserved = omega arith },
      ap (λ (d : ClaimsView). d.cap) t.claims ∙ ap (λ (d : ClaimsView). d.cap) is1,
    )

-- the last of the held sectors may be given back
pub last-goes : (held left given : List DeviceBlock) (c : ClaimsView) → held ≡ left ++ given → Holds held c → CanGive given c
last-goes held left given c is holds =
    let among : AreAmong (numbers_of given) c.numbers = λ x.
    let w : total (λ y. cond (y == x) 1 0) (numbers_of held) ≡ total (λ y. cond (y == x) 1 0) (numbers_of left) + total (λ y. cond (y == x) 1 0) (numbers_of given) = both-weigh (λ y. cond (y == x) 1 0) left given held is in
    let u : times x (numbers_of held) ≤ times x c.numbers = holds.can.among x in omega arith in
    record {
      among = among;
      sized = all-fit c.size given (omega (arith, both-fit c.size left given held is, none-misfits c.size held holds.can.sized));
    }

pub gave : (held left given : List DeviceBlock) (c d : ClaimsView) → held ≡ left ++ given → Holds held c → d ≡ with_given c given → Holds left d
gave held left given c d is holds d-is =
    let can : CanGive given c = last-goes held left given c is holds in
    let numbers : d.numbers ≡ without (numbers_of given) c.numbers = ap (λ (e : ClaimsView). e.numbers) d-is in
    let size : d.size ≡ c.size = ap (λ (e : ClaimsView). e.size) d-is in
    let reserved : d.reserved ≡ c.reserved = ap (λ (e : ClaimsView). e.reserved) d-is in
    let m : length (numbers_of given) ≡ length given = length-map given (λ (s : DeviceBlock). s.number) in
    let l : length held ≡ length left + length given = ap length is ∙ length-append left given in
    let few : length d.numbers ≡ length (without (numbers_of given) c.numbers) = ap length numbers in
    let kept : length (without (numbers_of given) c.numbers) + length (numbers_of given) ≡ length c.numbers = without-length (numbers_of given) c.numbers can.among in
    let count = holds.count in
    let among : AreAmong (numbers_of left) d.numbers = λ x.
    let w : total (λ y. cond (y == x) 1 0) (numbers_of held) ≡ total (λ y. cond (y == x) 1 0) (numbers_of left) + total (λ y. cond (y == x) 1 0) (numbers_of given) = both-weigh (λ y. cond (y == x) 1 0) left given held is in
    let v : total (λ y. cond (y == x) 1 0) d.numbers ≡ total (λ y. cond (y == x) 1 0) (without (numbers_of given) c.numbers) = ap (total (λ y. cond (y == x) 1 0)) numbers in
    let o : total (λ y. cond (y == x) 1 0) (without (numbers_of given) c.numbers) + total (λ y. cond (y == x) 1 0) (numbers_of given) ≡ total (λ y. cond (y == x) 1 0) c.numbers = without-weighs (λ y. cond (y == x) 1 0) (numbers_of given) c.numbers can.among in
    let u : times x (numbers_of held) ≤ times x c.numbers = holds.can.among x in omega arith in
    let fit : total (misfit c.size) left ≡ 0 = omega (arith, both-fit c.size left given held is, none-misfits c.size held holds.can.sized) in
    record {
      can = record { among = among; sized = subst (λ n. All (HasSize n) left) (sym size) (all-fit c.size left fit) };
      count = omega arith;
      reserved = reserved ∙ holds.reserved;
    }
