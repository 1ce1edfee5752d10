-- What was taken and came back leaves no claim.
use Rattle.std.proofs.Common.{◌≡◌, ℕ, ◌+◌, ◌-◌, ◌==◌, cond, true, List, [], ◌∷◌, ◌++◌, length, refl, ap, ◌∙◌, arith}
use Rattle.std.proofs.lemmas.Bool.Decides.{nat_tests}
use Rattle.iob_base.specs.DeviceBlock.{DeviceBlock}
use Rattle.space_pool.specs.Claims.{ClaimsView, numbers_of, without_one, without, with_more, with_taken, with_given}
use Rattle.worked_cells.specs.Claiming.{ClaimsNothing}

itself : (x : ℕ) → (x == x) ≡ true
itself x = grind (arith, nat_tests)

without-self : (xs : List ℕ) → without xs xs ≡ []
without-self [] = refl
without-self (x ∷ xs) = ap (λ b. without xs (cond b xs (x ∷ without_one x xs))) (itself x) ∙ without-self xs

pub came-back : (c d1 d2 d3 : ClaimsView) (taken given : List DeviceBlock) (n : ℕ) → ClaimsNothing c → d1 ≡ with_more c n → d2 ≡ with_taken d1 taken → length taken ≡ n → given ≡ taken → d3 ≡ with_given d2 given
    → ClaimsNothing d3 × (d3.cap ≡ c.cap)
came-back c d1 d2 d3 taken given n nothing is1 is2 count same is3 =
    let e1 : d1.numbers ≡ [] = ap (λ (d : ClaimsView). d.numbers) is1 ∙ nothing.0 in
    let e2 : d2.numbers ≡ numbers_of taken = ap (λ (d : ClaimsView). d.numbers) is2 ∙ ap (λ l. l ++ numbers_of taken) e1 in
    let e3 : d3.numbers ≡ without (numbers_of given) d2.numbers = ap (λ (d : ClaimsView). d.numbers) is3 in
    let r1 : d1.reserved ≡ c.reserved + n = ap (λ (d : ClaimsView). d.reserved) is1 in
    let r2 : d2.reserved ≡ d1.reserved - length taken = ap (λ (d : ClaimsView). d.reserved) is2 in
    let r3 : d3.reserved ≡ d2.reserved = ap (λ (d : ClaimsView). d.reserved) is3 in
    let none : c.reserved ≡ 0 = nothing.1 in (
      (e3 ∙ ap (λ (g : List DeviceBlock). without (numbers_of g) d2.numbers) same ∙ ap (without (numbers_of taken)) e2 ∙ without-self (numbers_of taken), omega arith),
      ap (λ (d : ClaimsView). d.cap) is3 ∙ ap (λ (d : ClaimsView). d.cap) is2 ∙ ap (λ (d : ClaimsView). d.cap) is1,
    )
