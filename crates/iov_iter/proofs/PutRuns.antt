use Rattle.std.proofs.Common.{◌≡◌, ℕ, zero, suc, List, [], ◌∷◌, ◌++◌, get_or, set, take, drop, sym, ap, subst}
use Rattle.iob_base.specs.declared.sector.Page.{Page}
use Rattle.iov_iter.specs.Runs.{FitIn, slot_put, slots_put}
use Rattle.iov_iter.specs.Slots.{SlotView}

fit_next : (at : ℕ) (slots : List SlotView) (s' : SlotView) (g : Page) (gs : List Page) → FitIn (drop at slots) (g ∷ gs) → FitIn (drop (suc at) (set slots at s')) gs
fit_next zero [] s' g gs f = absurd f
fit_next zero (s ∷ ss) s' g gs f = f.1
fit_next (suc at) [] s' g gs f = absurd f
fit_next (suc at) (s ∷ ss) s' g gs f = fit_next at ss s' g gs f

put_next : (at : ℕ) (slots : List SlotView) (s' d : SlotView) (g : Page) (gs : List Page) → FitIn (drop at slots) (g ∷ gs) → s' ≡ slot_put (get_or slots at d) g
    → take (suc at) (set slots at s') ++ slots_put (drop (suc at) (set slots at s')) gs ≡ take at slots ++ slots_put (drop at slots) (g ∷ gs)
put_next zero [] s' d g gs f e = absurd f
put_next zero (s ∷ ss) s' d g gs f e = ap (λ x. x ∷ slots_put ss gs) e
put_next (suc at) [] s' d g gs f e = absurd f
put_next (suc at) (s ∷ ss) s' d g gs f e = ap (λ l. s ∷ l) (put_next at ss s' d g gs f e)

-- once a page is put, the others fit behind it
pub fit_after : (at n : ℕ) (slots : List SlotView) (s' : SlotView) (g : Page) (gs : List Page) → n ≡ suc at → FitIn (drop at slots) (g ∷ gs) → FitIn (drop n (set slots at s')) gs
fit_after at n slots s' g gs e f =
    let P : ℕ → Type 0 = λ k. FitIn (drop k (set slots at s')) gs in
    subst P (sym e) (fit_next at slots s' g gs f)

-- and all end as if all were put at once
pub put_after : (at n : ℕ) (slots : List SlotView) (s' d : SlotView) (g : Page) (gs : List Page) → n ≡ suc at → FitIn (drop at slots) (g ∷ gs) → s' ≡ slot_put (get_or slots at d) g
    → take n (set slots at s') ++ slots_put (drop n (set slots at s')) gs ≡ take at slots ++ slots_put (drop at slots) (g ∷ gs)
put_after at n slots s' d g gs e f is =
    let P : ℕ → Type 0 = λ k. take k (set slots at s') ++ slots_put (drop k (set slots at s')) gs ≡ take at slots ++ slots_put (drop at slots) (g ∷ gs) in
    subst P (sym e) (put_next at slots s' d g gs f is)
