-- Pieces that a sink took, one after the other.
use Rattle.std.proofs.Common.{◌≡◌, ℕ, ◌+◌, ◌-◌, List, ◌++◌, Some, None, Option, length, take, drop, sym, ◌∙◌, ap, subst, arith, append_assoc}
use Rattle.std.proofs.Math.Seq.{take-add}
use Rattle.std.proofs.lemmas.List.{take_all, length-drop}
use Rattle.std.specs.Option.{IfSome}

-- a prefix and the beginning of what is left of a text make a longer prefix
take-more : (text : List ℕ) (at n : ℕ) → take at text ++ take n (take (length text - at) (drop at text)) ≡ take (at + n) text
take-more text at n =
    let rest : take (length text - at) (drop at text) ≡ drop at text = take_all (length text - at) (drop at text) (simp length-drop (omega arith)) in
    rw rest (sym (take-add at n text))

pub took-more : (before now after : Option (List ℕ)) (text : List ℕ) (at n : ℕ) → IfSome before (λ bytes. now ≡ Some (bytes ++ take at text))
    → IfSome now (λ bytes. after ≡ Some (bytes ++ take n (take (length text - at) (drop at text)))) → IfSome before (λ bytes. after ≡ Some (bytes ++ take (at + n) text))
took-more None now after text at n so_far taken = tt
took-more (Some bytes) now after text at n so_far taken =
    let P : Option (List ℕ) → Type 0 = λ told. IfSome told (λ before. after ≡ Some (before ++ take n (take (length text - at) (drop at text)))) in
    let told : after ≡ Some ((bytes ++ take at text) ++ take n (take (length text - at) (drop at text))) = subst P so_far taken in
    told ∙ ap Some (append_assoc bytes (take at text) _ ∙ ap (λ piece. bytes ++ piece) (take-more text at n))
