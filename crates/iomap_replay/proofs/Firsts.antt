-- The first item of a list, and the openings of lanes of which the first runs.
use Rattle.std.proofs.Common.{◌≡◌, ◌<◌, List, [], ◌∷◌, length, map, get_or, refl, sym, ap, ◌∙◌, arith, subst}
use Rattle.std.specs.List.{remove}
use Rattle.fault_device.specs.Opening.{Opening}
use Rattle.io_model.specs.declared.run.LaneEnd.{LaneEnd}
use Rattle.iomap_replay.specs.Starts.{idle_end}

-- a list is its first item before all others
first_apart : {A B : Type 0} (f : A → B) (xs : List A) (x : A) → 0 < length xs → x ≡ get_or xs 0 x → map f xs ≡ f x ∷ map f (remove xs 0)
first_apart f [] x some is = absurd (omega arith)
first_apart f (y ∷ ys) x some is = ap (λ z. f z ∷ map f ys) (sym is)

-- what is made of what is made
made_of_made : {A B C : Type 0} (f : A → B) (h : B → C) (xs : List A) → map (λ x. h (f x)) xs ≡ map h (map f xs)
made_of_made f h [] = refl
made_of_made f h (x ∷ xs) = ap (λ zs. h (f x) ∷ zs) (made_of_made f h xs)

-- what holds of what is made of the first item and of any list from which the others' ends are made holds of all
pub with_first : {A : Type 0} (opening : A → Opening) (xs rest : List A) (x : A) (ends : List LaneEnd) (Holds : List Opening → Type 0)
    → 0 < length xs → x ≡ get_or xs 0 x → rest ≡ remove xs 0 → ends ≡ map (λ y. idle_end (opening y).count) rest
    → ((os : List Opening) → ends ≡ map (λ (o : Opening). idle_end o.count) os → Holds (opening x ∷ os)) → Holds (map opening xs)
with_first opening xs rest x ends Holds some first others are holds =
    let made : ends ≡ map (λ (o : Opening). idle_end o.count) (map opening (remove xs 0)) =
    are ∙ made_of_made opening (λ (o : Opening). idle_end o.count) rest ∙ ap (λ ys. map (λ (o : Opening). idle_end o.count) (map opening ys)) others in
    subst Holds (sym (first_apart opening xs x some first)) (holds (map opening (remove xs 0)) made)
