-- Items of a list that are there.
use Rattle.std.proofs.Common.{◌≡◌, ℕ, ◌<◌, List, length, get_or, subst, ◌∙◌}
use Rattle.std.proofs.lemmas.List.{get_or_default}

-- what holds of an item that is there does not depend on what stands for one that is not
pub holds_there : {A : Type 0} (P : A → Type 0) (xs : List A) (i : ℕ) (d e : A) → i < length xs → P (get_or xs i d) → P (get_or xs i e)
holds_there P xs i d e h p = subst P (get_or_default xs i d e h) p

pub holds_of : {A : Type 0} (P : A → Type 0) (xs : List A) (i : ℕ) (x e : A) → i < length xs → x ≡ get_or xs i x → P x → P (get_or xs i e)
holds_of P xs i x e h is p = subst P (is ∙ get_or_default xs i x e h) p
