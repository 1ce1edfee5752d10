-- What a mount that is taken apart asks of its pass, and what is left of it.
use Rattle.std.proofs.Common.{◌≡◌, List, map, sym, ap, ◌∙◌, subst}
use Rattle.std.specs.Prelude.{All, Err, IfOk, Ok, Result}
use Rattle.io_model.specs.declared.file.Unmounted.{Unmounted}
use Rattle.turn_cell.specs.Views.{SeatView}
use Rattle.range_core.specs.declared.entry.Entry.{Entry}
use Rattle.size_core.specs.declared.entry.SizeEntry.{SizeEntry}
use Rattle.mount_parts.specs.MountView.{MountView}
use Rattle.mount_parts.specs.Unmounts.{Unmounts}
use Rattle.mount_parts.proofs.Places.{all-at, map-there}
use Rattle.mini_fs.proofs.Through.{all-from, map-map}

module _ {S V : Type 0} (see : S → V) where
  -- what holds of all that is seen of seats
  pub all-seen : (P : V → Type 0) (ss : List S) (vs : List V) → map see ss ≡ vs → All P vs → All (λ s. P (see s)) ss
  all-seen P ss vs is all = all-from (λ s. P (see s)) ss (λ k s at. all-at P (map see ss) k (see s) (subst (All P) (sym is) all) (map-there see ss k s at))

module _ {S : Type 0} where
  -- what holds of each seat on its own
  pub all-more : (P Q : S → Type 0) (ss : List S) → ((s : S) → P s → Q s) → All P ss → All Q ss
  all-more P Q ss more all = all-from Q ss (λ k s at. more s (all-at P ss k s all at))

module _ {S V C W T : Type 0} where
  -- seats and cells are at the same tables, however they are seen
  pub same-cells : (see : S → V) (id : V → T) (look : C → W) (of : W → T) (ss : List S) (vs : List V) (cs : List C) (ws : List W) → map see ss ≡ vs → map look cs ≡ ws → map id vs ≡ map of ws → map (λ s. id (see s)) ss ≡ map (λ c. of (look c)) cs
  same-cells see id look of ss vs cs ws seats cells same = sym (map-map id see ss) ∙ ap (map id) seats ∙ same ∙ ap (map of) (sym cells) ∙ map-map of look cs

-- what is so with every queue is so with this one
pub with-queue : {A E Q : Type 0} (P : A → Q → Type 0) (r : Result A E) (q : Q) → IfOk r (λ u. (x : Q) → P u x) → IfOk r (λ u. P u q)
with-queue P (Ok u) q all = all q
with-queue P (Err e) q all = tt

module _ {E : Type 0} (m n : MountView) (stripes seats : List (SeatView Entry)) (sizes others : List (SeatView SizeEntry)) (r : Result Unmounted E) where
  pub unmounts-alike : m ≡ n → stripes ≡ seats → sizes ≡ others → IfOk r (λ u. Unmounts m stripes sizes u) → IfOk r (λ u. Unmounts n seats others u)
  unmounts-alike e s z ends =
      subst (λ x. IfOk r (λ u. Unmounts n seats x u)) z (subst (λ x. IfOk r (λ u. Unmounts n x sizes u)) s (subst (λ x. IfOk r (λ u. Unmounts x stripes sizes u)) e ends))
