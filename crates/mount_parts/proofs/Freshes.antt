-- New seats at locks, one by one.
use Rattle.std.proofs.Common.{◌≡◌, ℕ, zero, suc, List, [], ◌∷◌, ◌++◌, take, Option, Some, sym, ap, ◌∙◌}
use Rattle.std.specs.Prelude.{slice_get}
use Rattle.std.proofs.lemmas.Option.{none-some}
use Rattle.atomic_table.specs.Seated.{TableId}
use Rattle.inode_lock.specs.View.{LockView, fresh}
use Rattle.mount_parts.specs.Locks.{AreFresh}

pub fresh-next : (ids : List TableId) (places : List (Option LockView)) (i : ℕ) (id : TableId) (number : ℕ) (place : Option LockView) → AreFresh (take i ids) places → slice_get ids i ≡ Some id → place ≡ Some (fresh id number) → AreFresh (take (suc i) ids) (places ++ place ∷ [])
fresh-next [] places i id number place are at is = absurd (none-some id at)
fresh-next (d ∷ ids) [] zero id number place are at is = ((number, is ∙ ap (λ k. Some (fresh k number)) (sym (let e : d ≡ id = cc in e))), tt)
fresh-next (d ∷ ids) (p ∷ places) zero id number place are at is = absurd are
fresh-next (d ∷ ids) [] (suc i) id number place are at is = absurd are
fresh-next (d ∷ ids) (p ∷ places) (suc i) id number place are at is = (are.0, fresh-next ids places i id number place are.1 at is)

pub fresh-push : (ids : List TableId) (places : List (Option LockView)) (id : TableId) (number : ℕ) (place : Option LockView) → AreFresh ids places → place ≡ Some (fresh id number) → AreFresh (ids ++ id ∷ []) (places ++ place ∷ [])
fresh-push [] [] id number place are is = ((number, is), tt)
fresh-push [] (p ∷ places) id number place are is = absurd are
fresh-push (d ∷ ids) [] id number place are is = absurd are
fresh-push (d ∷ ids) (p ∷ places) id number place are is = (are.0, fresh-push ids places id number place are.1 is)
