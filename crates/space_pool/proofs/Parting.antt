-- A part of a seat's claims for another seat keeps the truth.
use Rattle.std.proofs.Common.{◌≡◌, ℕ, ◌+◌, ◌-◌, List, [], ◌∷◌, ◌++◌, length, set, Some, sym, ap, subst, arith}
use Rattle.std.proofs.lemmas.List.{length-map}
use Rattle.iob_base.specs.DeviceBlock.{DeviceBlock}
use Rattle.turn_cell.specs.Stakes.{total}
use Rattle.turn_cell.specs.Laws.{Stands}
use Rattle.space_pool.specs.declared.claims.PoolClaims.{PoolClaims}
use Rattle.space_pool.specs.declared.entry.PoolEntry.{PoolEntry}
use Rattle.space_pool.specs.Claims.{ClaimsView, numbers_of, without, with_part_gone, claims_with}
use Rattle.space_pool.specs.Pool.{PoolView, CanPart}
use Rattle.space_pool.specs.Truth.{PoolStake, IsWithin, PoolTruth}
use Rattle.space_pool.proofs.Removing.{without-weighs, without-length}
use Rattle.space_pool.proofs.Keeping.{keeps-cut}

module _ {opening value : PoolView} {history : List PoolEntry} {stakes : List PoolStake} {number : ℕ} {claims : PoolClaims} {made : List PoolEntry} (stands : Stands PoolTruth opening value history stakes number claims made) where
  pub part-keeps : (left right : PoolClaims) (held : List DeviceBlock) (cap : ℕ) → CanPart held cap claims.facts → left.facts ≡ with_part_gone claims.facts held cap → right.facts ≡ claims_with held cap claims.facts.size
      → PoolTruth opening value history (set stakes number (Some left, made) ++ (Some right, []) ∷ [])
  part-keeps left right held cap can left-is right-is =
      let c : ClaimsView = claims.facts in
      let l : ClaimsView = with_part_gone c held cap in
      let r : ClaimsView = claims_with held cap c.size in
      let gone : length (without (numbers_of held) c.numbers) + length (numbers_of held) ≡ length c.numbers = without-length (numbers_of held) c.numbers can.among in
      let few : length (numbers_of held) ≡ length held = length-map held (λ (s : DeviceBlock). s.number) in
      let fits = can.fits in
      let some = can.few in
      let within : IsWithin left.facts = subst IsWithin (sym left-is) (omega arith) in
      let within' : IsWithin right.facts = subst IsWithin (sym right-is) (omega arith) in
      keeps-cut stands left right
      (λ f.
      let w = without-weighs f (numbers_of held) c.numbers can.among in
      let a : total f left.facts.numbers ≡ total f l.numbers = ap (λ (d : ClaimsView). total f d.numbers) left-is in
      let b : total f right.facts.numbers ≡ total f r.numbers = ap (λ (d : ClaimsView). total f d.numbers) right-is in omega arith)
      (let a : left.facts.reserved ≡ c.reserved = ap (λ (d : ClaimsView). d.reserved) left-is in
      let b : right.facts.reserved ≡ 0 = ap (λ (d : ClaimsView). d.reserved) right-is in omega arith)
      (let a : left.facts.cap ≡ c.cap - cap = ap (λ (d : ClaimsView). d.cap) left-is in
      let b : right.facts.cap ≡ cap = ap (λ (d : ClaimsView). d.cap) right-is in omega arith)
      within within' (ap (λ (d : ClaimsView). d.size) left-is) (ap (λ (d : ClaimsView). d.size) right-is)
