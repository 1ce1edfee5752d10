-- What one seat's turn, cut or join leaves of the truth.
use Rattle.std.proofs.Common.{◌≡◌, ◌≢◌, ℕ, ◌+◌, ◌≤◌, List, [], ◌∷◌, ◌++◌, length, length-append, set, Some, None, refl, sym, ap, ◌∙◌, subst, ⊎_elim, arith}
use mathlib.Core.Option.{some}
use lib.ListN.{get_elem?}
use Rattle.atomic_table.proofs.Lists.{at_set, at_snoc, set_else}
use Rattle.iob_base.specs.DeviceBlock.{DeviceBlock}
use Rattle.turn_cell.specs.Stakes.{total}
use Rattle.turn_cell.specs.Laws.{Stands}
use Rattle.turn_cell.proofs.Sums.{total-append, total-set, total-at, total-count}
use Rattle.space_pool.specs.declared.claims.PoolClaims.{PoolClaims}
use Rattle.space_pool.specs.declared.entry.PoolEntry.{PoolEntry}
use Rattle.space_pool.specs.Claims.{ClaimsView, joined_claims}
use Rattle.space_pool.specs.Pool.{PoolView, unreserved, with_stock, IsClaimOn}
use Rattle.space_pool.specs.History.{unreserved_after, unreserved_since, taken_by, given_by}
use Rattle.space_pool.specs.Truth.{PoolStake, claimed, number_weight, IsWithin, PoolTruth}

-- How one turn moves numbers and reservations between a pool and the claims of a seat
pub record Moves (p : PoolView) (c : ClaimsView) (q : PoolView) (d : ClaimsView) (entry : PoolEntry) : Type 0 where
  pub numbers : (f : ℕ → ℕ) → total (λ s. f s.number) q.free + total f d.numbers ≡ total (λ s. f s.number) p.free + total f c.numbers
  pub reserved : q.reserved + c.reserved ≡ p.reserved + d.reserved
  pub enough : q.reserved ≤ length q.free
  pub within : IsWithin d
  pub cap : d.cap ≡ c.cap
  pub size : d.size ≡ c.size
  pub pool : q ≡ with_stock p q.free q.reserved
  pub counted : unreserved q ≡ unreserved_after (unreserved p) entry
  pub stock : (f : DeviceBlock → ℕ) → total f q.free + total f (taken_by entry) ≡ total f p.free + total f (given_by entry)

-- one entry more
since-snoc : (count : ℕ) (es : List PoolEntry) (e : PoolEntry) → unreserved_since count (es ++ e ∷ []) ≡ unreserved_after (unreserved_since count es) e
since-snoc count [] e = refl
since-snoc count (x ∷ es) e = since-snoc (unreserved_after count x) es e

-- what is said of a seat's claims is said of them in its stake
pub same-claims : (P : PoolClaims → Type 0) (x y : PoolClaims) (es fs : List PoolEntry) → ◌≡◌ {A = PoolStake} (Some x, es) (Some y, fs) → P x → P y
same-claims P x y es fs same h = let is : x ≡ y = claims-are (ap (λ (s : PoolStake). s.0) same) in subst P is h
  where
    claims-are : Some x ≡ Some y → x ≡ y
    claims-are e = cc

no-claims : (P : PoolClaims → Type 0) (y : PoolClaims) (fs : List PoolEntry) → ◌≡◌ {A = PoolStake} (None, []) (Some y, fs) → P y
no-claims P y fs same = absurd (none-there (ap (λ (s : PoolStake). s.0) same))
  where
    none-there : None ≡ Some y → ⊥
    none-there e = cc

-- a seat is within its cap, and of the pool's block size
abbrev pub IsFine : PoolView → PoolClaims → Type 0
IsFine opening c = IsWithin c.facts × (c.facts.size ≡ opening.size)

module _ {opening value : PoolView} {history : List PoolEntry} {stakes : List PoolStake} {number : ℕ} {claims : PoolClaims} {made : List PoolEntry} (stands : Stands PoolTruth opening value history stakes number claims made) where
  -- the claims of a seat that stands are claims on the pool
  pub stands-claim : IsClaimOn value claims.facts
  stands-claim =
      let truth = stands.holds in
      let all = truth.numbers.weighs (λ _. 1) in
      let mine : total (λ _. 1) claims.facts.numbers ≤ total (claimed (number_weight (λ _. 1))) stakes = total-at (claimed (number_weight (λ _. 1))) stakes number (Some claims, made) stands.here in
      let held : claims.facts.reserved ≤ total (claimed (λ c. c.reserved)) stakes = total-at (claimed (λ c. c.reserved)) stakes number (Some claims, made) stands.here in
      let numbers : length value.numbers ≡ length opening.numbers = ap (λ (p : PoolView). length p.numbers) truth.same in
      record {
        size = (truth.caps.within number claims made stands.here).1 ∙ sym (ap (λ (p : PoolView). p.size) truth.same);
        numbers = omega (arith, all, mine, total-count claims.facts.numbers, total-count value.free, total-count opening.numbers);
        reserved = omega (arith, truth.reserved);
      }

  pub stands-within : IsWithin claims.facts
  stands-within = (stands.holds.caps.within number claims made stands.here).0

  -- a turn that moves numbers and reservations keeps the truth
  pub keeps-turn : (next : PoolView) (left : PoolClaims) (entry : PoolEntry) → Moves value claims.facts next left.facts entry
      → PoolTruth opening next (history ++ entry ∷ []) (set stakes number (Some left, made ++ entry ∷ []))
  keeps-turn next left entry m =
      let truth = stands.holds in
      let after : List PoolStake = set stakes number (Some left, made ++ entry ∷ []) in
      let change : (g : ClaimsView → ℕ) → total (claimed g) after + g claims.facts ≡ total (claimed g) stakes + g left.facts =
      λ g. total-set (claimed g) stakes number (Some claims, made) (Some left, made ++ entry ∷ []) stands.here in
      record {
        numbers = record {
          distinct = truth.numbers.distinct;
          weighs = λ f. omega (arith, change (number_weight f), m.numbers f, truth.numbers.weighs f);
        };
        caps = record {
          adds = omega (arith, change (λ c. c.cap), m.cap, truth.caps.adds);
          within = λ j c es at. ⊎_elim
              (λ (t : (j ≡ number) × (◌≡◌ {A = PoolStake} (Some left, made ++ entry ∷ []) (Some c, es))). same-claims (IsFine opening) left c (made ++ entry ∷ []) es t.1 (m.within, m.size ∙ (truth.caps.within number claims made stands.here).1))
              (λ (t : (j ≢ number) × (get_elem? stakes j ≡ some (Some c, es))). truth.caps.within j c es t.1)
              (at_set stakes number j (Some left, made ++ entry ∷ []) (Some c, es) at);
        };
        reserved = omega (arith, change (λ c. c.reserved), m.reserved, truth.reserved);
        enough = m.enough;
        told = m.counted ∙ ap (λ n. unreserved_after n entry) truth.told ∙ sym (since-snoc (unreserved opening) history entry);
        stock = λ f.
            let t = total-append (λ (e : PoolEntry). total f (taken_by e)) history (entry ∷ []) in
            let u = total-append (λ (e : PoolEntry). total f (given_by e)) history (entry ∷ []) in
            let was = truth.stock f in
            let now = m.stock f in
            omega arith;
        same = m.pool ∙ ap (λ (p : PoolView). with_stock p next.free next.reserved) truth.same;
      }

  -- a seat's claims may be cut in two
  pub keeps-cut : (left right : PoolClaims) → ((f : ℕ → ℕ) → total f left.facts.numbers + total f right.facts.numbers ≡ total f claims.facts.numbers) → left.facts.reserved + right.facts.reserved ≡ claims.facts.reserved
      → left.facts.cap + right.facts.cap ≡ claims.facts.cap → IsWithin left.facts → IsWithin right.facts → left.facts.size ≡ claims.facts.size → right.facts.size ≡ claims.facts.size
      → PoolTruth opening value history (set stakes number (Some left, made) ++ (Some right, []) ∷ [])
  keeps-cut left right numbers reserved caps within within' size size' =
      let truth = stands.holds in
      let first : List PoolStake = set stakes number (Some left, made) in
      let was : claims.facts.size ≡ opening.size = (truth.caps.within number claims made stands.here).1 in
      let change : (g : ClaimsView → ℕ) → total (claimed g) (first ++ (Some right, []) ∷ []) + g claims.facts ≡ total (claimed g) stakes + g left.facts + g right.facts = λ g.
      let t : total (claimed g) first + g claims.facts ≡ total (claimed g) stakes + g left.facts = total-set (claimed g) stakes number (Some claims, made) (Some left, made) stands.here in
      let u : total (claimed g) (first ++ (Some right, []) ∷ []) ≡ total (claimed g) first + (g right.facts + 0) = total-append (claimed g) first ((Some right, []) ∷ []) in omega arith in
      record {
        numbers = record { distinct = truth.numbers.distinct; weighs = λ f. omega (arith, change (number_weight f), numbers f, truth.numbers.weighs f) };
        caps = record {
          adds = omega (arith, change (λ c. c.cap), caps, truth.caps.adds);
          within = λ j c es at. ⊎_elim
              (λ (there : get_elem? first j ≡ some (Some c, es)). ⊎_elim
              (λ (t : (j ≡ number) × (◌≡◌ {A = PoolStake} (Some left, made) (Some c, es))). same-claims (IsFine opening) left c made es t.1 (within, size ∙ was))
              (λ (t : (j ≢ number) × (get_elem? stakes j ≡ some (Some c, es))). truth.caps.within j c es t.1)
              (at_set stakes number j (Some left, made) (Some c, es) there))
              (λ (same : (◌≡◌ {A = PoolStake} (Some right, []) (Some c, es))). same-claims (IsFine opening) right c [] es same (within', size' ∙ was))
              (at_snoc first (Some right, []) (Some c, es) j at);
        };
        reserved = omega (arith, change (λ c. c.reserved), reserved, truth.reserved);
        enough = truth.enough;
        told = truth.told;
        stock = truth.stock;
        same = truth.same;
      }

  -- a seat may take in the claims of another
  pub keeps-merge : (other : ℕ) (theirs both : PoolClaims) (given : List PoolEntry) → ¬ (other ≡ number) → get_elem? stakes other ≡ some (Some theirs, given) → both.facts ≡ joined_claims claims.facts theirs.facts
      → PoolTruth opening value history (set (set stakes number (Some both, made ++ given)) other (None, []))
  keeps-merge other theirs both given apart there is =
      let truth = stands.holds in
      let first : List PoolStake = set stakes number (Some both, made ++ given) in
      let mine = truth.caps.within number claims made stands.here in
      let yours = truth.caps.within other theirs given there in
      let length-both : length (claims.facts.numbers ++ theirs.facts.numbers) ≡ length claims.facts.numbers + length theirs.facts.numbers = length-append claims.facts.numbers theirs.facts.numbers in
      let fine : IsWithin both.facts × (both.facts.size ≡ opening.size) =
      subst (λ (d : ClaimsView). IsWithin d × (d.size ≡ opening.size)) (sym is) (omega (arith, mine.0, yours.0, length-both), mine.1) in
      let change : (g : ClaimsView → ℕ) → total (claimed g) (set first other (None, [])) + g claims.facts + g theirs.facts ≡ total (claimed g) stakes + g (joined_claims claims.facts theirs.facts) = λ g.
      let t : total (claimed g) first + g claims.facts ≡ total (claimed g) stakes + g both.facts = total-set (claimed g) stakes number (Some claims, made) (Some both, made ++ given) stands.here in
      let u : total (claimed g) (set first other (None, [])) + g theirs.facts ≡ total (claimed g) first + 0 =
      total-set (claimed g) first other (Some theirs, given) (None, []) (set_else stakes number other (Some both, made ++ given) apart ∙ there) in
      let e : g both.facts ≡ g (joined_claims claims.facts theirs.facts) = ap g is in omega arith in
      record {
        numbers = record {
          distinct = truth.numbers.distinct;
          weighs = λ f. omega (arith, change (number_weight f), total-append f claims.facts.numbers theirs.facts.numbers, truth.numbers.weighs f);
        };
        caps = record {
          adds = omega (arith, change (λ c. c.cap), truth.caps.adds);
          within = λ j c es at. ⊎_elim
              (λ (t : (j ≡ other) × (◌≡◌ {A = PoolStake} (None, []) (Some c, es))). no-claims (IsFine opening) c es t.1)
              (λ (t : (j ≢ other) × (get_elem? first j ≡ some (Some c, es))). ⊎_elim
              (λ (w : (j ≡ number) × (◌≡◌ {A = PoolStake} (Some both, made ++ given) (Some c, es))). same-claims (IsFine opening) both c (made ++ given) es w.1 fine)
              (λ (w : (j ≢ number) × (get_elem? stakes j ≡ some (Some c, es))). truth.caps.within j c es w.1)
              (at_set stakes number j (Some both, made ++ given) (Some c, es) t.1))
              (at_set first other j (None, []) (Some c, es) at);
        };
        reserved = omega (arith, change (λ c. c.reserved), truth.reserved);
        enough = truth.enough;
        told = truth.told;
        stock = truth.stock;
        same = truth.same;
      }
