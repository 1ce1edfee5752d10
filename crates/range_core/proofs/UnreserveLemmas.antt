-- What a block keeps from which a promise of space is taken back, and what the range claims then.
use Rattle.std.proofs.Common.{◌≡◌, ℕ, ◌+◌, ◌≤◌, Bool, true, false, not, ◌&&◌, if◌then◌else◌, None, List, take, drop, refl, sym, ◌∙◌, ap, subst, arith}
use Rattle.std.proofs.lemmas.Bool.{and_parts}
use Rattle.io_model.specs.Contents.{Content}
use Rattle.io_model.specs.declared.file.Kind.{Kind}
use Rattle.io_model.specs.declared.file.Kind.TheVariants.{Delalloc, Hole}
use Rattle.space_pool.specs.Claims.{with_fewer}
use Rattle.range_core.specs.BlockStates.{becomes_hole, state_of}
use Rattle.range_core.specs.BlockTruth.{IsTrueAt, is_gone}
use Rattle.range_core.specs.Cells.{HasPlace, IsPlaced}
use Rattle.range_core.specs.EntryCounts.{one_where}
use Rattle.range_core.specs.Kinds.{has_space, is_delalloc, is_mapped}
use Rattle.range_core.specs.OnRun.{count_on, on_each}
use Rattle.range_core.specs.Placing.{is_unused}
use Rattle.range_core.specs.RangeTruth.{IsUncached, pending}
use Rattle.range_core.specs.Reserves.{unpromised}
use Rattle.range_core.specs.Space.{ClaimsSpace, SpaceClaims, number_weight, promised}
use Rattle.range_core.specs.Stakes.{RangeStake}
use Rattle.range_core.specs.declared.cell.Cell.{Cell}
use Rattle.range_core.proofs.CountLemmas.{count_on-total, total-run}
use Rattle.range_core.proofs.FirstTruth.{total-zero}
use Rattle.range_core.proofs.HomeLemmas.{home_content, home_of, home_true, unnamed}
use Rattle.range_core.proofs.KindLemmas.{is_kind-true}
use Rattle.range_core.proofs.OnRunLemmas.{length-on_each, total-on_each}

abbrev bare : Cell → Cell
bare c = record c { kind = Hole; page = None }

is_false : (t : Bool) → not t ≡ true → t ≡ false
is_false true e = absurd (cc)
is_false false e = refl

-- what holds of a block as it is, and of a hole in its place, holds of it afterwards
either_way : (P : Cell → Type 0) (c : Cell) → (is_unused c ≡ false → P c) → (is_unused c ≡ true → c.kind ≡ Delalloc → c.dirty ≡ false → P (bare c)) → P (unpromised c)
either_way P c kept bared = at (is_unused c) refl
  where
    at : (t : Bool) → is_unused c ≡ t → P (if t then bare c else c)
    at true e = let p = and_parts (is_delalloc c.kind) (not c.dirty) e in bared e (is_kind-true c.kind Delalloc p.0) (is_false c.dirty p.1)
    at false e = kept e

pub unpromised-placed : (size : ℕ) (c : Cell) → IsPlaced size c → IsPlaced size (unpromised c)
unpromised-placed size c h = either_way (IsPlaced size) c (λ _. h) (λ _ k _. let P : Kind → Type 0 = λ q. HasPlace size q c.sector c.away in subst P k h)

pub unpromised-gone : (c : Cell) → is_gone (unpromised c) ≡ is_gone c
unpromised-gone c = either_way (λ d. is_gone d ≡ is_gone c) c (λ _. refl) (λ _ _ _. refl)

unpromised-weight : (f : ℕ → ℕ) (c : Cell) → number_weight f (unpromised c) ≡ number_weight f c
unpromised-weight f c = either_way (λ d. number_weight f d ≡ number_weight f c) c (λ _. refl) (λ _ k _. sym (ap (λ q. number_weight f (record c { kind = q })) k))

-- any other block is as it was
pub unpromised-other : (c : Cell) → is_unused c ≡ false → unpromised c ≡ c
unpromised-other c e = ap (λ t. if t then bare c else c) e

none_counted : (c : Cell) → is_unused c ≡ false → one_where (is_unused c) ≡ 0
none_counted c e = ap one_where e

unpromised-promised : (c : Cell) → promised (unpromised c) + one_where (is_unused c) ≡ promised c + 0
unpromised-promised c =
    either_way (λ d. promised d + one_where (is_unused c) ≡ promised c + 0) c
    (λ e. let z = none_counted c e in omega arith)
    (λ e k _. let one : one_where (is_unused c) ≡ 1 = ap one_where e in let was : promised c ≡ 1 = ap (λ q. one_where (is_delalloc q)) k in omega arith)

pub unpromised-pending : (c : Cell) → pending (unpromised c) + one_where (is_unused c) ≡ pending c + 0
unpromised-pending c =
    either_way (λ d. pending d + one_where (is_unused c) ≡ pending c + 0) c
    (λ e. let z = none_counted c e in omega arith)
    (λ e k _. let one : one_where (is_unused c) ≡ 1 = ap one_where e in let was : pending c ≡ 1 = ap (λ q. pending (record c { kind = q })) k in omega arith)

-- the seat claims the space of the blocks once the promises went back
pub space_released : (size low n : ℕ) (cells : List Cell) (space : SpaceClaims) → ClaimsSpace size cells space → ClaimsSpace size (on_each (λ _. unpromised) 0 low n cells) (with_fewer space (count_on is_unused low n cells))
space_released size low n cells space s =
    let f : ℕ → Cell → Cell = λ _. unpromised in
    let less = total-run f promised (λ c. one_where (is_unused c)) (λ _. 0) (λ _ c. unpromised-promised c) 0 low n cells in
    let none = total-zero (λ _. 0) (take n (drop low cells)) (λ k d l. refl) in
    let counted = count_on-total is_unused low n cells in
    let had = s.reserved in
    record {
      numbers = λ g. s.numbers g ∙ sym (total-on_each f (number_weight g) (λ _ c. unpromised-weight g c) 0 low n cells);
      distinct = s.distinct;
      reserved = omega arith;
      cap = s.cap ∙ sym (length-on_each f 0 low n cells);
      sized = s.sized;
    }

-- no more are taken back than are promised
pub unused-few : (size low n : ℕ) (cells : List Cell) (space : SpaceClaims) → ClaimsSpace size cells space → count_on is_unused low n cells ≤ space.reserved
unused-few size low n cells space s =
    let less = total-run (λ _. unpromised) promised (λ c. one_where (is_unused c)) (λ _. 0) (λ _ c. unpromised-promised c) 0 low n cells in
    let none = total-zero (λ _. 0) (take n (drop low cells)) (λ k d l. refl) in
    let counted = count_on-total is_unused low n cells in
    let had = s.reserved in
    omega arith

-- the state of a block of the run
pub unpromised-state : (c : Cell) (t : Bool) → t ≡ true → state_of (unpromised c) ≡ (if t && is_unused c then becomes_hole (state_of c) else state_of c)
unpromised-state c t e =
    either_way (λ d. state_of d ≡ (if t && is_unused c then becomes_hole (state_of c) else state_of c)) c
    (λ u. sym (ap (λ s. if s && is_unused c then becomes_hole (state_of c) else state_of c) e ∙ ap (λ s. if s then becomes_hole (state_of c) else state_of c) u))
    (λ u k clean. ap (λ d. state_of (record c { kind = Hole; page = None; dirty = d })) clean ∙ sym (ap (λ s. if s && is_unused c then becomes_hole (state_of c) else state_of c) e ∙ ap (λ s. if s then becomes_hole (state_of c) else state_of c) u))

pub unpromised-uncached : (c : Cell) → IsUncached c → IsUncached (unpromised c)
unpromised-uncached c u = either_way IsUncached c (λ _. u) (λ _ _ _. record { page = refl; clean = u.clean; reserved = refl; home = u.home })

-- a block keeps its content, which is zeros where it becomes a hole
pub unpromised-true : (size b : ℕ) (c : Cell) (content : Content) (stakes : List RangeStake) → IsTrueAt size b c content stakes → IsTrueAt size b (unpromised c) content stakes
unpromised-true size b c content stakes t =
    either_way (λ d. IsTrueAt size b d content stakes) c (λ _. t)
    (λ _ k clean.
    let home : c.away ≡ None = home_of size c.kind c.sector c.away (ap has_space k) t.place in
    let P : Kind → Type 0 = λ q. HasPlace size q c.sector c.away in
    let had = home_content size c content home t.home_is_on_device in
    home_true size b (bare c) content stakes (record {
      home = home;
      whole = t.whole;
      place = subst P k t.place;
      uptodate = tt;
      reads = record { clean_is_on_device = λ m d. absurd (cc); spaceless_is_zeros = λ m d. had.spaceless_is_zeros (ap is_mapped k) clean };
      dirty = λ d. absurd (cc);
      unclaimed = unnamed size b c content stakes home t.away_is_claimed;
    }))
