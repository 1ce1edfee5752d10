-- Blocks that a part of a range covers in part are covered in part by the range; and what is read of them.
use Rattle.std.proofs.Common.{inl, inr, ◌≡◌, ℕ, zero, suc, ◌+◌, ◌-◌, ◌*◌, ◌<◌, ◌≤◌, Bool, true, false, List, [], ◌++◌, None, refl, sym, ap, subst, arith, if◌then◌else◌, div-lt_iff_lt-mul, div-mul-le_self, le-div_iff_mul-le, le_refl, mul-le-mul}
use Rattle.std.specs.Prelude.{◌⊎◌, ◌||◌, ◌/◌, ◌%◌, All, IsTrue, Option, nat_lt}
use Rattle.std.proofs.lemmas.Bool.{cases_lt, lt-ltb, ltb-true, or_left, or_right}
use Rattle.std.proofs.lemmas.Bool.Decides.{nat_tests}
use Rattle.std.proofs.lemmas.List.Elements.{All-nil, All-weaker}
use Rattle.iob_base.specs.declared.answer.Fault.{Fault}
use Rattle.iob_base.specs.declared.stamp.FileId.{FileId}
use Rattle.io_model.specs.Parts.{blocks_met, span}
use Rattle.turn_cell.specs.Stakes.{total}
use Rattle.range_core.specs.EntryCounts.{lendings, one_where}
use Rattle.range_core.specs.Refusals.{covers_in_part}
use Rattle.range_core.specs.declared.entry.Entry.{Entry}
use Rattle.range_core.specs.declared.entry.Event.{Event}
use Rattle.range_core.specs.declared.entry.Event.TheVariants as event
use Rattle.range_core.specs.declared.entry.Outcome.{Outcome}
use Rattle.range_core.specs.declared.entry.Outcome.TheVariants as outcome
use Rattle.mount_parts.specs.MountView.{MountView}
use Rattle.mini_fs.specs.Acts.{Act, own_entries}
use Rattle.mini_fs.specs.Acts.Act.{Turn, SizeTurn, Busy, Open, Close, Take, Refused, Leave, Run, Note, Number}
use Rattle.mini_fs.specs.CallActs.{loans_in}
use Rattle.mini_fs.specs.PassView.{PassView}
use Rattle.call_parts.specs.Budgets.{AreSound, IsLentAmong, IsSound, LendsAmong, LendsFew, how_many, keeps_read}
use Rattle.call_parts.proofs.BudgetLemmas.{loans-few}
use Rattle.call_parts.proofs.PartLemmas.{div-mono}
use Rattle.call_parts.proofs.FewLemmas.{few-ended, few-quiet, few-then}
use Rattle.buffered_write.specs.Lays.{Meet}
use Rattle.buffered_write.specs.PartReads.{KeepsBudget, ReadsInPart, blocks_in_part}
use Rattle.buffered_write.specs.Pwrites.{IsInPart}

-- one of two tests is met
one-of : (x y : Bool) → (x || y) ≡ true → (x ≡ true) ⊎ (y ≡ true)
one-of true y is = inl refl
one-of false y is = inr is

-- a place where a block begins lies at or before each block behind it
begins-before : (size at b : ℕ) → at % size ≡ 0 → at / size ≤ b → at ≤ b * size
begins-before size at b whole low =
    let all : size * (at / size) + at % size ≡ at = omega arith in
    let less : at / size * size ≤ b * size = mul-le-mul low (le_refl size) in
    omega (arith, all, whole, less)

-- and one where a block ends lies at or behind the end of each block before it
ends-behind : (size at b : ℕ) → 0 < size → at % size ≡ 0 → b ≤ (at - 1) / size → 0 < at → (b + 1) * size ≤ at
ends-behind size at b some whole low has =
    let all : size * (at / size) + at % size ≡ at = omega arith in
    let before : (at - 1) / size * size ≤ at - 1 = div-mul-le_self (at - 1) size in
    let less : b * size ≤ (at - 1) / size * size = mul-le-mul low (le_refl size) in
    let below : b * size < at / size * size = omega (arith, all, whole, before, less, has) in
    let next : b < at / size = lt-of-mul b (at / size) size below in
    let most : (b + 1) * size ≤ at / size * size = mul-le-mul (let n : b + 1 ≤ at / size = omega (arith, next) in n) (le_refl size) in
    omega (arith, all, whole, most)
  where
    lt-of-mul : (x y n : ℕ) → x * n < y * n → x < y
    lt-of-mul x y n less = elim (cases_lt x y) [
      | inl low ↦ low
      | inr high ↦ absurd (let most : y * n ≤ x * n = mul-le-mul (let h : y ≤ x = omega (arith, high) in h) (le_refl n) in omega (arith, most, less))
    ]

module _ (size from at next to : ℕ) (some : 0 < size) (less : at < next) (within : next ≤ to) (begins : Meet size from at to) (ends : Meet size from next to) (low : from ≤ at) where
  -- the last block of the part
  last-met : at / size + blocks_met size (span at next) ≡ (next - 1) / size + 1
  last-met =
      let met : blocks_met size (span at next) ≡ (next - 1) / size + 1 - at / size = ap (λ b. if b then (next - 1) / size + 1 - at / size else 0) (lt-ltb at next less) in
      let order = div-mono at (next - 1) size some (omega (arith, less)) in
      omega (arith, met, order)

  begins-early : (b : ℕ) → at / size ≤ b → b * size < at → b * size < from
  begins-early b here early = by begins
    where
      by : Meet size from at to → b * size < from
      by (inl e) = omega (arith, e, early)
      by (inr (inl e)) = absurd (omega (arith, e, less, within))
      by (inr (inr e)) = absurd (let h = begins-before size at b e here in omega (arith, h, early))

  ends-late : (b : ℕ) → b ≤ (next - 1) / size → next < (b + 1) * size → to < (b + 1) * size
  ends-late b here late = by ends
    where
      by : Meet size from next to → to < (b + 1) * size
      by (inl e) = absurd (omega (arith, e, less, low))
      by (inr (inl e)) = omega (arith, e, late)
      by (inr (inr e)) = absurd (let h = ends-behind size next b some e here (omega (arith, less)) in omega (arith, h, late))

  pub part-covers : (b : ℕ) → at / size ≤ b → b < at / size + blocks_met size (span at next) → covers_in_part size at next b ≡ true → covers_in_part size from to b ≡ true
  part-covers b here below covers = elim (one-of (nat_lt (b * size) at) (nat_lt next ((b + 1) * size)) covers) [
    | inl early ↦ or_left (nat_lt (b * size) from) (nat_lt to ((b + 1) * size)) (lt-ltb (b * size) from (begins-early b here (ltb-true (b * size) at early)))
    | inr late ↦ or_right (nat_lt (b * size) from) (nat_lt to ((b + 1) * size)) (lt-ltb to ((b + 1) * size) (ends-late b (let met = last-met in omega (arith, met, below)) (ltb-true next ((b + 1) * size) late)))
  ]

  pub part-first : from / size ≤ at / size
  part-first = div-mono from at size some low

  pub part-last : at / size + blocks_met size (span at next) ≤ from / size + blocks_met size (span from to)
  part-last =
      let one = last-met in
      let met : blocks_met size (span from to) ≡ (to - 1) / size + 1 - from / size = ap (λ b. if b then (to - 1) / size + 1 - from / size else 0) (lt-ltb from to (omega (arith, low, less, within))) in
      let high = div-mono (next - 1) (to - 1) size some (omega (arith, within)) in
      omega (arith, one, met, high)

-- of numbers of which none is so, none counts, and of those of which at most one is so, one
none-so : (so : ℕ → Bool) (low n : ℕ) → ((b : ℕ) → low ≤ b → b < low + n → so b ≡ true → ⊥) → how_many so low n ≡ 0
none-so so low zero none = refl
none-so so low (suc n) none =
    let rest = none-so so (suc low) n (λ b from below is. none b (omega (arith, from)) (omega (arith, below)) is) in
    by (so low) refl rest
  where
    by : (t : Bool) → so low ≡ t → how_many so (suc low) n ≡ 0 → one_where (so low) + how_many so (suc low) n ≡ 0
    by true is rest = absurd (none low (omega arith) (omega arith) is)
    by false is rest = (let first : one_where (so low) ≡ 0 = ap one_where is in omega (arith, first, rest))

one-so : (so : ℕ → Bool) (low n k : ℕ) → ((b : ℕ) → low ≤ b → b < low + n → so b ≡ true → b ≡ k) → how_many so low n ≤ 1
one-so so low zero k one = omega arith
one-so so low (suc n) k one =
    by (so low) refl (one-so so (suc low) n k (λ b from below is. one b (omega (arith, from)) (omega (arith, below)) is))
  where
    by : (t : Bool) → so low ≡ t → how_many so (suc low) n ≤ 1 → one_where (so low) + how_many so (suc low) n ≤ 1
    by true is rest =
        let here : low ≡ k = one low (omega arith) (omega arith) is in
        let none = none-so so (suc low) n (λ b from below so_b. (let there : b ≡ k = one b (omega (arith, from)) (omega (arith, below)) so_b in omega (arith, here, there, from))) in
        let first : one_where (so low) ≡ 1 = ap one_where is in
        omega (arith, none, first)
    by false is rest = (let first : one_where (so low) ≡ 0 = ap one_where is in omega (arith, first, rest))

-- a range covers at most two blocks in part: its first, and its last
module _ (size from to : ℕ) (some : 0 < size) where
  is-first : (b : ℕ) → from / size ≤ b → b * size < from → b ≡ from / size
  is-first b low less = (let high : b ≤ from / size = grind (arith, le-div_iff_mul-le) in omega (arith, low, high))

  is-last : (b : ℕ) → b ≤ (to - 1) / size → to < (b + 1) * size → b ≡ (to - 1) / size
  is-last b high less = (let below : (to - 1) / size < b + 1 = grind (arith, div-lt_iff_lt-mul) in omega (arith, below, high))

  ends-in-part : (b : ℕ) → from < to → from / size ≤ b → b < from / size + blocks_met size (span from to) → covers_in_part size from to b ≡ true → (b ≡ from / size) ⊎ (b ≡ (to - 1) / size)
  ends-in-part b less low below covers =
      let met = last-met size from from to to some less (le_refl to) (inl refl) (inr (inl refl)) (le_refl from) in
      elim (one-of (nat_lt (b * size) from) (nat_lt to ((b + 1) * size)) covers) [
        | inl early ↦ inl (is-first b low (ltb-true (b * size) from early))
        | inr late ↦ inr (is-last b (omega (arith, met, below)) (ltb-true to ((b + 1) * size) late))
      ]

  two-in-part : (n : ℕ) → from < to → from / size + n ≡ from / size + blocks_met size (span from to) → how_many (covers_in_part size from to) (from / size) n ≤ 2
  two-in-part zero less is = omega arith
  two-in-part (suc n) less is =
      let rest = one-so (covers_in_part size from to) (suc (from / size)) n ((to - 1) / size) (λ b low below covers. elim (ends-in-part b less (omega (arith, low)) (omega (arith, below, is)) covers) [
        | inl first ↦ absurd (omega (arith, first, low))
        | inr last ↦ last
      ]) in
      let one = at-most-one (covers_in_part size from to (from / size)) in
      omega (arith, rest, one)
    where
      at-most-one : (b : Bool) → one_where b ≤ 1
      at-most-one true = omega arith
      at-most-one false = omega arith

  pub in-part-most : blocks_in_part size from to ≤ 2
  in-part-most = elim (cases_lt from to) [
    | inl less ↦ two-in-part (blocks_met size (span from to)) less refl
    | inr none ↦
        let met : blocks_met size (span from to) ≡ 0 = ap (λ b. if b then (to - 1) / size + 1 - from / size else 0) (let past : nat_lt from to ≡ false = grind (arith, nat_tests) in past) in
        let zero_many : how_many (covers_in_part size from to) (from / size) (blocks_met size (span from to)) ≡ 0 = ap (how_many (covers_in_part size from to) (from / size)) met in
        omega (arith, zero_many)
  ]

module _ (m : MountView) (file : FileId) (so might : ℕ → Bool) (low n from all : ℕ) (wider : (b : ℕ) → low ≤ b → b < low + n → so b ≡ true → (from ≤ b) × (b < from + all) × (might b ≡ true)) where
  -- what lends blocks of a set lends blocks of one that has them
  other-one : (stripe : ℕ) (e : Event) (o : Outcome) → IsLentAmong m file so low n stripe e o → IsLentAmong m file might from all stripe e o
  other-one stripe (event.LendRead block most) (outcome.Lending ticket blocks) (low_is, high, is, at, some) = (let w = wider block low_is high is in (w.0, w.1, w.2, at, some))
  other-one stripe e (outcome.Lending ticket blocks) among = absurd among
  other-one stripe e o among = tt

  other-act : (a : Act) → LendsAmong m file so low n a → LendsAmong m file might from all a
  other-act (Turn stripe others own) among = other-one stripe own.event own.outcome among
  other-act (SizeTurn cell others own) among = tt
  other-act (Busy stripe word) among = tt
  other-act (Open stripe) among = tt
  other-act (Close stripe) among = tt
  other-act (Take f c was now) among = tt
  other-act (Refused f c was now) among = tt
  other-act (Leave f c was now) among = tt
  other-act (Run bios) among = tt
  other-act (Note begun) among = tt
  other-act (Number call) among = tt

  pub few-other : (fault : Option Fault) (acts : List Act) → LendsFew m file so low n fault acts → LendsFew m file might from all fault acts
  few-other fault acts few = record {
    among = All-weaker (LendsAmong m file so low n) (LendsAmong m file might from all) (λ a is. other-act a is) acts few.among;
    falls = few.falls;
    sound = few.sound;
  }

module _ (m : MountView) (file : FileId) where
  -- what is read of a part of a range
  pub part-reads : (from at next to : ℕ) → 0 < m.geometry.block_size → at < next → next ≤ to → Meet m.geometry.block_size from at to → Meet m.geometry.block_size from next to → from ≤ at → (fault : Option Fault) (acts : List Act) → ReadsInPart m file at next fault acts → ReadsInPart m file from to fault acts
  part-reads from at next to some less within begins ends low fault acts few =
      let size = m.geometry.block_size in
      few-other m file (covers_in_part size at next) (covers_in_part size from to) (at / size) (blocks_met size (span at next)) (from / size) (blocks_met size (span from to)) (λ b here below covers. (
        (let first = part-first size from at next to some less within begins ends low in omega (arith, first, here)),
        (let last = part-last size from at next to some less within begins ends low in omega (arith, last, below)),
        part-covers size from at next to some less within begins ends low b here below covers,
      )) fault acts few

  -- what is read of the rest of a range, of which there may be none
  pub rest-reads : (from at to : ℕ) → 0 < m.geometry.block_size → from ≤ at → at ≤ to → (at ≡ from) ⊎ (at % m.geometry.block_size ≡ 0) → (fault : Option Fault) (acts : List Act) → ReadsInPart m file at to fault acts → ReadsInPart m file from to fault acts
  rest-reads from at to some low high begins fault acts few = elim (cases_lt at to) [
    | inl less ↦ part-reads from at to to some less (le_refl to) (elim begins [ inl e ↦ inl e | inr e ↦ inr (inr e) ]) (inr (inl refl)) low fault acts few
    | inr end ↦
        let size = m.geometry.block_size in
        let none : blocks_met size (span at to) ≡ 0 = ap (λ b. if b then (to - 1) / size + 1 - at / size else 0) (let past : nat_lt at to ≡ false = grind (arith, nat_tests) in past) in
        few-other m file (covers_in_part size at to) (covers_in_part size from to) (at / size) (blocks_met size (span at to)) (from / size) (blocks_met size (span from to)) (λ b here below covers. absurd (omega (arith, none, here, below))) fault acts few
  ]

  -- the one block that was to be read
  pub block-reads : (from to block : ℕ) → IsInPart m file from to block → (fault : Option Fault) (acts : List Act) → LendsFew m file (λ b. true) block 1 fault acts → ReadsInPart m file from to fault acts
  block-reads from to block part fault acts few =
      let size = m.geometry.block_size in
      few-other m file (λ b. true) (covers_in_part size from to) block 1 (from / size) (blocks_met size (span from to)) (λ b here below covers. (
        (let low = part.low in omega (arith, low, here)),
        (let high = part.high in omega (arith, high, here, below)),
        subst (λ k. covers_in_part size from to k ≡ true) (let same : block ≡ b = omega (arith, here, below) in same) part.part,
      )) fault acts few

  -- acts that lend nothing and bring no read back failed
  pub quiet-reads : (from to : ℕ) (fault : Option Fault) (acts : List Act) → AreSound (own_entries acts) → loans_in acts ≡ 0 → ReadsInPart m file from to fault acts
  quiet-reads from to fault acts sound none = few-quiet m file (covers_in_part m.geometry.block_size from to) (from / m.geometry.block_size) (blocks_met m.geometry.block_size (span from to)) fault acts sound none

  pub reads-then : (from to : ℕ) (fault : Option Fault) (acts more : List Act) → ReadsInPart m file from to None acts → ReadsInPart m file from to fault more → ReadsInPart m file from to fault (acts ++ more)
  reads-then from to fault acts more first later = few-then m file (covers_in_part m.geometry.block_size from to) (from / m.geometry.block_size) (blocks_met m.geometry.block_size (span from to)) fault acts more first later

  pub reads-ended : (from to : ℕ) (fault : Option Fault) (acts more : List Act) → ReadsInPart m file from to fault acts → AreSound (own_entries more) → loans_in more ≡ 0 → ReadsInPart m file from to fault (acts ++ more)
  reads-ended from to fault acts more first sound none = few-ended m file (covers_in_part m.geometry.block_size from to) (from / m.geometry.block_size) (blocks_met m.geometry.block_size (span from to)) fault acts more first sound none

  -- the same of acts without an entry
  none-sound : (acts : List Act) → own_entries acts ≡ [] → AreSound (own_entries acts)
  none-sound acts own = subst AreSound (sym own) (All-nil (λ (e : Entry). IsSound e.event))

  none-lent : (acts : List Act) → own_entries acts ≡ [] → loans_in acts ≡ 0
  none-lent acts own = ap (λ es. total lendings es) own

  pub reads-behind : (from to : ℕ) (fault : Option Fault) (acts more : List Act) → own_entries acts ≡ [] → ReadsInPart m file from to fault more → ReadsInPart m file from to fault (acts ++ more)
  reads-behind from to fault acts more own later = reads-then from to fault acts more (quiet-reads from to None acts (none-sound acts own) (none-lent acts own)) later

  pub reads-before : (from to : ℕ) (fault : Option Fault) (acts more : List Act) → own_entries more ≡ [] → ReadsInPart m file from to fault acts → ReadsInPart m file from to fault (acts ++ more)
  reads-before from to fault acts more own first = reads-ended from to fault acts more first (none-sound more own) (none-lent more own)

  -- how few bios acts send that read only such blocks
  pub budget-of : (from to : ℕ) (fault : Option Fault) (p : PassView) (acts : List Act) → ReadsInPart m file from to fault acts → All (λ (e : Entry). IsTrue (keeps_read e.event)) (own_entries acts) → KeepsBudget m file from to p acts
  budget-of from to fault p acts few keep alone happened =
      loans-few m file (covers_in_part m.geometry.block_size from to) (from / m.geometry.block_size) (blocks_met m.geometry.block_size (span from to)) p acts few.among keep few.falls alone happened

  pub budget-none : (from to : ℕ) (p : PassView) (acts : List Act) → loans_in acts ≡ 0 → KeepsBudget m file from to p acts
  budget-none from to p acts none alone happened = omega (arith, none)
