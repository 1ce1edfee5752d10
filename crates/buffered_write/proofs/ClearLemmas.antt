-- How the parts of a clearing make up its range.
use Rattle.std.proofs.Common.{inl, inr, ◌≡◌, ℕ, ◌+◌, ◌-◌, ◌*◌, ◌<◌, ◌≤◌, ◌==◌, ◌++◌, ◌∷◌, [], List, Bool, true, false, None, length, drop, take, refl, sym, ap, ◌∙◌, subst, arith, if◌then◌else◌, div-mul-le_self, mul-le-mul, div-lt_iff_lt-mul, le-div_iff_mul-le, le_refl}
use Rattle.std.specs.Prelude.{◌⊎◌, ◌/◌, ◌%◌, All, IsTrue, nat_le, replicate}
use Rattle.std.proofs.lemmas.Bool.{cases_eq, eq-eqb, eqb-true, false≢true}
use Rattle.std.proofs.lemmas.Bool.Decides.{nat_tests}
use Rattle.std.proofs.lemmas.List.{drop-replicate, length-append, length-replicate, take-replicate}
use Rattle.std.proofs.lemmas.List.Elements.{All-append, All-cons, All-head, All-nil, All-tail, All-weaker}
use Rattle.std.proofs.Math.Nat.{lt-div-mul-add, mul-mod_left}
use Rattle.iob_base.specs.declared.stamp.FileId.{FileId}
use Rattle.iob_base.specs.declared.stamp.Mode.{Mode}
use Rattle.iob_base.specs.declared.stamp.Tag.{Tag}
use Rattle.fault_device.specs.LaneView.{LaneView}
use Rattle.range_core.specs.Stamps.{done_by}
use Rattle.range_core.specs.declared.entry.Entry.{Entry}
use Rattle.range_core.specs.declared.entry.Event.{Event}
use Rattle.range_core.specs.declared.entry.Event.TheVariants as event
use Rattle.range_core.specs.declared.entry.Outcome.{Outcome}
use Rattle.range_core.specs.declared.entry.Outcome.TheVariants as outcome
use Rattle.mount_parts.specs.MountView.{MountView, file_at}
use Rattle.mini_fs.specs.Acts.{Act, own_entries}
use Rattle.mini_fs.specs.PassView.{IsPassOf, PassView}
use Rattle.mini_fs.proofs.CallLemmas.{own_entries-append}
use Rattle.call_parts.specs.declared.progress.Progress.{Progress}
use Rattle.call_parts.proofs.PartLemmas.{over-none}
use Rattle.call_parts.proofs.StepLemmas.{steps-may, steps-none}
use Rattle.buffered_write.specs.Clears.{Clears, ClearsOnly, IsOfClearing, LieInPart, block_end, clear_end, covers_block, may_clear, whole_blocks}
use Rattle.buffered_write.specs.Lays.{FollowOn, HasLaid, Laid, LieOn, Meet, bytes_laid, laid_by, laid_in}
use Rattle.buffered_write.specs.Pwrites.{followed, progress}
use Rattle.buffered_write.specs.Zeroes.{may_zero}
use Rattle.call_parts.specs.Budgets.{IsSound}
use Rattle.buffered_write.specs.PartReads.{ReadsInPart}
use Rattle.buffered_write.proofs.PartReadLemmas.{part-reads, quiet-reads, reads-then, rest-reads}
use Rattle.buffered_write.proofs.LayLemmas.{acts-then, laid-then, lie-none}

-- a number between two multiples
pub div-between : (n q k : ℕ) → 0 < k → q * k ≤ n → n < (q + 1) * k → n / k ≡ q
div-between n q k some low high = grind (arith, le-div_iff_mul-le, div-lt_iff_lt-mul)

module _ (m : MountView) (may might : Event → Bool) (file : FileId) (by : Tag) (from : ℕ) (a b : LaneView) (p q : PassView) (came : Progress) where
  -- zeros laid up to a place, told of a longer range and of more events
  abbrev pub laid-zeros : (n k : ℕ) → ((e : Event) → IsTrue (may e) → IsTrue (might e)) → came.at - from ≤ n → came.at - from ≤ k → HasLaid m may file by from (replicate n 0) a b p q came → HasLaid m might file by from (replicate k 0) a b p q came
  laid-zeros n k wider few enough h = record {
    acts = h.acts;
    steps = steps-may m file may might a b p q h.acts wider h.steps;
    begins = h.begins;
    laid = subst (λ l. LieOn from came.at l (laid_in m.geometry.block_size (own_entries h.acts))) (take-replicate (came.at - from) n 0 few ∙ sym (take-replicate (came.at - from) k 0 enough)) h.laid;
    stamps = h.stamps;
    cause = h.cause;
    bios = h.bios;
    dry = h.dry;
  }

-- what a part of a range does to blocks, the range does
module _ (size from at next to : ℕ) (low : from ≤ at) (high : next ≤ to) (begins : (at ≡ from) ⊎ (at % size ≡ 0)) (ends : (next ≡ to) ⊎ (next % size ≡ 0)) where
  part-wider : (x y : ℕ) → LieInPart size at next x y → LieInPart size from to x y
  part-wider x y (inl (broken, le)) = elim begins [
    | inl e ↦ inl (subst (λ k. (k % size ≡ 0 → ⊥) × (y ≤ (k / size + 1) * size)) e (broken, le))
    | inr whole ↦ absurd (broken whole)
  ]
  part-wider x y (inr (broken, le)) = elim ends [
    | inl e ↦ inr (subst (λ k. (k % size ≡ 0 → ⊥) × (k / size * size ≤ x)) e (broken, le))
    | inr whole ↦ absurd (broken whole)
  ]

  does-wider : (e : Event) (o : Outcome) → ClearsOnly size at next e o → ClearsOnly size from to e o
  does-wider (event.Wipe by block blocks) o is = (let first = is.0 in let last = is.1 in (omega (arith, first, low), omega (arith, last, high)))
  does-wider (event.StoreZeros by seen x y) outcome.Finished is = part-wider x y is
  does-wider (event.DaxZero by seen x y) outcome.Finished is = part-wider x y is
  does-wider e o is = tt

  pub parts-wider : (entries : List Entry) → All (IsOfClearing size at next) entries → All (IsOfClearing size from to) entries
  parts-wider entries are = All-weaker (IsOfClearing size at next) (IsOfClearing size from to) (λ e is. does-wider e.event e.outcome is) entries are

-- the acts of two steps, of which each does so
both-parts : (size from to : ℕ) (all one two : List Act) → all ≡ one ++ two → All (IsOfClearing size from to) (own_entries one) → All (IsOfClearing size from to) (own_entries two) → All (IsOfClearing size from to) (own_entries all)
both-parts size from to all one two is first later =
    subst (λ l. All (IsOfClearing size from to) (own_entries l)) (sym is) (subst (All (IsOfClearing size from to)) (sym (own_entries-append one two)) (All-append (IsOfClearing size from to) (own_entries one) (own_entries two) first later))

module _ (m : MountView) (file : FileId) (by : Tag) where
  -- a part of a range was cleared from its begin on
  pub clears-longer : (from next to : ℕ) (a b : LaneView) (p q : PassView) (came : Progress) → 0 < m.geometry.block_size → from < next → next ≤ to → (next ≡ to) ⊎ (next % m.geometry.block_size ≡ 0) → came.at ≤ next → Clears m file by from next a b p q came → Clears m file by from to a b p q came
  clears-longer from next to a b p q came some less high ends reach c = record {
    laid = laid-zeros m (may_clear (file_at m file).mode by) (may_clear (file_at m file).mode by) file by from a b p q came (next - from) (to - from) (λ e may. may) (omega (arith, reach)) (omega (arith, reach, high)) c.laid;
    parts = parts-wider m.geometry.block_size from from next to (omega arith) high (inl refl) ends (own_entries c.laid.acts) c.parts;
    few = part-reads m file from from next to some less high (inl refl) (elim ends [ inl e ↦ inr (inl e) | inr e ↦ inr (inr e) ]) (le_refl from) came.fault c.laid.acts c.few;
  }

  -- nothing was cleared
  pub clears-none : (from to : ℕ) (lane : LaneView) (p : PassView) → 0 < m.geometry.block_size → IsPassOf m p → Clears m file by from to lane lane p p (progress from 0 None)
  clears-none from to lane p some of =
      let none : from - from ≡ 0 = omega arith in
      record {
        laid = record {
          acts = [];
          steps = steps-none m file (may_clear (file_at m file).mode by) lane p of;
          begins = omega arith;
          laid = subst (λ n. LieOn from from (take n (replicate (to - from) 0)) []) (sym none) (lie-none from);
          stamps = sym (over-none m.geometry.block_size some (done_by by) from);
          cause = tt;
          bios = omega arith;
          dry = λ dax. refl;
        };
        parts = All-nil (IsOfClearing m.geometry.block_size from to);
        few = quiet-reads m file from to None [] (All-nil (λ (e : Entry). IsSound e.event)) refl;
      }

  -- the rest of a range was cleared behind its first bytes
  pub clears-then : (from to : ℕ) (a b c : LaneView) (p q r : PassView) (came next : Progress) → 0 < m.geometry.block_size → came.fault ≡ None → came.at ≤ to → (came.at ≡ from) ⊎ (came.at % m.geometry.block_size ≡ 0)
      → Clears m file by from to a b p q came → Clears m file by came.at to b c q r next → Clears m file by from to a c p r (followed came next)
  clears-then from to a b c p q r came next some whole high begins one two =
      let size = m.geometry.block_size in
      let low = one.laid.begins in
      let left : to - from - (came.at - from) ≡ to - came.at = omega (arith, low) in
      let rest : replicate (to - came.at) 0 ≡ drop (came.at - from) (replicate (to - from) 0) = ap (λ n. replicate n 0) (sym left) ∙ sym (drop-replicate (came.at - from) (to - from) 0) in
      let meet : Meet size from came.at next.at = elim begins [ inl e ↦ inl e | inr e ↦ inr (inr e) ] in
      let all = laid-then m (may_clear (file_at m file).mode by) file by some from (replicate (to - from) 0) (replicate (to - came.at) 0) a b c p q r came next whole rest meet one.laid two.laid in
      let acts : all.acts ≡ one.laid.acts ++ two.laid.acts = acts-then m (may_clear (file_at m file).mode by) file by some from (replicate (to - from) 0) (replicate (to - came.at) 0) a b c p q r came next whole rest meet one.laid two.laid in
      record {
        laid = all;
        parts = both-parts size from to all.acts one.laid.acts two.laid.acts acts one.parts (parts-wider size from came.at to to low (le_refl to) begins (inl refl) (own_entries two.laid.acts) two.parts);
        few = subst (ReadsInPart m file from to next.fault) (sym acts)
            (reads-then m file from to next.fault one.laid.acts two.laid.acts (subst (λ f. ReadsInPart m file from to f one.laid.acts) whole one.few) (rest-reads m file from came.at to some low high begins next.fault two.laid.acts two.few));
      }

-- zeros that were laid from one place up to another, both in the first or last block of a range, are of its clearing
module _ (size low high from to : ℕ) (in_part : (x y : ℕ) → low ≤ x → y ≤ high → LieInPart size from to x y) where
  one-part : (mode : Mode) (by : Tag) (e : Event) (o : Outcome) (more : List Laid) (at : ℕ) → IsTrue (may_zero mode by e) → low ≤ at → FollowOn at (laid_by size e o ++ more) → at + length (bytes_laid (laid_by size e o ++ more)) ≤ high
      → ClearsOnly size from to e o × ((next : ℕ) × (low ≤ next) × FollowOn next more × (next + length (bytes_laid more) ≤ high))
  one-part mode by (event.StoreZeros who seen x y) outcome.Finished more at may after (same, order) reach =
      let long = length-append (replicate (y - x) 0) (bytes_laid more) in
      let many : length (replicate {A = ℕ} (y - x) 0) ≡ y - x = length-replicate {A = ℕ} (y - x) 0 in
      (in_part x y (omega (arith, same, after)) (omega (arith, same, long, many, reach)), (at + length (replicate (y - x) 0), omega (arith, after), order, omega (arith, long, reach)))
  one-part mode by (event.DaxZero who seen x y) outcome.Finished more at may after (same, order) reach =
      let long = length-append (replicate (y - x) 0) (bytes_laid more) in
      let many : length (replicate {A = ℕ} (y - x) 0) ≡ y - x = length-replicate {A = ℕ} (y - x) 0 in
      (in_part x y (omega (arith, same, after)) (omega (arith, same, long, many, reach)), (at + length (replicate (y - x) 0), omega (arith, after), order, omega (arith, long, reach)))
  one-part mode by (event.Store who seen x y bytes) o more at may after order reach = absurd (false≢true may)
  one-part mode by (event.Wipe who block blocks) o more at may after order reach = absurd (false≢true may)
  one-part mode by e o more at may after order reach = (tt, (at, after, order, reach))

  pub zeros-only : (mode : Mode) (by : Tag) (entries : List Entry) (at : ℕ) → All (λ e. IsTrue (may_zero mode by e.event)) entries → low ≤ at → FollowOn at (laid_in size entries) → at + length (bytes_laid (laid_in size entries)) ≤ high → All (IsOfClearing size from to) entries
  zeros-only mode by [] at made after order reach = All-nil (IsOfClearing size from to)
  zeros-only mode by (e ∷ entries) at made after order reach =
      let one = one-part mode by e.event e.outcome (laid_in size entries) at (All-head (λ (e : Entry). IsTrue (may_zero mode by e.event)) e entries made) after order reach in
      let rest = one.1 in
      All-cons (IsOfClearing size from to) e entries one.0 (zeros-only mode by entries rest.0 (All-tail (λ (e : Entry). IsTrue (may_zero mode by e.event)) e entries made) rest.1 rest.2 rest.3)

pub zero-clears : (mode : Mode) (by : Tag) (e : Event) → IsTrue (may_zero mode by e) → IsTrue (may_clear mode by e)
zero-clears mode by (event.Wipe who block blocks) may = absurd (false≢true may)
zero-clears mode by e may = may

-- The part of a range that begins at a place ends there
pub record IsCut (size to at next : ℕ) : Type 0 where
  pub some : at < next
  pub within : next ≤ to
  pub ends : (next ≡ to) ⊎ (next % size ≡ 0)

module _ (size to at : ℕ) (some : 0 < size) (less : at < to) where
  -- where the range covers the block of the place whole, it covers some blocks of one stripe
  module _ (covers : covers_block size to at ≡ true) where
    begins-block : at % size ≡ 0
    begins-block = by (at % size == 0) refl covers
      where
        by : (t : Bool) → (at % size == 0) ≡ t → (if t then nat_le size (to - at) else false) ≡ true → at % size ≡ 0
        by true e is = eqb-true (at % size) 0 e
        by false e is = absurd (false≢true is)

    holds-block : size ≤ to - at
    holds-block = by (at % size == 0) covers
      where
        by : (t : Bool) → (if t then nat_le size (to - at) else false) ≡ true → size ≤ to - at
        by true is = grind (arith, nat_tests)
        by false is = absurd (false≢true is)

    pub whole-begins : at / size * size ≡ at
    whole-begins = (let h = begins-block in let whole : size * (at / size) + at % size ≡ at = omega arith in omega (arith, h, whole))

    pub whole-some : 0 < whole_blocks size to at
    whole-some =
        let h = holds-block in
        let one : 1 * size ≤ to - at = omega (arith, h) in
        let few : 1 ≤ (to - at) / size = grind (arith, le-div_iff_mul-le) in
        omega (arith, few)

    pub whole-within : at + whole_blocks size to at * size ≤ to
    whole-within =
        let all = div-mul-le_self (to - at) size in
        let few : whole_blocks size to at ≤ (to - at) / size = omega arith in
        let less_bytes : whole_blocks size to at * size ≤ (to - at) / size * size = mul-le-mul few (le_refl size) in
        omega (arith, all, less_bytes, less)

    pub whole-end : (at / size + whole_blocks size to at) * size ≡ at + whole_blocks size to at * size
    whole-end = (let h = whole-begins in let long : (at / size + whole_blocks size to at) * size ≡ at / size * size + whole_blocks size to at * size = omega arith in omega (arith, h, long))

    pub whole-clear_end : clear_end size to at ≡ at + whole_blocks size to at * size
    whole-clear_end = ap (λ t. if t then at + whole_blocks size to at * size else block_end size to at) covers

    pub whole-cut : IsCut size to at (at + whole_blocks size to at * size)
    whole-cut =
        let n = whole-some in
        let one : 1 * size ≤ whole_blocks size to at * size = mul-le-mul n (le_refl size) in
        record {
          some = omega (arith, one, some);
          within = whole-within;
          ends = inr (ap (λ n. n % size) (sym whole-end) ∙ mul-mod_left (at / size + whole_blocks size to at) size);
        }

  -- where it does not, the part ends with the block of the place, of which the range covers a part
  module _ (covers : covers_block size to at ≡ false) where
    pub block-clear_end : clear_end size to at ≡ block_end size to at
    block-clear_end = ap (λ t. if t then at + whole_blocks size to at * size else block_end size to at) covers

    pub block-cut : IsCut size to at (block_end size to at)
    block-cut =
        let high : at < at / size * size + size = lt-div-mul-add some in
        let step : (at / size + 1) * size ≡ at / size * size + size = omega arith in
        record {
          some = omega (arith, high, step, less);
          within = omega arith;
          ends = elim (cases_eq (block_end size to at) to) [
            | inl e ↦ inl e
            | inr n ↦ inr ((let is : block_end size to at ≡ (at / size + 1) * size = omega (arith, n) in ap (λ k. k % size) is) ∙ mul-mod_left (at / size + 1) size)
          ];
        }

    short-block : at % size ≡ 0 → to - at < size
    short-block whole = by (at % size == 0) refl covers
      where
        by : (t : Bool) → (at % size == 0) ≡ t → (if t then nat_le size (to - at) else false) ≡ false → to - at < size
        by true e is = grind (arith, nat_tests)
        by false e is = absurd (false≢true (sym e ∙ eq-eqb (at % size) 0 whole))

    pub block-part : (x y : ℕ) → at ≤ x → y ≤ block_end size to at → LieInPart size at to x y
    block-part x y low high = elim (cases_eq (at % size) 0) [
      | inr broken ↦ inl (broken, omega (arith, high))
      | inl whole ↦
          let short = short-block whole in
          let all : size * (at / size) + at % size ≡ at = omega arith in
          let begins : at / size * size ≡ at = omega (arith, all, whole) in
          let same : to / size ≡ at / size = div-between to (at / size) size some (omega (arith, begins, less)) (omega (arith, begins, short, less)) in
          let last : size * (to / size) + to % size ≡ to = omega arith in
          let end : to / size * size ≡ at = ap (λ n. n * size) same ∙ begins in
          let rest : size * (to / size) ≡ at = omega (arith, end) in
          inr ((λ none. omega (arith, last, rest, none, less)), omega (arith, end, low))
    ]

  pub clear-cut : IsCut size to at (clear_end size to at)
  clear-cut = by (covers_block size to at) refl
    where
      by : (t : Bool) → covers_block size to at ≡ t → IsCut size to at (clear_end size to at)
      by true covers = subst (IsCut size to at) (sym (whole-clear_end covers)) (whole-cut covers)
      by false covers = subst (IsCut size to at) (sym (block-clear_end covers)) (block-cut covers)
