-- What the parts of a clearing tell of it, each in turn.
use Rattle.std.proofs.Common.{inl, inr, ◌≡◌, ℕ, ◌+◌, ◌-◌, ◌*◌, ◌<◌, ◌≤◌, List, length, true, false, Some, None, refl, sym, ap, ◌∙◌, subst, arith, le_of_lt, le_of_mul-le-mul_right, le_refl}
use Rattle.std.specs.Prelude.{◌⊎◌, ◌/◌, ◌%◌, Option, is_none, is_some}
use Rattle.std.proofs.lemmas.Bool.{false≢true}
use Rattle.iob_base.specs.declared.answer.Fault.{Fault}
use Rattle.iob_base.specs.declared.stamp.FileId.{FileId}
use Rattle.iob_base.specs.declared.stamp.Tag.{Tag}
use Rattle.fault_device.specs.LaneView.{LaneView}
use Rattle.mount_parts.specs.MountView.{MountView, file_at}
use Rattle.mini_fs.specs.Acts.{own_entries}
use Rattle.mini_fs.specs.Mappings.{file_end}
use Rattle.mini_fs.specs.PassView.{PassView}
use Rattle.call_parts.specs.declared.progress.Progress.{Progress}
use Rattle.buffered_write.specs.Clears.{Clears, IsRunOf, WipesTo, block_end, clear_end, covers_block, may_clear, whole_blocks, wiped_to}
use Rattle.buffered_write.specs.Lays.{EndsAt, GoesAt, Meet}
use Rattle.buffered_write.specs.Pwrites.{followed, progress}
use Rattle.buffered_write.specs.Zeroes.{Zeroes, may_zero}
use Rattle.buffered_write.proofs.PartReadLemmas.{part-reads}
use Rattle.buffered_write.proofs.ZeroPartLemmas.{laid-of, zeroes-within}
use Rattle.buffered_write.proofs.ClearLemmas.{IsCut, block-cut, block-part, clear-cut, clears-longer, clears-none, clears-then, laid-zeros, whole-begins, whole-cut, whole-end, whole-some, whole-within, zero-clears, zeros-only}
use Rattle.buffered_write.proofs.WriteLemmas.{ends-high, ends-part, not-there}

module _ (m : MountView) (file : FileId) (by : Tag) where
  module _ (to at : ℕ) (some : 0 < m.geometry.block_size) (within : to ≤ file_end m file) (less : at < to) where
    -- the whole blocks of one stripe are a run of the file
    pub whole-run : covers_block m.geometry.block_size to at ≡ true → IsRunOf m file (at / m.geometry.block_size) (whole_blocks m.geometry.block_size to at)
    whole-run covers =
        let size = m.geometry.block_size in
        let n = whole_blocks size to at in
        let end = whole-end size to at some less covers in
        let high = whole-within size to at some less covers in
        let fits : (at / size + n) * size ≤ (file_at m file).blocks * size = omega (arith, end, high, within) in
        record {
          some = whole-some size to at some less covers;
          within = le_of_mul-le-mul_right fits some;
          in_stripe = omega arith;
        }

    -- they were cleared up to a place: to their end, or to their begin
    whole-clears : covers_block m.geometry.block_size to at ≡ true → (p q : PassView) (came : Progress) (lane : LaneView) → came.at ≤ at + whole_blocks m.geometry.block_size to at * m.geometry.block_size
        → WipesTo m file by (at / m.geometry.block_size) (whole_blocks m.geometry.block_size to at) p q came → Clears m file by at to lane lane p q came
    whole-clears covers p q came lane reach wiped =
        let size = m.geometry.block_size in
        let n = whole_blocks size to at in
        let cut = whole-cut size to at some less covers in
        let begin = whole-begins size to at some less covers in
        let end = whole-end size to at some less covers in
        let here : Clears m file by at (at + n * size) lane lane p q came = subst (λ k. Clears m file by k (at + n * size) lane lane p q came) begin (subst (λ k. Clears m file by (at / size * size) k lane lane p q came) end (wiped lane)) in
        clears-longer m file by at (at + n * size) to lane lane p q came some cut.some cut.within cut.ends reach here

    module _ (size n : ℕ) (size_is : size ≡ m.geometry.block_size) (n_is : n ≡ whole_blocks size to at) (covers : covers_block m.geometry.block_size to at ≡ true) where
      n-whole : n ≡ whole_blocks m.geometry.block_size to at
      n-whole = n_is ∙ ap (λ s. whole_blocks s to at) size_is

      pub run-fits : IsRunOf m file (at / size) n
      run-fits = subst (λ s. IsRunOf m file (at / s) n) (sym size_is) (subst (IsRunOf m file (at / m.geometry.block_size)) (sym n-whole) (whole-run covers))

      -- the run of a wipe, as the body of the part names it
      wipes-whole : (p q : PassView) (came : Progress) → WipesTo m file by (at / size) n p q came → WipesTo m file by (at / m.geometry.block_size) (whole_blocks m.geometry.block_size to at) p q came
      wipes-whole p q came wiped = subst (λ k. WipesTo m file by (at / m.geometry.block_size) k p q came) n-whole (subst (λ s. WipesTo m file by (at / s) n p q came) size_is wiped)

      pub part-wiped : (p q : PassView) → WipesTo m file by (at / size) n p q (wiped_to m.geometry.block_size (at / size) n None) → (lane : LaneView) → Clears m file by at to lane lane p q (progress (at + n * size) 0 None)
      part-wiped p q wiped lane =
          let end : (at / size + n) * m.geometry.block_size ≡ at + n * size = ap (λ s. (at / s + n) * m.geometry.block_size) size_is ∙ ap (λ k. (at / m.geometry.block_size + k) * m.geometry.block_size) n-whole
          ∙ whole-end m.geometry.block_size to at some less covers ∙ ap (λ k. at + k * m.geometry.block_size) (sym n-whole) ∙ ap (λ s. at + n * s) (sym size_is) in
          let place : at + n * size ≡ at + whole_blocks m.geometry.block_size to at * m.geometry.block_size = ap (λ s. at + n * s) size_is ∙ ap (λ k. at + k * m.geometry.block_size) n-whole in
          whole-clears covers p q (progress (at + n * size) 0 None) lane (omega (arith, place)) (wipes-whole p q (progress (at + n * size) 0 None) (subst (λ k. WipesTo m file by (at / size) n p q (progress k 0 None)) end wiped))

      pub part-stopped : (p q : PassView) (fault : Fault) → WipesTo m file by (at / size) n p q (wiped_to m.geometry.block_size (at / size) n (Some fault)) → (lane : LaneView) → Clears m file by at to lane lane p q (progress at 0 (Some fault))
      part-stopped p q fault wiped lane =
          let begin : at / size * m.geometry.block_size ≡ at = ap (λ s. at / s * m.geometry.block_size) size_is ∙ whole-begins m.geometry.block_size to at some less covers in
          whole-clears covers p q (progress at 0 (Some fault)) lane (omega arith) (wipes-whole p q (progress at 0 (Some fault)) (subst (λ k. WipesTo m file by (at / size) n p q (progress k 0 (Some fault))) begin wiped))

    -- the bytes of a block that is covered in part were zeroed
    pub part-clears : covers_block m.geometry.block_size to at ≡ false → (next : ℕ) (a b : LaneView) (p q : PassView) (came : Progress) → next ≡ block_end m.geometry.block_size to at → EndsAt m.geometry.block_size at next came.at came.fault false
        → Zeroes m file by at next a b p q came → Clears m file by at to a b p q came
    unfolding zeroes-within laid-of
    part-clears covers next a b p q came is ends z =
        let size = m.geometry.block_size in
        let cut = block-cut size to at some less covers in
        let inside = cut.within in
        let high = ends-high size at next came.at came.fault false ends in
        let h = zeroes-within m file by at next a b p q came high z in
        let low = h.begins in
        let begun = cut.some in
        let entries = own_entries h.acts in
        record {
          laid = laid-zeros m (may_zero (file_at m file).mode by) (may_clear (file_at m file).mode by) file by at a b p q came (next - at) (to - at) (zero-clears (file_at m file).mode by) (omega (arith, high)) (omega (arith, high, inside, is)) h;
          parts = zeros-only size at next at to (λ x y after before. block-part size to at some less covers x y after (omega (arith, before, is))) (file_at m file).mode by entries at h.steps.did.made (omega arith) h.laid.order (laid-reach h.laid.reach h.laid.together high);
          few = part-reads m file at at next to some (omega (arith, begun, is)) (omega (arith, inside, is)) (inl refl) (subst (λ n. Meet size at n to) (sym is) (elim cut.ends [ inl e ↦ inr (inl e) | inr e ↦ inr (inr e) ])) (le_refl at) came.fault z.laid.acts z.few;
        }
      where
        laid-reach : {n : ℕ} {xs : List ℕ} {ys : List ℕ} → at + length xs ≡ n → ys ≡ xs → n ≤ next → at + length ys ≤ next
        laid-reach reach same le = (let e = ap length same in omega (arith, reach, e, le))

-- what a loop over the parts of a range keeps
pub record HasCleared (m : MountView) (file : FileId) (by : Tag) (from to : ℕ) (a b : LaneView) (p q : PassView) (came : Progress) : Type 0 where
  pub goes : GoesAt m file by q
  pub whole : came.fault ≡ None
  pub high : came.at ≤ to
  pub cut : (came.at ≡ from) ⊎ (came.at ≡ to) ⊎ (came.at % m.geometry.block_size ≡ 0)
  pub clears : Clears m file by from to a b p q came

-- a place of a range before its end is its begin or the begin of a block
pub before-end : (size from at to : ℕ) → at < to → (at ≡ from) ⊎ (at ≡ to) ⊎ (at % size ≡ 0) → (at ≡ from) ⊎ (at % size ≡ 0)
before-end size from at to less (inl e) = inl e
before-end size from at to less (inr (inl e)) = absurd (omega (arith, less, e))
before-end size from at to less (inr (inr e)) = inr e

module _ (m : MountView) (file : FileId) (by : Tag) (from to : ℕ) (some : 0 < m.geometry.block_size) where
  pub cleared-none : (lane : LaneView) (p : PassView) → from < to → GoesAt m file by p → HasCleared m file by from to lane lane p p (progress from 0 None)
  cleared-none lane p order goes = record { goes = goes; whole = refl; high = le_of_lt order; cut = inl refl; clears = clears-none m file by from to lane p some goes.of }

  module _ (a b c : LaneView) (p q r : PassView) (came next sum : Progress) (less : came.at < to) (is : sum ≡ followed came next) (sofar : HasCleared m file by from to a b p q came) (part : Clears m file by came.at to b c q r next)
      (ends : EndsAt m.geometry.block_size came.at (clear_end m.geometry.block_size to came.at) next.at next.fault false) where
    pub cleared-part : Clears m file by from to a c p r sum
    cleared-part = subst (Clears m file by from to a c p r) (sym is) (clears-then m file by from to a b c p q r came next some sofar.whole sofar.high (before-end m.geometry.block_size from came.at to less sofar.cut) sofar.clears part)

    cut : IsCut m.geometry.block_size to came.at (clear_end m.geometry.block_size to came.at)
    cut = clear-cut m.geometry.block_size to came.at some less

    at-is : sum.at ≡ next.at
    at-is = ap (λ (s : Progress). s.at) is

    -- a part that met a fault ends the range there
    pub part-ends : is_some sum.fault ≡ true → EndsAt m.geometry.block_size from to sum.at sum.fault false
    part-ends broken = subst (λ s. EndsAt m.geometry.block_size from to s.at s.fault false) (sym is)
        (ends-part m.geometry.block_size from came.at (clear_end m.geometry.block_size to came.at) to less cut.within sofar.cut next false (not-none next.fault (ap (λ (s : Progress). is_some s.fault) (sym is) ∙ broken)) ends)
      where
        not-none : (f : Option Fault) → is_some f ≡ true → is_none f ≡ false
        not-none None broken = absurd (false≢true broken)
        not-none (Some f) broken = refl

    -- one that did not goes on behind it
    reached : is_some sum.fault ≡ false → sum.at ≡ clear_end m.geometry.block_size to came.at
    reached whole = at-is ∙ end next.fault (ap (λ (s : Progress). is_some s.fault) (sym is) ∙ whole) ends
      where
        end : (f : Option Fault) → is_some f ≡ false → EndsAt m.geometry.block_size came.at (clear_end m.geometry.block_size to came.at) next.at f false → next.at ≡ clear_end m.geometry.block_size to came.at
        end None whole e = e
        end (Some f) whole e = absurd (false≢true (sym whole))

    pub part-smaller : is_some sum.fault ≡ false → to - sum.at < to - came.at
    part-smaller whole = (let r = reached whole in let s = cut.some in let w = cut.within in omega (arith, r, s, w, less))

    pub cleared-on : is_some sum.fault ≡ false → GoesAt m file by r → HasCleared m file by from to a c p r sum
    cleared-on whole goes =
        let r = reached whole in
        let w = cut.within in
        record {
          goes = goes;
          whole = not-there sum.fault whole;
          high = omega (arith, r, w);
          cut = elim cut.ends [ inl e ↦ inr (inl (r ∙ e)) | inr e ↦ inr (inr (ap (λ n. n % m.geometry.block_size) r ∙ e)) ];
          clears = cleared-part;
        }
