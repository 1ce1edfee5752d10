-- The content of a block after entries that change it as their stamps say.
use Rattle.std.proofs.Common.{◌≡◌, ℕ, ◌+◌, ◌-◌, ◌*◌, ◌<◌, ◌≤◌, ◌⊎◌, inl, inr, Bool, true, false, not, List, [], ◌∷◌, length, drop, Option, Some, None, if◌then◌else◌, refl, sym, ap, ◌∙◌, arith, length-append, length-drop, length-take}
use Rattle.std.specs.Prelude.{All}
use Rattle.std.specs.List.{fold}
use Rattle.std.specs.Str.{bytes_eq}
use Rattle.std.proofs.lemmas.Bool.{cases_lt}
use Rattle.std.proofs.lemmas.List.{length-replicate}
use Rattle.std.proofs.lemmas.List.Elements.{All-head, All-tail, filter_map-append}
use Rattle.std.proofs.lemmas.List.Sums.{fold-append}
use Rattle.std.proofs.lemmas.Slice.Eq.{bytes_eq-Decides}
use Rattle.iob_base.specs.declared.stamp.Stamp.{Stamp}
use Rattle.io_model.specs.Calls.{bytes_of, is_write, is_zeroing, offset_of}
use Rattle.io_model.specs.Contents.{Content, zeros}
use Rattle.io_model.specs.Effects.{effect, effect_of, has_landed, overlay}
use Rattle.io_model.specs.Effects as model
use Rattle.io_model.specs.Lists.{bytes_between, numbered}
use Rattle.io_model.specs.Parts.{part_in}
use Rattle.io_model.specs.Ranges.{Ranged}
use Rattle.turn_cell.specs.Stakes.{total}
use Rattle.range_core.specs.BlockContents.{content_after, replayed}
use Rattle.range_core.specs.EntryCounts.{one_where}
use Rattle.range_core.specs.EntryStamps.{stamps_in, stamps_of}
use Rattle.range_core.specs.Stamps.{stamp_at, stamps_at}
use Rattle.range_core.specs.declared.entry.Entry.{Entry}
use Rattle.call_traces.specs.Changes.{ChangesAsTold, StampsTellContent, told_by, untold}

-- bytes laid over a content that lie in it, or are none, leave it as long
pub length-laid : (place : ℕ) (bytes content : List ℕ) → (place + length bytes ≤ length content) ⊎ (length bytes ≡ 0) → length (model.overlay place bytes content) ≡ length content
length-laid place bytes content h = simp (length-append, length-drop, length-take) (omega (arith, h))

module _ (size b : ℕ) where
  -- so do those of a part of the block
  length-part : (low high : ℕ) (bytes content : List ℕ) → length content ≡ size → length bytes ≤ high - low → b * size ≤ low → high ≤ (b + 1) * size → length (model.overlay (low - b * size) bytes content) ≡ size
  length-part low high bytes content whole few above below = length-laid (low - b * size) bytes content (fits (cases_lt low high)) ∙ whole
    where
      next : (b + 1) * size ≡ b * size + size
      next = omega arith

      fits : (low < high) ⊎ (high ≤ low) → (low - b * size + length bytes ≤ length content) ⊎ (length bytes ≡ 0)
      fits (inl some) = inl (omega (arith, whole, few, above, below, next, some))
      fits (inr none) = inr (omega (arith, few, none))

  length-between : (low high off : ℕ) (bytes : List ℕ) → length (bytes_between (low - off) (high - off) bytes) ≤ high - low
  length-between low high off bytes = omega (arith, length-take ((high - off) - (low - off)) (drop (low - off) bytes))

  -- the effect of a call leaves the content as long
  length-after : (r : Ranged) (content : Content) → length content ≡ size → length (model.content_after size r b content) ≡ size
  length-after r content whole = by (is_write r.call.verb) (is_zeroing r.call.verb)
    where
      low : ℕ
      low = (part_in size r.range b).from

      high : ℕ
      high = (part_in size r.range b).to

      by : (w z : Bool) → length (if w then model.overlay (low - b * size) (bytes_between (low - offset_of r.call.verb) (high - offset_of r.call.verb) (bytes_of r.call.verb)) content else (if z then model.overlay (low - b * size) (zeros (high - low)) content else content)) ≡ size
      by true z = length-part low high (bytes_between (low - offset_of r.call.verb) (high - offset_of r.call.verb) (bytes_of r.call.verb)) content whole (length-between low high (offset_of r.call.verb) (bytes_of r.call.verb)) (omega arith) (omega arith)
      by false true = length-part low high (zeros (high - low)) content whole (let z : ℕ = 0 in omega (arith, length-replicate (high - low) z)) (omega arith) (omega arith)
      by false false = whole

  module _ (calls : List Ranged) where
    length-effect : (st : Stamp) (content : Content) → length content ≡ size → length (effect size calls b content st) ≡ size
    length-effect st content whole = of (numbered calls st.call)
      where
        landed : (r : Ranged) (t : Bool) → length (if t then model.content_after size r b content else content) ≡ size
        landed r true = length-after r content whole
        landed r false = whole

        of : (o : Option Ranged) → length (effect_of size b st.mark o content) ≡ size
        of None = whole
        of (Some r) = landed r (has_landed st.mark)

    length-effects : (stamps : List Stamp) (content : Content) → length content ≡ size → length (fold (effect size calls b) content stamps) ≡ size
    length-effects [] content whole = whole
    length-effects (st ∷ stamps) content whole = length-effects stamps (effect size calls b content st) (length-effect st content whole)

    -- an entry that is not untold changes the content as its stamps say
    as-told : (content : Content) (e : Entry) → untold size calls b content e ≡ 0 → content_after size b content e ≡ told_by size calls b content e
    as-told content e none = by (bytes_eq (content_after size b content e) (told_by size calls b content e)) refl
      where
        by : (t : Bool) → bytes_eq (content_after size b content e) (told_by size calls b content e) ≡ t → content_after size b content e ≡ told_by size calls b content e
        by true is = (bytes_eq-Decides (content_after size b content e) (told_by size calls b content e)).0 is
        by false is = absurd (let one : untold size calls b content e ≡ 1 = ap (λ t. one_where (not t)) is in omega (arith, one, none))

    -- and one that changes it so is told
    told-same : (content : Content) (e : Entry) → content_after size b content e ≡ told_by size calls b content e → untold size calls b content e ≡ 0
    told-same content e same = ap (λ t. one_where (not t)) ((bytes_eq-Decides (content_after size b content e) (told_by size calls b content e)).1 same)

    pub none-untold : (history : List Entry) → All (ChangesAsTold size calls b) history → (content : Content) → length content ≡ size → total (untold size calls b content) history ≡ 0
    none-untold [] told content whole = refl
    none-untold (e ∷ history) told content whole =
        let first = told-same content e (All-head (ChangesAsTold size calls b) e history told content whole) in
        let rest = none-untold history (All-tail (ChangesAsTold size calls b) e history told) content whole in
        omega (arith, first, rest)

    pub tell-content : (history : List Entry) → ((content : Content) → length content ≡ size → total (untold size calls b content) history ≡ 0)
        → (opening : Content) → length opening ≡ size → replayed size b opening history ≡ fold (effect size calls b) opening (stamps_at b (stamps_in size history))
    tell-content [] none opening whole = refl
    tell-content (e ∷ history) none opening whole =
        let told : Content = told_by size calls b opening e in
        let here : untold size calls b opening e ≡ 0 = (let all = none opening whole in omega (arith, all)) in
        let later = λ (x : Content) (long : length x ≡ size). (let all = none x long in let z : total (untold size calls b x) history ≡ 0 = omega (arith, all) in z) in
        ap (λ x. replayed size b x history) (as-told opening e here)
        ∙ tell-content history later told (length-effects (stamps_at b (stamps_of size e)) opening whole)
        ∙ sym (ap (fold (effect size calls b) opening) (filter_map-append (stamp_at b) (stamps_of size e) (stamps_in size history)) ∙ fold-append (effect size calls b) opening (stamps_at b (stamps_of size e)) (stamps_at b (stamps_in size history)))

pub stamps-tell-content : StampsTellContent
stamps-tell-content size calls b = tell-content size b calls
