-- What the stamps of a journal weigh.
use Rattle.std.proofs.Common.{◌≡◌, ℕ, ◌+◌, ◌<◌, Bool, true, false, List, [], ◌∷◌, ◌++◌, if◌then◌else◌, refl, ap, ◌∙◌, arith}
use Rattle.std.proofs.lemmas.List.Elements.{filter_map-append}
use Rattle.iob_base.specs.declared.stamp.Stamp.{Stamp}
use Rattle.io_model.specs.Parts.{Span, meets}
use Rattle.turn_cell.specs.Stakes.{total}
use Rattle.turn_cell.proofs.Sums.{total-append}
use Rattle.range_core.specs.EntryStamps.{stamps_in, stamps_of}
use Rattle.range_core.specs.Stamps.{stamp_at, stamps_at}
use Rattle.range_core.specs.declared.entry.Entry.{Entry}
use Rattle.call_parts.specs.Parts.{stamps_over}
use Rattle.call_parts.proofs.NumberLemmas.{stamps-append}
use Rattle.call_traces.specs.Journals.{journal_of, weight_left}
use Rattle.call_traces.proofs.BlockStampLemmas.{one_if, span-stamps}

-- a history after another leaves its journal behind the other's
pub journal-append : (size b : ℕ) (es more : List Entry) → journal_of size b (es ++ more) ≡ journal_of size b es ++ journal_of size b more
journal-append size b es more = ap (stamps_at b) (stamps-append size es more) ∙ filter_map-append (stamp_at b) (stamps_in size es) (stamps_in size more)

module _ (b : ℕ) (f : Stamp → ℕ) where
  -- the stamps that a history leaves are those that its entries leave
  pub journal-weighs : (size : ℕ) (history : List Entry) → total f (journal_of size b history) ≡ total (weight_left size b f) history
  journal-weighs size [] = refl
  journal-weighs size (e ∷ history) =
      ap (total f) (filter_map-append (stamp_at b) (stamps_of size e) (stamps_in size history))
      ∙ total-append f (stamps_at b (stamps_of size e)) (stamps_at b (stamps_in size history))
      ∙ ap (λ k. weight_left size b f e + k) (journal-weighs size history)

  module _ (st : Stamp) where
    -- the stamps of a run, of which a block may be one
    abbrev counted : Bool → ℕ
    counted here = if here then f st else 0

    one-weighs : (here : Bool) → total f (one_if b st here) ≡ counted here
    one-weighs true = omega arith
    one-weighs false = refl

    -- one stamp for each block that has bytes of a span
    pub over-times : (size : ℕ) (s : Span) → 0 < size → total f (stamps_at b (stamps_over size s st)) ≡ counted (meets size s b)
    over-times size s some = ap (total f) (span-stamps b st size s some) ∙ one-weighs (meets size s b)
