-- What the journal of a block shows of the calls whose work its history is.
use Rattle.std.proofs.Common.{◌≡◌, ℕ, ◌⊎◌, inl, inr, ⊎_elim, Bool, true, false, ◌&&◌, ◌||◌, not, if◌then◌else◌, List, [], ◌∷◌, ◌++◌, All, refl, sym, ◌∙◌, ap}
use Rattle.std.specs.List.{fold, list_any}
use Rattle.std.proofs.lemmas.Bool.{and_parts, or_cases, or_left, or_right}
use Rattle.std.proofs.lemmas.List.Elements.{All-head, All-tail, filter_map-append}
use Rattle.std.proofs.lemmas.List.Folds.{list_any-append}
use Rattle.iob_base.specs.declared.stamp.Stamp.{Stamp}
use Rattle.io_model.specs.Conversion.{after_wipes, is_wipe}
use Rattle.io_model.specs.Ranges.{Ranged}
use Rattle.range_core.specs.EntryStamps.{stamps_in, stamps_of}
use Rattle.range_core.specs.Lasting.{is_unwiped, wipes}
use Rattle.range_core.specs.Stamps.{stamp_at, stamps_at}
use Rattle.range_core.specs.declared.entry.Entry.{Entry}
use Rattle.call_traces.specs.BlockCalls.{IsOfCalls}
use Rattle.call_traces.specs.Journals.{journal_of}

-- the journal of a history with one entry more in front
pub journal-more : (size b : ℕ) (e : Entry) (history : List Entry) → journal_of size b (e ∷ history) ≡ stamps_at b (stamps_of size e) ++ journal_of size b history
journal-more size b e history = filter_map-append (stamp_at b) (stamps_of size e) (stamps_in size history)

or_none : (t u : Bool) → (t || u) ≡ false → (t ≡ false) × (u ≡ false)
or_none true u e = absurd (cc)
or_none false u e = (refl, e)

module _ (size : ℕ) (calls : List Ranged) (b : ℕ) where
  -- a stamp gives the block back
  abbrev pub gives_back : List Stamp → Bool
  gives_back stamps = list_any (is_wipe size calls b) stamps

  -- where no stamp gives the block back, all stand after the last that did
  none-before : (stamps : List Stamp) → gives_back stamps ≡ false → after_wipes size calls b stamps ≡ stamps
  none-before [] e = refl
  none-before (st ∷ stamps) e = ap (λ t. if t then after_wipes size calls b stamps else st ∷ stamps) e

  -- stamps in front change nothing of what stands after the last that gave it back
  module _ (test : Stamp → Bool) where
    put-before : (before stamps : List Stamp) → list_any test (after_wipes size calls b stamps) ≡ true → list_any test (after_wipes size calls b (before ++ stamps)) ≡ true
    put-before [] stamps e = e
    put-before (st ∷ before) stamps e = at (gives_back (st ∷ (before ++ stamps))) refl (put-before before stamps e)
      where
        at : (t : Bool) → gives_back (st ∷ (before ++ stamps)) ≡ t → list_any test (after_wipes size calls b (before ++ stamps)) ≡ true → list_any test (after_wipes size calls b ((st ∷ before) ++ stamps)) ≡ true
        at true g more = ap (λ t. list_any test (if t then after_wipes size calls b (before ++ stamps) else st ∷ (before ++ stamps))) g ∙ more
        at false g more =
            let parts = or_none (is_wipe size calls b st) (gives_back (before ++ stamps)) g in
            ap (λ t. list_any test (if t then after_wipes size calls b (before ++ stamps) else st ∷ (before ++ stamps))) g
            ∙ or_right (test st) (list_any test (before ++ stamps)) (ap (list_any test) (sym (none-before (before ++ stamps) parts.1)) ∙ more)

not_or : (t u : Bool) → (t || not u) ≡ not (not t && u)
not_or true u = refl
not_or false u = refl

not_true : (t : Bool) → not t ≡ true → t ≡ false
not_true true e = absurd (cc)
not_true false e = refl

module _ (size f b : ℕ) (calls : List Ranged) where
  abbrev pub Works : List Entry → Type 0
  Works history = All (IsOfCalls size f b calls) history

  -- the stamps of an entry and of those behind it give the block back where it wiped it, or where they do
  pub front-back : (e : Entry) (history : List Entry) → IsOfCalls size f b calls e → gives_back size calls b (journal_of size b (e ∷ history)) ≡ (wipes b e.event e.outcome || gives_back size calls b (journal_of size b history))
  front-back e history is =
      ap (gives_back size calls b) (journal-more size b e history)
      ∙ list_any-append (is_wipe size calls b) (stamps_at b (stamps_of size e)) (journal_of size b history)
      ∙ ap (λ t. t || gives_back size calls b (journal_of size b history)) is.wiped

  -- a journal shows whether the block was wiped
  pub wiped-shows : (history : List Entry) → Works history → gives_back size calls b (journal_of size b history) ≡ not (is_unwiped b history)
  wiped-shows [] works = refl
  wiped-shows (e ∷ history) works =
      front-back e history (All-head (IsOfCalls size f b calls) e history works)
      ∙ ap (λ t. wipes b e.event e.outcome || t) (wiped-shows history (All-tail (IsOfCalls size f b calls) e history works))
      ∙ not_or (wipes b e.event e.outcome) (is_unwiped b history)

  -- What entries do to the block since it was wiped last
  module _ (does : Entry → Bool) where
    abbrev pub done_after : Bool → Entry → Bool
    done_after before e = not (wipes b e.event e.outcome) && (does e || before)

    -- where it was done since the block was wiped last, it was so at first and the journal shows no wipe, or an entry did it
    pub done-once : {Q : Type 0} (history : List Entry) (before : Bool) → Works history → ((e : Entry) → IsOfCalls size f b calls e → does e ≡ true → Q) → fold done_after before history ≡ true
        → ((gives_back size calls b (journal_of size b history) ≡ false) × (before ≡ true)) ⊎ Q
    done-once [] before works shows e = inl (refl, e)
    done-once {Q = Q} (e ∷ history) before works shows done = ⊎_elim kept inr (done-once history (done_after before e) (All-tail (IsOfCalls size f b calls) e history works) shows done)
      where
        Kept : Type 0
        Kept = (gives_back size calls b (journal_of size b history) ≡ false) × (done_after before e ≡ true)

        kept : Kept → ((gives_back size calls b (journal_of size b (e ∷ history)) ≡ false) × (before ≡ true)) ⊎ Q
        kept k =
            let p = and_parts (not (wipes b e.event e.outcome)) (does e || before) k.1 in
            let none : gives_back size calls b (journal_of size b (e ∷ history)) ≡ false =
            front-back e history (All-head (IsOfCalls size f b calls) e history works) ∙ ap (λ t. t || gives_back size calls b (journal_of size b history)) (not_true (wipes b e.event e.outcome) p.0) ∙ k.0 in
            ⊎_elim (λ (h : does e ≡ true). inr (shows e (All-head (IsOfCalls size f b calls) e history works) h)) (λ (h : before ≡ true). inl (none, h)) (or_cases (does e) before p.1)

    -- or a stamp behind the last wipe shows that
    module _ (test : Stamp → Bool) where
      pub done-shows : (history : List Entry) (before : Bool) → Works history
          → ((e : Entry) → IsOfCalls size f b calls e → does e ≡ true → list_any test (stamps_at b (stamps_of size e)) ≡ true) → fold done_after before history ≡ true
          → ((gives_back size calls b (journal_of size b history) ≡ false) × (before ≡ true)) ⊎ (list_any test (after_wipes size calls b (journal_of size b history)) ≡ true)
      done-shows [] before works shows e = inl (refl, e)
      done-shows (e ∷ history) before works shows done = ⊎_elim kept behind (done-shows history (done_after before e) (All-tail (IsOfCalls size f b calls) e history works) shows done)
        where
          left : List Stamp
          left = stamps_at b (stamps_of size e)

          rest : List Stamp
          rest = journal_of size b history

          Shown : Type 0
          Shown = ((gives_back size calls b (journal_of size b (e ∷ history)) ≡ false) × (before ≡ true)) ⊎ (list_any test (after_wipes size calls b (journal_of size b (e ∷ history))) ≡ true)

          behind : list_any test (after_wipes size calls b rest) ≡ true → Shown
          behind h = inr (ap (λ l. list_any test (after_wipes size calls b l)) (journal-more size b e history) ∙ put-before size calls b test left rest h)

          kept : ((gives_back size calls b rest ≡ false) × (done_after before e ≡ true)) → Shown
          kept k =
              let p = and_parts (not (wipes b e.event e.outcome)) (does e || before) k.1 in
              let none : gives_back size calls b (journal_of size b (e ∷ history)) ≡ false =
              front-back e history (All-head (IsOfCalls size f b calls) e history works) ∙ ap (λ t. t || gives_back size calls b rest) (not_true (wipes b e.event e.outcome) p.0) ∙ k.0 in
              let did : does e ≡ true → Shown = λ h.
              inr (ap (list_any test) (none-before size calls b (journal_of size b (e ∷ history)) none)
              ∙ ap (list_any test) (journal-more size b e history) ∙ list_any-append test left rest ∙ or_left (list_any test left) (list_any test rest) (shows e (All-head (IsOfCalls size f b calls) e history works) h)) in
              ⊎_elim did (λ (h : before ≡ true). inl (none, h)) (or_cases (does e) before p.1)
