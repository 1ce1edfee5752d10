-- What one try at a part tells.
use Rattle.std.proofs.Common.{◌≡◌, ℕ, ◌<◌, ◌≤◌, ◌==◌, true, false, Some, Ok, Err, List, [], ◌∷◌, ◌++◌, length, inl, inr, map, if◌then◌else◌, refl, sym, ap, ◌∙◌, subst, append-nil}
use Rattle.std.specs.Prelude.{IsTrue, Option, Result, IfErr, IfOk, OnErr, OnOk, slice_get}
use Rattle.std.proofs.lemmas.Bool.{cases_eq, eq-eqb, eqb-true, false_from_ne_true}
use Rattle.std.proofs.lemmas.List.{map-append}
use Rattle.iob_base.specs.Geometry.{is_block_size, is_folio_blocks}
use Rattle.iob_base.specs.declared.answer.Fault.{Fault}
use Rattle.iob_base.specs.declared.stamp.FileId.{FileId}
use Rattle.iob_base.specs.declared.stamp.Tag.{Tag}
use Rattle.iov_iter.specs.IovView.{IovView, written_on}
use Rattle.turn_cell.specs.Views.{CellView, SeatView}
use Rattle.turn_cell.specs.declared.turn.Busy.{Busy as Held}
use Rattle.range_core.specs.ClaimsView.{ClaimsView}
use Rattle.range_core.specs.Fetches.{replayed_run}
use Rattle.range_core.specs.RangeView.{RangeView}
use Rattle.range_core.specs.declared.entry.Entry.{Entry}
use Rattle.range_core.specs.declared.entry.Event.TheVariants.{Fetch}
use Rattle.range_core.specs.declared.entry.Outcome.TheVariants.{Finished}
use Rattle.range_core.specs.declared.fault.EventFault.{EventFault}
use Rattle.mount_parts.specs.MountView.{MountView, HasBlock, IsLaidOut, stripe_at}
use Rattle.mini_fs.specs.Mappings.{file_end}
use Rattle.call_parts.proofs.ReadyLemmas.{part-block, part-long, some-bytes}
use Rattle.mount_parts.proofs.Places.{set-same, set-other}
use Rattle.mini_fs.specs.Acts.Act.{Turn, Busy}
use Rattle.mini_fs.specs.PageTurns.{FetchedTo}
use Rattle.mini_fs.specs.PassView.{PassView, refused_at, refused_in}
use Rattle.mini_fs.specs.Turns.{BusyAt, TurnsAt, block_at, with_seat}
use Rattle.mini_fs.proofs.ActLemmas.{busy-act, turned-act}
use Rattle.call_parts.specs.Parts.{part_end}
use Rattle.call_parts.specs.Reads.{bytes_given, given_in, seen_at, seen_by}
use Rattle.buffered_read.specs.Tries.{TriedPart, told, words_at, words_in}

-- a turn that found no gate held
words-turn : (p q : PassView) (stripe : ℕ) (after : SeatView Entry) → q ≡ with_seat p stripe after → refused_at q stripe ≡ refused_at p stripe → (k : ℕ) → words_at q k ≡ words_at p k ++ []
words-turn p q stripe after is free k = elim (cases_eq k stripe) [
  | inl e ↦ subst (λ n. words_at q n ≡ words_at p n ++ []) (sym e) (ap (map (λ w. w.0)) free ∙ sym (append-nil (words_at p stripe)))
  | inr n ↦
      let here : slice_get q.stripes k ≡ slice_get p.stripes k = ap (λ (v : PassView). slice_get v.stripes k) is ∙ set-other p.stripes stripe k after n in
      ap (λ o. map (λ w. w.0) (refused_in o)) here ∙ sym (append-nil (words_at p k))
]

-- a gate that was found held
words-busy : (p q : PassView) (stripe word : ℕ) → BusyAt stripe word p q → (k : ℕ) → words_at q k ≡ words_at p k ++ words_in k (Busy stripe word ∷ [])
words-busy p q stripe word b k = elim (cases_eq k stripe) [
  | inl e ↦
      let before : slice_get p.stripes stripe ≡ Some b.before = b.here in
      let after : slice_get q.stripes stripe ≡ Some b.after = ap (λ (v : PassView). slice_get v.stripes stripe) b.pass_is ∙ set-same p.stripes stripe b.before b.after b.here in
      let grown : b.after.refused ≡ b.before.refused ++ (word, b.found.turn) ∷ [] = ap (λ (s : SeatView Entry). s.refused) b.found.seat_is in
      let same : (stripe == stripe) ≡ true = eq-eqb stripe stripe refl in
      let here : words_at q stripe ≡ words_at p stripe ++ words_in stripe (Busy stripe word ∷ []) =
      ap (λ o. map (λ w. w.0) (refused_in o)) after ∙ ap (map (λ w. w.0)) grown ∙ map-append (λ w. w.0) b.before.refused ((word, b.found.turn) ∷ [])
      ∙ ap (λ o. map (λ w. w.0) (refused_in o) ++ word ∷ []) (sym before)
      ∙ ap (λ t. words_at p stripe ++ ((if t then word ∷ [] else []) ++ [])) (sym same) in
      subst (λ n. words_at q n ≡ words_at p n ++ words_in n (Busy stripe word ∷ [])) (sym e) here
  | inr n ↦
      let here : slice_get q.stripes k ≡ slice_get p.stripes k = ap (λ (v : PassView). slice_get v.stripes k) b.pass_is ∙ set-other p.stripes stripe k b.after n in
      let other : (stripe == k) ≡ false = false_from_ne_true (stripe == k) (λ e. n (sym (eqb-true stripe k e))) in
      ap (λ o. map (λ w. w.0) (refused_in o)) here ∙ sym (append-nil (words_at p k)) ∙ ap (λ t. words_at p k ++ ((if t then word ∷ [] else []) ++ [])) (sym other)
]

-- a fetch gave the bytes that its history leaves
pub given-fetch : (o : Option (CellView RangeView)) (cell : CellView RangeView) (seen others : List Entry) (kept : List Entry) (e : Entry) (by : Tag) (from to : ℕ) → o ≡ Some cell → kept ≡ seen → e.event ≡ Fetch by from to → e.outcome ≡ Finished
    → given_in o ((kept ++ []) ++ others) e ≡ replayed_run cell.opening (seen ++ others) from to
given-fetch o cell seen others kept e by from to here same event outcome =
    ap (λ x. given_in x ((kept ++ []) ++ others) e) here
    ∙ ap (λ x. bytes_given cell.opening ((kept ++ []) ++ others) x e.outcome) event
    ∙ ap (λ x. bytes_given cell.opening ((kept ++ []) ++ others) (Fetch by from to) x) outcome
    ∙ ap (λ l. replayed_run cell.opening (l ++ others) from to) (append-nil kept ∙ same)

module _ (m : MountView) (file : FileId) (by : Tag) (at to : ℕ) (p q : PassView) (iov later : IovView) (claims : ClaimsView) (laid : IsLaidOut m) (block_size : IsTrue (is_block_size m.geometry.block_size)) (folio_blocks : IsTrue (is_folio_blocks m.geometry.folio_blocks)) (some : at < to) (within : to ≤ file_end m file) (mine : by.caller ≡ p.caller) where
  has : HasBlock m file (block_at m at)
  has = part-block m file at to (some-bytes m.geometry.block_size block_size) some within

  -- the turn of a try at the part, which ends there, that came out so
  abbrev TurnsSo : ℕ → Result (Unit {0}) EventFault → Type 0
  TurnsSo next answer = TurnsAt (λ opening history before after entry. FetchedTo by at next iov later opening history before after p.caller answer entry) m (stripe_at m file (block_at m at)) claims claims p q

  tried-so : (r : Result (Result (Unit {0}) EventFault) Held) → IfOk r (TurnsSo (part_end m.geometry to at)) → OnOk r (refused_at q (stripe_at m file (block_at m at)) ≡ refused_at p (stripe_at m file (block_at m at)))
      → IfErr r (λ busy. BusyAt (stripe_at m file (block_at m at)) busy.word p q) → OnErr r (later ≡ iov) → TriedPart m file by to at p q iov later (told r)
  tried-so (Ok (Ok u)) t free busy nothing =
      let did = t.turned.done in
      let event = ap (λ (e : Entry). e.event) did.entry_is in
      let outcome = ap (λ (e : Entry). e.outcome) did.entry_is in
      let seen : seen_at p (stripe_at m file (block_at m at)) ≡ t.before.seen = ap seen_by t.stand.seat_is in
      let given = given-fetch (slice_get m.stripes (stripe_at m file (block_at m at))) t.cell t.before.seen t.turned.others (seen_at p (stripe_at m file (block_at m at))) t.turned.entry by at (part_end m.geometry to at) t.stand.cell_is seen event outcome in
      record {
        act = Turn (stripe_at m file (block_at m at)) t.turned.others t.turned.entry;
        did = turned-act t;
        words = words-turn p q (stripe_at m file (block_at m at)) t.after t.pass_is free;
        read = record {
          reads = record { some = some; block = has; stripe_is = refl; caller = ap (λ (x : Entry). x.caller) did.entry_is ∙ sym mine; event = event; outcome_is = outcome };
          bytes = did.bytes ∙ ap (λ l. written_on l iov) (sym given);
          long = ap length given ∙ part-long m file laid block_size folio_blocks at to some within t.cell t.turned.value (t.before.seen ++ t.turned.others) t.turned.stakes t.stand.cell_is t.turned.stood.holds;
        };
        hindered = tt;
      }
  tried-so (Ok (Err e)) t free busy nothing =
      let did = t.turned.done in
      record {
        act = Turn (stripe_at m file (block_at m at)) t.turned.others t.turned.entry;
        did = turned-act t;
        words = words-turn p q (stripe_at m file (block_at m at)) t.after t.pass_is free;
        read = tt;
        hindered = record {
          hinders = record { refused = e; part = record { some = some; block = has; stripe_is = refl; caller = ap (λ (x : Entry). x.caller) did.entry_is ∙ sym mine; event = ap (λ (x : Entry). x.event) did.entry_is; outcome_is = ap (λ (x : Entry). x.outcome) did.entry_is }; fault_is = refl };
          nothing = did.nothing;
        };
      }
  tried-so (Err e) t free busy nothing = record {
    act = Busy (stripe_at m file (block_at m at)) e.word;
    did = busy-act busy;
    words = words-busy p q (stripe_at m file (block_at m at)) e.word busy;
    read = tt;
    hindered = record { hinders = record { some = some; block = has; stripe_is = refl; fault_is = refl }; nothing = nothing };
  }

  pub tried-part : (next : ℕ) → next ≡ part_end m.geometry to at → (r : Result (Result (Unit {0}) EventFault) Held) → IfOk r (TurnsSo next) → OnOk r (refused_at q (stripe_at m file (block_at m at)) ≡ refused_at p (stripe_at m file (block_at m at)))
      → IfErr r (λ busy. BusyAt (stripe_at m file (block_at m at)) busy.word p q) → OnErr r (later ≡ iov) → (fault : Option Fault) → fault ≡ told r → TriedPart m file by to at p q iov later fault
  tried-part next is r turned free busy nothing fault tells = subst (TriedPart m file by to at p q iov later) (sym tells) (tried-so r (subst (λ n. IfOk r (TurnsSo n)) is turned) free busy nothing)
