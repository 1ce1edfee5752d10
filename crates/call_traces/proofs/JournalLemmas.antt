-- The journals that calls leave.
use Rattle.std.proofs.Common.{◌≡◌, ℕ, ◌+◌, ◌<◌, ◌≤◌, ◌==◌, ◌&&◌, Bool, true, false, List, [], ◌∷◌, ◌++◌, Some, if◌then◌else◌, refl, sym, ap, ◌∙◌, arith, inl, inr}
use Rattle.std.specs.Prelude.{All}
use Rattle.std.proofs.lemmas.Bool.{cases_eq, eq-eqb, ne_eqb}
use Rattle.std.proofs.lemmas.List.Elements.{All-append, All-cons, All-head, All-nil, All-tail}
use Rattle.iob_base.specs.declared.stamp.FileId.{FileId}
use Rattle.iob_base.specs.declared.stamp.Stamp.{Stamp}
use Rattle.io_model.specs.Parts.{meets}
use Rattle.turn_cell.specs.Stakes.{total}
use Rattle.turn_cell.specs.Views.{SeatView}
use Rattle.turn_cell.proofs.Beginnings.{begins-total}
use Rattle.turn_cell.proofs.Sums.{total-append}
use Rattle.range_core.specs.EntryCounts.{one_where}
use Rattle.range_core.specs.Stamps.{done_by, stamps_at}
use Rattle.range_core.specs.declared.entry.Entry.{Entry}
use Rattle.mount_parts.specs.MountView.{HasBlock, IsLaidOut, MountView, stripe_at}
use Rattle.mini_fs.specs.Acts.{made_in, own_entries, seen_in}
use Rattle.mini_fs.specs.CallActs.{tag_of}
use Rattle.mini_fs.specs.PassView.{PassView}
use Rattle.call_parts.specs.Reads.{seen_at}
use Rattle.call_traces.specs.Journals.{JournalsHoldCalls, JournalsKeepOrder, JournalsWeighCalls, answer_weight, answers, journal_of, stamps_left, weight_left}
use Rattle.call_traces.specs.Orders.{StandsBefore, is_stamp_of, times_stamped}
use Rattle.call_traces.specs.SeatTraces.{ComesBefore, IsWithin, all_calls, calls_in, own_weight}
use Rattle.call_traces.specs.Traces.{IsTraced, Phase, Phases, Ran, Traced}
use Rattle.call_traces.proofs.OwnLemmas.{made-elsewhere, made-few, made-placed}
use Rattle.call_traces.proofs.SeatTraceLemmas.{phases-at}
use Rattle.call_traces.proofs.StampLemmas.{journal-append, journal-weighs, over-times}

module _ (m : MountView) where
  ran-traced : (calls : List Traced) (p q : PassView) → Ran m calls p q → All (IsTraced m) calls
  ran-traced [] p q is = All-nil (IsTraced m)
  ran-traced (c ∷ calls) p q (first, traced, rest) = All-cons (IsTraced m) c calls traced (ran-traced calls c.after q rest)

  phase-traced : (callers : List (List Traced)) (p q : PassView) → Phase m callers p q → All (IsTraced m) (calls_in callers)
  phase-traced [] p q is = All-nil (IsTraced m)
  phase-traced (calls ∷ []) p q ran = All-append (IsTraced m) calls [] (ran-traced calls p q ran) (All-nil (IsTraced m))
  phase-traced (calls ∷ next ∷ callers) p q forks =
      All-append (IsTraced m) calls (calls_in (next ∷ callers)) (ran-traced calls forks.new forks.ran forks.mine) (phase-traced (next ∷ callers) forks.kept forks.back forks.others)

  pub phases-traced : (phases : List (List (List Traced))) (p q : PassView) → Phases m phases p q → All (IsTraced m) (all_calls phases)
  phases-traced [] p q is = All-nil (IsTraced m)
  phases-traced (callers ∷ phases) p q (r, phase, rest) = All-append (IsTraced m) (calls_in callers) (all_calls phases) (phase-traced callers p r phase) (phases-traced phases r q rest)

-- a call's stamp counts for a number where the call has it and answered the block
pub answers-weigh : (size : ℕ) (file : FileId) (b n : ℕ) (c : Traced) → answer_weight size file b (is_stamp_of n) c ≡ answers size file b n c
answers-weigh size file b n c = at (c.number == n) ((c.file.0 == file.0) && meets size c.answered b)
  where
    at : (is met : Bool) → (if met then one_where is else 0) ≡ one_where (is && met)
    at true true = refl
    at true false = refl
    at false true = refl
    at false false = refl

pub all-answer : (size : ℕ) (file : FileId) (b n : ℕ) (calls : List Traced) → total (answer_weight size file b (is_stamp_of n)) calls ≡ total (answers size file b n) calls
all-answer size file b n [] = refl
all-answer size file b n (c ∷ calls) = omega (arith, answers-weigh size file b n c, all-answer size file b n calls)

module _ (m : MountView) (laid : IsLaidOut m) (some : 0 < m.geometry.block_size) (file : FileId) (b : ℕ) (has : HasBlock m file b) where
  abbrev size : ℕ
  size = m.geometry.block_size

  abbrev stripe : ℕ
  stripe = stripe_at m file b

  -- what the stamps weigh that a call of this file left on the block, and one of another
  own-here : (f : Stamp → ℕ) (c : Traced) → IsTraced m c → c.file ≡ file → own_weight stripe (weight_left size b f) c ≡ answer_weight size file b f c
  own-here f c traced same =
      let at_block : total (weight_left size b f) (made_in (stripe_at m c.file b) c.acts) ≡ total (weight_left size b f) (own_entries c.acts) = made-placed m c.file b f c.acts traced.placed in
      ap (λ (g : FileId). total (weight_left size b f) (made_in (stripe_at m g b) c.acts)) (sym same)
      ∙ at_block
      ∙ sym (journal-weighs b f size (own_entries c.acts))
      ∙ ap (λ l. total f (stamps_at b l)) traced.stamps
      ∙ over-times b f (done_by (tag_of c.before c.number)) size c.answered some
      ∙ ap (λ t. if t && meets size c.answered b then f (done_by (tag_of c.before c.number)) else 0) (sym (eq-eqb c.file.0 file.0 (ap (λ (g : FileId). g.0) same)))

  own-there : (f : Stamp → ℕ) (c : Traced) → IsTraced m c → (c.file.0 ≡ file.0 → ⊥) → own_weight stripe (weight_left size b f) c ≡ answer_weight size file b f c
  own-there f c traced apart =
      ap (total (weight_left size b f)) (made-elsewhere m file c.file b c.acts laid apart has traced.at_file)
      ∙ sym (ap (λ t. if t && meets size c.answered b then f (done_by (tag_of c.before c.number)) else 0) (ne_eqb c.file.0 file.0 apart))

  -- a call's stamps on the block weigh what it weighs for having answered it
  pub own-weighs : (f : Stamp → ℕ) (c : Traced) → IsTraced m c → own_weight stripe (weight_left size b f) c ≡ answer_weight size file b f c
  own-weighs f c traced = elim (cases_eq c.file.0 file.0) [ inl e ↦ own-here f c traced (λ i. record { 0 = e i }) | inr apart ↦ own-there f c traced apart ]

  all-weigh : (f : Stamp → ℕ) (calls : List Traced) → All (IsTraced m) calls → total (own_weight stripe (weight_left size b f)) calls ≡ total (answer_weight size file b f) calls
  all-weigh f [] traced = refl
  all-weigh f (c ∷ calls) traced = omega (arith, own-weighs f c (All-head (IsTraced m) c calls traced), all-weigh f calls (All-tail (IsTraced m) c calls traced))

  -- so it has as many stamps of a number on the block as it answered it
  own-answers : (n : ℕ) (c : Traced) → IsTraced m c → own_weight stripe (stamps_left size b n) c ≡ answers size file b n c
  own-answers n c traced = own-weighs (is_stamp_of n) c traced ∙ answers-weigh size file b n c

  -- the call whose end comes before the other's begin stands before it
  stands-before : (s t : SeatView Entry) (c later : Traced) → IsTraced m c → IsTraced m later → IsWithin stripe s t c → IsWithin stripe s t later → ComesBefore stripe c later
      → times_stamped c.number (journal_of size b t.seen) ≡ answers size file b c.number c → times_stamped later.number (journal_of size b t.seen) ≡ answers size file b later.number later
      → StandsBefore c.number later.number (journal_of size b t.seen)
  stands-before s t c later traced after within behind before first second =
      let rest : List Entry = within.ends.0 in
      let whole : journal_of size b t.seen ≡ journal_of size b (seen_at c.after stripe) ++ journal_of size b rest = ap (journal_of size b) (sym within.ends.1) ∙ journal-append size b (seen_at c.after stripe) rest in
      record {
        front = journal_of size b (seen_at c.after stripe);
        back = journal_of size b rest;
        parts = whole;
        none_first = none-first rest whole;
        none_later = none-later;
      }
    where
      none-first : (rest : List Entry) → journal_of size b t.seen ≡ journal_of size b (seen_at c.after stripe) ++ journal_of size b rest → times_stamped c.number (journal_of size b rest) ≡ 0
      none-first rest whole =
          let w : Entry → ℕ = stamps_left size b c.number in
          let all : times_stamped c.number (journal_of size b t.seen) ≡ times_stamped c.number (journal_of size b (seen_at c.after stripe)) + times_stamped c.number (journal_of size b rest) =
          ap (times_stamped c.number) whole ∙ total-append (is_stamp_of c.number) (journal_of size b (seen_at c.after stripe)) (journal_of size b rest) in
          let seen : times_stamped c.number (journal_of size b (seen_at c.after stripe)) ≡ total w (seen_at c.after stripe) = journal-weighs b (is_stamp_of c.number) size (seen_at c.after stripe) in
          let grew : total w (seen_at c.after stripe) ≡ total w (seen_at c.before stripe) + total w (seen_in stripe c.acts) = ap (total w) within.grows ∙ total-append w (seen_at c.before stripe) (seen_in stripe c.acts) in
          let made : total w (made_in stripe c.acts) ≡ answers size file b c.number c = own-answers c.number c traced in
          let few : total w (made_in stripe c.acts) ≤ total w (seen_in stripe c.acts) = made-few w stripe c.acts in
          omega (arith, all, seen, grew, made, few, first)

      none-later : times_stamped later.number (journal_of size b (seen_at c.after stripe)) ≡ 0
      none-later =
          let w : Entry → ℕ = stamps_left size b later.number in
          let all : times_stamped later.number (journal_of size b t.seen) ≡ total w t.seen = journal-weighs b (is_stamp_of later.number) size t.seen in
          let seen : times_stamped later.number (journal_of size b (seen_at c.after stripe)) ≡ total w (seen_at c.after stripe) = journal-weighs b (is_stamp_of later.number) size (seen_at c.after stripe) in
          let less : total w (seen_at c.after stripe) ≤ total w (seen_at later.before stripe) = begins-total w _ _ before in
          let grew : total w (seen_at later.after stripe) ≡ total w (seen_at later.before stripe) + total w (seen_in stripe later.acts) = ap (total w) behind.grows ∙ total-append w (seen_at later.before stripe) (seen_in stripe later.acts) in
          let ends : total w (seen_at later.after stripe) ≤ total w t.seen = begins-total w _ _ behind.ends in
          let made : total w (made_in stripe later.acts) ≡ answers size file b later.number later = own-answers later.number later after in
          let few : total w (made_in stripe later.acts) ≤ total w (seen_in stripe later.acts) = made-few w stripe later.acts in
          omega (arith, all, seen, less, grew, ends, made, few, second)

pub weigh-calls : JournalsWeighCalls
weigh-calls m laid some phases p q did file b exists has s t here there whole f =
    let stripe : ℕ = stripe_at m file b in
    let w : Entry → ℕ = weight_left m.geometry.block_size b f in
    let ran = phases-at m phases p q did stripe s here in
    let same : ran.0 ≡ t = (let e : Some ran.0 ≡ Some t = sym ran.1 ∙ there in cc) in
    let weighs : total w ran.0.made ≡ total w s.made + total (own_weight stripe w) (all_calls phases) = ran.2.weighs w in
    let made : total w ran.0.made ≡ total w t.made = ap (λ (v : SeatView Entry). total w v.made) same in
    let none : total w s.made ≡ 0 = ap (total w) whole.made in
    let once : total w t.seen ≡ total w t.made = whole.once w in
    let all = all-weigh m laid some file b has f (all_calls phases) (phases-traced m phases p q did) in
    let journal : total f (journal_of m.geometry.block_size b t.seen) ≡ total w t.seen = journal-weighs b f m.geometry.block_size t.seen in
    omega (arith, weighs, made, none, once, all, journal)

pub hold-calls : JournalsHoldCalls
hold-calls m laid some phases p q did file b exists has s t here there whole n =
    weigh-calls m laid some phases p q did file b exists has s t here there whole (is_stamp_of n) ∙ all-answer m.geometry.block_size file b n (all_calls phases)

pub keep-order : JournalsKeepOrder
keep-order m laid some file b exists has s t c later traced after within behind before first second = stands-before m laid some file b has s t c later traced after within behind before first second
