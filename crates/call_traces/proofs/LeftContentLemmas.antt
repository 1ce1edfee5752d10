-- What the calls of a run leave of the bytes of a block.
use Rattle.std.proofs.Common.{◌≡◌, ℕ, ◌+◌, ◌≤◌, ◌==◌, Bool, true, false, List, [], ◌∷◌, ◌++◌, length, Some, if◌then◌else◌, inl, inr, refl, sym, ap, ◌∙◌, subst, arith}
use Rattle.std.specs.Prelude.{All}
use Rattle.std.proofs.lemmas.Bool.{cases_eq}
use Rattle.std.proofs.lemmas.List.Elements.{All-cons, All-head, All-nil, All-tail}
use Rattle.io_model.specs.Contents.{Content}
use Rattle.io_model.specs.Ranges.{Ranged}
use Rattle.turn_cell.specs.Stakes.{total}
use Rattle.turn_cell.specs.Views.{SeatView}
use Rattle.turn_cell.proofs.Beginnings.{begins-total}
use Rattle.range_core.specs.declared.entry.Entry.{Entry}
use Rattle.mount_parts.specs.MountView.{stripe_at}
use Rattle.mini_fs.specs.Acts.{Act, made_in, own_entries}
use Rattle.mini_fs.specs.Acts.Act.{Busy, Close, Leave, Note, Number, Open, Refused, Run, SizeTurn, Take, Turn}
use Rattle.call_traces.specs.Changes.{ChangesAsTold, untold}
use Rattle.call_traces.specs.LeftContents.{CallsTellContent, IsToldAt, TracedIsTold}
use Rattle.call_traces.specs.SeatTraces.{all_calls, own_weight}
use Rattle.call_traces.specs.Traces.{Traced}
use Rattle.call_traces.proofs.ContentLemmas.{none-untold, tell-content}
use Rattle.call_traces.proofs.OwnLemmas.{made-elsewhere}
use Rattle.call_traces.proofs.SeatTraceLemmas.{phases-at}

module _ (P : Entry → Type 0) (k : ℕ) where
  -- what holds of all own entries holds of those at a stripe
  made-own : (acts : List Act) → All P (own_entries acts) → All P (made_in k acts)
  made-own [] all = All-nil P
  made-own (Turn stripe others own ∷ acts) all = by (stripe == k) (made-own acts (All-tail P own (own_entries acts) all))
    where
      by : (t : Bool) → All P (made_in k acts) → All P ((if t then own ∷ [] else []) ++ made_in k acts)
      by true rest = All-cons P own (made_in k acts) (All-head P own (own_entries acts) all) rest
      by false rest = rest
  made-own (SizeTurn c others own ∷ acts) all = made-own acts all
  made-own (Busy s w ∷ acts) all = made-own acts all
  made-own (Open s ∷ acts) all = made-own acts all
  made-own (Close s ∷ acts) all = made-own acts all
  made-own (Take f c x y ∷ acts) all = made-own acts all
  made-own (Refused f c x y ∷ acts) all = made-own acts all
  made-own (Leave f c x y ∷ acts) all = made-own acts all
  made-own (Run n ∷ acts) all = made-own acts all
  made-own (Note b ∷ acts) all = made-own acts all
  made-own (Number n ∷ acts) all = made-own acts all

pub traced-is-told : TracedIsTold
traced-is-told m laid file b has calls c traced told = elim (cases_eq c.file.0 file.0) [
  | inl same ↦ made-own (ChangesAsTold m.geometry.block_size calls b) (stripe_at m file b) c.acts (told same)
  | inr apart ↦ subst (All (ChangesAsTold m.geometry.block_size calls b)) (sym (made-elsewhere m file c.file b c.acts laid apart has traced.at_file)) (All-nil (ChangesAsTold m.geometry.block_size calls b))
]

module _ (size : ℕ) (calls : List Ranged) (b k : ℕ) (content : Content) (whole : length content ≡ size) where
  -- told calls made no entry that is untold
  calls-told : (cs : List Traced) → All (IsToldAt size calls b k) cs → total (own_weight k (untold size calls b content)) cs ≡ 0
  calls-told [] told = refl
  calls-told (c ∷ cs) told =
      let first = none-untold size b calls (made_in k c.acts) (All-head (IsToldAt size calls b k) c cs told) content whole in
      let rest = calls-told cs (All-tail (IsToldAt size calls b k) c cs told) in
      omega (arith, first, rest)

pub calls-tell-content : CallsTellContent
calls-tell-content m phases p q did stripe s t here there whole size calls b told history begins opening long =
    tell-content size b calls history none opening long
  where
    none : (content : Content) → length content ≡ size → total (untold size calls b content) history ≡ 0
    none content fits =
        let w : Entry → ℕ = untold size calls b content in
        let ran = phases-at m phases p q did stripe s here in
        let same : ran.0 ≡ t = (let e : Some ran.0 ≡ Some t = sym ran.1 ∙ there in cc) in
        let weighs : total w ran.0.made ≡ total w s.made + total (own_weight stripe w) (all_calls phases) = ran.2.weighs w in
        let made : total w ran.0.made ≡ total w t.made = ap (λ (v : SeatView Entry). total w v.made) same in
        let nothing : total w s.made ≡ 0 = ap (total w) whole.made in
        let once : total w t.seen ≡ total w t.made = whole.once w in
        let less : total w history ≤ total w t.seen = begins-total w history t.seen begins in
        let all = calls-told size calls b stripe content fits (all_calls phases) told in
        omega (arith, weighs, made, nothing, once, less, all)
