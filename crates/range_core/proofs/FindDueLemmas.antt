-- The first block that a sync has still to do with.
use Rattle.std.proofs.Common.{◌≡◌, ℕ, zero, suc, ◌+◌, ◌-◌, ◌<◌, ◌≤◌, Bool, true, false, ◌&&◌, ◌||◌, not, ◌==◌, if◌then◌else◌, Option, Some, None, IfSome, List, [], ◌∷◌, length, min, refl, sym, ◌∙◌, ap, subst, arith, length-drop}
use Rattle.std.specs.Prelude.{is_none, is_some, slice_get}
use Rattle.std.proofs.lemmas.Bool.{eqb-false, eqb-true}
use Rattle.std.proofs.lemmas.Option.{slice_get_within}
use Rattle.range_core.specs.FindDues.{AreCalmBefore, IsCalm, IsDue, calm_run, due_at, is_calm}
use Rattle.range_core.specs.RangeTruth.{IsSameRun}
use Rattle.range_core.specs.RangeView.{LiesAt, RangeView, cells_from}
use Rattle.range_core.specs.Runs.{leading}
use Rattle.range_core.specs.declared.cell.Cell.{Cell}
use Rattle.range_core.specs.declared.lending.Away.{Away}
use Rattle.range_core.proofs.LeadingLemmas.{leading-pass, leading-within}
use Rattle.range_core.proofs.SampleLemmas.{slice_get-drop}

calm_is : (c : Cell) → is_calm c ≡ true → IsCalm c
calm_is c e = at c.dirty c.away refl refl e
  where
    at : (t : Bool) (a : Option Away) → c.dirty ≡ t → c.away ≡ a → (not t && is_none a) ≡ true → IsCalm c
    at true a p q e = absurd (cc)
    at false None p q e = record { clean = p; home = q }
    at false (Some a) p q e = absurd (cc)

due_is : (c : Cell) → is_calm c ≡ false → (c.dirty || is_some c.away) ≡ true
due_is c e = at c.dirty c.away e
  where
    at : (t : Bool) (a : Option Away) → (not t && is_none a) ≡ false → (t || is_some a) ≡ true
    at true a e = refl
    at false None e = absurd (cc)
    at false (Some a) e = refl

-- the block at which a run of calm ones stops, where it stops before the end of those that are wanted
stops_at : (cells : List Cell) (n : ℕ) (c : Cell) → calm_run cells n < n → slice_get cells (calm_run cells n) ≡ Some c → is_calm c ≡ false
stops_at cells n c l e = from cells 0 n l e
  where
    from : (cells : List Cell) (i n : ℕ) → leading (λ _ c. is_calm c) i cells n < n → slice_get cells (leading (λ _ c. is_calm c) i cells n) ≡ Some c → is_calm c ≡ false
    from [] i n l e = absurd (cc)
    from (x ∷ cells) i zero l e = absurd (omega arith)
    from (x ∷ cells) i (suc n) l e = at (is_calm x) refl l e (from cells (i + 1) n)
      where
        at : (t : Bool) → is_calm x ≡ t → (if t then suc (leading (λ _ c. is_calm c) (i + 1) cells n) else 0) < suc n → slice_get (x ∷ cells) (if t then suc (leading (λ _ c. is_calm c) (i + 1) cells n) else 0) ≡ Some c
            → (leading (λ _ c. is_calm c) (i + 1) cells n < n → slice_get cells (leading (λ _ c. is_calm c) (i + 1) cells n) ≡ Some c → is_calm c ≡ false) → is_calm c ≡ false
        at true t l e rest = rest (omega arith) e
        at false t l e rest = let is : x ≡ c = cc in ap is_calm (sym is) ∙ t

-- what is said of the block that was found, where there is one
pub record Told (opening r : RangeView) (b n : ℕ) (due : Option ℕ) : Type 0 where
  pub calm : AreCalmBefore r b n due
  pub due_here : IfSome due (IsDue r b n)
  pub lies : IfSome due (λ d. LiesAt opening d 1)

pub told : (opening r : RangeView) (b n : ℕ) (due : Option ℕ) → IsSameRun opening r → LiesAt opening b 1 → due ≡ due_at r b n → Told opening r b n due
told opening r b n due same lies is = let T : Option ℕ → Type 0 = λ d. Told opening r b n d in subst T (sym is) (at (m == min (length cells) n) refl)
  where
    cells : List Cell
    cells = cells_from r b

    m : ℕ
    m = calm_run cells n

    low : ℕ
    low = b - r.first

    within : (m ≤ length cells) × (m ≤ n)
    within = leading-within (λ _ c. is_calm c) 0 cells n

    passes : (k : ℕ) (c : Cell) → k < m → slice_get r.cells (low + k) ≡ Some c → IsCalm c
    passes k c l e = calm_is c (leading-pass (λ _ c. is_calm c) 0 cells n k c l (slice_get-drop low k r.cells ∙ e))

    left : length cells ≡ length r.cells - low
    left = length-drop low r.cells

    f : r.first ≡ opening.first
    f = same.first

    many : length r.cells ≡ length opening.cells
    many = same.blocks

    at : (t : Bool) → (m == min (length cells) n) ≡ t → Told opening r b n (if t then None else Some (b + m))
    at true e =
        let all : m ≡ min (length cells) n = eqb-true _ _ e in
        record {
          calm = λ k c l before at.
              let inside = slice_get_within r.cells (low + k) c at in
              let fits : k < length cells = omega (arith, inside, left) in
              let more : k < min (length cells) n = grind (arith, fits, l) in
              passes k c (omega (arith, all, more)) at;
          due_here = tt;
          lies = tt;
        }
    at false e =
        let not_all : m ≡ min (length cells) n → ⊥ = eqb-false _ _ e in
        let most : m ≤ min (length cells) n = grind (arith, within.0, within.1) in
        let less : m < min (length cells) n = omega arith in
        let fewer : (m < length cells) × (m < n) = (grind arith, grind arith) in
        let start = lies.low in
        let end = lies.high in
        let shift : b + m - r.first ≡ low + m = omega (arith, f, start) in
        let inside : low + m < length r.cells = omega (arith, fewer.0, left) in
        let d : Cell = there (low + m) inside in
        let here : slice_get r.cells (low + m) ≡ Some d = is_there (low + m) inside in
        record {
          calm = λ k c l before at. passes k c (omega arith) at;
          due_here = record {
            low = omega arith;
            high = omega (arith, fewer.1);
            cell = d;
            here = ap (slice_get r.cells) shift ∙ here;
            is = due_is d (stops_at cells n d fewer.1 (slice_get-drop low m r.cells ∙ here));
          };
          lies = record { low = omega (arith, start); some = omega arith; high = omega (arith, inside, f, many, start) };
        }
      where
        found : (xs : List Cell) (i : ℕ) → i < length xs → (c : Cell) × (slice_get xs i ≡ Some c)
        found [] i l = absurd (omega arith)
        found (x ∷ xs) zero l = (x, refl)
        found (x ∷ xs) (suc i) l = found xs i (omega arith)

        there : (i : ℕ) → i < length r.cells → Cell
        there i l = (found r.cells i l).0

        is_there : (i : ℕ) (l : i < length r.cells) → slice_get r.cells i ≡ Some (there i l)
        is_there i l = (found r.cells i l).1
