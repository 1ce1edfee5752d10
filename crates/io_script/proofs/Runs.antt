-- Runs of pages, from the left.
use Rattle.std.proofs.Common.{◌≡◌, ℕ, ◌+◌, List, [], ◌∷◌, ◌++◌, ◌==◌, Bool, true, false, codes, decimal, refl, sym, ap, ◌∙◌, if◌then◌else◌, add_assoc, add_comm, eq-eqb}
use Rattle.std.proofs.lemmas.Bool.{eqb-true}
use Rattle.io_model.specs.RunText.{onto_runs, page_runs, runs_text, more_runs_text}

-- the runs of some pages after a run that is not ended
abbrev pub runs_from : ℕ → ℕ → List ℕ → List (ℕ × ℕ)
runs_from first count [] = (first, count) ∷ []
runs_from first count (page ∷ pages) = if first + count == page then runs_from first (count + 1) pages else (first, count) ∷ runs_from page 1 pages

-- a run before runs, joined to the first where that goes on from it
abbrev glue : ℕ → ℕ → List (ℕ × ℕ) → List (ℕ × ℕ)
glue first count [] = (first, count) ∷ []
glue first count (r ∷ rs) = if first + count == r.0 then (first, count + r.1) ∷ rs else (first, count) ∷ r ∷ rs

onto_runs-glue : (page : ℕ) (rs : List (ℕ × ℕ)) → onto_runs page rs ≡ glue page 1 rs
onto_runs-glue page [] = refl
onto_runs-glue page (r ∷ rs) = ap (λ n. if page + 1 == r.0 then (page, n) ∷ rs else (page, 1) ∷ r ∷ rs) (add_comm r.1 1)

-- the page goes on from the run, and perhaps the next run from the page
glue_page : (b : Bool) (first count page : ℕ) (r : ℕ × ℕ) (rs : List (ℕ × ℕ)) → (first + count == page) ≡ true
    → glue first count (if b then (page, 1 + r.1) ∷ rs else (page, 1) ∷ r ∷ rs) ≡ (if b then (first, count + 1 + r.1) ∷ rs else (first, count + 1) ∷ r ∷ rs)
glue_page true first count page r rs e = rw e (ap (λ n. (first, n) ∷ rs) (sym (add_assoc count 1 r.1)))
glue_page false first count page r rs e = rw e refl

glue-goes_on : (first count : ℕ) (rs : List (ℕ × ℕ)) → glue first count (glue (first + count) 1 rs) ≡ glue first (count + 1) rs
glue-goes_on first count [] = rw (eq-eqb (first + count) (first + count) refl) refl
glue-goes_on first count (r ∷ rs) =
    glue_page (first + count + 1 == r.0) first count (first + count) r rs (eq-eqb (first + count) (first + count) refl)
    ∙ ap (λ n. if n == r.0 then (first, count + 1 + r.1) ∷ rs else (first, count + 1) ∷ r ∷ rs) (add_assoc first count 1)

-- the page does not go on from the run
glue_apart_by : (b : Bool) (first count page : ℕ) (r : ℕ × ℕ) (rs : List (ℕ × ℕ)) → (first + count == page) ≡ false
    → (first, count) ∷ (if b then (page, 1 + r.1) ∷ rs else (page, 1) ∷ r ∷ rs) ≡ glue first count (if b then (page, 1 + r.1) ∷ rs else (page, 1) ∷ r ∷ rs)
glue_apart_by true first count page r rs e = rw e refl
glue_apart_by false first count page r rs e = rw e refl

glue_apart : (first count page : ℕ) (rs : List (ℕ × ℕ)) → (first + count == page) ≡ false → (first, count) ∷ glue page 1 rs ≡ glue first count (glue page 1 rs)
glue_apart first count page [] e = rw e refl
glue_apart first count page (r ∷ rs) e = glue_apart_by (page + 1 == r.0) first count page r rs e

-- one page more after a run that is not ended, by whether it goes on from the run
runs_from_page : (b : Bool) (first count page : ℕ) (pages : List ℕ) → (first + count == page) ≡ b
    → runs_from first (count + 1) pages ≡ glue first (count + 1) (page_runs pages) → runs_from page 1 pages ≡ glue page 1 (page_runs pages)
    → (if b then runs_from first (count + 1) pages else (first, count) ∷ runs_from page 1 pages) ≡ glue first count (onto_runs page (page_runs pages))
runs_from_page true first count page pages test longer another =
    let goes_on : first + count ≡ page = eqb-true (first + count) page test in
    longer ∙ sym (glue-goes_on first count (page_runs pages)) ∙ ap (λ p. glue first count (glue p 1 (page_runs pages))) goes_on
    ∙ ap (glue first count) (sym (onto_runs-glue page (page_runs pages)))
runs_from_page false first count page pages test longer another =
    ap (λ rs. (first, count) ∷ rs) another ∙ glue_apart first count page (page_runs pages) test ∙ ap (glue first count) (sym (onto_runs-glue page (page_runs pages)))

pub runs_from-glue : (first count : ℕ) (pages : List ℕ) → runs_from first count pages ≡ glue first count (page_runs pages)
runs_from-glue first count [] = refl
runs_from-glue first count (page ∷ pages) =
    runs_from_page (first + count == page) first count page pages refl (runs_from-glue first (count + 1) pages) (runs_from-glue page 1 pages)

-- the runs of pages, of which this is the first
pub page_runs-from : (page : ℕ) (pages : List ℕ) → page_runs (page ∷ pages) ≡ runs_from page 1 pages
page_runs-from page pages = onto_runs-glue page (page_runs pages) ∙ sym (runs_from-glue page 1 pages)

-- runs with a comma before each, by whether the first page goes on
more_runs_text_by : (b : Bool) (first count page : ℕ) (longer rs : List (ℕ × ℕ)) (rest : List ℕ) → more_runs_text longer rest ≡ codes "," ++ runs_text 0 longer rest
    → more_runs_text (if b then longer else (first, count) ∷ rs) rest ≡ codes "," ++ runs_text 0 (if b then longer else (first, count) ∷ rs) rest
more_runs_text_by true first count page longer rs rest e = e
more_runs_text_by false first count page longer rs rest e = refl

pub more_runs_text-from : (first count : ℕ) (pages rest : List ℕ) → more_runs_text (runs_from first count pages) rest ≡ codes "," ++ runs_text 0 (runs_from first count pages) rest
more_runs_text-from first count [] rest = refl
more_runs_text-from first count (page ∷ pages) rest =
    more_runs_text_by (first + count == page) first count page (runs_from first (count + 1) pages) (runs_from page 1 pages) rest (more_runs_text-from first (count + 1) pages rest)

-- a run that ends before the next page
pub runs_text-ended : (first count page : ℕ) (pages rest : List ℕ) → (first + count == page) ≡ false
    → runs_text 0 (runs_from first count (page ∷ pages)) rest ≡ decimal first ++ (codes "+" ++ (decimal count ++ (codes "," ++ runs_text 0 (runs_from page 1 pages) rest)))
runs_text-ended first count page pages rest test =
    rw test (ap (λ more. decimal first ++ (codes "+" ++ (decimal count ++ more))) (more_runs_text-from page 1 pages rest))
