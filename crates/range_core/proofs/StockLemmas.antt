-- A store lays bytes over the pages that blocks have, and over those of a stock where they have none.
use Rattle.std.proofs.Common.{◌≡◌, ℕ, ◌+◌, ◌-◌, ◌≤◌, true, Option, Some, None, IfSome, List, [], ◌++◌, length, take, drop, refl, sym, ◌∙◌, ap, subst, arith, append_assoc, append-nil, length-append, length-drop}
use Rattle.std.specs.Prelude.{is_none}
use Rattle.std.proofs.Math.Seq.{drop-append-add, drop-append_seam, take-append-add, take-append_seam}
use Rattle.std.proofs.lemmas.List.{drop-replicate, drop_all, length-replicate, length-take-le, take-replicate}
use Rattle.iob_base.specs.declared.sector.Page.{Page}
use Rattle.io_model.specs.Contents.{Content, zeros}
use Rattle.io_model.specs.Effects.{overlay}
use Rattle.range_core.specs.BlockTruth.{IsWholePage}
use Rattle.range_core.specs.EntryCounts.{one_where}
use Rattle.range_core.specs.Pages.{IsCachePage, zero_page}
use Rattle.range_core.specs.Paging.{HasWholePage, filled, lacks_page}
use Rattle.range_core.specs.ReadyPages.{IsReadyFor}
use Rattle.range_core.specs.Stores.{dirtied}
use Rattle.range_core.specs.declared.cell.Cell.{Cell}
use Rattle.range_core.specs.declared.parts.BlockPart.{BlockPart}

many_zeros : (n : ℕ) → length (zeros n) ≡ n
many_zeros n = length-replicate n 0

-- zeros laid before a part and behind it leave the part between zeros
around : (at n : ℕ) (b : List ℕ) → at + n ≤ length b → overlay (at + n) (zeros (length b - (at + n))) (overlay 0 (zeros at) b) ≡ zeros at ++ (take n (drop at b) ++ zeros (length b - (at + n)))
around at n b h =
    let z : List ℕ = zeros at in
    let rest : ℕ = length b - (at + n) in
    let front : length z ≡ at = many_zeros at in
    let m : List ℕ = z ++ drop at b in
    let first : overlay 0 z b ≡ m = ap (λ k. z ++ drop k b) (let e : 0 + length z ≡ at = omega arith in e) in
    let long : length m ≡ length b = omega (arith, length-append z (drop at b), length-drop at b, front) in
    let taken : take (at + n) m ≡ z ++ take n (drop at b) = ap (λ k. take (k + n) m) (sym front) ∙ take-append-add z (drop at b) n in
    let none : drop (at + n + length (zeros rest)) m ≡ [] = drop_all (at + n + length (zeros rest)) m (omega (arith, many_zeros rest, long)) in
    ap (overlay (at + n) (zeros rest)) first
    ∙ ap (λ t. t ++ (zeros rest ++ drop (at + n + length (zeros rest)) m)) taken
    ∙ ap (λ t. (z ++ take n (drop at b)) ++ (zeros rest ++ t)) none
    ∙ ap (λ t. (z ++ take n (drop at b)) ++ t) (append-nil (zeros rest))
    ∙ append_assoc z (take n (drop at b)) (zeros rest)

-- bytes laid over the part are laid over zeros then
laid_between : (at n size : ℕ) (mid xs : List ℕ) → at + n ≤ size → length mid ≡ n → length xs ≡ n → overlay at xs (zeros at ++ (mid ++ zeros (size - (at + n)))) ≡ overlay at xs (zeros size)
laid_between at n size mid xs h e f =
    let z : List ℕ = zeros at in
    let rest : List ℕ = zeros (size - (at + n)) in
    let front : length z ≡ at = many_zeros at in
    let low : take at (z ++ (mid ++ rest)) ≡ z = ap (λ k. take k (z ++ (mid ++ rest))) (sym front) ∙ take-append_seam z (mid ++ rest) in
    let place : at + length xs ≡ length z + length mid = omega arith in
    let high : drop (at + length xs) (z ++ (mid ++ rest)) ≡ rest = ap (λ k. drop k (z ++ (mid ++ rest))) place ∙ drop-append-add z (mid ++ rest) (length mid) ∙ drop-append_seam mid rest in
    let low_zeros : take at (zeros size) ≡ z = take-replicate at size 0 (omega arith) in
    let high_zeros : drop (at + length xs) (zeros size) ≡ rest = drop-replicate (at + length xs) size 0 ∙ ap (λ k. zeros (size - (at + k))) f in
    ap (λ t. t ++ (xs ++ drop (at + length xs) (z ++ (mid ++ rest)))) low ∙ ap (λ t. z ++ (xs ++ t)) high
    ∙ sym (ap (λ t. t ++ (xs ++ drop (at + length xs) (zeros size))) low_zeros ∙ ap (λ t. z ++ (xs ++ t)) high_zeros)

-- a page of the cache with zeros around a part is ready for it
pub ready_for : (size : ℕ) (part : BlockPart) (p : Page) (bytes : List ℕ) → IsCachePage size p → part.at + part.length ≤ size
    → bytes ≡ overlay (part.at + part.length) (zeros (size - (part.at + part.length))) (overlay 0 (zeros part.at) p.bytes) → IsReadyFor size part (record p { bytes = bytes })
ready_for size part p bytes cache h is =
    let at : ℕ = part.at in
    let n : ℕ = part.length in
    let whole = cache.whole in
    let mid : List ℕ = take n (drop at p.bytes) in
    let many : length mid ≡ n = length-take-le n (drop at p.bytes) (omega (arith, length-drop at p.bytes)) in
    let size_is : zeros (size - (at + n)) ≡ zeros (length p.bytes - (at + n)) = ap (λ k. zeros (k - (at + n))) (sym whole) in
    let between : bytes ≡ zeros at ++ (mid ++ zeros (size - (at + n))) =
    is ∙ ap (λ z. overlay (at + n) z (overlay 0 (zeros at) p.bytes)) size_is ∙ around at n p.bytes (omega arith) ∙ ap (λ z. zeros at ++ (mid ++ z)) (sym size_is) in
    record {
      number = cache.number;
      whole = ap length between ∙ omega (arith, length-append (zeros at) (mid ++ zeros (size - (at + n))), length-append mid (zeros (size - (at + n))), many_zeros at, many_zeros (size - (at + n)), many);
      over = λ xs e. ap (overlay at xs) between ∙ laid_between at n size mid xs h many e;
    }

-- a page of the cache is so after it was cleared before the part and behind it
pub around_twice : (size : ℕ) (part : BlockPart) (p first new : Page) → IsCachePage size p → part.at + part.length ≤ size → first ≡ record p { bytes = overlay 0 (zeros part.at) p.bytes }
    → new ≡ record first { bytes = overlay (part.at + part.length) (zeros (size - (part.at + part.length))) first.bytes } → IsReadyFor size part new
around_twice size part p first new cache h e f =
    let R : Page → Type 0 = λ q. IsReadyFor size part q in
    let is : new ≡ record p { bytes = overlay (part.at + part.length) (zeros (size - (part.at + part.length))) (overlay 0 (zeros part.at) p.bytes) } =
    f ∙ ap (λ (q : Page). record q { bytes = overlay (part.at + part.length) (zeros (size - (part.at + part.length))) q.bytes }) e in
    subst R (sym is) (ready_for size part p _ cache h refl)

-- bytes laid over the page that a block has
pub laid_own : (size : ℕ) (f : Content → Content) (c : Cell) (p : Page) → c.page ≡ Some p → record c { page = Some (record p { bytes = f p.bytes }); dirty = true } ≡ dirtied f (filled size c)
laid_own size f c p e =
    let R : Option Page → Type 0 = λ o. record c { page = Some (record p { bytes = f p.bytes }); dirty = true } ≡ dirtied f (filled size (record c { page = o })) in
    subst R (sym e) refl

-- and over one of the stock
pub laid_new : (size : ℕ) (part : BlockPart) (xs : List ℕ) (c : Cell) (p : Page) → c.page ≡ None → IsReadyFor size part p → length xs ≡ part.length
    → record c { page = Some (record p { bytes = overlay part.at xs p.bytes }); dirty = true } ≡ dirtied (overlay part.at xs) (filled size c)
laid_new size part xs c p e ready many =
    let over : overlay part.at xs p.bytes ≡ overlay part.at xs (zeros size) = ready.over xs many in
    let new : Page → Cell = λ q. record c { page = Some q; dirty = true } in
    let page : Page = record (zero_page size) { bytes = overlay part.at xs (zeros size) } in
    let same : new (record p { bytes = overlay part.at xs p.bytes }) ≡ new page = λ i. new (record { number = ready.number i; bytes = over i }) in
    let R : Option Page → Type 0 = λ o. new page ≡ dirtied (overlay part.at xs) (filled size (record c { page = o })) in
    same ∙ subst R (sym e) refl

-- a page that a block has holds a part
pub own_fits : (size n : ℕ) (c : Cell) (p : Page) → HasWholePage size c → c.page ≡ Some p → n ≤ size → n ≤ length p.bytes
own_fits size n c p h e l = let W : Option Page → Type 0 = λ o. IfSome o (IsWholePage size) in let whole = subst W e h in omega (arith, whole)

pub lacks_none : (c : Cell) → c.page ≡ None → lacks_page c ≡ true
lacks_none c e = ap is_none e

pub lacks_some : (c : Cell) (p : Page) → c.page ≡ Some p → one_where (lacks_page c) ≡ 0
lacks_some c p e = ap (λ o. one_where (is_none o)) e

-- a block without a page is as it is without one
pub bare_same : (c : Cell) → c.page ≡ None → record c { page = None } ≡ c
bare_same c e = sym (ap (λ (o : Option Page). record c { page = o }) e)
