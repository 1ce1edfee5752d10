use Rattle.std.proofs.Common.{◌≡◌, ℕ, suc, ◌+◌, ◌-◌, ◌≤◌, ◌<◌, ◌⊎◌, inl, inr, Vec, true, List, [], ◌∷◌, ◌++◌, length, get_or, take, drop, sum, arith, refl, sym, ap, ◌∙◌, length-append}
use Rattle.std.proofs.lemmas.Bool.{cases_lt, le-ltb, lt-ltb}
use Rattle.std.proofs.lemmas.List.{append-nil, map-append, map_push, take-append-drop, take_more}
use Rattle.std.proofs.lemmas.List.Concat.{flat_map-append}
use Rattle.std.proofs.lemmas.List.Sums.{sum_by-cons}
use Rattle.iov_iter.specs.Home.{is_home}
use Rattle.iov_iter.specs.IovView.{start_in}
use Rattle.iov_iter.specs.Making.{bytes_in, lengths_of, numbered, page_sizes, sizes_of}

-- one more segment of those that are copied in
pub record Fills {A : Type 0} (size : ℕ) (segs : List (Vec ℕ A)) (i : ℕ) (s : Vec ℕ A) : Type 0 where
  pub bytes : bytes_in (take (i + 1) segs) ≡ bytes_in (take i segs) ++ s.items
  pub sizes : sizes_of size (lengths_of (take (i + 1) segs)) ≡ sizes_of size (lengths_of (take i segs)) ++ page_sizes size (length s.items)
  pub fits : length (sizes_of size (lengths_of (take i segs))) + length (page_sizes size (length s.items)) ≤ length (sizes_of size (lengths_of segs))

pub fills : {A : Type 0} (size : ℕ) (segs : List (Vec ℕ A)) (i : ℕ) (s : Vec ℕ A) → i < length segs → s ≡ get_or segs i s → Fills size segs i s
fills {A} size segs i s h e =
    let items : Vec ℕ A → List ℕ = λ v. v.items in
    let many : Vec ℕ A → ℕ = λ v. length v.items in
    let front : List ℕ = sizes_of size (lengths_of (take i segs)) in
    let sizes : sizes_of size (lengths_of (take (i + 1) segs)) ≡ front ++ page_sizes size (length s.items) =
    ap (λ l. sizes_of size (lengths_of l)) (take_more segs i s h) ∙ ap (sizes_of size) (map_push many (take i segs) (get_or segs i s))
    ∙ flat_map-append (page_sizes size) (lengths_of (take i segs)) (many (get_or segs i s) ∷ [])
    ∙ ap (λ b. front ++ b) (append-nil (page_sizes size (many (get_or segs i s))) ∙ ap (λ v. page_sizes size (many v)) (sym e)) in
    let all : sizes_of size (lengths_of segs) ≡ sizes_of size (lengths_of (take (i + 1) segs)) ++ sizes_of size (lengths_of (drop (i + 1) segs)) =
    ap (λ l. sizes_of size (lengths_of l)) (sym (take-append-drop (i + 1) segs)) ∙ ap (sizes_of size) (map-append many (take (i + 1) segs) (drop (i + 1) segs))
    ∙ flat_map-append (page_sizes size) (lengths_of (take (i + 1) segs)) (lengths_of (drop (i + 1) segs)) in
    record {
      bytes = ap bytes_in (take_more segs i s h) ∙ flat_map-append items (take i segs) (get_or segs i s ∷ [])
          ∙ ap (λ b. bytes_in (take i segs) ++ b) (append-nil (get_or segs i s).items ∙ ap items (sym e));
      sizes = sizes;
      fits = omega (arith, ap length sizes, ap length all, length-append front (page_sizes size (length s.items)), length-append (sizes_of size (lengths_of (take (i + 1) segs))) (sizes_of size (lengths_of (drop (i + 1) segs))));
    }

pub length_bytes_in : {A : Type 0} (segs : List (Vec ℕ A)) → length (bytes_in segs) ≡ sum (lengths_of segs)
length_bytes_in [] = refl
length_bytes_in (s ∷ ss) = omega (arith, length-append s.items (bytes_in ss), length_bytes_in ss, sum_by-cons (λ x. x) (length s.items) (lengths_of ss))

pub numbered_home : (k : ℕ) (xs : List ℕ) (b : ℕ) → b < start_in xs (length xs) → is_home (numbered k xs) b ≡ true
numbered_home k [] b h = absurd (omega arith)
numbered_home k (x ∷ xs) b h = at (cases_lt b x) (λ g. numbered_home (suc k) xs (b - x) (omega (arith, g)))
  where
    at : (b < x) ⊎ (x ≤ b) → (x ≤ b → is_home (numbered (suc k) xs) (b - x) ≡ true) → is_home (numbered k (x ∷ xs)) b ≡ true
    at (inl g) r = rw (lt-ltb b x g) refl
    at (inr g) r = rw (le-ltb b x g) (r g)
