use Rattle.std.proofs.Common.{◌≡◌, ℕ, zero, suc, ◌+◌, ◌*◌, ◌/◌, ◌%◌, ◌≤◌, ◌<◌, min, List, [], ◌∷◌, ◌++◌, length, get_or, replicate, sum, ◌⊎◌, add-zero, arith, refl, sym, ap, ◌∙◌, subst, add_assoc, zero-add, length-append, inl, inr}
use Rattle.std.proofs.Math.Nat.{suc-add, mod-lt, div-add-mod', div-mul-le_self}
use Rattle.std.proofs.lemmas.Bool.{cases_lt}
use Rattle.std.proofs.lemmas.Nat.{le-div}
use Rattle.std.proofs.lemmas.List.Sums.{sum_by-cons}
use Rattle.std.proofs.lemmas.List.{length-replicate, get_or-replicate, get_or_append_left, get_or-append-add}
use Rattle.iov_iter.specs.IovView.{start_in}
use Rattle.iov_iter.specs.Making.{page_sizes, rest_size, sizes_of}
use Rattle.iov_iter.specs.Spots.{AreSome}

pub start_next : (xs : List ℕ) (i : ℕ) → i < length xs → start_in xs (suc i) ≡ start_in xs i + get_or xs i 0
start_next [] i h = absurd (omega arith)
start_next (x ∷ xs) zero h = omega arith
start_next (x ∷ xs) (suc i) h = ap (λ n. x + n) (start_next xs i (omega arith)) ∙ sym (add_assoc x _ _)

pub start_within : (xs : List ℕ) (i : ℕ) → start_in xs i ≤ start_in xs (length xs)
start_within xs zero = omega arith
start_within [] (suc i) = omega arith
start_within (x ∷ xs) (suc i) = omega (arith, start_within xs i)

pub start_append : (xs ys : List ℕ) (k : ℕ) → start_in (xs ++ ys) (length xs + k) ≡ start_in xs (length xs) + start_in ys k
start_append [] ys k = ap (start_in ys) (zero-add k) ∙ sym (zero-add (start_in ys k))
start_append (x ∷ xs) ys k = rw suc-add (ap (λ n. x + n) (start_append xs ys k) ∙ sym (add_assoc x _ _))

pub start_front : (xs ys : List ℕ) (k : ℕ) → k ≤ length xs → start_in (xs ++ ys) k ≡ start_in xs k
start_front xs ys zero h = refl
start_front [] ys (suc k) h = absurd (omega arith)
start_front (x ∷ xs) ys (suc k) h = ap (λ n. x + n) (start_front xs ys k (omega arith))

pub start_replicate : (q s k : ℕ) → k ≤ q → start_in (replicate q s) k ≡ k * s
start_replicate q s zero h = omega arith
start_replicate zero s (suc k) h = absurd (omega arith)
start_replicate (suc q) s (suc k) h = omega (arith, start_replicate q s k (omega arith))

pub some_at : (xs : List ℕ) (i : ℕ) → AreSome xs → i < length xs → 0 < get_or xs i 0
some_at [] i a h = absurd (omega arith)
some_at (x ∷ xs) zero a h = a.0
some_at (x ∷ xs) (suc i) a h = some_at xs i a.1 (omega arith)

pub some_append : (xs ys : List ℕ) → AreSome xs → AreSome ys → AreSome (xs ++ ys)
some_append [] ys a b = b
some_append (x ∷ xs) ys a b = (a.0, some_append xs ys a.1 b)

pub some_length : (xs : List ℕ) → AreSome xs → length xs ≤ start_in xs (length xs)
some_length [] a = omega arith
some_length (x ∷ xs) a = omega (arith, some_length xs a.1, a.0)

some_replicate : (q s : ℕ) → 0 < s → AreSome (replicate q s)
some_replicate zero s h = tt
some_replicate (suc q) s h = (h, some_replicate q s h)

some_rest : (r : ℕ) → AreSome (rest_size r)
some_rest zero = tt
some_rest (suc r) = (omega arith, tt)

pub some_page_sizes : (size n : ℕ) → 0 < size → AreSome (page_sizes size n)
some_page_sizes size n h = some_append (replicate (n / size) size) (rest_size (n % size)) (some_replicate (n / size) size h) (some_rest (n % size))

pub some_sizes : (size : ℕ) (lengths : List ℕ) → 0 < size → AreSome (sizes_of size lengths)
some_sizes size [] h = tt
some_sizes size (n ∷ ns) h = some_append (page_sizes size n) (sizes_of size ns) (some_page_sizes size n h) (some_sizes size ns h)

length_rest : (r : ℕ) → length (rest_size r) ≡ min 1 r
length_rest zero = refl
length_rest (suc r) = omega arith

-- how many pages a segment has
pub length_page_sizes : (size n : ℕ) → length (page_sizes size n) ≡ n / size + min 1 (n % size)
length_page_sizes size n = length-append (replicate (n / size) size) (rest_size (n % size)) ∙ ap2 (length-replicate (n / size) size) (length_rest (n % size))
  where
    ap2 : {a b c d : ℕ} → a ≡ b → c ≡ d → a + c ≡ b + d
    ap2 e f = cc

total_rest : (r : ℕ) → start_in (rest_size r) (length (rest_size r)) ≡ r
total_rest zero = refl
total_rest (suc r) = omega arith

-- the pages of a segment have as many bytes as it
pub total_page_sizes : (size n : ℕ) → start_in (page_sizes size n) (length (page_sizes size n)) ≡ n
total_page_sizes size n =
    let long : length (page_sizes size n) ≡ length (replicate (n / size) size) + length (rest_size (n % size)) = length-append (replicate (n / size) size) (rest_size (n % size)) in
    let whole : start_in (replicate (n / size) size) (length (replicate (n / size) size)) ≡ n / size * size =
    ap (start_in (replicate (n / size) size)) (length-replicate (n / size) size) ∙ start_replicate (n / size) size (n / size) (omega arith) in
    ap (start_in (page_sizes size n)) long
    ∙ start_append (replicate (n / size) size) (rest_size (n % size)) (length (rest_size (n % size)))
    ∙ omega (arith, whole, total_rest (n % size), div-add-mod' n size)

pub total_sizes : (size : ℕ) (lengths : List ℕ) → start_in (sizes_of size lengths) (length (sizes_of size lengths)) ≡ sum lengths
total_sizes size [] = refl
total_sizes size (n ∷ ns) =
    ap (start_in (sizes_of size (n ∷ ns))) (length-append (page_sizes size n) (sizes_of size ns))
    ∙ start_append (page_sizes size n) (sizes_of size ns) (length (sizes_of size ns))
    ∙ omega (arith, total_page_sizes size n, total_sizes size ns, sum_by-cons (λ x. x) n ns)

get_rest : (r : ℕ) → get_or (rest_size r) 0 0 ≡ r
get_rest zero = refl
get_rest (suc r) = refl

-- a byte of a segment: which of its pages has it, and where
pub record InSegment (size n left : ℕ) : Type 0 where
  pub page : left / size < length (page_sizes size n)
  pub inside : left % size < get_or (page_sizes size n) (left / size) 0
  pub byte : start_in (page_sizes size n) (left / size) + left % size ≡ left

pub in_segment : (size n left : ℕ) → 0 < size → left < n → InSegment size n left
in_segment size n left h g = at (cases_lt (left / size) (n / size))
  where
    q : left / size * size + left % size ≡ left
    q = div-add-mod' left size

    qn : n / size * size + n % size ≡ n
    qn = div-add-mod' n size

    low : left % size < size
    low = mod-lt left h

    most : left / size ≤ n / size
    most = le-div (left / size) n size h (omega (arith, div-mul-le_self left size))

    below : left / size ≤ n / size → start_in (page_sizes size n) (left / size) ≡ left / size * size
    below k = start_front (replicate (n / size) size) (rest_size (n % size)) (left / size) (rw (length-replicate (n / size) size) k) ∙ start_replicate (n / size) size (left / size) k

    at : (left / size < n / size) ⊎ (n / size ≤ left / size) → InSegment size n left
    at (inl k) = record {
      page = omega (arith, length_page_sizes size n);
      inside = subst (λ x. left % size < x) (sym (get_or_append_left (replicate (n / size) size) (rest_size (n % size)) 0 (left / size) (rw (length-replicate (n / size) size) k) ∙ get_or-replicate (n / size) (left / size) size 0 k)) low;
      byte = omega (arith, below (omega arith), q);
    }
    at (inr k) =
        let e : left / size ≡ n / size = omega (arith, most) in
        let f : left / size * size ≡ n / size * size = ap (λ x. x * size) e in
        let less : left % size < n % size = omega (arith, f, q, qn) in
        let there : get_or (page_sizes size n) (left / size) 0 ≡ n % size =
        ap (λ i. get_or (page_sizes size n) i 0) (e ∙ sym (length-replicate (n / size) size) ∙ sym (add-zero _))
        ∙ get_or-append-add (replicate (n / size) size) (rest_size (n % size)) 0 0 ∙ get_rest (n % size) in
        record {
          page = omega (arith, length_page_sizes size n);
          inside = subst (λ x. left % size < x) (sym there) less;
          byte = omega (arith, below most, q);
        }
