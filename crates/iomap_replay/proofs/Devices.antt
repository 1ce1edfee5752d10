-- The blocks of a device, one list of given blocks after the other.
use Rattle.std.proofs.Common.{◌≡◌, ℕ, zero, suc, ◌+◌, ◌<◌, ◌≤◌, List, [], ◌∷◌, ◌++◌, length, replicate, refl, sym, ap, ◌∙◌, arith, true, false, nat_eq, nat_lt, Bool, ◌&&◌, eq-eqb, add-zero, drop, get_or, if◌then◌else◌, drop-cons, ◌-◌, take}
use Rattle.std.proofs.lemmas.Bool.{eqb-true, ltb-true}
use Rattle.std.specs.List.{list_all}
use Rattle.std.proofs.Math.ListN.{set}
use Rattle.iob_base.specs.DeviceBlock.{DeviceBlock, device_block, fresh_blocks}
use Rattle.io_model.specs.Contents.{Content, given_or}
use Rattle.iomap_replay.specs.Devices.{blocks_with, content_given}
use Rattle.iomap_replay.specs.Facts.{is_whole}
use Rattle.iomap_replay.specs.declared.job.Device.{Device}

-- both parts of a test that holds
pub and-left : (a b : Bool) → (a && b) ≡ true → a ≡ true
and-left true b e = refl
and-left false b e = e

pub and-right : (a b : Bool) → (a && b) ≡ true → b ≡ true
and-right true b e = e
and-right false b e = cc

-- one block more, at the end
pub blocks_with-suc : (content : ℕ → Content) (d n : ℕ)
    → blocks_with content d (suc n) ≡ blocks_with content d n ++ device_block (d + n) (content (d + n)) ∷ []
blocks_with-suc content d zero = rw (add-zero d) refl
blocks_with-suc content d (suc n) =
    ap (λ bs. device_block d (content d) ∷ bs) (blocks_with-suc content (d + 1) n ∙ (let e : d + 1 + n ≡ d + suc n = omega arith in rw e refl))

-- a device as it is made is one where nothing is given
pub fresh_blocks-given : (size fill n : ℕ) → fresh_blocks size fill n ≡ blocks_with (content_given [] (replicate size fill)) 0 n
fresh_blocks-given size fill zero = refl
fresh_blocks-given size fill (suc n) =
    rw (fresh_blocks-given size fill n) (sym (blocks_with-suc (content_given [] (replicate size fill)) 0 n ∙ (let e : 0 + n ≡ n = omega arith in rw e refl)))

pub length-blocks_with : (content : ℕ → Content) (d n : ℕ) → length (blocks_with content d n) ≡ n
length-blocks_with content d zero = refl
length-blocks_with content d (suc n) = ap suc (length-blocks_with content (d + 1) n)

-- a block that is given below changes none of these
given-below : (g : ℕ × List ℕ) (given : List (ℕ × List ℕ)) (others : Content) (d n : ℕ) → g.0 < d
    → blocks_with (content_given (g ∷ given) others) d n ≡ blocks_with (content_given given others) d n
given-below g given others d zero below = refl
given-below g given others d (suc n) below =
    let other : nat_eq g.0 d ≡ false = grind arith in
    rw (other, given-below g given others (d + 1) n (omega arith)) refl

-- a block that is given is written at its place
pub set-blocks_with : (given : List (ℕ × List ℕ)) (others bytes : Content) (k d n i : ℕ) → d + i ≡ k → i < n
    → set (blocks_with (content_given given others) d n) i (device_block k bytes) ≡ blocks_with (content_given ((k, bytes) ∷ given) others) d n
set-blocks_with given others bytes k d zero i place below = absurd (omega arith)
set-blocks_with given others bytes k d (suc n) zero place below =
    let here : nat_eq k d ≡ true = eq-eqb k d (omega arith) in
    let is : k ≡ d = omega arith in
    rw (here, given-below (k, bytes) given others (d + 1) n (omega arith)) (ap (λ j. device_block j bytes ∷ blocks_with (content_given given others) (d + 1) n) is)
set-blocks_with given others bytes k d (suc n) (suc i) place below =
    let other : nat_eq k d ≡ false = grind arith in
    rw (other, set-blocks_with given others bytes k (d + 1) n i (omega arith) (omega arith)) refl

-- an element of a list that passes as a whole passes
pub list_all-here : {X : Type 0} (p : X → Bool) (xs : List X) (i : ℕ) (d : X) → list_all p xs ≡ true → i < length xs → p (get_or xs i d) ≡ true
list_all-here p [] i d all within = absurd (omega arith)
list_all-here p (x ∷ xs) zero d all within = and-left (p x) (list_all p xs) all
list_all-here p (x ∷ xs) (suc i) d all within = list_all-here p xs i d (and-right (p x) (list_all p xs) all) (omega arith)

-- a list that passes as a whole passes from any place on
pub list_all-drop : {X : Type 0} (p : X → Bool) (n : ℕ) (xs : List X) → list_all p xs ≡ true → list_all p (drop n xs) ≡ true
list_all-drop p zero xs all = all
list_all-drop p (suc n) [] all = refl
list_all-drop p (suc n) (x ∷ xs) all = list_all-drop p n xs (and-right (p x) (list_all p xs) all)

-- a block of a device stands at its number, with its content
pub get_or-blocks_with : (content : ℕ → Content) (d n i : ℕ) (x : DeviceBlock) → i < n → get_or (blocks_with content d n) i x ≡ device_block (d + i) (content (d + i))
get_or-blocks_with content d zero i x below = absurd (omega arith)
get_or-blocks_with content d (suc n) zero x below = rw (add-zero d) refl
get_or-blocks_with content d (suc n) (suc i) x below =
    get_or-blocks_with content (d + 1) n i x (omega arith) ∙ (let e : d + 1 + i ≡ d + suc i = omega arith in rw e refl)

-- where the given blocks are whole, so is each block
pub length-given_or : (device : Device) (given : List (ℕ × List ℕ)) (others : Content) (d : ℕ) → list_all (is_whole device) given ≡ true
    → length others ≡ device.block_size → length (given_or given d others) ≡ device.block_size
length-given_or device [] others d all size = size
length-given_or device (g ∷ gs) others d all size =
    let whole = and-left (is_whole device g) (list_all (is_whole device) gs) all in
    given_case (nat_eq g.0 d) _ _ device.block_size (eqb-true _ _ (and-right (nat_lt g.0 device.blocks) (nat_eq (length g.1) device.block_size) whole))
    (length-given_or device gs others d (and-right (is_whole device g) (list_all (is_whole device) gs) all) size)
  where
    given_case : (b : Bool) (xs ys : Content) (n : ℕ) → length xs ≡ n → length ys ≡ n → length (if b then xs else ys) ≡ n
    given_case true xs ys n left right = left
    given_case false xs ys n left right = right

-- a given block that is whole is one of the device, and has its bytes
pub whole-here : (device : Device) (given : List (ℕ × List ℕ)) (i : ℕ) (g : ℕ × List ℕ) → list_all (is_whole device) given ≡ true → i < length given
    → g ≡ get_or given i g → (g.0 < device.blocks) × (length g.1 ≡ device.block_size)
whole-here device given i g all within is =
    let p : ℕ × List ℕ → Bool = is_whole device in
    let here : p (get_or given i g) ≡ true = list_all-here p given i g all within in
    let whole : p g ≡ true = ap p is ∙ here in (
      ltb-true _ _ (and-left (nat_lt g.0 device.blocks) (nat_eq (length g.1) device.block_size) whole),
      eqb-true _ _ (and-right (nat_lt g.0 device.blocks) (nat_eq (length g.1) device.block_size) whole),
    )

-- the next given block is written over the blocks where the later ones are given
pub set-next_given : (given : List (ℕ × List ℕ)) (others : Content) (n left : ℕ) (g : ℕ × List ℕ) → 0 < left → left ≤ length given
    → g ≡ get_or given (left - 1) g → g.0 < n
    → set (blocks_with (content_given (drop left given) others) 0 n) g.0 (device_block g.0 g.1) ≡ blocks_with (content_given (drop (left - 1) given) others) 0 n
set-next_given given others n left g some within is below =
    let next : drop (left - 1) given ≡ get_or given (left - 1) g ∷ drop (suc (left - 1)) given = drop-cons given (left - 1) g (omega arith) in
    let after : suc (left - 1) ≡ left = omega arith in
    let same : drop (left - 1) given ≡ g ∷ drop left given = next ∙ ap (λ h. h ∷ drop (suc (left - 1)) given) (sym is) ∙ ap (λ k. g ∷ drop k given) after in
    set-blocks_with (drop left given) others g.1 g.0 0 n g.0 (omega arith) below ∙ ap (λ gs. blocks_with (content_given gs others) 0 n) (sym same)

-- the blocks after the first so many
pub drop-blocks_with : (content : ℕ → Content) (d n k : ℕ) → drop k (blocks_with content d n) ≡ blocks_with content (d + k) (n - k)
drop-blocks_with content d n zero = rw (add-zero d) (let all : n ≡ n - 0 = omega arith in ap (blocks_with content d) all)
drop-blocks_with content d zero (suc k) = let none : 0 ≡ 0 - suc k = omega arith in ap (blocks_with content (d + suc k)) none
drop-blocks_with content d (suc n) (suc k) =
    let place : d + 1 + k ≡ d + suc k = omega arith in
    let many : n - k ≡ suc n - suc k = omega arith in
    drop-blocks_with content (d + 1) n k ∙ ap (λ p. blocks_with content p (n - k)) place ∙ ap (blocks_with content (d + suc k)) many

-- the first so many blocks
pub take-blocks_with : (content : ℕ → Content) (d n k : ℕ) → k ≤ n → take k (blocks_with content d n) ≡ blocks_with content d k
take-blocks_with content d n zero within = refl
take-blocks_with content d zero (suc k) within = absurd (omega arith)
take-blocks_with content d (suc n) (suc k) within = ap (λ bs. device_block d (content d) ∷ bs) (take-blocks_with content (d + 1) n k (omega arith))
