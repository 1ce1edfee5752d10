-- Stripes of a file, one after another.
use Rattle.std.proofs.Common.{◌≡◌, ℕ, ◌+◌, ◌-◌, ◌<◌, ◌≤◌, true, List, [], ◌∷◌, ◌++◌, length, take, drop, get_or, min, All, refl, sym, ◌∙◌, ap, subst, arith, append_assoc, length-append, length-drop, length-take}
use Rattle.std.proofs.lemmas.List.{append-nil, append_cancel_left, drop-append-le, drop-drop, drop_more, map-append, take-append-drop, take-append-le, take-map, take_all, take_more}
use Rattle.std.proofs.lemmas.List.Elements.{All-drop, All-take, filter_map-append}
use Rattle.std.proofs.Math.Seq.{take-add, take-append_seam}
use Rattle.iob_base.specs.DeviceBlock.{DeviceBlock}
use Rattle.io_model.specs.Fitting.{is_merged_from}
use Rattle.io_model.specs.Kinds.{device_number}
use Rattle.io_model.specs.declared.file.Extent.{Extent}
use Rattle.io_model.specs.declared.file.Kind.{Kind}
use Rattle.io_model.specs.declared.file.Kind.TheVariants.{Hole, Delalloc, Unwritten, Mapped}
use Rattle.io_model.specs.declared.file.FileSpec.{FileSpec}
use Rattle.file_stripes.specs.Files.{blocks_of_files, kinds_of_file, numbers_of_file, numbers_of_files}
use Rattle.file_stripes.specs.Kinds.{IsFirstKind, LiesIn, kinds_from, numbers_of}
use Rattle.file_stripes.specs.Runs.{IsFirstExtent, placed}
use Rattle.file_stripes.specs.Stripes.{AreStripes, IsStripe, kinds_in, sectors_in}
use Rattle.file_stripes.specs.Taking.{BeginsWith, sector_numbers}
use Rattle.file_stripes.specs.declared.stripe.Stripe.{Stripe}
use Rattle.file_stripes.proofs.KindLemmas.{length-kinds_from}
use Rattle.file_stripes.proofs.PlacedLemmas.{placed_kinds, placed_lie}
use Rattle.file_stripes.proofs.TakingLemmas.{length_numbers}

pub numbers-append : (xs ys : List Kind) → numbers_of (xs ++ ys) ≡ numbers_of xs ++ numbers_of ys
numbers-append xs ys = filter_map-append device_number xs ys

-- no block has two numbers
pub numbers-le : (ks : List Kind) → length (numbers_of ks) ≤ length ks
numbers-le [] = omega arith
numbers-le (Hole ∷ ks) = omega (arith, numbers-le ks)
numbers-le (Delalloc ∷ ks) = omega (arith, numbers-le ks)
numbers-le (Unwritten d ∷ ks) = omega (arith, numbers-le ks)
numbers-le (Mapped d ∷ ks) = omega (arith, numbers-le ks)

-- the first sectors have the first numbers
numbers_taken : (ns : List ℕ) (held : List DeviceBlock) → BeginsWith ns (sector_numbers held) → sector_numbers (take (length ns) held) ≡ ns
numbers_taken ns held b =
    sym (take-map (λ s. s.number) (length ns) held) ∙ ap (take (length ns)) b.1 ∙ take-append_seam ns b.0

-- what a stripe is made of
pub stripe_is : (first count : ℕ) (kinds : List Kind) (whole : List Extent) (held : List DeviceBlock) (s : Stripe) → s.first ≡ first → s.blocks ≡ length kinds → 0 < length kinds → first + length kinds ≤ 65536 → is_merged_from first (first + length kinds) whole ≡ true → kinds_from whole first (length kinds) ≡ kinds → All IsFirstExtent whole → s.extents ≡ placed whole → count ≡ length (numbers_of kinds) → s.sectors ≡ take count held → BeginsWith (numbers_of kinds) (sector_numbers held) → IsStripe first kinds s
stripe_is first count kinds whole held s at blocks some below merged says given extents counted sectors begins =
    let are : kinds_from s.extents s.first s.blocks ≡ kinds =
    ap (λ e. kinds_from e s.first s.blocks) extents ∙ ap (λ b. kinds_from (placed whole) b s.blocks) at ∙ ap (kinds_from (placed whole) first) blocks
    ∙ placed_kinds first (first + length kinds) (length kinds) whole merged given ∙ says in
    let numbers : sector_numbers s.sectors ≡ numbers_of kinds =
    ap sector_numbers sectors ∙ ap (λ n. sector_numbers (take n held)) counted ∙ numbers_taken (numbers_of kinds) held begins in
    let A : List Extent → Type 0 = λ es. All (LiesIn s.first s.blocks) es in
    record {
      first_is = at;
      blocks_are = blocks;
      some = omega arith;
      below = omega arith;
      whole = whole;
      merged = merged;
      extents_are = extents;
      kinds_are = are;
      inside = subst A (sym extents) (placed_lie s.first s.blocks first (first + length kinds) whole merged (omega arith) (omega arith) given);
      sectors_are = numbers ∙ ap numbers_of (sym are);
      few = omega (arith, sym (length_numbers s.sectors) ∙ ap length numbers, numbers-le kinds);
    }

-- how many blocks stripes have, where each is whole
abbrev pub wide : ℕ → List Stripe → ℕ
wide w [] = 0
wide w (s ∷ ss) = w + wide w ss

wide-more : (w : ℕ) (ss : List Stripe) (s : Stripe) → wide w (ss ++ s ∷ []) ≡ wide w ss + w
wide-more w [] s = omega arith
wide-more w (x ∷ ss) s = omega (arith, wide-more w ss s)

kinds_in-more : (ss : List Stripe) (s : Stripe) → kinds_in (ss ++ s ∷ []) ≡ kinds_in ss ++ kinds_from s.extents s.first s.blocks
kinds_in-more [] s = append-nil (kinds_from s.extents s.first s.blocks)
kinds_in-more (x ∷ ss) s =
    ap (λ l. kinds_from x.extents x.first x.blocks ++ l) (kinds_in-more ss s)
    ∙ sym (append_assoc (kinds_from x.extents x.first x.blocks) (kinds_in ss) (kinds_from s.extents s.first s.blocks))

sectors_in-more : (ss : List Stripe) (s : Stripe) → sectors_in (ss ++ s ∷ []) ≡ sectors_in ss ++ s.sectors
sectors_in-more [] s = append-nil s.sectors
sectors_in-more (x ∷ ss) s = ap (λ l. x.sectors ++ l) (sectors_in-more ss s) ∙ sym (append_assoc x.sectors (sectors_in ss) s.sectors)

drop_short : {A : Type 0} (n : ℕ) (xs : List A) → length xs ≤ n → drop n xs ≡ []
drop_short n xs h = append_cancel_left (take n xs) (drop n xs) [] (take-append-drop n xs ∙ sym (take_all n xs h) ∙ sym (append-nil (take n xs)))

-- one stripe more, behind whole ones
are_more : (w b : ℕ) (ks ms : List Kind) (ss : List Stripe) (s : Stripe) → length ks ≡ wide w ss → length ms ≤ w → AreStripes w b ks ss → IsStripe (b + length ks) ms s → AreStripes w b (ks ++ ms) (ss ++ s ∷ [])
are_more w b ks ms [] s full short are is =
    let none : ks ≡ [] = are in
    let at : b + length ks ≡ b = omega arith in
    let first : take w (ks ++ ms) ≡ ms = ap (λ l. take w (l ++ ms)) none ∙ take_all w ms short in
    let rest : drop w (ks ++ ms) ≡ [] = ap (λ l. drop w (l ++ ms)) none ∙ drop_short w ms short in
    let P : ℕ → Type 0 = λ x. IsStripe x ms s in
    let Q : List Kind → Type 0 = λ l. IsStripe b l s in
    (subst Q (sym first) (subst P at is), rest)
are_more w b ks ms (x ∷ ss) s full short are is =
    let long : w ≤ length ks = omega arith in
    let rest : length (drop w ks) ≡ wide w ss = omega (arith, length-drop w ks) in
    let at : b + length ks ≡ b + w + length (drop w ks) = omega (arith, length-drop w ks) in
    let P : ℕ → Type 0 = λ y. IsStripe y ms s in
    let Q : List Kind → Type 0 = λ l. IsStripe b l x in
    let R : List Kind → Type 0 = λ l. AreStripes w (b + w) l (ss ++ s ∷ []) in (
      subst Q (sym (take-append-le w ks ms long)) are.0,
      subst R (sym (drop-append-le w ks ms long)) (are_more w (b + w) (drop w ks) ms ss s rest short are.1 (subst P at is)),
    )

-- the stripes of the blocks below one, and the sectors that are left
pub record Cutting (w : ℕ) (kinds : List Kind) (low : ℕ) (stripes : List Stripe) (old held : List DeviceBlock) : Type 0 where
  pub within : low ≤ length kinds
  pub full : low < length kinds → low ≡ wide w stripes
  pub are : AreStripes w 0 (take low kinds) stripes
  pub joined : kinds_in stripes ≡ take low kinds
  pub sectors : sectors_in stripes ++ held ≡ old
  pub numbers : sector_numbers (sectors_in stripes) ≡ numbers_of (take low kinds)
  pub begins : BeginsWith (numbers_of (drop low kinds)) (sector_numbers held)

pub cutting_none : (w : ℕ) (kinds : List Kind) (held : List DeviceBlock) → BeginsWith (numbers_of kinds) (sector_numbers held) → Cutting w kinds 0 [] held held
cutting_none w kinds held b = record { within = omega arith; full = λ h. refl; are = refl; joined = refl; sectors = refl; numbers = refl; begins = b }

-- what a cut leaves
pub record Cut (kinds : List Kind) (low high : ℕ) (ms : List Kind) : Type 0 where
  pub parts : drop low kinds ≡ ms ++ drop high kinds
  pub taken : take high kinds ≡ take low kinds ++ ms
  pub length_is : length ms ≡ high - low

pub cut_at : (kinds : List Kind) (low high : ℕ) → low ≤ high → high ≤ length kinds → Cut kinds low high (take (high - low) (drop low kinds))
cut_at kinds low high h m =
    let n : low + (high - low) ≡ high = omega arith in
    record {
      parts = sym (take-append-drop (high - low) (drop low kinds)) ∙ ap (λ l. take (high - low) (drop low kinds) ++ l) (drop-drop (high - low) low kinds ∙ ap (λ x. drop x kinds) n);
      taken = ap (λ x. take x kinds) (sym n) ∙ take-add low (high - low) kinds;
      length_is = omega (arith, length-take (high - low) (drop low kinds), length-drop low kinds);
    }

begins_at : (w low high : ℕ) (kinds ms : List Kind) (stripes : List Stripe) (old held : List DeviceBlock) (c : Cutting w kinds low stripes old held) → Cut kinds low high ms → sector_numbers held ≡ numbers_of ms ++ (numbers_of (drop high kinds) ++ c.begins.0)
begins_at w low high kinds ms stripes old held c k =
    let rest : List ℕ = c.begins.0 in
    c.begins.1 ∙ ap (λ l. numbers_of l ++ rest) k.parts ∙ ap (λ l. l ++ rest) (numbers-append ms (drop high kinds)) ∙ append_assoc (numbers_of ms) (numbers_of (drop high kinds)) rest

-- the next sectors are those of the next stripe
pub begins_next : (w low high : ℕ) (kinds ms : List Kind) (stripes : List Stripe) (old held : List DeviceBlock) → Cutting w kinds low stripes old held → Cut kinds low high ms → BeginsWith (numbers_of ms) (sector_numbers held)
begins_next w low high kinds ms stripes old held c k = (numbers_of (drop high kinds) ++ c.begins.0, begins_at w low high kinds ms stripes old held c k)

-- the next blocks of a file
pub cut_here : (w low high : ℕ) (kinds xs : List Kind) → xs ≡ kinds → low < length kinds → high ≡ min (length kinds) (low + w) → Cut kinds low high (take (high - low) (drop low xs))
cut_here w low high kinds xs is more at =
    let C : List Kind → Type 0 = λ l. Cut kinds low high (take (high - low) (drop low l)) in
    subst C (sym is) (cut_at kinds low high (omega arith) (omega arith))

pub few_next : (low high : ℕ) (kinds xs : List Kind) → xs ≡ kinds → low < length kinds → length kinds ≤ 65536 → low + length (take (high - low) (drop low xs)) ≤ 65536
few_next low high kinds xs is more few = omega (arith, length-take (high - low) (drop low xs), length-drop low xs, ap length is)

pub given_next : (low high : ℕ) (kinds xs : List Kind) → xs ≡ kinds → All IsFirstKind kinds → All IsFirstKind (take (high - low) (drop low xs))
given_next low high kinds xs is given =
    let A : List Kind → Type 0 = λ l. All IsFirstKind l in
    All-take IsFirstKind (high - low) (drop low xs) (All-drop IsFirstKind low xs (subst A (sym is) given))

pub cutting_more : (w low high : ℕ) (kinds ms : List Kind) (stripes new : List Stripe) (s : Stripe) (old held rest : List DeviceBlock) → low < length kinds → high ≡ min (length kinds) (low + w) → Cutting w kinds low stripes old held → Cut kinds low high ms → IsStripe low ms s → s.sectors ++ rest ≡ held → new ≡ stripes ++ s ∷ [] → Cutting w kinds high new old rest
cutting_more w low high kinds ms stripes new s old held rest more at c k is moved n =
    let full : low ≡ wide w stripes = c.full more in
    let first : length (take low kinds) ≡ low = omega (arith, length-take low kinds) in
    let numbers : sector_numbers s.sectors ≡ numbers_of ms = is.sectors_are ∙ ap numbers_of is.kinds_are in
    let S : List Stripe → Type 0 = λ l. AreStripes w 0 (take high kinds) l in
    let K : List Kind → Type 0 = λ l. AreStripes w 0 l (stripes ++ s ∷ []) in
    let P : ℕ → Type 0 = λ x. IsStripe x ms s in
    record {
      within = omega arith;
      full = λ h. omega (arith, wide-more w stripes s, ap (wide w) n);
      are = subst S (sym n) (subst K (sym k.taken) (are_more w 0 (take low kinds) ms stripes s (first ∙ full) (omega (arith, k.length_is)) c.are (subst P (omega (arith, first)) is)));
      joined = ap kinds_in n ∙ kinds_in-more stripes s ∙ ap (λ l. kinds_in stripes ++ l) is.kinds_are ∙ ap (λ l. l ++ ms) c.joined ∙ sym k.taken;
      sectors = ap (λ l. sectors_in l ++ rest) n ∙ ap (λ l. l ++ rest) (sectors_in-more stripes s) ∙ append_assoc (sectors_in stripes) s.sectors rest ∙ ap (λ l. sectors_in stripes ++ l) moved ∙ c.sectors;
      numbers =
          ap (λ l. sector_numbers (sectors_in l)) n ∙ ap sector_numbers (sectors_in-more stripes s) ∙ map-append (λ x. x.number) (sectors_in stripes) s.sectors
          ∙ ap (λ l. l ++ sector_numbers s.sectors) c.numbers ∙ ap (λ l. numbers_of (take low kinds) ++ l) numbers
          ∙ sym (numbers-append (take low kinds) ms) ∙ ap numbers_of (sym k.taken);
      begins = (
        c.begins.0,
        append_cancel_left (numbers_of ms) (sector_numbers rest) (numbers_of (drop high kinds) ++ c.begins.0)
            (ap (λ l. l ++ sector_numbers rest) (sym numbers) ∙ sym (map-append (λ x. x.number) s.sectors rest) ∙ ap sector_numbers moved ∙ begins_at w low high kinds ms stripes old held c k),
      );
    }

-- one kind more is counted
pub counted_more : (ks : List Kind) (i : ℕ) (d : Kind) (count one : ℕ) → i < length ks → count ≡ length (numbers_of (take i ks)) → one ≡ length (numbers_of (get_or ks i d ∷ [])) → count + one ≡ length (numbers_of (take (i + 1) ks))
counted_more ks i d count one h c o =
    let parts : numbers_of (take (i + 1) ks) ≡ numbers_of (take i ks) ++ numbers_of (get_or ks i d ∷ []) =
    ap numbers_of (take_more ks i d h) ∙ numbers-append (take i ks) (get_or ks i d ∷ []) in
    omega (arith, ap length parts, length-append (numbers_of (take i ks)) (numbers_of (get_or ks i d ∷ [])))

-- no more than the blocks
pub counted_le : (ks : List Kind) (i n : ℕ) → n ≡ length (numbers_of (take i ks)) → n ≤ length ks
counted_le ks i n h = omega (arith, numbers-le (take i ks), length-take i ks)

-- the numbers of the blocks from one on, block after block
pub numbers_next : (ks : List Kind) (i : ℕ) (d : Kind) → i < length ks → numbers_of (drop i ks) ≡ numbers_of (get_or ks i d ∷ []) ++ numbers_of (drop (i + 1) ks)
numbers_next ks i d h = ap numbers_of (drop_more ks i d h) ∙ numbers-append (get_or ks i d ∷ []) (drop (i + 1) ks)

-- one sector more is taken
pub taken_more : (n : ℕ) (old held taken new rest : List DeviceBlock) → taken ≡ take n old → held ≡ drop n old → new ≡ taken ++ take 1 held → rest ≡ drop 1 held → (new ≡ take (n + 1) old) × (rest ≡ drop (n + 1) old)
taken_more n old held taken new rest t h e r = (
  e ∙ ap (λ l. l ++ take 1 held) t ∙ ap (λ l. take n old ++ take 1 l) h ∙ sym (take-add n 1 old),
  r ∙ ap (drop 1) h ∙ drop-drop 1 n old,
)

-- no file has more sectors than blocks
pub numbers_files-le : (files : List FileSpec) → length (numbers_of_files files) ≤ blocks_of_files files
numbers_files-le [] = omega arith
numbers_files-le (file ∷ files) =
    omega (arith, length-append (numbers_of_file file) (numbers_of_files files), numbers-le (kinds_of_file file), length-kinds_from file.extents 0 file.blocks, numbers_files-le files)
