-- A mount of one cached file begins.
use Rattle.std.proofs.Common.{◌≡◌, ℕ, zero, suc, ◌+◌, ◌<◌, ◌≤◌, ◌*◌, ◌==◌, ◌^◌, cond, Bool, true, false, List, [], ◌∷◌, ◌++◌, length, map, get_or, set, refl, sym, ap, ◌∙◌, subst, arith, append-nil, length-append}
use Rattle.std.specs.Prelude.{◌&&◌, All, IsTrue, IfSome, Option, Some, None, nat_le, nat_lt, replicate, slice_get}
use Rattle.std.proofs.lemmas.Bool.Decides.{nat_tests}
use Rattle.std.proofs.lemmas.List.{length-replicate}
use Rattle.std.proofs.lemmas.List.Elements.{All-cons, All-head, All-map, All-nil, All-push, All-set, All-tail}
use Rattle.iob_base.specs.DeviceBlock.{DeviceBlock, device_block, fresh_blocks}
use Rattle.iob_base.specs.Layout.{Layout, layout}
use Rattle.iob_base.specs.declared.stamp.Mode.TheVariants.{Cached}
use Rattle.io_model.specs.declared.file.Extent.{Extent}
use Rattle.io_model.specs.declared.file.FileSpec.{FileSpec}
use Rattle.file_stripes.specs.Files.{IsFile, numbers_of_file, numbers_of_files}
use Rattle.file_stripes.specs.Taking.{AreInOrder, AreNamedOnce, IsWhole, times}
use Rattle.range_core.specs.RangeView.{RangeView}
use Rattle.range_core.specs.declared.entry.Entry.{Entry}
use Rattle.size_core.specs.SizesView.{SizesView}
use Rattle.turn_cell.specs.Views.{CellView, SeatView}
use Rattle.mount_parts.specs.FilePlaces.{place_of, places_from}
use Rattle.mount_parts.specs.FirstSizes.{MayHaveSize, first_sizes}
use Rattle.mount_parts.specs.MountView.{IsLaidOut, MountView, file_at, no_file}
use Rattle.mount_parts.specs.Pieces.{is_first_at}
use Rattle.mount_parts.specs.declared.file.FilePlace.{FilePlace}
use Rattle.mount_parts.proofs.Places.{set-length}
use Rattle.mini_fs.specs.PassView.{IsPassOf, PassView, SizeSeat, share_in}
use Rattle.mini_fs.specs.Starts.{Started, first_size_seat}
use Rattle.mini_fs.specs.Wholes.{HasWhole}
use Rattle.mini_fs.proofs.Layouts.{stripe-within}
use Rattle.worked_mounts.specs.Alone.{IsAlone, only_file, share_of}
use Rattle.worked_mounts.specs.Begins.{IsDevice, MayBegin, file_with, rise}
use Rattle.worked_mounts.specs.Others.{HasOther}

-- numbers that go up stand once, and below the end
both : (a b : Bool) → IsTrue (a && b) → IsTrue a × IsTrue b
both true true is = (refl, refl)
both true false is = absurd (cc)
both false b is = absurd (cc)

rise-tests : (low high d : ℕ) (ds : List ℕ) → IsTrue (rise low high (d ∷ ds)) → (low ≤ d) × (d < high) × IsTrue (rise (d + 1) high ds)
rise-tests low high d ds is =
    let one = both (nat_le low d) (nat_lt d high && rise (d + 1) high ds) is in
    let two = both (nat_lt d high) (rise (d + 1) high ds) one.1 in
    (least low d one.0, most d high two.0, two.1)
  where
    least : (a b : ℕ) → IsTrue (nat_le a b) → a ≤ b
    least a b h = grind (arith, nat_tests)

    most : (a b : ℕ) → IsTrue (nat_lt a b) → a < b
    most a b h = grind (arith, nat_tests)

rise-below : (low high : ℕ) (ds : List ℕ) → IsTrue (rise low high ds) → All (λ d. d < high) ds
rise-below low high [] is = All-nil (λ d. d < high)
rise-below low high (d ∷ ds) is =
    let t = rise-tests low high d ds is in
    All-cons (λ n. n < high) d ds t.1 (rise-below (d + 1) high ds t.2)

rise-times : (low high x : ℕ) (ds : List ℕ) → IsTrue (rise low high ds) → (x < low → times x ds ≡ 0) × (times x ds ≤ 1)
rise-times low high x [] is = ((λ h. refl), omega arith)
rise-times low high x (d ∷ ds) is =
    let t = rise-tests low high d ds is in
    step low x d (times x ds) t.0 (rise-times (d + 1) high x ds t.2)
  where
    step : (low x d n : ℕ) → low ≤ d → (x < d + 1 → n ≡ 0) × (n ≤ 1) → (x < low → cond (d == x) 1 0 + n ≡ 0) × (cond (d == x) 1 0 + n ≤ 1)
    step low x d n le h = grind (arith, nat_tests)

pub named-once : (high : ℕ) (ds : List ℕ) → IsTrue (rise 0 high ds) → AreNamedOnce high ds
named-once high ds is = record { below = rise-below 0 high ds is; once = λ x. (rise-times 0 high x ds is).1 }

-- a new device
order-push : (n : ℕ) (ss : List DeviceBlock) (s : DeviceBlock) → AreInOrder n ss → s.number ≡ n + length ss → AreInOrder n (ss ++ s ∷ [])
order-push n [] s order is = (omega arith, tt)
order-push n (t ∷ ss) s order is = (order.0, order-push (n + 1) ss s order.1 (omega arith))

fresh-length : (size fill n : ℕ) → length (fresh_blocks size fill n) ≡ n
fresh-length size fill zero = refl
fresh-length size fill (suc n) = omega (arith, fresh-length size fill n, length-append (fresh_blocks size fill n) (device_block n (replicate size fill) ∷ []))

fresh-order : (size fill n : ℕ) → AreInOrder 0 (fresh_blocks size fill n)
fresh-order size fill zero = tt
fresh-order size fill (suc n) = order-push 0 (fresh_blocks size fill n) (device_block n (replicate size fill)) (fresh-order size fill n) (omega (arith, fresh-length size fill n))

fresh-whole : (size fill n : ℕ) → All (IsWhole size) (fresh_blocks size fill n)
fresh-whole size fill zero = All-nil (IsWhole size)
fresh-whole size fill (suc n) = All-push (IsWhole size) (fresh_blocks size fill n) (device_block n (replicate size fill)) (fresh-whole size fill n) (length-replicate size fill)

pub fresh-device : (size fill n : ℕ) (ss : List DeviceBlock) → size ≡ 16 → ss ≡ fresh_blocks size fill n → IsDevice n ss
fresh-device size fill n ss is e = subst (IsDevice n) (sym e) (record { count = fresh-length size fill n; order = fresh-order size fill n; whole = subst (λ k. All (IsWhole k) (fresh_blocks size fill n)) is (fresh-whole size fill n) })

-- a block of a device with other bytes
order-set : (n i : ℕ) (ss : List DeviceBlock) (s t : DeviceBlock) → slice_get ss i ≡ Some s → t.number ≡ s.number → AreInOrder n ss → AreInOrder n (set ss i t)
order-set n i [] s t at same order = order
order-set n zero (x ∷ ss) s t at same order = let e : x ≡ s = cc in (same ∙ ap (λ (y : DeviceBlock). y.number) (sym e) ∙ order.0, order.1)
order-set n (suc i) (x ∷ ss) s t at same order = (order.0, order-set (n + 1) i ss s t at same order.1)

pub device-set : (n i : ℕ) (ss : List DeviceBlock) (s t : DeviceBlock) → slice_get ss i ≡ Some s → t.number ≡ s.number → length t.bytes ≡ 16 → IsDevice n ss → IsDevice n (set ss i t)
device-set n i ss s t at same whole is = record {
  count = set-length ss i t ∙ is.count;
  order = order-set 0 i ss s t at same is.order;
  whole = All-set (IsWhole 16) ss i t whole is.whole;
}

-- the requirements of a start
module _ (device blocks : ℕ) (size : Option ℕ) (cookie : ℕ) (extents : List Extent) (may : MayBegin device blocks size cookie extents) where
  abbrev pub file : FileSpec
  file = file_with blocks size extents

  pub files-are : All IsFile (file ∷ [])
  files-are = All-cons IsFile file [] may.file (All-nil IsFile)

  pub files-named : AreNamedOnce device (numbers_of_files (file ∷ []))
  files-named = subst (AreNamedOnce device) (sym (append-nil (numbers_of_file file))) (named-once device (numbers_of_file file) may.numbers)

  may-size : (o : Option ℕ) → IfSome o (λ n. n ≤ blocks * 16) → MayHaveSize 16 (file_with blocks o extents)
  may-size None is = tt
  may-size (Some n) is = (refl, is)

  pub files-sized : All (MayHaveSize 16) (file ∷ [])
  files-sized = All-cons (MayHaveSize 16) file [] (may-size size may.sized) (All-nil (MayHaveSize 16))

-- the first pass of any mount has all there is
pub start-whole : (g : Layout) (cookie : ℕ) (sectors : List DeviceBlock) (files : List FileSpec) (m : MountView) (p : PassView) → Started g cookie sectors files m p → HasWhole p
start-whole g cookie sectors files m p s = record {
  stripes = subst (All (λ (x : SeatView Entry). x.share ≡ 2 ^ 63)) (sym s.stripe_seats) (All-map (λ (x : SeatView Entry). x.share ≡ 2 ^ 63) is_first_at m.stripes (λ k d below. refl));
  sizes = subst (All (λ (x : SizeSeat). x.seat.share ≡ 2 ^ 63)) (sym s.size_seats) (All-map (λ (x : SizeSeat). x.seat.share ≡ 2 ^ 63) first_size_seat m.sizes (λ k d below. refl));
}

-- the first pass of such a mount
first-share : (cs : List (CellView RangeView)) → 0 < length cs → share_in (slice_get (map (is_first_at {E = Entry}) cs) 0) ≡ 2 ^ 63
first-share [] some = absurd (omega arith)
first-share (c ∷ cs) some = refl

none-seen : {A B : Type 0} (f : A → B) (xs : List A) → map f xs ≡ [] → xs ≡ []
none-seen f [] e = refl
none-seen f (x ∷ xs) e = absurd (cc)

module _ (cookie : ℕ) (first : FileSpec) (rest : List FileSpec) (sectors : List DeviceBlock) (m : MountView) (p : PassView) (some : 0 < first.blocks) (s : Started (layout 16 4) cookie sectors (first ∷ rest) m p) where
  at-first : file_at m only_file ≡ place_of first 0 0
  at-first = ap (λ fs. get_or fs 0 no_file) s.files_are

  pub start-share : IsLaidOut m → share_of p ≡ 2 ^ 63
  start-share laid =
      let has : 0 < length m.stripes = (let h = stripe-within m only_file 0 laid (subst (λ (f : FilePlace). 0 < f.blocks) (sym at-first) some) in omega (arith, h)) in
      ap (λ ss. share_in (slice_get ss 0)) s.stripe_seats ∙ first-share m.stripes has

  pub start-alone : first.mode ≡ Cached → IsLaidOut m → IsPassOf m p → IsAlone m p
  start-alone cached laid of =
      let n = share_of p in
      let whole : n ≡ 2 ^ 63 = start-share laid in
      record {
        geometry = s.geometry_is;
        exists = subst (λ fs. 0 < length fs) (sym s.files_are) (omega arith);
        cached = ap (λ (f : FilePlace). f.mode) at-first ∙ cached;
        of = of;
        shares = subst (All (λ (x : SeatView Entry). x.share ≡ n)) (sym s.stripe_seats) (All-map (λ (x : SeatView Entry). x.share ≡ n) is_first_at m.stripes (λ k d below. sym whole));
        size_shares = subst (All (λ (x : SizeSeat). x.seat.share ≡ n)) (sym s.size_seats) (All-map (λ (x : SizeSeat). x.seat.share ≡ n) first_size_seat m.sizes (λ k d below. sym whole));
        home = s.home;
      }

-- a mount of one file
module _ (cookie blocks : ℕ) (size : Option ℕ) (extents : List Extent) (sectors : List DeviceBlock) (m : MountView) (p : PassView) (s : Started (layout 16 4) cookie sectors (file_with blocks size extents ∷ []) m p) where
  pub start-none : size ≡ None → m.sizes ≡ []
  start-none none = none-seen (λ (c : CellView SizesView). c.opening) m.sizes (s.sizes ∙ ap (λ o. first_sizes 16 (file_with blocks o extents ∷ [])) none)

  pub start-one : length m.files ≡ 1
  start-one = ap length s.files_are

-- a mount of two files
pub start-other : (cookie : ℕ) (first second : FileSpec) (sectors : List DeviceBlock) (m : MountView) (p : PassView) → second.mode ≡ Cached → Started (layout 16 4) cookie sectors (first ∷ second ∷ []) m p → HasOther m
start-other cookie first second sectors m p cached s = record {
  exists = subst (λ fs. 1 < length fs) (sym s.files_are) (omega arith);
  cached = ap (λ fs. (get_or fs 1 no_file).mode) s.files_are ∙ cached;
}
