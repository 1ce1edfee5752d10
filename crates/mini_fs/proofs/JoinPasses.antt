-- What becomes of two passes that are joined.
use Rattle.std.proofs.Common.{◌≡◌, ◌⊎◌, ℕ, zero, suc, ◌+◌, List, [], ◌∷◌, length, map, inl, inr, Some, refl, sym, ap, ◌∙◌, subst, arith}
use Rattle.std.specs.Prelude.{slice_get, All}
use Rattle.std.proofs.lemmas.List.{length-map}
use Rattle.std.proofs.lemmas.Option.{none-some}
use Rattle.std.proofs.lemmas.Bool.{false≢true}
use Rattle.turn_cell.specs.Views.{CellView, SeatView, joined}
use Rattle.turn_cell.proofs.Beginnings.{begins-then}
use Rattle.range_core.specs.ClaimsView.{ClaimsView, merged_claims}
use Rattle.range_core.specs.RangeView.{RangeView}
use Rattle.range_core.specs.declared.entry.Entry.{Entry}
use Rattle.size_core.specs.ClaimsView as size
use Rattle.size_core.specs.declared.entry.SizeEntry.{SizeEntry}
use Rattle.mini_fs.specs.Joins.{AreOneHistory, AreOneSizeHistory, BothBegin, JoinedHistories, MergeSizes, MergeStripes, joined_pass, joined_size, joined_size_place, joined_stripe_place, paired}
use Rattle.mount_parts.specs.MountView.{MountView}
use Rattle.mini_fs.specs.PassView.{IsPassOf, IsSizeSeat, PassView, SizeSeat, own_claims, size_claims, size_seat}
use Rattle.mini_fs.specs.Places.{SizePlace, StripePlace, size_place, stripe_place}
use Rattle.mini_fs.specs.Tickets.{KeepsTickets}
use Rattle.mini_fs.proofs.Through.{all-from}
use Rattle.mount_parts.proofs.Places.{all-at, map-there, same-length, there, within}

module _ {S V : Type 0} where
  -- what is seen in a place is a seat there
  pub seen-at : (f : S → V) (ss : List S) (k : ℕ) (v : V) → slice_get (map f ss) k ≡ Some v → (s : S) × (slice_get ss k ≡ Some s) × (v ≡ f s)
  seen-at f ss k v at =
      let w = within (map f ss) k v at in
      let s = there ss k (omega (arith, length-map ss f)) in
      let both : Some v ≡ Some (f s.0) = sym at ∙ map-there f ss k s.0 s.1 in
      (s.0, s.1, cc)

module _ {A : Type 0} where
  pub paired-length : {B : Type 0} (f : A → B → A) (xs : List A) (ys : List B) → length (paired f xs ys) ≡ length xs
  paired-length f [] ys = refl
  paired-length f (x ∷ xs) [] = refl
  paired-length f (x ∷ xs) (y ∷ ys) = ap suc (paired-length f xs ys)

  pub paired-at : {B : Type 0} (f : A → B → A) (xs : List A) (ys : List B) (k : ℕ) (x : A) (y : B) → slice_get xs k ≡ Some x → slice_get ys k ≡ Some y → slice_get (paired f xs ys) k ≡ Some (f x y)
  paired-at f [] ys k x y atx aty = absurd (none-some x atx)
  paired-at f (a ∷ xs) [] k x y atx aty = absurd (none-some y aty)
  paired-at f (a ∷ xs) (b ∷ ys) zero x y atx aty = let e : a ≡ x = cc in let h : b ≡ y = cc in (λ j. Some (f (e j) (h j)))
  paired-at f (a ∷ xs) (b ∷ ys) (suc k) x y atx aty = paired-at f xs ys k x y atx aty

  pub paired-kept : {B D : Type 0} (f : A → B → A) (h : A → D) → ((x : A) (y : B) → h (f x y) ≡ h x) → (xs : List A) (ys : List B) → map h (paired f xs ys) ≡ map h xs
  paired-kept f h kept [] ys = refl
  paired-kept f h kept (x ∷ xs) [] = refl
  paired-kept f h kept (x ∷ xs) (y ∷ ys) = (λ j. kept x y j ∷ paired-kept f h kept xs ys j)

module _ {S V B : Type 0} where
  -- lists that are joined are seen joined
  pub paired-seen : (place : S → V) (f : V → V → V) (h : V → B) (k : B → B → B) → ((v w : V) → h (f v w) ≡ k (h v) (h w)) → (zs xs ys : List S) → map place zs ≡ paired f (map place xs) (map place ys) → map (λ s. h (place s)) zs ≡ paired k (map (λ s. h (place s)) xs) (map (λ s. h (place s)) ys)
  paired-seen place f h k same zs xs ys is = sym (twice zs) ∙ ap (map h) is ∙ each xs ys
    where
      twice : (ss : List S) → map h (map place ss) ≡ map (λ s. h (place s)) ss
      twice [] = refl
      twice (s ∷ ss) = ap (λ l. h (place s) ∷ l) (twice ss)

      each : (ss ts : List S) → map h (paired f (map place ss) (map place ts)) ≡ paired k (map (λ s. h (place s)) ss) (map (λ s. h (place s)) ts)
      each [] ts = refl
      each (s ∷ ss) [] = ap (λ l. h (place s) ∷ l) (twice ss)
      each (s ∷ ss) (t ∷ ts) = (λ j. same (place s) (place t) j ∷ each ss ts j)

-- the joined pass is of the mount
pub of-joined : (m : MountView) (p from : PassView) → IsPassOf m p → IsPassOf m (joined_pass p from)
of-joined m p from is = record {
  stripes = paired-kept joined (λ (s : SeatView Entry). s.cell) (λ x y. refl) p.stripes from.stripes ∙ is.stripes;
  sizes = paired-kept joined_size (λ (s : SizeSeat). s.seat.cell) (λ x y. refl) p.sizes from.sizes ∙ is.sizes;
  locks = is.locks;
  queue = is.queue;
}

-- its tickets stay
pub tickets-joined : (m : MountView) (p from : PassView) → IsPassOf m p → IsPassOf m from → JoinedHistories p from → KeepsTickets p (joined_pass p from)
tickets-joined m p from of other both t is =
    let w = within p.stripes t.stripe is.seat is.here in
    let l = same-length (λ (s : SeatView Entry). s.cell) (λ (c : CellView RangeView). c.cell) p.stripes m.stripes of.stripes in
    let k = same-length (λ (s : SeatView Entry). s.cell) (λ (c : CellView RangeView). c.cell) from.stripes m.stripes other.stripes in
    let u = there from.stripes t.stripe (omega arith) in
    record {
      caller = is.caller;
      seat = joined is.seat u.0;
      here = paired-at joined p.stripes from.stripes t.stripe is.seat u.0 is.here u.1;
      loan = record { cell = is.loan.cell; begins = begins-then _ _ _ is.loan.begins (both.stripes t.stripe is.seat u.0 is.here u.1).0; made = is.loan.made; share = is.loan.share };
    }

module _ {S : Type 0} (view : S → SeatView Entry) (claims : S → ClaimsView) where
  pub stripes-merge : (ss ts : List S) (c d n o : ℕ) → All (λ s. claims s ≡ own_claims c n) ss → All (λ s. claims s ≡ own_claims d o) ts → (n ≡ 0) ⊎ (o ≡ 0) → MergeStripes (map (λ s. stripe_place (view s) (claims s)) ss) (map (λ s. stripe_place (view s) (claims s)) ts)
  stripes-merge ss ts c d n o mine theirs one k x y atx aty =
      let s = seen-at (λ s'. stripe_place (view s') (claims s')) ss k x atx in
      let t = seen-at (λ s'. stripe_place (view s') (claims s')) ts k y aty in
      let ex : x.claims ≡ own_claims c n = ap (λ (p : StripePlace). p.claims) s.2 ∙ all-at (λ s'. claims s' ≡ own_claims c n) ss k s.0 mine s.1 in
      let ey : y.claims ≡ own_claims d o = ap (λ (p : StripePlace). p.claims) t.2 ∙ all-at (λ s'. claims s' ≡ own_claims d o) ts k t.0 theirs t.1 in
      record {
        one_held = inl (ap (λ (l : ClaimsView). l.held) ex);
        one_spare = elim one [ inl e ↦ inl (ap (λ (l : ClaimsView). l.spare) ex ∙ e) | inr e ↦ inr (ap (λ (l : ClaimsView). l.spare) ey ∙ e) ];
        own = λ f. absurd (false≢true (sym f ∙ ap (λ (l : ClaimsView). l.main) ey));
      }

module _ {S : Type 0} (view : S → SeatView SizeEntry) (claims : S → size.ClaimsView) where
  pub sizes-merge : (ss ts : List S) (c d n o : ℕ) → All (λ s. IsSizeSeat c n (claims s)) ss → All (λ s. IsSizeSeat d o (claims s)) ts → (n ≡ 0) ⊎ (o ≡ 0) → All (λ s. s.rooms ≡ 0) (map (λ s. size_seat (view s) (claims s)) ts) → MergeSizes (map (λ s. size_place (view s) (claims s)) ss) (map (λ s. size_place (view s) (claims s)) ts)
  sizes-merge ss ts c d n o mine theirs one rooms k x y atx aty =
      let s = seen-at (λ s'. size_place (view s') (claims s')) ss k x atx in
      let t = seen-at (λ s'. size_place (view s') (claims s')) ts k y aty in
      let ms : IsSizeSeat c n (claims s.0) = all-at (λ s'. IsSizeSeat c n (claims s')) ss k s.0 mine s.1 in
      let mt : IsSizeSeat d o (claims t.0) = all-at (λ s'. IsSizeSeat d o (claims s')) ts k t.0 theirs t.1 in
      let nx : x.claims.spare ≡ n = ap (λ (p : SizePlace). p.claims.spare) s.2 ∙ ap (λ (l : size.ClaimsView). l.spare) ms in
      let ny : y.claims.spare ≡ o = ap (λ (p : SizePlace). p.claims.spare) t.2 ∙ ap (λ (l : size.ClaimsView). l.spare) mt in
      let r : (claims t.0).rooms ≡ 0 = all-at (λ (v : SizeSeat). v.rooms ≡ 0) (map (λ s'. size_seat (view s') (claims s')) ts) k (size_seat (view t.0) (claims t.0)) rooms (map-there (λ s'. size_seat (view s') (claims s')) ts k t.0 t.1) in
      record {
        one_spare = elim one [ inl e ↦ inl (nx ∙ e) | inr e ↦ inr (ny ∙ e) ];
        one_room = inr (ap (λ (p : SizePlace). p.claims.rooms) t.2 ∙ r);
      }

-- the claims of the seats that are joined are those of one pass
module _ {S : Type 0} (view : S → SeatView Entry) (claims : S → ClaimsView) where
  pub stripes-both : (zs ss ts : List S) (c d n o : ℕ) → length ss ≡ length ts → map (λ s. stripe_place (view s) (claims s)) zs ≡ paired joined_stripe_place (map (λ s. stripe_place (view s) (claims s)) ss) (map (λ s. stripe_place (view s) (claims s)) ts)
      → All (λ s. claims s ≡ own_claims c n) ss → All (λ s. claims s ≡ own_claims d o) ts → All (λ s. claims s ≡ own_claims c (n + o)) zs
  stripes-both zs ss ts c d n o long is mine theirs = all-from (λ s. claims s ≡ own_claims c (n + o)) zs (λ k z at.
      let w = within zs k z at in
      let lz : length (map (λ s. stripe_place (view s) (claims s)) zs) ≡ length (map (λ s. stripe_place (view s) (claims s)) ss) = ap length is ∙ paired-length joined_stripe_place (map (λ s. stripe_place (view s) (claims s)) ss) (map (λ s. stripe_place (view s) (claims s)) ts) in
      let a = length-map zs (λ s. stripe_place (view s) (claims s)) in
      let b = length-map ss (λ s. stripe_place (view s) (claims s)) in
      let s = there ss k (omega arith) in
      let t = there ts k (omega arith) in
      let both = paired-at joined_stripe_place (map (λ s. stripe_place (view s) (claims s)) ss) (map (λ s. stripe_place (view s) (claims s)) ts) k _ _ (map-there (λ s. stripe_place (view s) (claims s)) ss k s.0 s.1) (map-there (λ s. stripe_place (view s) (claims s)) ts k t.0 t.1) in
      let one : Some (stripe_place (view z) (claims z)) ≡ Some (joined_stripe_place (stripe_place (view s.0) (claims s.0)) (stripe_place (view t.0) (claims t.0))) = sym (map-there (λ s. stripe_place (view s) (claims s)) zs k z at) ∙ ap (λ l. slice_get l k) is ∙ both in
      let e : stripe_place (view z) (claims z) ≡ joined_stripe_place (stripe_place (view s.0) (claims s.0)) (stripe_place (view t.0) (claims t.0)) = cc in
      let cs : claims s.0 ≡ own_claims c n = all-at (λ s'. claims s' ≡ own_claims c n) ss k s.0 mine s.1 in
      let ct : claims t.0 ≡ own_claims d o = all-at (λ s'. claims s' ≡ own_claims d o) ts k t.0 theirs t.1 in
      ap (λ (p : StripePlace). p.claims) e ∙ (λ j. merged_claims (cs j) (ct j)))

module _ {S : Type 0} (view : S → SeatView SizeEntry) (claims : S → size.ClaimsView) where
  pub sizes-both : (zs ss ts : List S) (c d n o : ℕ) → length ss ≡ length ts → map (λ s. size_place (view s) (claims s)) zs ≡ paired joined_size_place (map (λ s. size_place (view s) (claims s)) ss) (map (λ s. size_place (view s) (claims s)) ts)
      → All (λ s. IsSizeSeat c n (claims s)) ss → All (λ s. IsSizeSeat d o (claims s)) ts → All (λ s. IsSizeSeat c (n + o) (claims s)) zs
  sizes-both zs ss ts c d n o long is mine theirs = all-from (λ s. IsSizeSeat c (n + o) (claims s)) zs (λ k z at.
      let w = within zs k z at in
      let lz : length (map (λ s. size_place (view s) (claims s)) zs) ≡ length (map (λ s. size_place (view s) (claims s)) ss) = ap length is ∙ paired-length joined_size_place (map (λ s. size_place (view s) (claims s)) ss) (map (λ s. size_place (view s) (claims s)) ts) in
      let a = length-map zs (λ s. size_place (view s) (claims s)) in
      let b = length-map ss (λ s. size_place (view s) (claims s)) in
      let s = there ss k (omega arith) in
      let t = there ts k (omega arith) in
      let both = paired-at joined_size_place (map (λ s. size_place (view s) (claims s)) ss) (map (λ s. size_place (view s) (claims s)) ts) k _ _ (map-there (λ s. size_place (view s) (claims s)) ss k s.0 s.1) (map-there (λ s. size_place (view s) (claims s)) ts k t.0 t.1) in
      let one : Some (size_place (view z) (claims z)) ≡ Some (joined_size_place (size_place (view s.0) (claims s.0)) (size_place (view t.0) (claims t.0))) = sym (map-there (λ s. size_place (view s) (claims s)) zs k z at) ∙ ap (λ l. slice_get l k) is ∙ both in
      let e : size_place (view z) (claims z) ≡ joined_size_place (size_place (view s.0) (claims s.0)) (size_place (view t.0) (claims t.0)) = cc in
      let cs : IsSizeSeat c n (claims s.0) = all-at (λ s'. IsSizeSeat c n (claims s')) ss k s.0 mine s.1 in
      let ct : IsSizeSeat d o (claims t.0) = all-at (λ s'. IsSizeSeat d o (claims s')) ts k t.0 theirs t.1 in
      let f : claims z ≡ size_claims c (n + o) ((claims s.0).rooms + (claims t.0).rooms) = ap (λ (p : SizePlace). p.claims) e ∙ (λ j. size.merged_claims (cs j) (ct j)) in
      f ∙ ap (size_claims c (n + o)) (sym (ap (λ (l : size.ClaimsView). l.rooms) f)))

module _ {S Z : Type 0} (view : S → SeatView Entry) (claims : S → ClaimsView) (look : Z → SeatView SizeEntry) (sized : Z → size.ClaimsView) where
  pub joined-histories : (ss ts : List S) (us vs : List Z) (p from : PassView) → map view ss ≡ p.stripes → map view ts ≡ from.stripes → map (λ z. size_seat (look z) (sized z)) us ≡ p.sizes → map (λ z. size_seat (look z) (sized z)) vs ≡ from.sizes
      → AreOneHistory (map (λ s. stripe_place (view s) (claims s)) ss) (map (λ s. stripe_place (view s) (claims s)) ts) → AreOneSizeHistory (map (λ z. size_place (look z) (sized z)) us) (map (λ z. size_place (look z) (sized z)) vs) → JoinedHistories p from
  joined-histories ss ts us vs p from ps fs pz fz stripes sizes = record {
    stripes = λ k s t ats att.
        let a = seen-at view ss k s (ap (λ l. slice_get l k) ps ∙ ats) in
        let b = seen-at view ts k t (ap (λ l. slice_get l k) fs ∙ att) in
        let both : BothBegin (view a.0) (view b.0) = stripes k (stripe_place (view a.0) (claims a.0)) (stripe_place (view b.0) (claims b.0)) (map-there (λ s'. stripe_place (view s') (claims s')) ss k a.0 a.1) (map-there (λ s'. stripe_place (view s') (claims s')) ts k b.0 b.1) in
        subst (λ v. BothBegin v t) (sym a.2) (subst (λ v. BothBegin (view a.0) v) (sym b.2) both);
    sizes = λ k s t ats att.
        let a = seen-at (λ z. size_seat (look z) (sized z)) us k s (ap (λ l. slice_get l k) pz ∙ ats) in
        let b = seen-at (λ z. size_seat (look z) (sized z)) vs k t (ap (λ l. slice_get l k) fz ∙ att) in
        let both : BothBegin (look a.0) (look b.0) = sizes k (size_place (look a.0) (sized a.0)) (size_place (look b.0) (sized b.0)) (map-there (λ z. size_place (look z) (sized z)) us k a.0 a.1) (map-there (λ z. size_place (look z) (sized z)) vs k b.0 b.1) in
        subst (λ (v : SizeSeat). BothBegin v.seat t.seat) (sym a.2) (subst (λ (v : SizeSeat). BothBegin (look a.0) v.seat) (sym b.2) both);
  }
