-- The first bytes of slots, one slot after the other.
use Rattle.std.proofs.Common.{◌≡◌, ℕ, zero, suc, ◌+◌, ◌-◌, ◌≤◌, ◌<◌, false, List, [], ◌∷◌, ◌++◌, length, get_or, take, drop, arith, refl, sym, ap, ◌∙◌, length-append, length-take}
use Rattle.std.proofs.lemmas.List.{take_all, take-append-drop, take-append-le, take_more}
use Rattle.std.proofs.lemmas.List.Concat.{flat_map-append}
use Rattle.iov_iter.proofs.Bytes.{take-append-add}
use Rattle.iov_iter.proofs.Making.{joined_push}
use Rattle.iov_iter.proofs.Sizes.{some_at}
use Rattle.iov_iter.proofs.SlotLemmas.{home_read, length_sizes, size_read}
use Rattle.iov_iter.specs.Home.{AreHome}
use Rattle.iov_iter.specs.IovView.{sizes, start_in}
use Rattle.iov_iter.specs.Slots.{SlotView, joined, places}
use Rattle.iov_iter.specs.Spots.{AreSome}

-- a slot begins where the ones before it end
start_joined : (l : List SlotView) (i : ℕ) → i ≤ length l → start_in (sizes (places l)) i ≡ length (joined (take i l))
start_joined [] zero h = refl
start_joined [] (suc i) h = absurd (omega arith)
start_joined (s ∷ ss) zero h = refl
start_joined (s ∷ ss) (suc i) h = ap (λ n. length s.bytes + n) (start_joined ss i (omega arith)) ∙ sym (length-append s.bytes (joined (take i ss)))

module _ (l : List SlotView) (i n : ℕ) (front : List ℕ) (known : front ≡ take n (joined (take i l))) where
  -- while bytes are wanted, all of the slots before are there
  whole : length front < n → front ≡ joined (take i l)
  whole less = known ∙ take_all n (joined (take i l)) (omega (arith, ap length known, length-take n (joined (take i l))))

  -- the next slot has its page
  pub first_home : (s : SlotView) → AreSome (sizes (places l)) → AreHome (places l) 0 n → i < length l → s ≡ get_or l i s → length front < n → s.out ≡ false
  first_home s some home h e less =
      let start : start_in (sizes (places l)) i ≡ length (joined (take i l)) = start_joined l i (omega arith) in
      let long : length front ≡ length (joined (take i l)) = ap length (whole less) in
      let page : 0 < length s.bytes = omega (arith, some_at (sizes (places l)) i some (omega (arith, length_sizes l)), size_read l i s h e) in
      home_read l i 0 s h e page (home (start_in (sizes (places l)) i + 0) (omega arith) (omega arith))

  -- its bytes are added
  pub first_more : (s : SlotView) (now : List ℕ) → i < length l → s ≡ get_or l i s → length front < n → now ≡ front ++ take (n - length front) s.bytes → now ≡ take n (joined (take (i + 1) l))
  first_more s now h e less is =
      let before : List ℕ = joined (take i l) in
      let all : joined (take (i + 1) l) ≡ before ++ s.bytes =
      ap joined (take_more l i s h) ∙ joined_push (take i l) (get_or l i s) ∙ ap (λ (t : SlotView). before ++ t.bytes) (sym e) in
      let rest : length before + (n - length before) ≡ n = omega (arith, ap length (whole less)) in
      is ∙ ap (λ b. b ++ take (n - length b) s.bytes) (whole less) ∙ sym (take-append-add before s.bytes (n - length before))
      ∙ ap (λ m. take m (before ++ s.bytes)) rest ∙ ap (take n) (sym all)

  -- where there are enough, they are the first of all slots
  pub first_done : n ≤ length front → front ≡ take n (joined l)
  first_done many =
      let all : joined l ≡ joined (take i l) ++ joined (drop i l) =
      ap joined (sym (take-append-drop i l)) ∙ flat_map-append (λ (s : SlotView). s.bytes) (take i l) (drop i l) in
      known ∙ sym (take-append-le n (joined (take i l)) (joined (drop i l)) (omega (arith, ap length known, length-take n (joined (take i l))))) ∙ ap (take n) (sym all)
