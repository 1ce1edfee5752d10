use Rattle.std.proofs.Common.{◌≡◌, ℕ, zero, suc, ◌+◌, ◌-◌, ◌*◌, ◌≤◌, ◌<◌, Bool, true, false, List, [], ◌∷◌, ◌++◌, length, get_or, take, drop, map, arith, refl, sym, ap, ◌∙◌, subst, append_assoc, length-append}
use Rattle.std.proofs.Math.Seq.{drop-append-add}
use Rattle.std.proofs.lemmas.Bool.{le-ltb, lt-ltb}
use Rattle.std.proofs.lemmas.List.{drop-drop, drop-map, map-append, take-append-drop, take-map}
use Rattle.std.proofs.lemmas.List.Concat.{flat_map-append}
use Rattle.iob_base.specs.declared.sector.Page.{Page}
use Rattle.iov_iter.proofs.Bytes.{length-put_at, take-append-add}
use Rattle.iov_iter.proofs.RunLemmas.{cut_slots, joined_drop, joined_run, places_run, whole_bytes}
use Rattle.iov_iter.proofs.Sizes.{start_within, total_sizes}
use Rattle.iov_iter.specs.IovView.{IovView, PagePlace, put_at, sizes, start_in}
use Rattle.iov_iter.specs.Kept.{IsIov, OutAreWhole}
use Rattle.iov_iter.specs.Making.{sizes_of}
use Rattle.iov_iter.specs.Moving.{ArePagesOf, AreWhole, CanPut, CanTake, after_put, after_take, marked, marked_from, next_pages, page_bytes, page_of}
use Rattle.iov_iter.specs.Runs.{FitIn, page_in, run_mapped, slot_out, slots_put}
use Rattle.iov_iter.specs.Slots.{SlotView, iov_view, joined, place_of, places}
use Rattle.iov_iter.specs.Spots.{Stands, byte_of}
use Rattle.iov_iter.specs.declared.spot.Spot.{Spot}

-- the page of the byte at which a spot stands is the spot's
pub page_is : (ps : List PagePlace) (page offset : ℕ) → (page < length (sizes ps) → offset < get_or (sizes ps) page 0) → page ≤ length (sizes ps) → page_of ps (start_in (sizes ps) page + offset) ≡ page
page_is [] page offset h g = omega arith
page_is (p ∷ ps) zero offset h g = rw (lt-ltb (0 + offset) p.size (omega (arith, h (omega arith)))) refl
page_is (p ∷ ps) (suc page) offset h g =
    let past : p.size ≤ p.size + start_in (sizes ps) page + offset = omega arith in
    let left : p.size + start_in (sizes ps) page + offset - p.size ≡ start_in (sizes ps) page + offset = omega arith in
    rw (le-ltb (p.size + start_in (sizes ps) page + offset) p.size past, left) (ap suc (page_is ps page offset (λ k. h (omega arith)) (omega arith)))

-- where the next pages stand
pub record TakesAt (size : ℕ) (l : List SlotView) (place n page : ℕ) : Type 0 where
  pub is : page_of (places l) place ≡ page
  pub begins : start_in (sizes (places l)) page ≡ place
  pub ready : AreWhole size n (drop page (places l))
  pub within : page ≤ length (sizes (places l))

pub takes_at : (size : ℕ) (l : List SlotView) (ls ls' : List ℕ) (place n : ℕ) (s : Spot) → sizes (places l) ≡ sizes_of size ls → ls' ≡ ls → Stands (sizes_of size ls') s → byte_of (sizes_of size ls') s ≡ place → CanTake (iov_view size l ls place) n → TakesAt size l place n s.page
takes_at size l ls ls' place n s cut same t b w =
    let e : sizes_of size ls' ≡ sizes (places l) = ap (sizes_of size) same ∙ sym cut in
    let S : List ℕ → Type 0 = λ xs. Stands xs s in
    let B : List ℕ → Type 0 = λ xs. byte_of xs s ≡ place in
    let stands : Stands (sizes (places l)) s = subst S e t in
    let byte : byte_of (sizes (places l)) s ≡ place = subst B e b in
    let is : page_of (places l) place ≡ s.page = ap (page_of (places l)) (sym byte) ∙ page_is (places l) s.page s.offset stands.inside stands.within in
    let G : ℕ → Type 0 = λ k. start_in (sizes (places l)) k ≡ place in
    let R : ℕ → Type 0 = λ k. AreWhole size n (drop k (places l)) in
    record { is = is; begins = subst G is w.begins; ready = subst R is w.ready; within = stands.within }

abbrev iov : ℕ → List ℕ → List PagePlace → List ℕ → ℕ → IovView
iov size bytes pages lengths place = record { page_size = size; bytes = bytes; pages = pages; lengths = lengths; place = place }

pub made : (size : ℕ) (a b : List ℕ) (p q : List PagePlace) (ls : List ℕ) (m n : ℕ) → a ≡ b → p ≡ q → m ≡ n → iov size a p ls m ≡ iov size b q ls n
made size a b p q ls m n e f g = rw (e, f, g) refl

pub view_taken : (size : ℕ) (l l' : List SlotView) (ls : List ℕ) (place n page k : ℕ) → page_of (places l) place ≡ page → l' ≡ run_mapped slot_out page n l → k ≡ n * size → iov_view size l' ls (place + k) ≡ after_take (iov_view size l ls place) n
view_taken size l l' ls place n page k is e f =
    let j : joined l' ≡ joined l = ap joined e ∙ joined_run page n l in
    let p : places l' ≡ marked_from true (page_of (places l) place) n (places l) = ap places e ∙ places_run page n l ∙ ap (λ i. marked_from true i n (places l)) (sym is) in
    made size (joined l') (joined l) (places l') (marked_from true (page_of (places l) place) n (places l)) ls (place + k) (place + n * size) j p (ap (λ m. place + m) f)

pub view_next : (size : ℕ) (l : List SlotView) (ls : List ℕ) (place n page : ℕ) → page_of (places l) place ≡ page → start_in (sizes (places l)) page ≡ place → map page_in (take n (drop page l)) ≡ next_pages (iov_view size l ls place) n
view_next size l ls place n page is begins =
    sym (rw (is, sym begins, joined_drop page l, drop-map place_of page l) (cut_slots n (drop page l)))

sizes_map : (out : Bool) (ps : List PagePlace) → sizes (map (marked out) ps) ≡ sizes ps
sizes_map out [] = refl
sizes_map out (p ∷ ps) = ap (λ xs. p.size ∷ xs) (sizes_map out ps)

pub marked_split : (i n : ℕ) (ps : List PagePlace) → take i ps ++ take n (drop i ps) ++ drop (i + n) ps ≡ ps
marked_split i n ps =
    append_assoc (take i ps) (take n (drop i ps)) (drop (i + n) ps)
    ∙ ap (λ r. take i ps ++ r) (ap (λ r. take n (drop i ps) ++ r) (sym (drop-drop n i ps)) ∙ take-append-drop n (drop i ps)) ∙ take-append-drop i ps

-- marks leave the sizes
pub sizes_marked : (out : Bool) (i n : ℕ) (ps : List PagePlace) → sizes (marked_from out i n ps) ≡ sizes ps
sizes_marked out i n ps =
    let f : PagePlace → ℕ = λ p. p.size in
    map-append f (take i ps ++ map (marked out) (take n (drop i ps))) (drop (i + n) ps)
    ∙ ap (λ xs. xs ++ map f (drop (i + n) ps)) (map-append f (take i ps) (map (marked out) (take n (drop i ps))) ∙ ap (λ xs. map f (take i ps) ++ xs) (sizes_map out (take n (drop i ps))) ∙ sym (map-append f (take i ps) (take n (drop i ps))))
    ∙ sym (map-append f (take i ps ++ take n (drop i ps)) (drop (i + n) ps)) ∙ ap (map f) (marked_split i n ps)

out_append : (size : ℕ) (ps qs : List PagePlace) → OutAreWhole size ps → OutAreWhole size qs → OutAreWhole size (ps ++ qs)
out_append size [] qs a b = b
out_append size (p ∷ ps) qs a b = (a.0, out_append size ps qs a.1 b)

out_take : (size n : ℕ) (ps : List PagePlace) → OutAreWhole size ps → OutAreWhole size (take n ps)
out_take size zero ps a = tt
out_take size (suc n) [] a = tt
out_take size (suc n) (p ∷ ps) a = (a.0, out_take size n ps a.1)

pub out_drop : (size n : ℕ) (ps : List PagePlace) → OutAreWhole size ps → OutAreWhole size (drop n ps)
out_drop size zero ps a = a
out_drop size (suc n) [] a = tt
out_drop size (suc n) (p ∷ ps) a = out_drop size n ps a.1

out_taken : (size n : ℕ) (ps : List PagePlace) → AreWhole size n ps → OutAreWhole size (map (marked true) (take n ps))
out_taken size zero ps a = tt
out_taken size (suc n) [] a = absurd a
out_taken size (suc n) (p ∷ ps) a = (λ _. a.1, out_taken size n ps a.2)

out_put : (size : ℕ) (ps : List PagePlace) → OutAreWhole size (map (marked false) ps)
out_put size [] = tt
out_put size (p ∷ ps) = (λ e. absurd (cc), out_put size ps)

pub total_pages : (v : IovView) → IsIov v → start_in (sizes v.pages) (length (sizes v.pages)) ≡ length v.bytes
total_pages v k = ap (λ xs. start_in xs (length xs)) k.cut ∙ total_sizes v.page_size v.lengths ∙ sym k.joined

pub kept_taken : (v : IovView) (n : ℕ) → IsIov v → CanTake v n → IsIov (after_take v n)
kept_taken v n k w =
    record {
      page_size = k.page_size;
      cut = sizes_marked true (page_of v.pages v.place) n v.pages ∙ k.cut;
      joined = k.joined;
      short = k.short;
      few = k.few;
      out = out_append v.page_size (take (page_of v.pages v.place) v.pages ++ map (marked true) (take n (drop (page_of v.pages v.place) v.pages))) (drop (page_of v.pages v.place + n) v.pages)
          (out_append v.page_size (take (page_of v.pages v.place) v.pages) (map (marked true) (take n (drop (page_of v.pages v.place) v.pages))) (out_take v.page_size (page_of v.pages v.place) v.pages k.out) (out_taken v.page_size n (drop (page_of v.pages v.place) v.pages) w.ready))
          (out_drop v.page_size (page_of v.pages v.place + n) v.pages k.out);
      within = omega (arith, whole_bytes v.page_size n (page_of v.pages v.place) v.pages w.ready, w.begins, total_pages v k);
    }

-- pages that may be put have the slots' sizes
pub pages_fit : (size : ℕ) (ss : List SlotView) (gs : List Page) → OutAreWhole size (places ss) → ArePagesOf size (places ss) gs → FitIn ss gs
pages_fit size ss [] o a = tt
pages_fit size [] (g ∷ gs) o a = absurd a
pages_fit size (s ∷ ss) (g ∷ gs) o a = (a.0.whole ∙ sym (o.0 a.0.empty), pages_fit size ss gs o.1 a.1)

joined_put : (ss : List SlotView) (gs : List Page) → FitIn ss gs → joined (slots_put ss gs) ≡ page_bytes gs ++ drop (length (page_bytes gs)) (joined ss)
joined_put ss [] a = refl
joined_put [] (g ∷ gs) a = absurd a
joined_put (s ∷ ss) (g ∷ gs) a =
    let past : drop (length (g.bytes ++ page_bytes gs)) (s.bytes ++ joined ss) ≡ drop (length (page_bytes gs)) (joined ss) =
    ap (λ n. drop n (s.bytes ++ joined ss)) (length-append g.bytes (page_bytes gs) ∙ ap (λ n. n + length (page_bytes gs)) a.0) ∙ drop-append-add s.bytes (joined ss) (length (page_bytes gs)) in
    ap (λ b. g.bytes ++ b) (joined_put ss gs a.1 ∙ ap (λ b. page_bytes gs ++ b) (sym past))
    ∙ sym (append_assoc g.bytes (page_bytes gs) (drop (length (g.bytes ++ page_bytes gs)) (s.bytes ++ joined ss)))

put_one : (p q : PagePlace) (ps qs : List PagePlace) → p ≡ q → ps ≡ qs → p ∷ ps ≡ q ∷ qs
put_one p q ps qs e f = cc

places_put : (ss : List SlotView) (gs : List Page) → FitIn ss gs → places (slots_put ss gs) ≡ map (marked false) (take (length gs) (places ss)) ++ drop (length gs) (places ss)
places_put ss [] a = refl
places_put [] (g ∷ gs) a = absurd a
places_put (s ∷ ss) (g ∷ gs) a =
    let F : ℕ → PagePlace = λ n. record { number = s.number; size = n; out = false } in
    put_one (F (length g.bytes)) (F (length s.bytes)) (places (slots_put ss gs)) (map (marked false) (take (length gs) (places ss)) ++ drop (length gs) (places ss)) (ap F a.0) (places_put ss gs a.1)

pub joined_take : (i : ℕ) (l : List SlotView) → take (start_in (sizes (places l)) i) (joined l) ≡ joined (take i l)
joined_take zero l = refl
joined_take (suc i) [] = refl
joined_take (suc i) (s ∷ ss) = take-append-add s.bytes (joined ss) (start_in (sizes (places ss)) i) ∙ ap (λ b. s.bytes ++ b) (joined_take i ss)

pub view_put : (size : ℕ) (l l' : List SlotView) (ls : List ℕ) (place i : ℕ) (gs : List Page) → FitIn (drop i l) gs → l' ≡ take i l ++ slots_put (drop i l) gs → iov_view size l' ls place ≡ after_put (iov_view size l ls place) i gs
view_put size l l' ls place i gs a e =
    let rest : drop (length (page_bytes gs)) (joined (drop i l)) ≡ drop (start_in (sizes (places l)) i + length (page_bytes gs)) (joined l) =
    ap (drop (length (page_bytes gs))) (sym (joined_drop i l)) ∙ drop-drop (length (page_bytes gs)) (start_in (sizes (places l)) i) (joined l) in
    let j : joined l' ≡ put_at (start_in (sizes (places l)) i) (page_bytes gs) (joined l) =
    ap joined e ∙ flat_map-append (λ (s : SlotView). s.bytes) (take i l) (slots_put (drop i l) gs)
    ∙ (rw (joined_put (drop i l) gs a, sym (joined_take i l), rest) (sym (append_assoc (take (start_in (sizes (places l)) i) (joined l)) (page_bytes gs) (drop (start_in (sizes (places l)) i + length (page_bytes gs)) (joined l))))) in
    let back : drop (length gs) (drop i (places l)) ≡ drop (i + length gs) (places l) = drop-drop (length gs) i (places l) in
    let p : places l' ≡ marked_from false i (length gs) (places l) =
    ap places e ∙ map-append place_of (take i l) (slots_put (drop i l) gs)
    ∙ (rw (places_put (drop i l) gs a, sym (take-map place_of i l), sym (drop-map place_of i l), back) (sym (append_assoc (take i (places l)) (map (marked false) (take (length gs) (drop i (places l)))) (drop (i + length gs) (places l))))) in
    made size (joined l') (put_at (start_in (sizes (places l)) i) (page_bytes gs) (joined l)) (places l') (marked_from false i (length gs) (places l)) ls place place j p refl

pages_within : (size i : ℕ) (ps : List PagePlace) (gs : List Page) → OutAreWhole size ps → ArePagesOf size (drop i ps) gs → start_in (sizes ps) i + length (page_bytes gs) ≤ start_in (sizes ps) (length (sizes ps))
pages_within size i ps [] o a = omega (arith, start_within (sizes ps) i)
pages_within size zero [] (g ∷ gs) o a = absurd a
pages_within size zero (p ∷ ps) (g ∷ gs) o a =
    omega (arith, pages_within size zero ps gs o.1 a.1, length-append g.bytes (page_bytes gs), a.0.whole, o.0 a.0.empty)
pages_within size (suc i) [] (g ∷ gs) o a = absurd a
pages_within size (suc i) (p ∷ ps) (g ∷ gs) o a = omega (arith, pages_within size i ps (g ∷ gs) o.1 a)

pub kept_put : (v : IovView) (i : ℕ) (gs : List Page) → IsIov v → CanPut v i gs → IsIov (after_put v i gs)
kept_put v i gs k w =
    let long : length (put_at (start_in (sizes v.pages) i) (page_bytes gs) v.bytes) ≡ length v.bytes =
    length-put_at (start_in (sizes v.pages) i) (page_bytes gs) v.bytes (omega (arith, pages_within v.page_size i v.pages gs k.out w, total_pages v k)) in
    record {
      page_size = k.page_size;
      cut = sizes_marked false i (length gs) v.pages ∙ k.cut;
      joined = long ∙ k.joined;
      short = k.short;
      few = k.few;
      out = out_append v.page_size (take i v.pages ++ map (marked false) (take (length gs) (drop i v.pages))) (drop (i + length gs) v.pages)
          (out_append v.page_size (take i v.pages) (map (marked false) (take (length gs) (drop i v.pages))) (out_take v.page_size i v.pages k.out) (out_put v.page_size (take (length gs) (drop i v.pages))))
          (out_drop v.page_size (i + length gs) v.pages k.out);
      within = omega (arith, long, k.within);
    }
