use Rattle.std.proofs.Common.{◌≡◌, ◌+◌, ◌++◌, ◌≤◌, ℕ, [], ◌∷◌, length, take, drop, get_or, arith, refl, sym, ap, ◌∙◌, subst, add-zero}
use Rattle.std.proofs.lemmas.List.{length-take-le, map_push, take_more_set}
use Rattle.iov_iter.specs.IovView.{PagePlace, sizes, start_in}
use Rattle.iov_iter.specs.Slots.{SlotView, joined, place_of, places}
use Rattle.iov_iter.proofs.Bytes.{take_add}
use Rattle.iov_iter.proofs.KeepLemmas.{first_cut, sized}
use Rattle.iov_iter.proofs.Making.{joined_push}
use Rattle.iov_iter.proofs.PutLemmas.{joined_take}
use Rattle.iov_iter.proofs.SlotLemmas.{home_read, read_read, size_read}
use Rattle.iov_iter.proofs.pages.cut_after.Goals as goal

pub cut-requires-clause-home : goal.cut-requires-clause-home
cut-requires-clause-home c =
    home_read c.args.slots.now.items c.args.page 0 c.index_mut.result.now (omega arith) c.index_mut.ensures.value
    (omega (arith, size_read c.args.slots.now.items c.args.page c.index_mut.result.now (omega arith) c.index_mut.ensures.value)) c.requires.home

pub cut-requires-clause-within : goal.cut-requires-clause-within
cut-requires-clause-within c =
    omega (arith, size_read c.args.slots.now.items c.args.page c.index_mut.result.now (omega arith) c.index_mut.ensures.value)

slots_are : (c : goal.After-truncate) → c.truncate.new.self.items ≡ take c.args.page c.args.slots.now.items ++ c.cut.new.self ∷ []
slots_are c = c.truncate.ensures.items ∙ take_more_set c.args.slots.now.items c.args.page c.cut.new.self (omega arith)

pub returns-clause-bytes : goal.returns-clause-bytes
returns-clause-bytes c =
    let l = c.args.slots.now.items in
    let size : get_or (sizes (places c.args.slots.now.items)) c.args.page 0 ≡ length c.index_mut.result.now.bytes =
    size_read c.args.slots.now.items c.args.page c.index_mut.result.now (omega arith) c.index_mut.ensures.value in
    let piece : take c.args.kept c.index_mut.result.now.bytes ≡ take c.args.kept (drop (start_in (sizes (places c.args.slots.now.items)) c.args.page) (joined c.args.slots.now.items)) =
    sym (read_read c.args.slots.now.items c.args.page 0 c.args.kept c.index_mut.result.now (omega arith) c.index_mut.ensures.value (omega (arith, size, c.requires.within)))
    ∙ ap (λ n. take c.args.kept (drop n (joined c.args.slots.now.items))) (add-zero (start_in (sizes (places c.args.slots.now.items)) c.args.page)) in
    ap joined (slots_are c) ∙ joined_push (take c.args.page c.args.slots.now.items) c.cut.new.self
    ∙ ap (λ b. b ++ c.cut.new.self.bytes) (sym (joined_take c.args.page c.args.slots.now.items))
    ∙ ap (λ b. take (start_in (sizes (places c.args.slots.now.items)) c.args.page) (joined c.args.slots.now.items) ++ b) (ap (λ (s : SlotView). s.bytes) c.cut.ensures ∙ piece)
    ∙ sym (take_add (start_in (sizes (places c.args.slots.now.items)) c.args.page) c.args.kept (joined c.args.slots.now.items))

pub returns-clause-places : goal.returns-clause-places
returns-clause-places c =
    let size : get_or (sizes (places c.args.slots.now.items)) c.args.page 0 ≡ length c.index_mut.result.now.bytes =
    size_read c.args.slots.now.items c.args.page c.index_mut.result.now (omega arith) c.index_mut.ensures.value in
    let B : SlotView → Type 0 = λ s. c.args.kept ≤ length s.bytes in
    let within : c.args.kept ≤ length c.index_mut.result.now.bytes = omega (arith, size, c.requires.within) in
    let F : ℕ → PagePlace = λ n. record { number = c.index_mut.result.now.number; size = n; out = c.index_mut.result.now.out } in
    let last : place_of c.cut.new.self ≡ sized c.args.kept (place_of (get_or c.args.slots.now.items c.args.page c.index_mut.result.now)) =
    ap place_of c.cut.ensures ∙ ap F (length-take-le c.args.kept c.index_mut.result.now.bytes within) ∙ ap (λ (s : SlotView). sized c.args.kept (place_of s)) c.index_mut.ensures.value in
    ap places (slots_are c) ∙ map_push place_of (take c.args.page c.args.slots.now.items) c.cut.new.self
    ∙ ap (λ p. places (take c.args.page c.args.slots.now.items) ++ p ∷ []) last
    ∙ sym (first_cut c.args.slots.now.items c.args.page c.args.kept (start_in (sizes (places c.args.slots.now.items)) c.args.page + c.args.kept) c.index_mut.result.now (omega arith) c.requires.some (subst B c.index_mut.ensures.value within) refl)
