-- A list of bios grows, each with the slot of its place.
use Rattle.std.proofs.Common.{◌≡◌, ◌⊎◌, ℕ, zero, suc, List, [], ◌∷◌, ◌++◌, length, inl, inr, ⊎_elim, refl, sym, ap, ◌∙◌, subst}
use mathlib.Core.Option.{some, some-injective, some-ne-none}
use lib.ListN.{get_elem?}
use Rattle.bio_pages.specs.Lists.{CanSend}
use Rattle.bio_pages.specs.declared.bio.Bio.{Bio}
use Rattle.fault_device.specs.Transfer.{CanTransfer}

module _ {T : Type 0} where
  at-end : (bs : List (Bio T)) (b c : Bio T) (place : ℕ) → get_elem? (bs ++ b ∷ []) place ≡ some c → (get_elem? bs place ≡ some c) ⊎ ((place ≡ length bs) × (b ≡ c))
  at-end [] b c zero at = inr (refl, some-injective b c at)
  at-end [] b c (suc place) at = absurd (some-ne-none c (sym at))
  at-end (x ∷ bs) b c zero at = inl at
  at-end (x ∷ bs) b c (suc place) at = ⊎_elim inl (λ t. inr (ap suc t.0, t.1)) (at-end bs b c place at)

  -- one more at the end, with the slot of its place
  pub send-more : (bs cs : List (Bio T)) (b : Bio T) → CanSend bs → cs ≡ bs ++ b ∷ [] → b.slot ≡ length bs → CanTransfer b.parts → CanSend cs
  send-more bs cs b can is slot ready place c at =
      ⊎_elim (can place c) (λ (t : (place ≡ length bs) × (b ≡ c)). subst (λ (x : Bio T). (x.slot ≡ place) × CanTransfer x.parts) t.1 (slot ∙ sym t.0, ready)) (at-end bs b c place (ap (λ l. get_elem? l place) (sym is) ∙ at))
