-- The two sets of a folio: how many blocks they tell of, and what a change of one word does to them.
use Rattle.std.proofs.Common.{◌≡◌, ℕ, Bool, List, length, sym, ◌∙◌, ap, subst}
use Rattle.folio_bits.specs.BlockSets.{BlockSets, no_blocks, with_run, set_of}
use Rattle.folio_bits.proofs.Runs.{length-set_of, set_of-zero}

abbrev pub sets_of : ℕ → ℕ → ℕ → BlockSets
sets_of blocks uptodate dirty = record { uptodate = set_of blocks uptodate; dirty = set_of blocks dirty }

abbrev both_sets : List Bool → List Bool → BlockSets
both_sets uptodate dirty = record { uptodate = uptodate; dirty = dirty }

pub none_set : (blocks : ℕ) → sets_of blocks 0 0 ≡ no_blocks blocks
none_set blocks = ap (λ (l : List Bool). both_sets l l) (set_of-zero blocks)

module _ (blocks uptodate dirty : ℕ) (v : BlockSets) (is : sets_of blocks uptodate dirty ≡ v) where
  pub length-uptodate : length v.uptodate ≡ blocks
  length-uptodate = ap (λ (w : BlockSets). length w.uptodate) (sym is) ∙ length-set_of blocks uptodate

  pub length-dirty : length v.dirty ≡ blocks
  length-dirty = ap (λ (w : BlockSets). length w.dirty) (sym is) ∙ length-set_of blocks dirty

  pub with_uptodate : (new from n : ℕ) (b : Bool) → set_of blocks new ≡ with_run (set_of blocks uptodate) from n b → sets_of blocks new dirty ≡ record v { uptodate = with_run v.uptodate from n b }
  with_uptodate new from n b e =
      let P : BlockSets → Type 0 = λ w. sets_of blocks new dirty ≡ record w { uptodate = with_run w.uptodate from n b } in
      subst P is (ap (λ (l : List Bool). both_sets l (set_of blocks dirty)) e)

  pub with_dirty : (new from n : ℕ) (b : Bool) → set_of blocks new ≡ with_run (set_of blocks dirty) from n b → sets_of blocks uptodate new ≡ record v { dirty = with_run v.dirty from n b }
  with_dirty new from n b e =
      let P : BlockSets → Type 0 = λ w. sets_of blocks uptodate new ≡ record w { dirty = with_run w.dirty from n b } in
      subst P is (ap (λ (l : List Bool). both_sets (set_of blocks uptodate) l) e)
