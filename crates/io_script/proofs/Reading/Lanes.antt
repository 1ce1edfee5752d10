-- Lanes that made a transfer, read off their lines.
use Rattle.std.proofs.Common.{◌≡◌, ℕ, ◌+◌, ◌^◌, ◌≤◌, ◌==◌, Bool, true, false, List, [], ◌∷◌, ◌++◌, length, map, decimal, codes, Option, Some, None, All, if◌then◌else◌, refl, sym, ap, ap₂, ◌∙◌, arith}
use Rattle.std.proofs.lemmas.List.Elements.{All-head, All-tail}
use Rattle.io_model.specs.RunText.{lane_lines}
use Rattle.io_model.specs.declared.run.LaneEnd.{LaneEnd}
use Rattle.io_script.specs.Ranges.{IsWord, IsLaneInRange}
use Rattle.io_script.specs.Told.{told_lane}
use Rattle.io_script.proofs.Reading.Lists.{heads, tails, Each, IsRead, present, present_one, lines, lines_one, length_map}
use Rattle.io_script.proofs.Reading.Pieces.{counted_one, pair_one}

abbrev lane_text : ℕ × LaneEnd → List ℕ → List ℕ
lane_text p rest = codes "lane " ++ (decimal p.0 ++ (codes " ops " ++ (decimal p.1.ops ++ (codes " faults " ++ (decimal p.1.faults ++ (10 ∷ rest))))))

abbrev IsNumbered : ℕ × LaneEnd → Type 0
IsNumbered p = IsWord p.0 × IsLaneInRange p.1

lane_of : ℕ → ℕ → LaneEnd
lane_of ops faults = record { ops = ops; faults = faults }

lane_same : (lane other : LaneEnd) → lane.ops ≡ other.ops → lane.faults ≡ other.faults → lane ≡ other
unfolding lane_of
lane_same lane other p q = ap₂ lane_of p q

lane_one : (p q : ℕ × LaneEnd) (a b : List ℕ) → IsNumbered p → IsNumbered q → lane_text p a ≡ lane_text q b → (p ≡ q) × (a ≡ b)
lane_one p q a b hp hq e =
    let first = counted_one (codes "lane ") p.0 q.0 (codes " ops " ++ (decimal p.1.ops ++ (codes " faults " ++ (decimal p.1.faults ++ (10 ∷ a)))))
    (codes " ops " ++ (decimal q.1.ops ++ (codes " faults " ++ (decimal q.1.faults ++ (10 ∷ b))))) hp.0 hq.0 refl refl e in
    let both = pair_one (codes " ops ") (codes " faults ") p.1.ops p.1.faults q.1.ops q.1.faults (10 ∷ a) (10 ∷ b) hp.1.0 hp.1.1 hq.1.0 hq.1.1 refl refl refl refl first.1 in
    (ap₂ (λ n lane. (n, lane)) first.0 (lane_same p.1 q.1 both.0 both.1.0), tails 10 10 a b both.1.1)

lane_read : IsRead lane_text IsNumbered (λ a. Unit {0})
lane_read = record {
  one = λ p q a b hp hq ha hb e. lane_one p q a b hp hq e;
  begins = λ p a. tt;
}

lane_line-value_by : (b : Bool) (n : ℕ) (lane : LaneEnd) (os : List (Option LaneEnd)) (more rest : List ℕ) → more ≡ lines lane_text (present (n + 1) os) rest
    → (if b then more else lane_text (n, lane) more) ≡ lines lane_text (present n ((if b then None else Some lane) ∷ os)) rest
lane_line-value_by true n lane os more rest e = e
lane_line-value_by false n lane os more rest e = ap (lane_text (n, lane)) e

lane_lines-values : (n : ℕ) (lanes : List LaneEnd) (rest : List ℕ) → lane_lines n lanes rest ≡ lines lane_text (present n (map told_lane lanes)) rest
lane_lines-values n [] rest = refl
lane_lines-values n (lane ∷ lanes) rest =
    lane_line-value_by (lane.ops == 0) n lane (map told_lane lanes) (lane_lines (n + 1) lanes rest) rest (lane_lines-values (n + 1) lanes rest)

numbered_by : (b : Bool) (n m : ℕ) (lane : LaneEnd) (os : List (Option LaneEnd)) → IsWord n → IsLaneInRange lane → Each IsNumbered (present m os)
    → m ≡ n + 1 → Each IsNumbered (present n ((if b then None else Some lane) ∷ os))
numbered_by true n m lane os hn hl h is = rw is at h
numbered_by false n m lane os hn hl h is = ((hn, hl), rw is at h)

numbered : (n : ℕ) (lanes : List LaneEnd) → n + length lanes ≤ 2 ^ 64 → All IsLaneInRange lanes → Each IsNumbered (present n (map told_lane lanes))
numbered n [] h r = tt
numbered n (lane ∷ lanes) h r =
    numbered_by (lane.ops == 0) n (n + 1) lane (map told_lane lanes) (omega (arith, h)) (All-head IsLaneInRange lane lanes r)
    (numbered (n + 1) lanes (omega (arith, h)) (All-tail IsLaneInRange lane lanes r)) refl

end_ends : (p : ℕ × LaneEnd) (a : List ℕ) → IsNumbered p → lane_text p a ≡ codes "end\n" → ⊥
end_ends p a h e = let differ : 108 ≡ 101 = heads 108 101 _ _ e in omega (arith, differ)

-- the lanes that made a transfer can be read off the last lines of a run
pub lanes_one : (lanes others : List LaneEnd) → length lanes ≡ length others → length lanes ≤ 2 ^ 64 → All IsLaneInRange lanes → All IsLaneInRange others
    → lane_lines 0 lanes (codes "end\n") ≡ lane_lines 0 others (codes "end\n") → map told_lane lanes ≡ map told_lane others
lanes_one lanes others same small hl ho e =
    let read = lines_one lane_text IsNumbered (λ a. Unit {0}) lane_read (present 0 (map told_lane lanes)) (present 0 (map told_lane others)) (codes "end\n") (codes "end\n")
    (numbered 0 lanes (omega (arith, small)) hl) (numbered 0 others (omega (arith, small, same)) ho) tt tt end_ends end_ends
    (sym (lane_lines-values 0 lanes (codes "end\n")) ∙ e ∙ lane_lines-values 0 others (codes "end\n")) in
    present_one 0 (map told_lane lanes) (map told_lane others) (length_map told_lane lanes ∙ same ∙ sym (length_map told_lane others)) read.0
