-- A whole run, read off its text.
use Rattle.std.proofs.Common.{◌≡◌, ℕ, not, Bool, List, ◌++◌, length, map, decimal, codes, sum_by, sum, refl, sym, ap, ◌∙◌, arith, eqb-true}
use Rattle.std.proofs.lemmas.Bool.{and_parts}
use Rattle.std.proofs.lemmas.List.{append_cancel_left}
use Rattle.std.proofs.lemmas.List.Sums.{sum-map}
use Rattle.std.specs.List.{list_all}
use Rattle.io_model.specs.Fitting.{Fits, LANES, is_again_reply}
use Rattle.io_model.specs.RunText.{call_lines, close_lines, files_lines, lane_lines}
use Rattle.io_model.specs.declared.run.CallEnd.{CallEnd}
use Rattle.io_model.specs.declared.run.Run.{Run}
use Rattle.io_model.specs.declared.script.Script.{Script}
use Rattle.io_script.specs.Ranges.{IsRunInRange, IsScriptInRange}
use Rattle.io_script.specs.OneReading.{NamesFiles, HasOneReading}
use Rattle.io_script.proofs.Reading.Calls.{calls_one, closes_one}
use Rattle.io_script.proofs.Reading.Ends.{files_one}
use Rattle.io_script.proofs.Reading.Lanes.{lanes_one}
use Rattle.io_script.proofs.Reading.Pieces.{number_one}

bios_sum : (ends others : List CallEnd) → map (λ end. end.answer.bios) ends ≡ map (λ end. end.answer.bios) others
    → sum_by (λ end. end.answer.bios) ends ≡ sum_by (λ end. end.answer.bios) others
bios_sum ends others e = sym (sum-map (λ end. end.answer.bios) ends) ∙ ap sum e ∙ sum-map (λ end. end.answer.bios) others

-- what comes after a number that both texts have
after_number : (m n : ℕ) (a b : List ℕ) → m ≡ n → decimal m ++ a ≡ decimal n ++ b → a ≡ b
after_number m n a b same e = append_cancel_left (decimal n) a b (ap (λ k. decimal k ++ a) (sym same) ∙ e)

-- the parts of a text, from the last to the first
abbrev lanes_part : Run → List ℕ
lanes_part run = lane_lines 0 run.lanes (codes "end\n")

abbrev bios_part : Run → List ℕ
bios_part run = decimal (sum_by (λ end. end.answer.bios) run.calls) ++ (codes "\n" ++ lanes_part run)

abbrev free_part : Run → List ℕ
free_part run = decimal (length run.ends.free) ++ (codes "\nbios " ++ bios_part run)

abbrev files_part : Script → Bool → Run → List ℕ
files_part script image run = files_lines image script.names run.ends.files (codes "free " ++ free_part run)

abbrev closes_part : Script → Bool → Run → List ℕ
closes_part script image run = close_lines script.names run.closes (files_part script image run)

pub one_reading : (script : Script) (image : Bool) (one other : Run) → NamesFiles script → IsScriptInRange script → Fits script one → Fits script other → IsRunInRange one → IsRunInRange other → HasOneReading script image one other
one_reading script image one other named pages fo ft ro rt e =
    let w = and_parts (list_all (λ end. not (is_again_reply end.answer.reply)) one.calls) (list_all (λ close. not (is_again_reply close.reply)) one.closes) fo.waited in
    let v = and_parts (list_all (λ end. not (is_again_reply end.answer.reply)) other.calls) (list_all (λ close. not (is_again_reply close.reply)) other.closes) ft.waited in
    let names = eqb-true (length script.names) (length script.files) named.one_each in
    let calls = calls_one 1 script.calls one.calls other.calls (closes_part script image one) (closes_part script image other)
    (eqb-true (length one.calls) (length script.calls) fo.calls) (eqb-true (length other.calls) (length script.calls) ft.calls) pages ro.calls rt.calls w.0 v.0
    (append_cancel_left (codes "run 1\n") (call_lines 1 script.calls one.calls (closes_part script image one)) (call_lines 1 script.calls other.calls (closes_part script image other)) e) in
    let closes = closes_one script.names one.closes other.closes (files_part script image one) (files_part script image other)
    (eqb-true (length one.closes) (length script.files) fo.closes ∙ sym names) (eqb-true (length other.closes) (length script.files) ft.closes ∙ sym names) ro.closes rt.closes w.1 v.1 calls.1 in
    let files = files_one image script.geometry.block_size script.names script.files one.ends.files other.ends.files (free_part one) (free_part other)
    names named.words named.own fo.files ft.files ro.files rt.files closes.2 in
    let free = number_one (length one.ends.free) (length other.ends.free) (codes "\nbios " ++ bios_part one) (codes "\nbios " ++ bios_part other) ro.free rt.free refl refl files.1 in
    let lanes = append_cancel_left (codes "\n") (lanes_part one) (lanes_part other)
    (after_number (sum_by (λ end. end.answer.bios) one.calls) (sum_by (λ end. end.answer.bios) other.calls) (codes "\n" ++ lanes_part one) (codes "\n" ++ lanes_part other)
    (bios_sum one.calls other.calls calls.0.bios) (append_cancel_left (codes "\nbios ") (bios_part one) (bios_part other) free.1)) in
    let count : length one.lanes ≡ 17 = eqb-true (length one.lanes) LANES fo.lanes in
    let count_other : length other.lanes ≡ 17 = eqb-true (length other.lanes) LANES ft.lanes in
    record {
      replies = calls.0.replies;
      bytes = calls.0.bytes;
      pages = calls.0.pages;
      bios = calls.0.bios;
      closes = closes.0;
      close_bios = closes.1;
      journals = files.0.stamps;
      sizes = files.0.sizes;
      turns_at_sizes = files.0.turns;
      maps = files.0.maps;
      dirty = files.0.pages;
      free = free.0;
      lanes = lanes_one one.lanes other.lanes (count ∙ sym count_other) (omega (arith, count)) ro.lanes rt.lanes lanes;
      sectors = files.0.sectors;
    }
