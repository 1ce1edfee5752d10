use Rattle.std.proofs.Common.{◌≡◌, ℕ, true, false, List, [], ◌∷◌, sym, ◌∙◌, subst}
use Rattle.fault_device.specs.Opening.{Opening}
use Rattle.io_model.specs.Causes.{AreCaused}
use Rattle.io_model.specs.Right.{RunIsRight}
use Rattle.io_model.specs.RunText.{run_text, has_error}
use Rattle.io_model.specs.declared.run.Run.{Run}
use Rattle.io_model.specs.declared.script.Script.{Script}
use Rattle.io_script.specs.Grammar.{IsScript}
use Rattle.iomap_replay.specs.Starts.{starts_of}
use Rattle.iomap_replay.specs.Statuses.{Replays, Shows}
use Rattle.iomap_replay.specs.declared.ending.Ending.{Ending}
use Rattle.iomap_replay.specs.declared.ending.Ending.TheVariants.{Whole, Errors}
use Rattle.iomap_replay.proofs.top.run_output.Goals as goal
use Rattle.iomap_replay.proofs.top.run_output.Goals.{then-failed, else-failed}

-- the text of a right run without an error, and of one with an error
record IsShown (openings : List Opening) (text written : List ℕ) (script : Script) (run : Run) : Type 0 where
  is_script : IsScript text script
  right : RunIsRight script (0 ∷ []) run
  causes : AreCaused (starts_of script openings) script run
  shown : written ≡ run_text script run false

whole : (openings : List Opening) (text written : List ℕ) (script : Script) (run : Run) (ending : Ending) → IsShown openings text written script run
    → false ≡ has_error run → ending ≡ Whole → Replays openings false text ending written
whole openings text written script run ending shown none is =
    let P : Ending → Type 0 = λ e. Replays openings false text e written in
    let shows : Shows text openings false written false =
    record { script = script; makers = 0 ∷ []; run = run; is_script = shown.is_script; right = shown.right; causes = shown.causes; shown = shown.shown; error = none } in
    subst P (sym is) shows

errors : (openings : List Opening) (text written : List ℕ) (script : Script) (run : Run) (ending : Ending) → IsShown openings text written script run
    → true ≡ has_error run → ending ≡ Errors → Replays openings false text ending written
errors openings text written script run ending shown some is =
    let P : Ending → Type 0 = λ e. Replays openings false text e written in
    let shows : Shows text openings false written true =
    record { script = script; makers = 0 ∷ []; run = run; is_script = shown.is_script; right = shown.right; causes = shown.causes; shown = shown.shown; error = some } in
    subst P (sym is) shows

pub returns : goal.returns
returns g c =
    elim c.if-failed.branch [
      | then-failed w ↦ errors _ c.args.text.now c.in_ok-written.written.items c.args.script.now c.in_ok-run.run' c.if-failed.ending
          (record { is_script = c.requires.script; right = c.in_ok-run.ensures.right; causes = c.in_ok-run.ensures.caused; shown = c.in_ok-written.ensures })
          (sym w.if-failed.true ∙ c.has_error_reply-failed.ensures) w.ending-is
      | else-failed w ↦ whole _ c.args.text.now c.in_ok-written.written.items c.args.script.now c.in_ok-run.run' c.if-failed.ending
          (record { is_script = c.requires.script; right = c.in_ok-run.ensures.right; causes = c.in_ok-run.ensures.caused; shown = c.in_ok-written.ensures })
          (sym w.if-failed.false ∙ c.has_error_reply-failed.ensures) w.ending-is
    ]
