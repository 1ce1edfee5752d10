use Rattle.std.proofs.Common.{◌≡◌, ◌++◌, [], ◌∷◌, length, sym, ap, ◌∙◌, subst}
use Rattle.std.proofs.lemmas.List.Elements.{All-head, All-tail}
use Rattle.iob_base.specs.Layout.{layout}
use Rattle.iob_base.specs.declared.stamp.Mode.TheVariants.{Cached}
use Rattle.io_model.specs.declared.file.FileSpec.{FileSpec}
use Rattle.file_stripes.specs.Files.{IsFile, numbers_of_files}
use Rattle.file_stripes.specs.Taking.{AreNamedOnce}
use Rattle.mini_fs.specs.Starts.{Started}
use Rattle.worked_mounts.proofs.Starting.{named-once, start-alone, start-other, start-share}
use Rattle.worked_mounts.proofs.two_files.started_with.Goals as goal

pub start-requires-clause-named : goal.start-requires-clause-named
start-requires-clause-named c =
    let first = c.args.first in
    let second = c.args.second in
    let one : c.push_reserved.new.self.items ≡ first ∷ [] = c.push_reserved.ensures.items ∙ ap (λ fs. fs ++ first ∷ []) c.in_ok-files.ensures.items in
    let files : c.push_reserved-2.new.self.items ≡ first ∷ second ∷ [] = c.push_reserved-2.ensures.items ∙ ap (λ fs. fs ++ second ∷ []) one in
    let named = named-once 40 (numbers_of_files (first ∷ second ∷ [])) c.requires.may.numbers in
    subst (λ fs. AreNamedOnce (length c.args.device.items) (numbers_of_files fs)) (sym files)
    (subst (λ n. AreNamedOnce n (numbers_of_files (first ∷ second ∷ []))) (sym c.requires.device.count) named)

pub returns-clause-alone : goal.returns-clause-alone
returns-clause-alone c =
    let first = c.args.first in
    let second = c.args.second in
    let sectors = c.args.device.items in
    let m = c.in_ok-mount.mount in
    let p = c.in_ok-mount.pass in
    let one : c.push_reserved.new.self.items ≡ first ∷ [] = c.push_reserved.ensures.items ∙ ap (λ fs. fs ++ first ∷ []) c.in_ok-files.ensures.items in
    let files : c.push_reserved-2.new.self.items ≡ first ∷ second ∷ [] = c.push_reserved-2.ensures.items ∙ ap (λ fs. fs ++ second ∷ []) one in
    let began : Started (layout 16 4) 0 sectors (first ∷ second ∷ []) m p = subst (λ g. Started g 0 sectors (first ∷ second ∷ []) m p) c.requires.geometry (subst (λ fs. Started c.args.geometry 0 sectors fs m p) files c.in_ok-mount.ensures.started) in
    let some = (All-head IsFile first (second ∷ []) c.requires.may.each).some in
    let cached = All-head (λ (f : FileSpec). f.mode ≡ Cached) first (second ∷ []) c.requires.may.cached in
    start-alone 0 first (second ∷ []) sectors m p some began cached c.is_laid_out.ensures c.in_ok-mount.ensures.of

pub returns-clause-whole : goal.returns-clause-whole
returns-clause-whole c =
    let first = c.args.first in
    let second = c.args.second in
    let sectors = c.args.device.items in
    let m = c.in_ok-mount.mount in
    let p = c.in_ok-mount.pass in
    let one : c.push_reserved.new.self.items ≡ first ∷ [] = c.push_reserved.ensures.items ∙ ap (λ fs. fs ++ first ∷ []) c.in_ok-files.ensures.items in
    let files : c.push_reserved-2.new.self.items ≡ first ∷ second ∷ [] = c.push_reserved-2.ensures.items ∙ ap (λ fs. fs ++ second ∷ []) one in
    let began : Started (layout 16 4) 0 sectors (first ∷ second ∷ []) m p = subst (λ g. Started g 0 sectors (first ∷ second ∷ []) m p) c.requires.geometry (subst (λ fs. Started c.args.geometry 0 sectors fs m p) files c.in_ok-mount.ensures.started) in
    let some = (All-head IsFile first (second ∷ []) c.requires.may.each).some in
    start-share 0 first (second ∷ []) sectors m p some began c.is_laid_out.ensures

pub returns-clause-other : goal.returns-clause-other
returns-clause-other c =
    let first = c.args.first in
    let second = c.args.second in
    let sectors = c.args.device.items in
    let m = c.in_ok-mount.mount in
    let p = c.in_ok-mount.pass in
    let one : c.push_reserved.new.self.items ≡ first ∷ [] = c.push_reserved.ensures.items ∙ ap (λ fs. fs ++ first ∷ []) c.in_ok-files.ensures.items in
    let files : c.push_reserved-2.new.self.items ≡ first ∷ second ∷ [] = c.push_reserved-2.ensures.items ∙ ap (λ fs. fs ++ second ∷ []) one in
    let began : Started (layout 16 4) 0 sectors (first ∷ second ∷ []) m p = subst (λ g. Started g 0 sectors (first ∷ second ∷ []) m p) c.requires.geometry (subst (λ fs. Started c.args.geometry 0 sectors fs m p) files c.in_ok-mount.ensures.started) in
    let cached = All-tail (λ (f : FileSpec). f.mode ≡ Cached) first (second ∷ []) c.requires.may.cached in
    start-other 0 first second sectors m p (All-head (λ (f : FileSpec). f.mode ≡ Cached) second [] cached) began
