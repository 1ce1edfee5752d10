use Rattle.std.proofs.Common.{◌≡◌, ◌++◌, List, [], ◌∷◌, length, refl, sym, ap, ◌∙◌, subst}
use Rattle.io_model.specs.declared.file.FileSpec.{FileSpec}
use Rattle.iob_base.specs.Layout.{layout}
use Rattle.file_stripes.specs.Files.{numbers_of_files}
use Rattle.file_stripes.specs.Taking.{AreNamedOnce}
use Rattle.mini_fs.specs.Starts.{Started}
use Rattle.worked_mounts.specs.Begins.{file_with}
use Rattle.worked_mounts.proofs.Starting.{files-named, start-alone, start-none, start-one, start-share}
use Rattle.worked_mounts.proofs.single.started_on.Goals as goal

pub start-requires-clause-named : goal.start-requires-clause-named
start-requires-clause-named c =
    let begin = c.args.begin in
    let file = file_with begin.blocks begin.size c.args.extents.now in
    let files : c.push_reserved.new.self.items ≡ file ∷ [] = c.push_reserved.ensures.items ∙ (λ j. c.in_ok-files.ensures.items j ++ c.in_ok-file.ensures j ∷ []) in
    subst (λ fs. AreNamedOnce (length c.args.device.items) (numbers_of_files fs)) (sym files)
    (subst (λ n. AreNamedOnce n (numbers_of_files (file ∷ []))) (sym c.requires.device.count) (files-named begin.device begin.blocks begin.size begin.cookie c.args.extents.now c.requires.may))

pub returns-clause-alone : goal.returns-clause-alone
returns-clause-alone c =
    let begin = c.args.begin in
    let sectors = c.args.device.items in
    let m = c.in_ok-mount.mount in
    let p = c.in_ok-mount.pass in
    let file = file_with begin.blocks begin.size c.args.extents.now in
    let files : c.push_reserved.new.self.items ≡ file ∷ [] = c.push_reserved.ensures.items ∙ (λ j. c.in_ok-files.ensures.items j ++ c.in_ok-file.ensures j ∷ []) in
    let began : Started (layout 16 4) begin.cookie sectors (file ∷ []) m p = subst (λ g. Started g begin.cookie sectors (file ∷ []) m p) c.requires.geometry (subst (λ fs. Started c.args.geometry begin.cookie sectors fs m p) files c.in_ok-mount.ensures.started) in
    start-alone begin.cookie file [] sectors m p c.requires.may.file.some began refl c.is_laid_out.ensures c.in_ok-mount.ensures.of

pub returns-clause-whole : goal.returns-clause-whole
returns-clause-whole c =
    let begin = c.args.begin in
    let sectors = c.args.device.items in
    let m = c.in_ok-mount.mount in
    let p = c.in_ok-mount.pass in
    let file = file_with begin.blocks begin.size c.args.extents.now in
    let files : c.push_reserved.new.self.items ≡ file ∷ [] = c.push_reserved.ensures.items ∙ (λ j. c.in_ok-files.ensures.items j ++ c.in_ok-file.ensures j ∷ []) in
    let began : Started (layout 16 4) begin.cookie sectors (file ∷ []) m p = subst (λ g. Started g begin.cookie sectors (file ∷ []) m p) c.requires.geometry (subst (λ fs. Started c.args.geometry begin.cookie sectors fs m p) files c.in_ok-mount.ensures.started) in
    start-share begin.cookie file [] sectors m p c.requires.may.file.some began c.is_laid_out.ensures

pub returns-clause-one : goal.returns-clause-one
returns-clause-one c =
    let begin = c.args.begin in
    let sectors = c.args.device.items in
    let m = c.in_ok-mount.mount in
    let p = c.in_ok-mount.pass in
    let file = file_with begin.blocks begin.size c.args.extents.now in
    let files : c.push_reserved.new.self.items ≡ file ∷ [] = c.push_reserved.ensures.items ∙ (λ j. c.in_ok-files.ensures.items j ++ c.in_ok-file.ensures j ∷ []) in
    let began : Started (layout 16 4) begin.cookie sectors (file ∷ []) m p = subst (λ g. Started g begin.cookie sectors (file ∷ []) m p) c.requires.geometry (subst (λ fs. Started c.args.geometry begin.cookie sectors fs m p) files c.in_ok-mount.ensures.started) in
    start-one begin.cookie begin.blocks begin.size c.args.extents.now sectors m p began

pub returns-clause-spare : goal.returns-clause-spare
returns-clause-spare c =
    let begin = c.args.begin in
    let sectors = c.args.device.items in
    let m = c.in_ok-mount.mount in
    let p = c.in_ok-mount.pass in
    let file = file_with begin.blocks begin.size c.args.extents.now in
    let files : c.push_reserved.new.self.items ≡ file ∷ [] = c.push_reserved.ensures.items ∙ (λ j. c.in_ok-files.ensures.items j ++ c.in_ok-file.ensures j ∷ []) in
    let began : Started (layout 16 4) begin.cookie sectors (file ∷ []) m p = subst (λ g. Started g begin.cookie sectors (file ∷ []) m p) c.requires.geometry (subst (λ fs. Started c.args.geometry begin.cookie sectors fs m p) files c.in_ok-mount.ensures.started) in
    began.spare

pub returns-clause-sizes : goal.returns-clause-sizes
returns-clause-sizes c =
    let begin = c.args.begin in
    let sectors = c.args.device.items in
    let m = c.in_ok-mount.mount in
    let p = c.in_ok-mount.pass in
    let file = file_with begin.blocks begin.size c.args.extents.now in
    let files : c.push_reserved.new.self.items ≡ file ∷ [] = c.push_reserved.ensures.items ∙ (λ j. c.in_ok-files.ensures.items j ++ c.in_ok-file.ensures j ∷ []) in
    let began : Started (layout 16 4) begin.cookie sectors (file ∷ []) m p = subst (λ g. Started g begin.cookie sectors (file ∷ []) m p) c.requires.geometry (subst (λ fs. Started c.args.geometry begin.cookie sectors fs m p) files c.in_ok-mount.ensures.started) in
    λ none. start-none begin.cookie begin.blocks begin.size c.args.extents.now sectors m p began none
