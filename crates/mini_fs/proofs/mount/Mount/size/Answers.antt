use Rattle.std.proofs.Common.{◌≡◌, Some, ap, ◌∙◌, sym, subst}
use lib.ListN
use Rattle.std.proofs.lemmas.List.{get_or_default}
use Rattle.mount_parts.specs.MountView.{IsLaidOut, MountView, file_at, no_file}
use Rattle.mount_parts.specs.declared.file.FilePlace.{FilePlace}
use Rattle.mini_fs.proofs.Layouts.{size-within, sized_file}
use Rattle.mini_fs.proofs.mount.Mount.size.Goals as goal

pub returns-clause-within : goal.returns-clause-within
returns-clause-within c =
    let m : MountView = c.args.self.now in
    let has = sized_file m c.args.file c.requires in
    let files : c.self.inside.files.items ≡ m.files = ap (λ (v : MountView). v.files) c.self.view_is in
    let e : c.index.result.now ≡ file_at m c.args.file = c.index.ensures ∙ ap (λ l. lib.ListN.get_or l c.args.file.0 c.index.result.now) files ∙ get_or_default m.files c.args.file.0 c.index.result.now no_file has in
    let size : (file_at m c.args.file).size ≡ Some c.in-Some.at = ap (λ (f : FilePlace). f.size) (sym e) ∙ c.in-Some.is in
    size-within m c.args.file c.in-Some.at (subst IsLaidOut c.self.view_is c.self.invariant) size
