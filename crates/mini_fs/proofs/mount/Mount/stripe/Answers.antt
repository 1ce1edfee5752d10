use Rattle.std.proofs.Common.{◌≡◌, ◌+◌, ◌/◌, ◌<◌, length, arith, sym, subst, ap, ◌∙◌}
use lib.ListN
use Rattle.std.proofs.lemmas.List.{get_or_default, length-map}
use Rattle.mount_parts.specs.MountView.{IsLaidOut, MountView, file_at, no_file}
use Rattle.mount_parts.specs.declared.file.FilePlace.{FilePlace}
use Rattle.mini_fs.proofs.Layouts.{has_file, stripe-within}
use Rattle.mini_fs.proofs.mount.Mount.stripe.Goals as goal

pub overflow_add-result : goal.overflow_add-result
overflow_add-result c =
    let m : MountView = c.args.self.now in
    let below = stripe-within m c.args.file c.args.b (subst IsLaidOut c.self.view_is c.self.invariant) c.requires in
    let has = has_file m c.args.file c.args.b c.requires in
    let files : c.self.inside.files.items ≡ m.files = ap (λ (v : MountView). v.files) c.self.view_is in
    let e : c.index.result.now ≡ file_at m c.args.file = c.index.ensures ∙ ap (λ l. lib.ListN.get_or l c.args.file.0 c.index.result.now) files ∙ get_or_default m.files c.args.file.0 c.index.result.now no_file has in
    let sum : c.index.result.now.stripe + c.args.b / 64 < length m.stripes = subst (λ (f : FilePlace). f.stripe + c.args.b / 64 < length m.stripes) (sym e) below in
    let all : length m.stripes ≡ length c.self.inside.stripes.items = ap (λ (v : MountView). length v.stripes) (sym c.self.view_is) ∙ length-map c.self.inside.stripes.items _ in
    let ok = c.self.inside.stripes.ok in
    let small = c.self.inside.stripes.small in
    omega (arith, sum, all, ok.0, ok.1, small)

pub returns-clause-within : goal.returns-clause-within
returns-clause-within c =
    let m : MountView = c.args.self.now in
    let below = stripe-within m c.args.file c.args.b (subst IsLaidOut c.self.view_is c.self.invariant) c.requires in
    let has = has_file m c.args.file c.args.b c.requires in
    let files : c.self.inside.files.items ≡ m.files = ap (λ (v : MountView). v.files) c.self.view_is in
    let e : c.index.result.now ≡ file_at m c.args.file = c.index.ensures ∙ ap (λ l. lib.ListN.get_or l c.args.file.0 c.index.result.now) files ∙ get_or_default m.files c.args.file.0 c.index.result.now no_file has in
    subst (λ (f : FilePlace). f.stripe + c.args.b / 64 < length m.stripes) (sym e) below
