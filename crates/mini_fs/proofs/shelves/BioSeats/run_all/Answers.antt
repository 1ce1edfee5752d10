use Rattle.std.proofs.Common.{set, sym, ◌∙◌, subst, vec_len, arith}
use Rattle.mini_fs.specs.BioSeats.{KeepsShelves, bio_seats_view}
use Rattle.mini_fs.proofs.ShelfLists.{first-there, kept-used, some-there}
use Rattle.mini_fs.proofs.shelves.BioSeats.run_all.Goals as goal

pub returns-clause-shelves : goal.returns-clause-shelves
returns-clause-shelves g c =
    let r = c.self.inside in
    let n = vec_len c.args.bios.now in
    let ss = r.shelves.items in
    let s = c.index_mut.result.now in
    let t = c.run.new.self in
    let sent = c.run.ensures.sent in
    let ok = r.shelves.ok.0 in
    let some = some-there (vec_len r.shelves) (sym c.is_empty.ensures ∙ c.if-is_empty.false) in
    let here = first-there ss s (omega arith) c.index_mut.ensures.value in
    subst (λ v. KeepsShelves n v (bio_seats_view c.run.new.pass (set ss 0 t))) c.self.view_is (kept-used n sent.sent r.queue c.run.new.pass ss s t here c.run.ensures.owner sent.fell sent.most)
