use Rattle.std.proofs.Common.{◌+◌, ◌∷◌, length, drop, refl, sym, ap, ◌∙◌}
use Rattle.std.proofs.lemmas.Option.{slice_get_read}
use Rattle.interface_nodes.proofs.Imaging.{drop_get}
use Rattle.interface_nodes.proofs.Entering.{constructors_next}
use Rattle.interface_nodes.proofs.entries.add_constructors.Goals as goal

pub loop-con-preserved : goal.loop-con-preserved
loop-con-preserved c =
    let cons = c.args.cons.now in
    let items = c.as_slice-con-items.result.now in
    let i = c.loop-con.con-index in
    constructors_next c.args.home.now cons (drop i cons) (drop (i + 1) cons) c.con-item.result c.args.table.now
    c.loop-con.table c.add_whole_scheme.new.table c.loop-con.rows c.add.new.self c.in_ok-name.name c.in_ok-place.place
    (ap (drop c.loop-con.con-index) (sym c.as_slice-con-items.ensures)
    ∙ drop_get items i c.con-item.result
    (slice_get_read items (length items) i c.con-item.result refl c.loop-con-test.true c.con-item.is)
    ∙ ap (λ z. c.con-item.result ∷ drop (c.loop-con.con-index + 1) z) c.as_slice-con-items.ensures)
    c.in_ok-name.ensures c.loop-con.invariant c.in_ok-place.ensures c.in_ok-add.ensures.ok
