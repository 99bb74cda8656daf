use Rattle.std.proofs.Common.{◌+◌, ◌∷◌, drop, sym, ap, ◌∙◌}
use Rattle.env_parts.specs.Types.{con_types}
use Rattle.realisation.specs.Names.{names_in, names_in_list, is_listed}
use Rattle.type_walks.proofs.Imaging.{rest_at}
use Rattle.name_walks.specs.Noting.{noted_all}
use Rattle.name_walks.proofs.Going.{con_next}
use Rattle.name_walks.proofs.names.note_cons.Goals as goal

pub loop-con-preserved : goal.loop-con-preserved
loop-con-preserved c =
    let items = c.as_slice-con-items.result.now in
    let i = c.loop-con.con-index in
    record {
      told = c.in_ok-note_tree.ensures.told;
      names = con_next c.loop-con.table.names c.note_tree.new.table.names
          (noted_all is_listed c.args.table.now.names (names_in_list (con_types c.args.cons.now)))
          (drop i c.args.cons.now) (drop (i + 1) c.args.cons.now) c.con-item.result
          (rest_at c.args.cons.now items i c.con-item.result c.as_slice-con-items.ensures c.loop-con-test.true
          ∙ ap (λ x. x ∷ drop (i + 1) c.args.cons.now) (sym c.con-item.is))
          (c.in_ok-note_tree.ensures.names
          ∙ ap (λ t. noted_all is_listed c.loop-con.table.names (names_in t)) c.body.ensures)
          c.loop-con.invariant.names;
    }
