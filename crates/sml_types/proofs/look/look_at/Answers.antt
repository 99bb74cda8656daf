use Rattle.std.proofs.Common.{sym, ap, ◌∙◌}
use Rattle.sml_types.proofs.Looking.{look_as}
use Rattle.sml_types.proofs.Solving.{rigid_read}
use Rattle.sml_types.proofs.look.look_at.Goals as goal

pub returns-in-Variable : goal.returns-in-Variable
returns-in-Variable c = record {
  number = c.in-Variable.at;
  is = sym c.in-Variable.ensures.whole ∙ c.in-Variable.ensures.end.1;
  marked = c.is_marked.ensures;
  alone = sym (ap (λ f. f c.in-Variable.at) c.is_kept.ensures.kept.rigid
      ∙ rigid_read c.args.table.now.births c.in-Variable.at c.birth.result c.birth.ensures);
}

pub returns-in_ok-look_node-in-Made : goal.returns-in_ok-look_node-in-Made
returns-in_ok-look_node-in-Made c = look_as c.args.table.now _ c.args.id c.in_ok-look_node-in-Made.field-0
    c.in-Made.ensures.whole c.in_ok-look_node-in-Made.ensures
