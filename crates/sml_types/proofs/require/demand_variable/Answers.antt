use Rattle.std.proofs.Common.{sym, ap, subst, ◌∙◌}
use Rattle.type_nodes.specs.Tables.{state}
use Rattle.sml_types.specs.Requiring.{MarksMore, admitted}
use Rattle.sml_types.proofs.Requiring.{demanded_already, refused_variable, demanded_variable, marks_entry}
use Rattle.sml_types.proofs.Solving.{rigid_read, open_at}
use Rattle.sml_types.proofs.require.demand_variable.Goals as goal

pub returns-then-is_marked-clause-answer : goal.returns-then-is_marked-clause-answer
returns-then-is_marked-clause-answer c = demanded_already _ _ _
    (subst (admitted (state c.args.table.now).marks) (sym c.requires.end.1) (sym c.is_marked.ensures ∙ c.if-is_marked.true))

pub returns-then-birth-clause-answer : goal.returns-then-birth-clause-answer
returns-then-birth-clause-answer c = refused_variable c.args.table.now c.args.at _ c.requires.end.1
    (ap (λ f. f c.args.at) c.is_kept.ensures.kept.rigid
    ∙ rigid_read c.args.table.now.births c.args.at c.birth.result c.birth.ensures ∙ c.if-birth.true)
    (sym c.is_marked.ensures ∙ c.if-is_marked.false)

pub set_mark-requires : goal.set_mark-requires
set_mark-requires c = record {
  at = open_at c.args.table.now c.args.at c.requires.has c.requires.end
      (rigid_read c.args.table.now.births c.args.at c.birth.result c.birth.ensures ∙ c.if-birth.false);
  unmarked = sym c.is_marked.ensures ∙ c.if-is_marked.false;
}

pub returns-clause-only : goal.returns-clause-only
returns-clause-only c = subst (MarksMore c.args.table.now) (sym c.in_ok-set_mark.ensures.added) (marks_entry c.args.table.now c.args.at)

pub returns-clause-answer : goal.returns-clause-answer
returns-clause-answer c = demanded_variable c.args.table.now c.set_mark.new.self c.args.at _ _ c.requires.end.1
    (ap (λ f. f c.args.at) c.is_kept.ensures.kept.rigid
    ∙ rigid_read c.args.table.now.births c.args.at c.birth.result c.birth.ensures ∙ c.if-birth.false)
    c.in_ok-set_mark.ensures.state
