use Rattle.std.proofs.Common.{refl, ◌∙◌}
use Rattle.type_nodes.specs.Tables.{state}
use Rattle.sml_types.proofs.Solving.{rigid_read}
use Rattle.sml_types.proofs.Freezing.{follows_same, follows_variable, follows_named, name_stays, may_name, name_given}
use Rattle.sml_types.proofs.covers.name_variable.Goals as goal

pub returns-then-birth-clause-freezes : goal.returns-then-birth-clause-freezes
returns-then-birth-clause-freezes c = name_stays c.args.table.now c.args.variable (state c.args.table.now) c.is_kept.ensures.kept
    c.requires.end (rigid_read c.args.table.now.births c.args.variable c.birth.result c.birth.ensures ∙ c.if-birth.true) refl

pub returns-then-birth-clause-follows : goal.returns-then-birth-clause-follows
returns-then-birth-clause-follows c = follows_same c.args.table.now c.args.table.now refl

pub returns-in_err-name-clause-follows : goal.returns-in_err-name-clause-follows
returns-in_err-name-clause-follows c = follows_same c.args.table.now c.add_variable.new.self c.in_err-name.ensures.refused

pub bind-requires : goal.bind-requires
bind-requires c = may_name c.args.table.now c.add_variable.new.self c.args.variable c.is_marked-marked.result c.in_ok-name.name
    c.is_kept.ensures.kept c.is_kept-2.ensures.kept c.in_ok-name.ensures.added c.in_ok-name.ensures.id c.in_ok-name.ensures.state
    c.requires.within c.requires.end
    (rigid_read c.args.table.now.births c.args.variable c.birth.result c.birth.ensures ∙ c.if-birth.false) c.is_marked-marked.ensures

pub returns-in_err-bind-clause-follows : goal.returns-in_err-bind-clause-follows
returns-in_err-bind-clause-follows c = follows_variable c.args.table.now c.add_variable.new.self c.bind.new.self _
    c.in_ok-name.ensures.added c.in_err-bind.ensures.refused

pub returns-clause-freezes : goal.returns-clause-freezes
returns-clause-freezes c =
    let flexible = rigid_read c.args.table.now.births c.args.variable c.birth.result c.birth.ensures ∙ c.if-birth.false in
    name_given c.args.table.now c.add_variable.new.self c.bind.new.self c.args.variable c.is_marked-marked.result c.in_ok-name.name
    c.is_kept.ensures.kept c.is_kept-2.ensures.kept c.in_ok-name.ensures.id c.in_ok-name.ensures.state c.requires.within
    c.requires.end flexible c.is_marked-marked.ensures
    (may_name c.args.table.now c.add_variable.new.self c.args.variable c.is_marked-marked.result c.in_ok-name.name
    c.is_kept.ensures.kept c.is_kept-2.ensures.kept c.in_ok-name.ensures.added c.in_ok-name.ensures.id c.in_ok-name.ensures.state
    c.requires.within c.requires.end flexible c.is_marked-marked.ensures)
    c.in_ok-bind.ensures.state

pub returns-clause-follows : goal.returns-clause-follows
returns-clause-follows c = follows_named c.args.table.now c.add_variable.new.self c.bind.new.self _ _
    c.in_ok-name.ensures.added c.in_ok-bind.ensures.added
