use Rattle.std.proofs.Common.{◌∷◌, [], refl, sym, ◌∙◌, subst, inl}
use Rattle.semantic_objects.specs.declared.symbol.Symbol.TheVariants as symbol
use Rattle.sml_types.specs.Looking.{IsLook, labels_of, ids_of}
use Rattle.declaration_ends.proofs.Walking.{lone_look, opens_of, name_stands}
use Rattle.declaration_ends.proofs.leaving.enter.Goals as goal

pub returns-in-Variable : goal.returns-in-Variable
returns-in-Variable c =
    inl (lone_look c.args.t.now c.args.id c.in-Variable.eq c.in-Variable.rigid c.args.ids.now
    (subst (IsLook c.args.t.now c.args.id) c.in-Variable.is c.in_ok-look.ensures))

pub returns-in_ok-add_two-in-Arrow : goal.returns-in_ok-add_two-in-Arrow
returns-in_ok-add_two-in-Arrow c =
    let look = subst (IsLook c.args.t.now c.args.id) c.in-Arrow.is c.in_ok-look.ensures in
    opens_of c.args.t.now c.args.home.now c.args.from c.args.to c.args.id symbol.Arrow
    (c.in-Arrow.argument ∷ c.in-Arrow.value ∷ []) c.args.ids.now c.add_two.new.ids look.0 look.1 refl
    c.in_ok-add_two-in-Arrow.ensures

pub returns-in_ok-add_fields-in-Record : goal.returns-in_ok-add_fields-in-Record
returns-in_ok-add_fields-in-Record c =
    let look = subst (IsLook c.args.t.now c.args.id) c.in-Record.is c.in_ok-look.ensures in
    opens_of c.args.t.now c.args.home.now c.args.from c.args.to c.args.id (symbol.Record (labels_of c.in-Record.fields))
    (ids_of c.in-Record.fields) c.args.ids.now c.add_fields.new.ids look.is look.has refl
    c.in_ok-add_fields-in-Record.ensures

pub returns-then-is_between : goal.returns-then-is_between
returns-then-is_between c =
    let look = subst (IsLook c.args.t.now c.args.id) c.in-Named.is c.in_ok-look.ensures in
    name_stands c.args.t.now c.args.home.now c.args.from c.args.to c.args.id c.in-Named.name c.in-Named.args
    c.is_between.result look.0 c.is_between.ensures c.if-is_between.true

pub returns-in_ok-add_all-in-Named : goal.returns-in_ok-add_all-in-Named
returns-in_ok-add_all-in-Named c =
    let look = subst (IsLook c.args.t.now c.args.id) c.in-Named.is c.in_ok-look.ensures in
    opens_of c.args.t.now c.args.home.now c.args.from c.args.to c.args.id (symbol.Name c.in-Named.name) c.in-Named.args
    c.args.ids.now c.add_all.new.ids look.0 look.1 (sym c.is_between.ensures ∙ c.if-is_between.false)
    c.in_ok-add_all-in-Named.ensures
