use Rattle.std.proofs.Common.{◌∷◌, [], refl, subst}
use Rattle.semantic_objects.specs.declared.symbol.Symbol.TheVariants as symbol
use Rattle.sml_types.specs.Looking.{IsLook, labels_of, ids_of}
use Rattle.type_walks.proofs.Imaging.{if_ok}
use Rattle.given_tops.specs.Names.{nodes_of}
use Rattle.given_tops.proofs.Knowing.{variable_sure, made_says}
use Rattle.given_tops.proofs.table.id_holds.Goals as goal

pub returns-in-Variable : goal.returns-in-Variable
returns-in-Variable c =
    variable_sure c.args.t.now (nodes_of c.args.limits.now) c.args.id c.in-Variable.eq c.in-Variable.rigid
    (subst (IsLook c.args.t.now c.args.id) c.in-Variable.is c.in_ok-look.ensures)

pub returns-in-Arrow : goal.returns-in-Arrow
returns-in-Arrow c =
    let look = subst (IsLook c.args.t.now c.args.id) c.in-Arrow.is c.in_ok-look.ensures in
    if_ok c.sides_hold.result c.sides_hold.ensures
    (λ b h. made_says c.args.t.now (nodes_of c.args.limits.now) c.args.id symbol.Arrow
    (c.in-Arrow.from ∷ c.in-Arrow.to ∷ []) b look.0 refl h)

pub returns-in-Record : goal.returns-in-Record
returns-in-Record c =
    let look = subst (IsLook c.args.t.now c.args.id) c.in-Record.is c.in_ok-look.ensures in
    if_ok c.fields_hold.result c.fields_hold.ensures
    (λ b h. made_says c.args.t.now (nodes_of c.args.limits.now) c.args.id
    (symbol.Record (labels_of c.in-Record.fields)) (ids_of c.in-Record.fields) b look.is refl h)

pub returns-in-Named : goal.returns-in-Named
returns-in-Named c =
    let look = subst (IsLook c.args.t.now c.args.id) c.in-Named.is c.in_ok-look.ensures in
    if_ok c.named_holds.result c.named_holds.ensures (λ b h. h c.args.id look.0)
