use Rattle.std.proofs.Common.{◌∙◌, sym, ap, ◌++◌, ◌∷◌, []}
use Rattle.semantic_objects.specs.declared.name.TyName.{TyName}
use Rattle.where_types.proofs.Names.{other_left, other_added}
use Rattle.where_types.proofs.replacing.add_other.Goals as goal

pub returns-then-is_name : goal.returns-then-is_name
returns-then-is_name c =
    other_left c.args.name.now c.args.other.now c.args.left.now (sym c.is_name.ensures ∙ c.if-is_name.true)

pub returns : goal.returns
returns c =
    other_added c.args.name.now c.args.other.now c.args.left.now c.add.new.self (sym c.is_name.ensures ∙ c.if-is_name.false)
    (c.in_ok-add.ensures.ok ∙ ap (λ (n : TyName). c.args.left.now ++ n ∷ []) c.in_ok-copy.ensures)
