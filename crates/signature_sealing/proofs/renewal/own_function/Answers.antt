use Rattle.std.proofs.Common.{ap, sym, ◌∙◌}
use Rattle.semantic_objects.specs.Trees.{Tree, trees_of}
use Rattle.semantic_objects.specs.declared.symbol.Symbol.TheVariants as symbol
use Rattle.semantic_objects.specs.declared.name.TyName.{TyName}
use Rattle.signature_sealing.proofs.Naming.{count_variables, own_function}
use Rattle.signature_sealing.proofs.renewal.own_function.Goals as goal

pub make-requires : goal.make-requires
make-requires c = count_variables c.args.name.now.arity c.in_ok-args.args c.in_ok-args.ensures
    ∙ sym (ap (λ (n : TyName). n.arity) c.in_ok-copy.ensures)

pub returns : goal.returns
returns c = own_function c.args.name.now c.in_ok-args.args c.in_ok-body.body c.in_ok-args.ensures
    (c.in_ok-body.ensures ∙ ap (λ n. Tree.Made (symbol.Name n) (trees_of c.in_ok-args.args)) c.in_ok-copy.ensures)
