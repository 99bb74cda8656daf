use Rattle.std.proofs.Common.{List, ap}
use Rattle.semantic_objects.specs.declared.entry.ConEntry.{ConEntry}
use Rattle.semantic_objects.specs.declared.entry.TypeStr.{TypeStr}
use Rattle.signature_specs.proofs.Typing.{own_type_is}
use Rattle.signature_specs.proofs.own_types.own_type.Goals as goal

pub returns : goal.returns
returns c =
    own_type_is c.args.name.now _ c.in_ok-own_tree.field-0
    (ap (λ (cons : List ConEntry). (let str : TypeStr = record {
      function = record { arity = c.args.name.now.arity; body = c.in_ok-own_tree.field-0 };
      cons = cons;
    } in str)) c.new.ensures) c.in_ok-own_tree.ensures
