use Rattle.std.proofs.Common.{◌≡◌, ◌+◌, [], ◌∷◌, ◌++◌, List, length, map, refl, sym, ap, ◌∙◌, subst, arith}
use Rattle.semantic_objects.specs.Nodes.{tree_at}
use Rattle.unification.specs.Types.{Ty}
use Rattle.type_nodes.specs.Tables.{type_of}
use Rattle.type_nodes.proofs.Making.{length_snoc}
use Rattle.type_schemes.proofs.Adding.{adds_nothing, adds_then}
use Rattle.type_functions.specs.Reading.{MayBeRead, AreRead}
use Rattle.type_functions.proofs.Arguments.{have_later, types_later, read_nothing, read_later, read_push, read_root}
use Rattle.type_functions.proofs.application.read_nodes.Goals as goal

pub loop-at-init : goal.loop-at-init
loop-at-init c = record {
  counted = ap length c.new-ids.ensures;
  read = read_nothing c.args.table.now (map (type_of c.args.table.now) c.args.args.now) c.args.nodes.now c.new-ids.result
      c.new-ids.ensures;
  births = refl;
  state = refl;
  added = adds_nothing c.args.table.now;
}

pub read_node-requires-clause-args : goal.read_node-requires-clause-args
read_node-requires-clause-args c =
    have_later c.args.table.now c.loop-at.table c.args.args.now c.loop-at.invariant.added c.requires.args

pub read_node-requires-clause-read : goal.read_node-requires-clause-read
read_node-requires-clause-read c =
    subst (λ (types : List Ty). AreRead c.loop-at.table types c.args.nodes.now c.loop-at.ids)
    (sym (types_later c.args.table.now c.loop-at.table c.args.args.now c.loop-at.invariant.added c.requires.args))
    c.loop-at.invariant.read

pub loop-at-preserved : goal.loop-at-preserved
loop-at-preserved c =
    let first = c.args.table.now in
    let old = c.loop-at.table in
    let new = c.read_node.new.table in
    let inv = c.loop-at.invariant in
    let types = map (type_of c.args.table.now) c.args.args.now in
    let now = subst (λ (types : List Ty). MayBeRead c.read_node.new.table types (tree_at c.args.nodes.now c.loop-at.at)
    c.in_ok-id.id)
    (types_later c.args.table.now c.loop-at.table c.args.args.now c.loop-at.invariant.added c.requires.args)
    c.in_ok-id.ensures.read in
    record {
      counted = ap length c.in_ok-add.ensures.ok ∙ length_snoc c.loop-at.ids c.in_ok-id.id ∙ ap (λ n. n + 1) inv.counted;
      read = read_push new types c.loop-at.at c.args.nodes.now c.loop-at.ids c.add.new.self c.in_ok-id.id
          (read_later old new types c.args.nodes.now c.loop-at.ids c.read_node.ensures.added inv.read)
          now inv.counted c.in_ok-add.ensures.ok;
      births = c.read_node.ensures.births ∙ inv.births;
      state = c.in_ok-id.ensures.state ∙ inv.state;
      added = adds_then first old new inv.added c.read_node.ensures.added;
    }

pub returns-in-Some-Some-clause-read : goal.returns-in-Some-Some-clause-read
returns-in-Some-Some-clause-read c =
    let k : c.loop-at.at ≡ length c.args.nodes.now =
    let k = c.loop-at-test.false in let l = c.loop-at.auto.at-end in omega (arith, k, l) in
    read_root c.loop-at.table (map (type_of c.args.table.now) c.args.args.now) c.args.nodes.now c.loop-at.ids
    c.pop.new.self c.in-Some-Some.id c.loop-at.invariant.read (c.loop-at.invariant.counted ∙ k)
    (c.in-Some-Some.ensures ∙ ap (λ o. c.pop.new.self ++ o ∷ []) c.in-Some-Some.field-0-is)
