use Rattle.std.proofs.Common.{◌∙◌, ap, refl}
use Rattle.semantic_objects.specs.Tables.{with_all}
use Rattle.type_nodes.specs.Tables.{state}
use Rattle.core_scopes.proofs.Pathing.{if_ok}
use Rattle.declaration_ends.specs.Sizes.{large_type}
use Rattle.declaration_ends.proofs.Sizing.{type_flags, type_noted, all_types}
use Rattle.declaration_ends.proofs.made.any_type_large.Goals as goal

pub loop-named-init : goal.loop-named-init
loop-named-init c = record {
  same = refl;
  rows = ap (with_all (type_flags (state c.args.t.now).stands c.args.types.now)) c.new-rows.ensures;
}

pub loop-named-preserved : goal.loop-named-preserved
loop-named-preserved c = record {
  same = c.in_ok-large.ensures.same ∙ c.loop-named.invariant.same;
  rows = type_noted (state c.args.t.now).stands c.as_slice-named-items.result.now c.args.types.now
      c.loop-named.named-index c.named-item.result c.loop-named.rows c.note.new.rows c.in_ok-large.large
      c.as_slice-named-items.ensures c.loop-named-test.true c.named-item.is
      (c.in_ok-large.ensures.large
      ∙ ap (λ u. large_type (state u).stands c.named-item.result.entry) c.loop-named.invariant.same)
      c.in_ok-note.ensures c.loop-named.invariant.rows;
}

pub returns-clause-large : goal.returns-clause-large
returns-clause-large c =
    if_ok c.any_noted.result _ _
    (λ b h. all_types (state c.args.t.now).stands c.as_slice-named-items.result.now c.args.types.now
    c.loop-named.named-index c.loop-named.rows b c.as_slice-named-items.ensures c.loop-named-test.false
    c.loop-named.invariant.rows h) c.any_noted.ensures
