use Rattle.std.proofs.Common.{◌≡◌, ◌∷◌, subst, rules}
use Rattle.semantic_objects.specs.Tables.{with_all}
use Rattle.sml_modules.specs.Items.{at, as_type, map_rows}
use Rattle.sml_modules.specs.Graphs.{type_rows}
use Rattle.sml_modules.proofs.Keeping.{extends_then, extends_same}
use Rattle.sml_modules.proofs.Making.{type_step}
use Rattle.sml_modules.proofs.graph.EnvGraph.keep_types.Goals as goal

pub loop-named-preserved : goal.loop-named-preserved
loop-named-preserved c =
    let next : c.loop-named.named-iterator.rest.items ≡ c.in-Some.named ∷ c.next.new.self.rest.items = search rules in
    let all = with_all (type_rows c.args.types) (map_rows (λ p. as_type (at c.args.self.now.items p)) c.args.rows.now) in
    let step = type_step c.args.self.now c.loop-named.self c.add.new.self c.args.rows.now c.loop-named.rows c.set.new.self
    c.in-Some.named.entry c.in_ok-place.place c.in-Some.named.name c.next.new.self.rest.items all
    c.loop-named.invariant.extends c.loop-named.invariant.are
    (subst (λ z. with_all (type_rows z) (map_rows (λ p. as_type (at c.loop-named.self.items p)) c.loop-named.rows) ≡ all)
    next c.loop-named.invariant.rest)
    c.in_ok-place.ensures.ok c.in_ok-set.ensures.ok in
    record {
      extends = extends_then c.args.self.now c.loop-named.self c.add.new.self c.loop-named.invariant.extends
          c.in_ok-place.ensures.ok.extends;
      are = step.0;
      rest = step.1;
    }

pub returns-in_err-place-clause-extends : goal.returns-in_err-place-clause-extends
returns-in_err-place-clause-extends c = extends_same c.args.self.now c.loop-named.self c.add.new.self
    c.loop-named.invariant.extends c.in_err-place.ensures.err

pub returns-in_err-set-clause-extends : goal.returns-in_err-set-clause-extends
returns-in_err-set-clause-extends c = extends_then c.args.self.now c.loop-named.self c.add.new.self
    c.loop-named.invariant.extends c.in_ok-place.ensures.ok.extends
