use Rattle.std.proofs.Common.{◌≡◌, ap, ◌∙◌, ◌++◌, ◌∷◌, [], Some, rules}
use Rattle.std.proofs.Math.Seq.{take-length}
use Rattle.semantic_objects.specs.Tables.{entry}
use Rattle.semantic_objects.specs.Environments.{structures}
use Rattle.sml_modules.specs.Items.{map_rows}
use Rattle.sml_modules.specs.Graphs.{env_at, FindsEnv}
use Rattle.core_scopes.proofs.Tables.{rows_of}
use Rattle.core_scopes.proofs.Scoping.{front_more}
use Rattle.core_scopes.proofs.Opening.{first_rows, next_structure, next_env}
use Rattle.core_scopes.proofs.Pathing.{finds_is}
use Rattle.core_scopes.proofs.opened.open_structures.Goals as goal

pub loop-name-init : goal.loop-name-init
loop-name-init c =
    let table = structures (env_at c.args.g.now c.args.env) in
    record {
      bound = ap (λ names. map_rows (env_at c.args.g.now) c.args.trail.now ++ rows_of table names)
          (c.into_iter-name-iterator.ensures.into_iter_gives.0 ∙ c.into_vec-name-items.ensures)
          ∙ ap (λ rows. map_rows (env_at c.args.g.now) c.args.trail.now ++ rows)
          (first_rows table c.in_ok-names.names c.in_ok-names.ensures.names c.in_ok-names.ensures.rising);
      there = λ there. there;
      kept = take-length c.args.trail.now;
    }

pub loop-name-preserved-in-Continue-branch-4 : goal.loop-name-preserved-in-Continue-branch-4
loop-name-preserved-in-Continue-branch-4 c =
    let g = c.args.g.now in
    let env = env_at c.args.g.now c.args.env in
    let next : c.loop-name.name-iterator.rest.items ≡ c.in-Some.name ∷ c.next.new.self.rest.items = search rules in
    let found : FindsEnv g (entry c.in-Some.name (structures env)) (Some c.in-Some-2.entry) =
    finds_is g (entry c.in-Some.name (structures env)) c.in_ok-entry.field-0 (Some c.in-Some-2.entry) c.in-Some-2.is
    c.in_ok-entry.ensures in
    record {
      bound = next_structure g env c.in-Some.name c.next.new.self.rest.items c.loop-name.name-iterator.rest.items
          c.in-Some-2.entry c.loop-name.trail c.bind.new.self
          (map_rows (env_at g) c.args.trail.now ++ structures env) next
          found c.loop-name.invariant.bound c.in_ok-bind.ensures.ok;
      there = next_env g c.args.trail.now c.loop-name.trail c.bind.new.self c.in-Some.name c.in-Some-2.entry found.0
          c.loop-name.invariant.there c.in_ok-bind.ensures.ok;
      kept = front_more c.args.trail.now c.loop-name.trail ((c.in-Some.name, c.in-Some-2.entry) ∷ []) c.bind.new.self
          c.loop-name.invariant.kept c.in_ok-bind.ensures.ok;
    }
