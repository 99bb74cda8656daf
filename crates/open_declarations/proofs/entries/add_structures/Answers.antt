use Rattle.std.proofs.Common.{◌≡◌, ap, ◌∙◌, ◌++◌, ◌∷◌, Some, rules}
use Rattle.semantic_objects.specs.Tables.{entry}
use Rattle.semantic_objects.specs.Environments.{structures}
use Rattle.sml_modules.specs.Graphs.{env_at, FindsEnv, structure_rows}
use Rattle.core_scopes.proofs.Tables.{rows_of}
use Rattle.core_scopes.proofs.Opening.{first_rows}
use Rattle.core_scopes.proofs.Pathing.{finds_is}
use Rattle.open_declarations.proofs.Opening.{structure_next, envs_more}
use Rattle.open_declarations.proofs.entries.add_structures.Goals as goal

pub loop-name-init : goal.loop-name-init
loop-name-init c =
    let g = c.args.g.now in
    let table = structures (env_at c.args.g.now c.args.env) in
    record {
      rows = ap (λ names. structure_rows g c.args.entries.now ++ rows_of table names)
          (c.into_iter-name-iterator.ensures.into_iter_gives.0 ∙ c.into_vec-name-items.ensures)
          ∙ ap (λ rows. structure_rows g c.args.entries.now ++ rows)
          (first_rows table c.in_ok-names.names c.in_ok-names.ensures.names c.in_ok-names.ensures.rising);
      there = λ there. there;
    }

pub loop-name-preserved-in-Continue-branch-4 : goal.loop-name-preserved-in-Continue-branch-4
loop-name-preserved-in-Continue-branch-4 c =
    let g = c.args.g.now in
    let env = env_at c.args.g.now c.args.env in
    let next : c.loop-name.name-iterator.rest.items ≡ c.in-Some.name ∷ c.next.new.self.rest.items = search rules in
    let found : FindsEnv g (entry c.in-Some.name (structures env)) (Some c.in-Some-2.entry) =
    finds_is g (entry c.in-Some.name (structures env)) c.in_ok-entry.field-0 (Some c.in-Some-2.entry) c.in-Some-2.is
    c.in_ok-entry.ensures in
    record {
      rows = structure_next g (structures env) c.in-Some.name c.next.new.self.rest.items
          c.loop-name.name-iterator.rest.items c.in-Some-2.entry c.loop-name.entries c.add.new.self
          (structure_rows g c.args.entries.now ++ structures env) next found.1 c.loop-name.invariant.rows
          c.in_ok-add.ensures.ok;
      there = envs_more g c.args.entries.now c.loop-name.entries c.add.new.self c.in-Some.name c.in-Some-2.entry
          c.in_ok-add.ensures.ok c.loop-name.invariant.there found.0;
    }
