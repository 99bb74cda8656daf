-- What is in scope of a top alone.
use Rattle.std.proofs.Common.{◌≡◌, ap, []}
use Rattle.semantic_objects.specs.Environments.{Env}
use Rattle.sml_modules.specs.declared.id.SigId.{SigId}
use Rattle.sml_modules.specs.declared.id.TopId.{TopId}
use Rattle.sml_modules.specs.Graphs.{Graph, top_at}
use Rattle.name_trails.specs.Trails.{Rows}
use Rattle.static_semantics.specs.Inferring.{outermost}
use Rattle.core_scopes.specs.Scopes.{Bindings, seen}
use Rattle.pattern_elab.specs.declared.own.OwnVariable.{OwnVariable}
use Rattle.pattern_elab.specs.Scopes.{own_entry}
use Rattle.unit_semantics.specs.StructureInference.{core_scope}
use Rattle.module_scopes.specs.declared.defined.Defined.{Defined}
use Rattle.module_scopes.specs.declared.top.TopScope.{TopScope}
use Rattle.module_scopes.specs.Tops.{signatures_over, top_seen}

abbrev scope_by : TopId → Bindings OwnVariable → Defined → TopScope
scope_by top core defined = record { core = core; given = top; defined = defined }

pub signatures_begin : (g : Graph) (top : TopId) (core : Bindings OwnVariable) (defined : Defined)
    → defined.signatures ≡ [] → (top_seen g (scope_by top core defined)).signatures ≡ (top_at g top).signatures
signatures_begin g top core defined e = ap (λ (rows : Rows SigId). signatures_over g rows (top_at g top).signatures) e

pub core_begins_alone : (g : Graph) (top : TopId) (core : Bindings OwnVariable) (defined : Defined)
    → seen g own_entry core ≡ (top_at g top).env
    → core_scope g.home (top_seen g (scope_by top core defined)) ≡ outermost g.home (top_at g top).env
core_begins_alone g top core defined e = ap (λ (env : Env). outermost g.home env) e
