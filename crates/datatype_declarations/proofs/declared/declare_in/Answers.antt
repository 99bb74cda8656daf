use Rattle.std.specs.Prelude.{Result, OnErr}
use Rattle.cm_base.specs.declared.fault.Fault.{Fault}
use Rattle.cm_base.specs.declared.fault.Fault.TheVariants as fault
use Rattle.sml_modules.specs.Graphs.{env_at, env_of_entries}
use Rattle.sml_modules.specs.declared.id.EnvId.{EnvId}
use Rattle.type_phrases.specs.Inferred.{Answers, progress}
use Rattle.type_phrases.proofs.PartsRead.{passed_on}
use Rattle.datatype_elab.specs.Leaving.{MakesNames, LeftByDiag}
use Rattle.datatype_elab.proofs.Declaring.{no_envs}
use Rattle.datatype_declarations.specs.Nothing.{nobody_entry}
use Rattle.datatype_declarations.proofs.Enclosing.{names_same, declares_given, wanted_of, declared_not, declared_env}
use Rattle.datatype_declarations.proofs.declared.declare_in.Goals as goal

pub elab_datatypes-requires : goal.elab_datatypes-requires
elab_datatypes-requires c = c.new-scope.ensures.there c.args.g.now c.requires

pub make_env-requires : goal.make_env-requires
make_env-requires c = no_envs c.elab_datatypes.new.g c.in_ok-made.made.structures c.in_ok-made.ensures.structures

pub returns-in_err-made-clause-infers : goal.returns-in_err-made-clause-infers
returns-in_err-made-clause-infers c =
    passed_on (λ r. Answers (wanted_of c.args.g.now c.args.t.now c.args.env c.args.binds.now) (λ (id : EnvId).
    (env_at c.elab_datatypes.new.g id, progress c.elab_datatypes.new.t c.elab_datatypes.new.g)) r)
    c.from_residual.result c.in_err-made.field-0.0 c.from_residual.ensures.1
    (declared_not c.args.g.now c.elab_datatypes.new.g c.args.t.now c.elab_datatypes.new.t c.args.env c.new-scope.result
    c.as_slice-phrases.result.now c.args.binds.now c.in_err-made.field-0.0
    (c.new-scope.ensures.seen c.args.g.now nobody_entry) c.new-scope.ensures.written c.as_slice-phrases.ensures
    (c.in_err-made.ensures.infers c.args.t.now nobody_entry))

pub returns-in_err-entries-clause-infers : goal.returns-in_err-entries-clause-infers
returns-in_err-entries-clause-infers c =
    passed_on (λ r. Answers (wanted_of c.args.g.now c.args.t.now c.args.env c.args.binds.now) (λ (id : EnvId).
    (env_at c.elab_datatypes.new.g id, progress c.elab_datatypes.new.t c.elab_datatypes.new.g)) r)
    c.from_residual-in_err-entries.result fault.NoMemory c.from_residual-in_err-entries.ensures.1 tt

pub returns-in_err-entries-clause-graph : goal.returns-in_err-entries-clause-graph
returns-in_err-entries-clause-graph c =
    passed_on (λ (r : Result EnvId Fault). LeftByDiag r c.args.g.now c.elab_datatypes.new.g)
    c.from_residual-in_err-entries.result fault.NoMemory c.from_residual-in_err-entries.ensures.1 tt

pub returns-in_err-id-clause-infers : goal.returns-in_err-id-clause-infers
returns-in_err-id-clause-infers c =
    passed_on (λ r. Answers (wanted_of c.args.g.now c.args.t.now c.args.env c.args.binds.now) (λ (id : EnvId).
    (env_at c.make_env.new.self id, progress c.elab_datatypes.new.t c.make_env.new.self)) r)
    c.from_residual-in_err-id.result fault.NoMemory c.from_residual-in_err-id.ensures.1 tt

pub returns-in_err-id-clause-names : goal.returns-in_err-id-clause-names
returns-in_err-id-clause-names c =
    passed_on (λ (r : Result EnvId Fault). OnErr r (MakesNames c.args.g.now c.make_env.new.self))
    c.from_residual-in_err-id.result fault.NoMemory c.from_residual-in_err-id.ensures.1
    (names_same c.args.g.now c.elab_datatypes.new.g c.make_env.new.self c.in_ok-made.ensures.names
    c.in_err-id.ensures.err)

pub returns-in_err-id-clause-graph : goal.returns-in_err-id-clause-graph
returns-in_err-id-clause-graph c =
    passed_on (λ (r : Result EnvId Fault). LeftByDiag r c.args.g.now c.make_env.new.self)
    c.from_residual-in_err-id.result fault.NoMemory c.from_residual-in_err-id.ensures.1 tt

pub returns-clause-infers : goal.returns-clause-infers
returns-clause-infers c =
    declared_env c.args.g.now c.elab_datatypes.new.g c.make_env.new.self c.args.t.now c.elab_datatypes.new.t c.args.env
    c.new-scope.result c.as_slice-phrases.result.now c.args.binds.now
    c.in_ok-made.made c.in_ok-entries.entries c.in_ok-id.id
    (c.new-scope.ensures.seen c.args.g.now nobody_entry) c.new-scope.ensures.written
    c.as_slice-phrases.ensures
    (c.in_ok-made.ensures.infers c.args.t.now nobody_entry) c.in_ok-entries.ensures c.in_ok-id.ensures.ok

pub returns-clause-declared : goal.returns-clause-declared
returns-clause-declared c =
    declares_given c.args.g.now c.elab_datatypes.new.g c.make_env.new.self
    (env_of_entries c.elab_datatypes.new.g c.in_ok-made.made.structures c.in_ok-made.made.types c.in_ok-entries.entries)
    c.in_ok-id.id c.in_ok-made.ensures.names c.in_ok-id.ensures.ok
