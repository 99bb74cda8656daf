use Rattle.std.proofs.Common.{refl}
use Rattle.std.specs.Prelude.{Ok, Err}
use Rattle.cm_base.specs.declared.fault.Fault.TheVariants as fault
use Rattle.sml_trees.specs.declared.name.Name.{Name}
use Rattle.std.proofs.Common.{sym, ap, ◌∙◌}
use Rattle.sml_modules.specs.Graphs.{env_at, HasEnv}
use Rattle.type_phrases.proofs.PartsRead.{passed_on}
use Rattle.structure_elab.specs.Moments.{moment}
use Rattle.top_bindings.specs.Bindings.{read_bind, structure_name, infer_structure, IsStructureRow}
use Rattle.top_bindings.proofs.Rows.{bind_first, bind_second, bind_memory, bind_done}
use Rattle.top_bindings.proofs.Sorts.{structures_kind}
use Rattle.top_bindings.proofs.Bodies.{label_as, name_as}
use Rattle.top_bindings.proofs.structures.bind_structure.Goals as goal

pub returns-in_err-check_structure : goal.returns-in_err-check_structure
returns-in_err-check_structure c =
    passed_on (IsStructureRow (moment c.args.g.now c.args.t.now c.args.top.now) (read_bind c.args.sealing c.args.bind.now) c.args.made.now
    c.args.made.now (moment c.args.g.now c.args.t.now c.args.top.now)) c.from_residual.result
    c.in_err-check_structure.field-0.0 c.from_residual.ensures.1
    (bind_first structure_name infer_structure env_at HasEnv structures_kind
    {m0 = moment c.args.g.now c.args.t.now c.args.top.now} (read_bind c.args.sealing c.args.bind.now) c.args.made.now c.args.made.now
    (label_as (Err c.in_err-check_structure.field-0.0) (moment c.args.g.now c.args.t.now c.args.top.now) c.args.sealing c.args.bind.now c.args.made.now
    c.in_err-check_structure.ensures))

pub returns-in_err-env : goal.returns-in_err-env
returns-in_err-env c =
    passed_on (IsStructureRow (moment c.args.g.now c.args.t.now c.args.top.now) (read_bind c.args.sealing c.args.bind.now) c.args.made.now
    c.args.made.now (moment c.elab_structure.new.g c.elab_structure.new.t c.elab_structure.new.top))
    c.from_residual-in_err-env.result c.in_err-env.field-0.0 c.from_residual-in_err-env.ensures.1
    (bind_second structure_name infer_structure env_at HasEnv structures_kind (read_bind c.args.sealing c.args.bind.now) c.args.made.now
    c.args.made.now c.requires.ready.there (label_as (Ok tt) (moment c.args.g.now c.args.t.now c.args.top.now) c.args.sealing c.args.bind.now c.args.made.now
    c.in_ok-check_structure.ensures) c.in_err-env.ensures)

pub returns-in_err-copy : goal.returns-in_err-copy
returns-in_err-copy c =
    passed_on (IsStructureRow (moment c.args.g.now c.args.t.now c.args.top.now) (read_bind c.args.sealing c.args.bind.now) c.args.made.now
    c.args.made.now (moment c.elab_structure.new.g c.elab_structure.new.t c.elab_structure.new.top))
    c.from_residual-in_err-copy.result fault.NoMemory c.from_residual-in_err-copy.ensures.1
    (bind_memory structure_name infer_structure env_at HasEnv structures_kind (read_bind c.args.sealing c.args.bind.now) c.args.made.now
    c.args.made.now c.in_ok-env.ensures)

pub returns-in_err-bind : goal.returns-in_err-bind
returns-in_err-bind c =
    passed_on (IsStructureRow (moment c.args.g.now c.args.t.now c.args.top.now) (read_bind c.args.sealing c.args.bind.now) c.args.made.now
    c.bind.new.self (moment c.elab_structure.new.g c.elab_structure.new.t c.elab_structure.new.top))
    c.from_residual-in_err-bind.result fault.NoMemory c.from_residual-in_err-bind.ensures.1
    (bind_memory structure_name infer_structure env_at HasEnv structures_kind (read_bind c.args.sealing c.args.bind.now) c.args.made.now
    c.bind.new.self c.in_ok-env.ensures)

pub returns : goal.returns
returns c =
    bind_done structure_name infer_structure env_at HasEnv structures_kind (read_bind c.args.sealing c.args.bind.now) c.args.made.now
    c.bind.new.self _ c.requires.ready.there (label_as (Ok tt) (moment c.args.g.now c.args.t.now c.args.top.now) c.args.sealing c.args.bind.now c.args.made.now
    c.in_ok-check_structure.ensures) c.in_ok-env.ensures
    c.requires.made (c.in_ok-copy.ensures ∙ ap (λ (n : Name). n.text) (sym (name_as c.args.sealing c.args.bind.now)))
    c.in_ok-bind.ensures.ok
