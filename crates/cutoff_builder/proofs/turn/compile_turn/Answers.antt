use Rattle.std.proofs.Common.{◌≡◌, ◌∙◌, Ok, sym, ap}
use Rattle.cm_base.specs.declared.diag.Diag.{Diag}
use Rattle.cm_base.specs.declared.record.BuiltUnit.{BuiltUnit}
use Rattle.cm_base.specs.declared.record.CompileInput.{CompileInput}
use Rattle.cm_base.specs.declared.record.Compiled.{Compiled}
use Rattle.cm_base.specs.declared.record.PlannedUnit.{PlannedUnit}
use Rattle.std.specs.Prelude.{ℕ, List, Result}
use Rattle.build_laws.specs.Inputs.{input_after, interface_bytes}
use Rattle.build_laws.specs.PlainBuild.{plain_unit, unit_after}
use Rattle.cutoff_builder.specs.Answers.{as_compiled}
use Rattle.cutoff_builder.proofs.Bins.{stored_has_bin}
use Rattle.cutoff_builder.proofs.Turning.{can_store, has_name}
use Rattle.cutoff_builder.proofs.turn.compile_turn.Goals as goal

-- what the compiler made of the input is the unit after those that are done
made_after : (compiled : CompileInput → Result Compiled Diag) (units : List BuiltUnit) (planned : PlannedUnit)
    (before : ℕ) (input : CompileInput) (unit : BuiltUnit) → before ≡ interface_bytes units
    → input ≡ input_after units planned → as_compiled (plain_unit before input (compiled input)) ≡ Ok unit
    → as_compiled (unit_after compiled units planned) ≡ Ok unit
made_after compiled units planned before input unit bytes is gives =
    ap (λ n. as_compiled (plain_unit n (input_after units planned) (compiled (input_after units planned)))) (sym bytes)
    ∙ ap (λ i. as_compiled (plain_unit before i (compiled i))) (sym is)
    ∙ gives

pub store_unit-requires : goal.store_unit-requires
store_unit-requires g c =
    let compiled = g.C.Compiler.defines.compiled in
    can_store compiled c.args.done.now.units c.args.planned.now c.in-Ok.unit c.requires.small
    (made_after compiled c.args.done.now.units c.args.planned.now c.args.done.now.interface_bytes c.in_ok-input.input
    c.in-Ok.unit c.requires.done.bytes c.in_ok-input.ensures c.in-Ok.ensures.gives)

-- the unit that was stored
pub returns-in-Ok-store_unit-clause-bin : goal.returns-in-Ok-store_unit-clause-bin
returns-in-Ok-store_unit-clause-bin g c =
    let compiled = g.C.Compiler.defines.compiled in
    let made = made_after compiled c.args.done.now.units c.args.planned.now c.args.done.now.interface_bytes
    c.in_ok-input.input c.in-Ok.unit c.requires.done.bytes c.in_ok-input.ensures c.in-Ok.ensures.gives in
    stored_has_bin c.args.planned.now c.in-Ok.unit
    (has_name compiled c.args.done.now.units c.args.planned.now c.in-Ok.unit made)
    (can_store compiled c.args.done.now.units c.args.planned.now c.in-Ok.unit c.requires.small made)
