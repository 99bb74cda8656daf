use Rattle.datatype_specs.proofs.Parting.{common_structure, common_type, common_value}
use Rattle.datatype_specs.proofs.parts.has_common.Goals as goal

pub returns-then-any_structure : goal.returns-then-any_structure
returns-then-any_structure g c = λ graph read.
    common_structure graph read c.args.part.now c.args.made.now c.any_structure.result c.as_slice.result.now
    c.as_slice.ensures c.any_structure.ensures c.if-any_structure.true

pub returns-then-any_type : goal.returns-then-any_type
returns-then-any_type g c = λ graph read.
    common_type graph read c.args.part.now c.args.made.now c.any_structure.result c.any_type.result
    c.as_slice.result.now c.as_slice-else-any_structure.result.now c.as_slice.ensures
    c.as_slice-else-any_structure.ensures c.any_structure.ensures c.any_type.ensures c.if-any_structure.false
    c.if-any_type.true

pub returns-else-any_type : goal.returns-else-any_type
returns-else-any_type g c = λ graph read.
    common_value graph read c.args.part.now c.args.made.now c.any_structure.result c.any_type.result
    c.any_value.result c.as_slice.result.now c.as_slice-else-any_structure.result.now
    c.as_slice-else-any_type.result.now c.as_slice.ensures c.as_slice-else-any_structure.ensures
    c.as_slice-else-any_type.ensures c.any_structure.ensures c.any_type.ensures c.any_value.ensures
    c.if-any_structure.false c.if-any_type.false
