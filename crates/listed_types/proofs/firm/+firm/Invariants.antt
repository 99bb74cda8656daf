use Rattle.std.proofs.Common.{drop}
use Rattle.listed_types.proofs.FirmPhrases.{ArgsLeft, FieldsLeft}
use Rattle.listed_types.proofs.firm.+firm.Given as goal

abbrev pub invariant-are_firm_args-loop-arg : goal.invariant-are_firm_args-loop-arg
invariant-are_firm_args-loop-arg g l = ArgsLeft l.fn.g l.fn.scope l.fn.args (drop l.arg-index l.fn.args)

abbrev pub invariant-are_firm_fields-loop-field : goal.invariant-are_firm_fields-loop-field
invariant-are_firm_fields-loop-field g l = FieldsLeft l.fn.g l.fn.scope l.fn.fields (drop l.field-index l.fn.fields)
