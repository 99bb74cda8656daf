use Rattle.std.proofs.Common.{drop}
use Rattle.type_phrases.proofs.PartsRead.{ArgsSoFar, FieldsSoFar}
use Rattle.type_phrases.proofs.reading.+read_ty.Given as goal

-- what was made so far, and the fields that are left
abbrev pub invariant-read_fields-loop-field : goal.invariant-read_fields-loop-field
invariant-read_fields-loop-field g l =
    FieldsSoFar l.fn.g l.fn.t l.fn.scope l.fn.fields (drop l.field-index l.fn.fields) l.t l.rows

-- what was made so far, and the arguments that are left
abbrev pub invariant-read_args-loop-arg : goal.invariant-read_args-loop-arg
invariant-read_args-loop-arg g l =
    ArgsSoFar l.fn.g l.fn.t l.fn.scope l.fn.args (drop l.arg-index l.fn.args) l.t l.ids
