use Rattle.pattern_elab.proofs.Fields.{FieldsSoFar}
use Rattle.pattern_elab.proofs.pat.+elab_pat.Given as goal

abbrev pub invariant-elab_fields-loop-field : goal.invariant-elab_fields-loop-field
invariant-elab_fields-loop-field l =
    FieldsSoFar l.g l.scope l.fn.t l.t l.fields l.field-index l.rows l.fn.bound l.bound
