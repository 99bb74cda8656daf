use Rattle.std.proofs.Common.{◌≡◌, ◌++◌, drop, flat_map}
use Rattle.cm_bytes.specs.Fields.{list_of}
use Rattle.sml_syntax.specs.Code.{sig_bind_of, spec_of}
use Rattle.sml_syntax.proofs.write_sig.+write_sig.Given as goal

-- in each loop: what is written, and the items that are left
abbrev pub invariant-write_sig_binds-loop-bind : goal.invariant-write_sig_binds-loop-bind
invariant-write_sig_binds-loop-bind l =
    l.out ++ flat_map sig_bind_of (drop l.bind-index l.binds) ≡ l.fn.out ++ list_of sig_bind_of l.fn.binds

abbrev pub invariant-write_specs-loop-spec : goal.invariant-write_specs-loop-spec
invariant-write_specs-loop-spec l =
    l.out ++ flat_map spec_of (drop l.spec-index l.specs) ≡ l.fn.out ++ list_of spec_of l.fn.specs
