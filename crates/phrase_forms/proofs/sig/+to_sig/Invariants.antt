use Rattle.std.proofs.Common.{◌≡◌, ◌++◌, drop, map, flat_map}
use Rattle.bare_forms.specs.Signatures.{bare_spec, bare_sig_bind}
use Rattle.phrase_forms.proofs.sig.+to_sig.Given as goal

-- in each loop: what is made, and the items that are left
abbrev pub invariant-to_specs-loop-spec : goal.invariant-to_specs-loop-spec
invariant-to_specs-loop-spec l = l.made.items ++ flat_map bare_spec (drop l.spec-index l.specs) ≡ flat_map bare_spec l.specs

abbrev pub invariant-to_sig_binds-loop-bind : goal.invariant-to_sig_binds-loop-bind
invariant-to_sig_binds-loop-bind l =
    l.made ++ map bare_sig_bind (drop l.bind-index l.binds) ≡ map bare_sig_bind l.binds
