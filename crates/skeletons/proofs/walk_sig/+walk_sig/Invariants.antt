use Rattle.std.proofs.Common.{◌≡◌, map, drop}
use Rattle.skeletons.specs.Scopes.{sequence, joined}
use Rattle.skeletons.specs.Uses.{spec_brings, sig_binding}
use Rattle.skeletons.specs.Walks.{noted, declared, bound}
use Rattle.skeletons.proofs.walk_sig.+walk_sig.Given as goal

-- what is declared, and what is left
abbrev pub invariant-walk_specs-loop-spec : goal.invariant-walk_specs-loop-spec
invariant-walk_specs-loop-spec l =
    declared l.walk (sequence (map spec_brings (drop l.spec-index l.specs)))
    ≡ declared l.fn.walk (sequence (map spec_brings l.fn.specs))

-- what is noted, and the bindings that are left
abbrev pub invariant-walk_sigs-loop-desc : goal.invariant-walk_sigs-loop-desc
invariant-walk_sigs-loop-desc l =
    noted l.walk (joined (map sig_binding (drop l.desc-index l.descs))).uses
    ≡ noted l.fn.walk (joined (map sig_binding l.fn.descs)).uses

-- the names that are bound, and those that are left
abbrev pub invariant-walk_descs-loop-desc : goal.invariant-walk_descs-loop-desc
invariant-walk_descs-loop-desc l =
    bound l.walk (joined (map sig_binding (drop l.desc-index l.descs))).binds
    ≡ declared l.fn.walk (joined (map sig_binding l.fn.descs))
