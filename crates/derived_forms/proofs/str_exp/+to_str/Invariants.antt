use Rattle.std.proofs.Common.{◌≡◌, ◌++◌, drop, map, flat_map}
use Rattle.bare_forms.specs.Expressions.{decs_of}
use Rattle.bare_forms.specs.Structures.{bare_str_dec, bare_str_bind}
use Rattle.derived_forms.proofs.str_exp.+to_str.Given as goal

-- in each loop: what is made, and the items that are left
abbrev pub invariant-to_str_binds-loop-bind : goal.invariant-to_str_binds-loop-bind
invariant-to_str_binds-loop-bind l = l.made ++ map bare_str_bind (drop l.bind-index l.binds) ≡ map bare_str_bind l.binds

abbrev pub invariant-to_str_decs-loop-dec : goal.invariant-to_str_decs-loop-dec
invariant-to_str_decs-loop-dec l =
    l.made.items ++ flat_map decs_of (map bare_str_dec (drop l.dec-index l.decs))
    ≡ flat_map decs_of (map bare_str_dec l.decs)
