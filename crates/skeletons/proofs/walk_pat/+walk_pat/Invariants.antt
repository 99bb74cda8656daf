use Rattle.std.proofs.Common.{◌≡◌, map, drop}
use Rattle.skeletons.specs.Scopes.{all_uses}
use Rattle.skeletons.specs.Uses.{pat_field_uses}
use Rattle.skeletons.specs.Walks.{noted}
use Rattle.skeletons.proofs.walk_pat.+walk_pat.Given as goal

-- what is noted, and the parts that are left
abbrev pub invariant-walk_pat_fields-loop-field : goal.invariant-walk_pat_fields-loop-field
invariant-walk_pat_fields-loop-field l =
    noted l.walk (all_uses (map pat_field_uses (drop l.field-index l.fields)))
    ≡ noted l.fn.walk (all_uses (map pat_field_uses l.fn.fields))
