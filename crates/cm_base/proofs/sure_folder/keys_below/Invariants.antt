use Rattle.std.proofs.Common.{◌≡◌, ◌++◌, filter, nat_eq}
use Rattle.std.specs.List.{starts_with}
use Rattle.std.specs.Map.{keys_of}
use Rattle.cm_base.proofs.sure_folder.keys_below.Given as goal

-- the paths found and those that the rest has are those that all keys have
abbrev pub invariant-loop-path : goal.invariant-loop-path
invariant-loop-path l =
    l.paths ++ filter (λ path. starts_with nat_eq path l.prefix) l.path-iterator
    ≡ filter (λ path. starts_with nat_eq path l.prefix) (keys_of l.files.entries)
