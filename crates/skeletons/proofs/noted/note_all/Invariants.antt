use Rattle.std.proofs.Common.{◌≡◌, map, drop}
use Rattle.skeletons.specs.Scopes.{all_uses}
use Rattle.skeletons.specs.Walks.{noted}
use Rattle.skeletons.proofs.noted.note_all.Given as goal

-- what is noted, and the parts that are left
abbrev pub invariant-loop-part : goal.invariant-loop-part
invariant-loop-part g l =
    let uses = g.T.Noted.uses in
    noted l.walk (all_uses (map uses (drop l.part-index l.parts))) ≡ noted l.fn.walk (all_uses (map uses l.fn.parts))
