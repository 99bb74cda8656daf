use Rattle.std.proofs.Common.{◌≡◌, ◌++◌, take}
use Rattle.path_anchors.proofs.parts.append.Given as goal

-- those so far are added
abbrev pub invariant-loop-part : goal.invariant-loop-part
invariant-loop-part l = l.parts ≡ l.fn.parts ++ take l.part-index l.more
