-- A skeleton without names is one that the store's formats can hold.
use Rattle.std.proofs.Common.{◌≡◌, ap, [], length, arith}
use Rattle.cm_base.specs.declared.record.Skeleton.{Skeleton}
use Rattle.skeleton_asking.specs.Short.{IsShortSkeleton}

pub empty_is_short : (s : Skeleton) → s.defined ≡ [] → s.free ≡ [] → IsShortSkeleton s
empty_is_short s none unused =
    let nothing = ap length none in
    let unneeded = ap length unused in
    record {
      defined = omega (arith, nothing);
      each_defined = λ k d within. absurd (omega (arith, nothing, within));
      free = omega (arith, unneeded);
      each_free = λ k d within. absurd (omega (arith, unneeded, within));
    }
