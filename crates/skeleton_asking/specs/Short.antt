-- The skeletons that the store's formats can hold.
use Rattle.std.specs.Prelude.{◌<◌, ◌^◌, length, All}
use Rattle.cm_base.specs.declared.record.Skeleton.{Skeleton}
use Rattle.bin_formats.specs.Format.{IsSpot}

-- fewer than 2^32 names in each list, each of fewer than 2^32 bytes at numbers of four bytes
pub record IsShortSkeleton (skeleton : Skeleton) : Type 0 where
  pub defined : length skeleton.defined < 2 ^ 32
  pub each_defined : All IsSpot skeleton.defined
  pub free : length skeleton.free < 2 ^ 32
  pub each_free : All (λ need. IsSpot need.spot) skeleton.free
