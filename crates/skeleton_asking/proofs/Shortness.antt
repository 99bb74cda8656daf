-- What a compiler gives is short, and so is what a whole binfile has.
use Rattle.std.proofs.Common.{◌≡◌, sym, subst, List, [], ◌∷◌, ◌++◌, ℕ, Bool, true, false, cond, Option, Some, None, arith}
use Rattle.std.specs.Prelude.{nat_eq, All, IfSome}
use Rattle.std.specs.Cmp.Lexicographic.{pointwise}
use Rattle.std.proofs.lemmas.List.Elements.{All-nil, All-push}
use Rattle.cm_base.specs.Calls.{IsSmallSkeleton}
use Rattle.cm_base.specs.declared.record.Need.{Need}
use Rattle.cm_base.specs.declared.record.Skeleton.{Skeleton}
use Rattle.bin_formats.specs.declared.bin.Bin.{Bin}
use Rattle.bin_formats.specs.Format.{IsBin, IsSpot}
use Rattle.skeleton_asking.specs.Short.{IsShortSkeleton}
use Rattle.skeleton_asking.specs.Skeletons.{empty_skeleton, skeleton_of_source}

-- ---- a skeleton in a whole binfile

bin_short : (bin : Bin) → IsBin bin → IsShortSkeleton bin.skeleton
bin_short bin fits = record {
  defined = fits.defined;
  each_defined = fits.defined_spots;
  free = fits.free;
  each_free = fits.free_spots;
}

pub source_is_short : (source : List ℕ) (found : Option Bin) (made : Option Skeleton) → IfSome found IsBin
    → made ≡ skeleton_of_source source found → IfSome made IsShortSkeleton
source_is_short source None made fits is = subst (λ (o : Option Skeleton). IfSome o IsShortSkeleton) (sym is) tt
source_is_short source (Some bin) made fits is =
    subst (λ (o : Option Skeleton). IfSome o IsShortSkeleton) (sym is) (by_source (pointwise nat_eq bin.source source))
  where
    by_source : (b : Bool) → IfSome (cond b (Some bin.skeleton) None) IsShortSkeleton
    by_source true = bin_short bin fits
    by_source false = tt

-- ---- other skeletons

pub small_is_short : (s : Skeleton) → IsSmallSkeleton s → IsShortSkeleton s
small_is_short s small = record {
  defined = omega (arith, small.defined);
  each_defined = λ k d within.
      let spot = small.defined_spots k d within in
      record { name = omega (arith, spot.name); line = spot.line; col = spot.col };
  free = omega (arith, small.free);
  each_free = λ k d within.
      let spot = small.free_spots k d within in
      record { name = omega (arith, spot.name); line = spot.line; col = spot.col };
}

pub empty_is_short : (s : Skeleton) → s ≡ empty_skeleton → IsShortSkeleton s
empty_is_short s is = subst IsShortSkeleton (sym is) (record {
  defined = omega arith;
  each_defined = All-nil IsSpot;
  free = omega arith;
  each_free = All-nil (λ (need : Need). IsSpot need.spot);
})

-- one more behind short ones
pub short_more : (before next : List Skeleton) (s : Skeleton) → next ≡ before ++ s ∷ []
    → All IsShortSkeleton before → IsShortSkeleton s → All IsShortSkeleton next
short_more before next s is all short =
    subst (All IsShortSkeleton) (sym is) (All-push IsShortSkeleton before s all short)
