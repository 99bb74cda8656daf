-- Skeleton and code are those of one bare unit.
use Rattle.std.proofs.Common.{◌≡◌, refl, Result, Ok, Err}
use Rattle.cm_base.specs.Diags.{◌>>=◌}
use Rattle.cm_base.specs.declared.diag.Diag.{Diag}
use Rattle.cm_base.specs.declared.record.Skeleton.{Skeleton}
use Rattle.cm_base.specs.declared.record.Compiled.{Compiled}
use Rattle.sml_trees.specs.declared.unit.BareUnit.{BareUnit}
use Rattle.skeletons.specs.Skeletons.{skeleton_of}
use Rattle.unit_compiling.specs.Compiled.{bare_of_source, compiled_bare}
use Rattle.sml_compiler.specs.Laws.{CompilesWhatHasASkeleton}

has_one : (bare : Result BareUnit Diag) (next : BareUnit → Result Compiled Diag) (compiled : Compiled)
    → (bare >>= next) ≡ Ok compiled → (skeleton : Skeleton) × ((bare >>= λ b. Ok (skeleton_of b)) ≡ Ok skeleton)
has_one (Ok bare) next compiled e = (skeleton_of bare, refl)
has_one (Err diag) next compiled e = absurd (cc)

lacks_one : (bare : Result BareUnit Diag) (next : BareUnit → Result Compiled Diag) (diag : Diag)
    → (bare >>= λ b. Ok (skeleton_of b)) ≡ Err diag → (bare >>= next) ≡ Err diag
lacks_one (Ok bare) next diag e = absurd (cc)
lacks_one (Err why) next diag e = cc

pub compiles : CompilesWhatHasASkeleton
compiles = record {
  has = λ input compiled e. has_one (bare_of_source input.unit input.source) (compiled_bare input) compiled e;
  lacks = λ input diag e. lacks_one (bare_of_source input.unit input.source) (compiled_bare input) diag e;
}
