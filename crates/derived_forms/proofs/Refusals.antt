-- With what a unit is refused, by the height of its bare tree.
use Rattle.std.proofs.Common.{◌≡◌, ℕ, ◌<◌, ◌≤◌, List, Option, Some, if◌then◌else◌, ap}
use Rattle.std.specs.Option.{option_map}
use Rattle.std.proofs.lemmas.Bool.{lt-ltb, le-ltb}
use Rattle.cm_base.specs.Diags.{whole_file}
use Rattle.sml_trees.specs.declared.name.At.{At}
use Rattle.derived_forms.specs.Bare.{bound_twice, refusal}

pub refusal-deep : (file : List ℕ) (height : ℕ) (twice : Option At) → 1024 < height
    → refusal file height twice ≡ Some (whole_file 12 file)
refusal-deep file height twice deep =
    ap (λ b. if b then Some (whole_file 12 file) else option_map (bound_twice file) twice) (lt-ltb 1024 height deep)

pub refusal-shallow : (file : List ℕ) (height : ℕ) (twice : Option At) → height ≤ 1024
    → refusal file height twice ≡ option_map (bound_twice file) twice
refusal-shallow file height twice shallow =
    ap (λ b. if b then Some (whole_file 12 file) else option_map (bound_twice file) twice) (le-ltb 1024 height shallow)

pub ruleset refusal_steps = (refusal-deep, refusal-shallow)
