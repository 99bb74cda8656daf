-- The parts of a pair, and what is pushed behind an operand.
use Rattle.std.proofs.Common.{◌≡◌, Option, List, [], ◌∷◌, ◌++◌, ap, ap₂, ◌∙◌}
use Rattle.std.specs.Option.{unwrap_or}

pub pair_first : {A B : Type 0} (a c : A) (b d : B) → ◌≡◌ {A = A × B} (a, b) (c, d) → a ≡ c
pair_first {A} {B} a c b d is = ap (λ (p : A × B). p.0) is

pub pair_second : {A B : Type 0} (a c : A) (b d : B) → ◌≡◌ {A = A × B} (a, b) (c, d) → b ≡ d
pair_second {A} {B} a c b d is = ap (λ (p : A × B). p.1) is

pub pushed_is : {A B : Type 0} (next run before : List (A × B)) (last begun : Option A) (x missing : A) (op : B)
    → next ≡ run ++ (x, op) ∷ [] → run ≡ before → x ≡ unwrap_or last missing → last ≡ begun
    → next ≡ before ++ (unwrap_or begun missing, op) ∷ []
pushed_is {A} {B} next run before last begun x missing op next_is run_is x_is last_is =
    next_is
    ∙ ap₂ (λ (ps : List (A × B)) (y : A). ps ++ (y, op) ∷ []) run_is (x_is ∙ ap (λ g. unwrap_or g missing) last_is)
