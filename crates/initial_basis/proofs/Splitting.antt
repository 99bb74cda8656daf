-- Parts that are read between marks.
use Rattle.std.proofs.Common.{◌≡◌, ℕ, refl, sym, ap, ◌∙◌, List, [], ◌∷◌, map}
use Rattle.std.specs.Prelude.{Result, Ok, Err, IfOk}
use Rattle.std.specs.List.{slice_split}
use Rattle.cm_base.specs.declared.fault.NoMemory.{NoMemory}
use denote.Ref.{Bor}
use Rattle.semantic_objects.specs.Trees.{Tree}
use Rattle.initial_basis.specs.declared.type_names.NamedName.{NamedName}
use Rattle.initial_basis.specs.Phrases.{applied, tuple, is_star, product}

pub map_now : (names : List NamedName) (ys : List (Bor (List (List ℕ))))
    → map (λ part. applied names part.now) ys ≡ map (applied names) (map (λ part. part.now) ys)
map_now names [] = refl
map_now names (y ∷ ys) = ap (λ (ts : List Tree). applied names y.now ∷ ts) (map_now names ys)

pub product_is : (names : List NamedName) (words : List (List ℕ)) (parts : List Tree) (r : Result Tree NoMemory)
    → parts ≡ map (applied names) (slice_split is_star words) → IfOk r (λ tree. tree ≡ tuple parts)
    → IfOk r (λ tree. tree ≡ product names words)
product_is names words parts (Ok tree) e h = h ∙ ap tuple e
product_is names words parts (Err fault) e h = tt
