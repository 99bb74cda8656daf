-- The text of a long name.
use Rattle.std.proofs.Common.{◌≡◌, ℕ, List, [], ◌∷◌, ◌++◌, sym, ap, ◌∙◌}
use Rattle.std.specs.List.{join_with_byte}
use Rattle.std.proofs.lemmas.List.{append-nil}
use Rattle.type_phrases.specs.Dotted.{dotted_rest}

joined : (x : List ℕ) (xs : List (List ℕ)) → x ++ dotted_rest xs ≡ join_with_byte 46 (x ∷ xs)
joined x [] = append-nil x
joined x (y ∷ ys) = ap (λ z. x ++ 46 ∷ z) (joined y ys)

pub dotted_first : (parts rest : List (List ℕ)) (first bytes : List ℕ) → parts ≡ first ∷ rest → bytes ≡ first
    → bytes ++ dotted_rest rest ≡ join_with_byte 46 parts
dotted_first parts rest first bytes e h =
    ap (λ z. z ++ dotted_rest rest) h ∙ joined first rest ∙ ap (join_with_byte 46) (sym e)
