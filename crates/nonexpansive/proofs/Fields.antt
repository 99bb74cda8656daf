-- The fields of a record from one of them on.
use Rattle.std.proofs.Common.{◌≡◌, ◌∙◌, sym, ap, ℕ, ◌+◌, ◌<◌, Bool, true, false, ◌&&◌, List, ◌∷◌, map, length, get_or, drop}
use Rattle.std.proofs.lemmas.List.{drop_more}
use Rattle.sml_trees.specs.declared.exp.ExpField.{ExpField, out-ExpField}
use Rattle.semantic_objects.specs.Environments.{Env}
use Rattle.bare_phrases.specs.PhraseOf.{exp_phrase, exp_field_phrase, exp_fields}
use Rattle.bare_phrases.proofs.Forms.{exp_field_phrase-kept}
use Rattle.static_semantics.specs.Nonexpansive.{is_nonexpansive, are_nonexpansive}

abbrev pub are_all : Env → List ExpField → Bool
are_all env fields = are_nonexpansive env (exp_fields (map exp_field_phrase fields))

-- the one that is next, and those after it
next_field : (env : Env) (xs : List ExpField) (i : ℕ) (x : ExpField) → i < length xs → x ≡ get_or xs i x
    → are_all env (drop i xs) ≡ is_nonexpansive env (exp_phrase (out-ExpField x).exp) && are_all env (drop (i + 1) xs)
next_field env xs i x less is =
    ap (are_all env) (drop_more xs i x less ∙ ap (λ y. y ∷ drop (i + 1) xs) (sym is))
    ∙ ap (λ p. is_nonexpansive env p.1 && are_all env (drop (i + 1) xs)) (exp_field_phrase-kept x)

pub one_holds : (env : Env) (xs : List ExpField) (i : ℕ) (x : ExpField) (total : Bool) → i < length xs → x ≡ get_or xs i x
    → true ≡ is_nonexpansive env (exp_phrase (out-ExpField x).exp) → are_all env (drop i xs) ≡ total
    → are_all env (drop (i + 1) xs) ≡ total
one_holds env xs i x total less is holds before =
    ap (λ b. b && are_all env (drop (i + 1) xs)) holds ∙ sym (next_field env xs i x less is) ∙ before

pub one_fails : (env : Env) (xs : List ExpField) (i : ℕ) (x : ExpField) (total : Bool) → i < length xs → x ≡ get_or xs i x
    → false ≡ is_nonexpansive env (exp_phrase (out-ExpField x).exp) → are_all env (drop i xs) ≡ total → false ≡ total
one_fails env xs i x total less is fails before =
    ap (λ b. b && are_all env (drop (i + 1) xs)) fails ∙ sym (next_field env xs i x less is) ∙ before
