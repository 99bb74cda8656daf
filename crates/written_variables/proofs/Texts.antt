-- The texts of names, each once, as a list grows at its end.
use Rattle.std.proofs.Common.{◌≡◌, ◌∙◌, sym, ap, ap₂, subst, refl, inl, inr, ℕ, Bool, true, false, ◌||◌, cond, List, [], ◌∷◌, ◌++◌, append_assoc, append-nil}
use Rattle.std.specs.Prelude.{nat_eq}
use Rattle.std.specs.Cmp.Lexicographic.{pointwise, nat_list_eq_equiv, same_text as equal_texts}
use Rattle.std.proofs.lemmas.Bool.{cases_Bool}
use Rattle.std.proofs.lemmas.List.Folds.{list_any-append}
use Rattle.sml_trees.specs.declared.name.Name.{Name}
use Rattle.semantic_objects.specs.Symbols.{same_text}
use Rattle.semantic_objects.proofs.Same.{text_is, text_same}
use Rattle.static_semantics.specs.BasicTypes.{is_one_of}
use Rattle.static_semantics.specs.WrittenVariables.{texts_once}
use Rattle.written_variables.specs.Texts.{with_names}

-- both tests of texts say one thing
pub tests_agree : (a b : List ℕ) → pointwise nat_eq a b ≡ same_text b a
tests_agree a b =
    elim (cases_Bool (pointwise nat_eq a b)) [
      | inl one ↦
          one ∙ sym (subst (λ (x : List ℕ). same_text x a ≡ true) (equal_texts a b (sym one)) (text_same a))
      | inr isnt ↦ elim (cases_Bool (same_text b a)) [
        | inl one ↦ absurd (clash (sym (text_is b a one)) isnt)
        | inr other ↦ isnt ∙ sym other
      ]
    ]
  where
    clash : a ≡ b → pointwise nat_eq a b ≡ false → ⊥
    clash same isnt =
        let yes : pointwise nat_eq a b ≡ true = ap (pointwise nat_eq a) (sym same) ∙ nat_list_eq_equiv.refl a in
        cc

-- the same texts are among both lists
abbrev Alike : List (List ℕ) → List (List ℕ) → Type 0
Alike met other = (t : List ℕ) → is_one_of met t ≡ is_one_of other t

texts_once-alike : (met other : List (List ℕ)) (xs : List Name) → Alike met other → texts_once met xs ≡ texts_once other xs
texts_once-alike met other [] same = refl
texts_once-alike met other (x ∷ xs) same =
    ap (λ b. cond b (texts_once met xs) (x.text ∷ texts_once (x.text ∷ met) xs)) (same x.text)
    ∙ ap₂ (λ (p q : List (List ℕ)). cond (is_one_of other x.text) p (x.text ∷ q)) (texts_once-alike met other xs same)
    (texts_once-alike (x.text ∷ met) (x.text ∷ other) xs (λ t. ap (λ b. same_text t x.text || b) (same t)))

or_last : (p q : Bool) → q || p ≡ p || (q || false)
or_last true true = refl
or_last true false = refl
or_last false true = refl
or_last false false = refl

-- a text at the end is found as one in front is
pub at_the_end : (met : List (List ℕ)) (x t : List ℕ) → is_one_of (x ∷ met) t ≡ is_one_of (met ++ x ∷ []) t
at_the_end met x t =
    or_last (is_one_of met t) (same_text t x) ∙ sym (list_any-append (same_text t) met (x ∷ []))

-- one more text, and one that was met
new_text : (met : List (List ℕ)) (x : Name) (xs : List Name)
    → x.text ∷ texts_once (x.text ∷ met) xs ≡ x.text ∷ texts_once (met ++ x.text ∷ []) xs
new_text met x xs =
    ap (λ rest. x.text ∷ rest) (texts_once-alike (x.text ∷ met) (met ++ x.text ∷ []) xs (at_the_end met x.text))

-- what is gathered is what stood there, and each further text once
pub gathered : (met : List (List ℕ)) (xs : List Name) → with_names met xs ≡ met ++ texts_once met xs
gathered met [] = sym (append-nil met)
gathered met (x ∷ xs) =
    by_test (is_one_of met x.text) (gathered met xs) (gathered (met ++ x.text ∷ []) xs)
  where
    by_test : (b : Bool) → with_names met xs ≡ met ++ texts_once met xs
        → with_names (met ++ x.text ∷ []) xs ≡ (met ++ x.text ∷ []) ++ texts_once (met ++ x.text ∷ []) xs
        → with_names (cond b met (met ++ x.text ∷ [])) xs
        ≡ met ++ cond b (texts_once met xs) (x.text ∷ texts_once (x.text ∷ met) xs)
    by_test true old new = old
    by_test false old new =
        new ∙ append_assoc met (x.text ∷ []) (texts_once (met ++ x.text ∷ []) xs)
        ∙ ap (λ rest. met ++ rest) (sym (new_text met x xs))

-- a set with one more text
or_is : (p q : Bool) → cond p true q ≡ p || q
or_is true q = refl
or_is false q = refl

pub seen_more : (met : List (List ℕ)) (x t : List ℕ) (was now : Bool) → was ≡ is_one_of met t
    → now ≡ cond (pointwise nat_eq x t) true was → now ≡ is_one_of (met ++ x ∷ []) t
seen_more met x t was now before is =
    is ∙ or_is (pointwise nat_eq x t) was ∙ ap₂ (λ p q. p || q) (tests_agree x t) before ∙ at_the_end met x t
