-- The last part of a long name.
use Rattle.std.proofs.Common.{◌≡◌, ◌∙◌, sym, ap, subst, refl, inl, inr, ℕ, true, false, List, [], ◌∷◌, ◌++◌}
use Rattle.std.specs.Prelude.{nat_eq, codes}
use Rattle.std.specs.Cmp.Lexicographic.{pointwise, nat_list_eq_equiv, same_text as equal_texts}
use Rattle.std.proofs.lemmas.Bool.{cases_Bool}
use Rattle.semantic_objects.specs.Symbols.{same_text}
use Rattle.semantic_objects.proofs.Same.{text_is, text_same}
use Rattle.static_semantics.specs.Nonexpansive.{ends_in_ref}

-- both tests of texts say one thing
tests_agree : (a b : List ℕ) → pointwise nat_eq a b ≡ same_text a b
tests_agree a b =
    elim (cases_Bool (pointwise nat_eq a b)) [
      | inl one ↦
          one ∙ sym (subst (λ (x : List ℕ). same_text a x ≡ true) (equal_texts a b (sym one)) (text_same a))
      | inr isnt ↦ elim (cases_Bool (same_text a b)) [
        | inl one ↦ absurd (clash (text_is a b one) isnt)
        | inr other ↦ isnt ∙ sym other
      ]
    ]
  where
    clash : a ≡ b → pointwise nat_eq a b ≡ false → ⊥
    clash same isnt =
        let yes : pointwise nat_eq a b ≡ true = ap (pointwise nat_eq a) (sym same) ∙ nat_list_eq_equiv.refl a in
        cc

last_counts : (front : List (List ℕ)) (last : List ℕ) → ends_in_ref (front ++ last ∷ []) ≡ same_text last (codes "ref")
last_counts [] last = refl
last_counts (x ∷ []) last = refl
last_counts (x ∷ y ∷ rest) last = last_counts (y ∷ rest) last

pub last_part : (parts front : List (List ℕ)) (last : List ℕ) → parts ≡ front ++ last ∷ []
    → pointwise nat_eq last (codes "ref") ≡ ends_in_ref parts
last_part parts front last is =
    tests_agree last (codes "ref") ∙ sym (last_counts front last) ∙ ap ends_in_ref (sym is)
