-- What holds of each pair of a set.
use Rattle.std.proofs.Common.{◌≡◌, ℕ, refl, sym, ap, ◌∙◌, subst, Bool, true, false, ◌&&◌, ◌||◌}
use Rattle.std.specs.Prelude.{nat_eq}
use Rattle.std.proofs.lemmas.Bool.{eqb-true}
use Rattle.matched_pairs.specs.declared.pairs.Pairs.{Pairs}
use Rattle.matched_pairs.specs.Pairs.{has_pair, HasOneMore}

both_true : (b c : Bool) → (b && c) ≡ true → (b ≡ true) × (c ≡ true)
both_true true true h = (refl, refl)
both_true true false h = absurd (cc)
both_true false c h = absurd (cc)

either : {A : Type 0} (b : Bool) → (b ≡ true → A) → (b ≡ false → A) → A
either true f g = f refl
either false f g = g refl

-- .. and of one more
pub one_more : (R : ℕ → ℕ → Type 0) (old new : Pairs) (specified found : ℕ) → HasOneMore old new specified found
    → ((p q : ℕ) → has_pair old p q ≡ true → R p q) → R specified found
    → (p q : ℕ) → has_pair new p q ≡ true → R p q
one_more R old new specified found more each here p q h =
    either (nat_eq specified p && nat_eq found q)
    (λ k. (let both = both_true (nat_eq specified p) (nat_eq found q) k in
    subst (λ z. R z q) (eqb-true specified p both.0) (subst (R specified) (eqb-true found q both.1) here)))
    (λ k. each p q (sym (ap (λ z. z || has_pair old p q) k) ∙ sym (more p q) ∙ h))

-- no pair, and none of which something would have to hold
pub none_of : (R : ℕ → ℕ → Type 0) (pairs : Pairs) → ((p q : ℕ) → has_pair pairs p q ≡ false) → (p q : ℕ)
    → has_pair pairs p q ≡ true → R p q
none_of R pairs none p q h = absurd (not_both (has_pair pairs p q) (none p q) h)
  where
    not_both : (b : Bool) → b ≡ false → b ≡ true → ⊥
    not_both b h k = cc
