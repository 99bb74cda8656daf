-- Plain functions that say whether something holds.
use Rattle.std.proofs.Common.{◌≡◌, ℕ, ◌<◌, ◌≤◌, refl, sym, ap, ◌∙◌, List, [], ◌∷◌, Bool, true, false, ◌&&◌}
use Rattle.std.specs.Prelude.{nat_lt, nat_le, eqb, All}
use Rattle.std.specs.List.{list_all}
use Rattle.std.proofs.lemmas.Bool.{ltb-true, lt-ltb, leb-true, le-leb, eqb-true, eq-eqb, and_from, and_parts}
use Rattle.std.proofs.lemmas.List.Elements.{All-nil, All-cons, All-head, All-tail}
use Rattle.semantic_objects.specs.Symbols.{same_list, same_text}
use Rattle.semantic_objects.proofs.Same.{text_is, text_same}

-- it says yes exactly where that holds
pub record Tells (b : Bool) (P : Type 0) : Type 0 where
  pub yes : b ≡ true → P
  pub so : P → b ≡ true

pub as_well : {b : Bool} {P Q : Type 0} → Tells b P → (P → Q) → (Q → P) → Tells b Q
as_well t f g = record { yes = λ e. f (t.yes e); so = λ q. t.so (g q) }

pub both : {a b : Bool} {P Q : Type 0} → Tells a P → Tells b Q → Tells (a && b) (P × Q)
both {a} {b} s t = record {
  yes = λ e. (let parts = and_parts a b e in (s.yes parts.0, t.yes parts.1));
  so = λ p. and_from a b (s.so p.0) (t.so p.1);
}

pub always : Tells true (Unit {0})
always = record { yes = λ e. tt; so = λ u. refl }

pub never : Tells false ⊥
never = record { yes = λ e. (cc); so = λ u. absurd u }

pub less : (m n : ℕ) → Tells (nat_lt m n) (m < n)
less m n = record { yes = ltb-true m n; so = lt-ltb m n }

pub least : (m n : ℕ) → Tells (nat_le m n) (m ≤ n)
least m n = record { yes = leb-true m n; so = le-leb m n }

pub equal : (m n : ℕ) → Tells (eqb m n) (m ≡ n)
equal m n = record { yes = eqb-true m n; so = eq-eqb m n }

pub each : {A : Type 0} (f : A → Bool) (P : A → Type 0) → ((x : A) → Tells (f x) (P x)) → (xs : List A)
    → Tells (list_all f xs) (All P xs)
each f P t [] = record { yes = λ e. All-nil P; so = λ h. refl }
each f P t (x ∷ xs) = as_well (both (t x) (each f P t xs)) (λ p. All-cons P x xs p.0 p.1)
    (λ h. (All-head P x xs h, All-tail P x xs h))

pub text : (s t : List ℕ) → Tells (same_text s t) (s ≡ t)
text s t = record { yes = text_is s t; so = λ e. ap (same_text s) (sym e) ∙ text_same s }

-- lists of things that are compared
one_list : {A : Type 0} (same : A → A → Bool) → ((x y : A) → Tells (same x y) (x ≡ y)) → (xs ys : List A)
    → same_list same xs ys ≡ true → xs ≡ ys
one_list same t [] [] e = refl
one_list same t [] (y ∷ ys) e = absurd (cc)
one_list same t (x ∷ xs) [] e = absurd (cc)
one_list same t (x ∷ xs) (y ∷ ys) e =
    let parts = and_parts (same x y) (same_list same xs ys) e in
    let head = (t x y).yes parts.0 in
    let rest = one_list same t xs ys parts.1 in
    cc

same_itself : {A : Type 0} (same : A → A → Bool) → ((x y : A) → Tells (same x y) (x ≡ y)) → (xs : List A)
    → same_list same xs xs ≡ true
same_itself same t [] = refl
same_itself same t (x ∷ xs) =
    and_from (same x x) (same_list same xs xs) ((t x x).so refl) (same_itself same t xs)

pub lists : {A : Type 0} (same : A → A → Bool) → ((x y : A) → Tells (same x y) (x ≡ y)) → (xs ys : List A)
    → Tells (same_list same xs ys) (xs ≡ ys)
lists same t xs ys =
    record { yes = one_list same t xs ys; so = λ e. ap (same_list same xs) (sym e) ∙ same_itself same t xs }
