-- What is found among units of one kind, or else among those of another, is what the relations say.
use Rattle.std.proofs.Common.{◌≡◌, ◌∙◌, inl, inr, sym, ap, refl, ℕ}
use Rattle.visibility.specs.Providers.{or_else, Finds, HoldsOfOne, HoldsOfSeveral}
use Rattle.visibility.specs.declared.found.Found.{Found}
use Rattle.visibility.specs.declared.found.Found.TheVariants as found
use Rattle.visibility_laws.specs.Behind.{NoneAtAll, OneOrElse, SeveralOrElse}

-- as many units as are found
abbrev pub FindsOrElse : (ℕ → Type 0) → (ℕ → Type 0) → Found → Type 0
FindsOrElse P Q found.Missing = NoneAtAll P Q
FindsOrElse P Q (found.One v) = OneOrElse P Q v
FindsOrElse P Q found.Several = SeveralOrElse P Q

pub finds_or_else : (P Q : ℕ → Type 0) (f h : Found) → Finds P f → Finds Q h → FindsOrElse P Q (or_else f h)
finds_or_else P Q found.Missing found.Missing first second = (first, second)
finds_or_else P Q found.Missing (found.One v) first second = inr (first, second)
finds_or_else P Q found.Missing found.Several first second = inr (first, second)
finds_or_else P Q (found.One v) h first second = inl first
finds_or_else P Q found.Several h first second = inl first

-- ---- they exclude each other

several_one : (P : ℕ → Type 0) (v : ℕ) → HoldsOfSeveral P → HoldsOfOne P v → ⊥
several_one P v several one =
    several.apart (one.alone several.first several.so ∙ sym (one.alone several.second several.too))

pub not_none_one : (P Q : ℕ → Type 0) (v : ℕ) → NoneAtAll P Q → OneOrElse P Q v → ⊥
not_none_one P Q v none (inl one) = none.0 v one.so
not_none_one P Q v none (inr two) = none.1 v two.1.so

pub not_none_several : (P Q : ℕ → Type 0) → NoneAtAll P Q → SeveralOrElse P Q → ⊥
not_none_several P Q none (inl several) = none.0 several.first several.so
not_none_several P Q none (inr two) = none.1 two.1.first two.1.so

pub not_several_one : (P Q : ℕ → Type 0) (v : ℕ) → SeveralOrElse P Q → OneOrElse P Q v → ⊥
not_several_one P Q v (inl several) (inl one) = several_one P v several one
not_several_one P Q v (inl several) (inr two) = two.0 several.first several.so
not_several_one P Q v (inr other) (inl one) = other.0 v one.so
not_several_one P Q v (inr other) (inr two) = several_one Q v other.1 two.1

pub only_one : (P Q : ℕ → Type 0) (v w : ℕ) → OneOrElse P Q v → OneOrElse P Q w → v ≡ w
only_one P Q v w (inl a) (inl b) = b.alone v a.so
only_one P Q v w (inl a) (inr b) = absurd (b.0 v a.so)
only_one P Q v w (inr a) (inl b) = absurd (a.0 w b.so)
only_one P Q v w (inr a) (inr b) = b.1.alone v a.1.so

-- ---- and fix what is found

pub none_found : (P Q : ℕ → Type 0) (f : Found) → FindsOrElse P Q f → NoneAtAll P Q → f ≡ found.Missing
none_found P Q found.Missing finds none = refl
none_found P Q (found.One v) finds none = absurd (not_none_one P Q v none finds)
none_found P Q found.Several finds none = absurd (not_none_several P Q none finds)

pub one_found : (P Q : ℕ → Type 0) (f : Found) (v : ℕ) → FindsOrElse P Q f → OneOrElse P Q v → f ≡ found.One v
one_found P Q found.Missing v finds one = absurd (not_none_one P Q v finds one)
one_found P Q (found.One w) v finds one = ap found.One (only_one P Q w v finds one)
one_found P Q found.Several v finds one = absurd (not_several_one P Q v finds one)

pub several_found : (P Q : ℕ → Type 0) (f : Found) → FindsOrElse P Q f → SeveralOrElse P Q → f ≡ found.Several
several_found P Q found.Missing finds several = absurd (not_none_several P Q finds several)
several_found P Q (found.One v) finds several = absurd (not_several_one P Q v several finds)
several_found P Q found.Several finds several = refl
