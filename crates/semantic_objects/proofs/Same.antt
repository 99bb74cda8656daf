-- The plain function that compares symbols says whether they are one.
use Rattle.std.proofs.Common.{◌≡◌, ℕ, refl, sym, ap, ap₂, ◌∙◌, List, [], ◌∷◌, Bool, true, false, ◌&&◌}
use Rattle.std.specs.Prelude.{eqb, nat_eq, IsTrue}
use lib.Pointwise.{pointwise, pointwise_decides, bytes_decides}
use Rattle.std.proofs.lemmas.Bool.{eq-eqb, eqb-true}
use Rattle.semantic_objects.specs.declared.name.Owner.{Owner}
use Rattle.semantic_objects.specs.declared.name.Owner.TheVariants as owner
use Rattle.semantic_objects.specs.declared.name.TyName.{TyName}
use Rattle.semantic_objects.specs.declared.symbol.Symbol.{Symbol}
use Rattle.semantic_objects.specs.declared.symbol.Symbol.TheVariants as symbol
use Rattle.semantic_objects.specs.Symbols.{same_list, same_text, same_bool, same_owner, same_name, same_symbol}

-- ---- functions that compare

-- two things for which it says yes are one, and it says yes of each thing and itself
record Tells {A : Type 0} (same : A → A → Bool) : Type 0 where
  one : (x y : A) → same x y ≡ true → x ≡ y
  itself : (x : A) → same x x ≡ true

-- both of two answers
both_of : {P : Type 0} (a b : Bool) → (a && b) ≡ true → (a ≡ true → b ≡ true → P) → P
both_of true b h f = f refl h
both_of false b h f = absurd (cc)

and_also : (a b : Bool) → a ≡ true → b ≡ true → (a && b) ≡ true
and_also true b h k = k
and_also false b h k = h

lists_one : {A : Type 0} (same : A → A → Bool) → Tells same → (xs ys : List A) → same_list same xs ys ≡ true → xs ≡ ys
lists_one same t [] [] h = refl
lists_one same t [] (y ∷ ys) h = absurd (cc)
lists_one same t (x ∷ xs) [] h = absurd (cc)
lists_one same t (x ∷ xs) (y ∷ ys) h = both_of (same x y) (same_list same xs ys) h
    (λ k ks. ap₂ (λ a b. a ∷ b) (t.one x y k) (lists_one same t xs ys ks))

list_itself : {A : Type 0} (same : A → A → Bool) → Tells same → (xs : List A) → same_list same xs xs ≡ true
list_itself same t [] = refl
list_itself same t (x ∷ xs) = and_also (same x x) (same_list same xs xs) (t.itself x) (list_itself same t xs)

tells_lists : {A : Type 0} (same : A → A → Bool) → Tells same → Tells (same_list same)
tells_lists same t = record { one = lists_one same t; itself = list_itself same t }

tells_numbers : Tells eqb
tells_numbers = record { one = eqb-true; itself = λ n. eq-eqb n n refl }

tells_texts : Tells same_text
tells_texts = tells_lists eqb tells_numbers

pub text_is : (s t : List ℕ) → same_text s t ≡ true → s ≡ t
text_is = tells_texts.one

pub text_same : (t : List ℕ) → same_text t t ≡ true
text_same = tells_texts.itself

-- ---- type names

bools_one : (a b : Bool) → same_bool a b ≡ true → a ≡ b
bools_one true true h = refl
bools_one true false h = absurd (cc)
bools_one false true h = absurd (cc)
bools_one false false h = refl

bool_itself : (a : Bool) → same_bool a a ≡ true
bool_itself true = refl
bool_itself false = refl

owners_one : (a b : Owner) → same_owner a b ≡ true → a ≡ b
owners_one (owner.«Unit» t) (owner.«Unit» u) h = ap owner.«Unit» (text_is t u h)
owners_one (owner.«Unit» t) owner.Basis h = absurd (cc)
owners_one (owner.«Unit» t) owner.Bound h = absurd (cc)
owners_one owner.Basis owner.Basis h = refl
owners_one owner.Basis owner.Bound h = absurd (cc)
owners_one owner.Basis (owner.«Unit» u) h = absurd (cc)
owners_one owner.Bound owner.Bound h = refl
owners_one owner.Bound owner.Basis h = absurd (cc)
owners_one owner.Bound (owner.«Unit» u) h = absurd (cc)

owner_itself : (a : Owner) → same_owner a a ≡ true
owner_itself (owner.«Unit» t) = text_same t
owner_itself owner.Basis = refl
owner_itself owner.Bound = refl

-- a type name is its four facts
names_are : (o p : Owner) (i j a b : ℕ) (e f : Bool) → o ≡ p → i ≡ j → a ≡ b → e ≡ f
    → (let m : TyName = record { owner = o; number = i; arity = a; eq = e } in m)
    ≡ (let n : TyName = record { owner = p; number = j; arity = b; eq = f } in n)
names_are o p i j a b e f h k l m = cc

names_one : (m n : TyName) → same_name m n ≡ true → m ≡ n
names_one m n h = both_of (same_owner m.owner n.owner)
    (eqb m.number n.number && (eqb m.arity n.arity && same_bool m.eq n.eq)) h
    (λ o rest. both_of (eqb m.number n.number) (eqb m.arity n.arity && same_bool m.eq n.eq) rest
    (λ number more. both_of (eqb m.arity n.arity) (same_bool m.eq n.eq) more
    (λ arity e. names_are m.owner n.owner m.number n.number m.arity n.arity m.eq n.eq
    (owners_one m.owner n.owner o) (eqb-true m.number n.number number) (eqb-true m.arity n.arity arity)
    (bools_one m.eq n.eq e))))

name_itself : (n : TyName) → same_name n n ≡ true
name_itself n = and_also (same_owner n.owner n.owner)
    (eqb n.number n.number && (eqb n.arity n.arity && same_bool n.eq n.eq)) (owner_itself n.owner)
    (and_also (eqb n.number n.number) (eqb n.arity n.arity && same_bool n.eq n.eq) (eq-eqb n.number n.number refl)
    (and_also (eqb n.arity n.arity) (same_bool n.eq n.eq) (eq-eqb n.arity n.arity refl) (bool_itself n.eq)))

-- ---- symbols

pub symbol_is : (c d : Symbol) → same_symbol c d ≡ true → c ≡ d
symbol_is (symbol.Name m) (symbol.Name n) h = ap symbol.Name (names_one m n h)
symbol_is (symbol.Name m) symbol.Arrow h = absurd (cc)
symbol_is (symbol.Name m) (symbol.Record ls) h = absurd (cc)
symbol_is (symbol.Record ks) (symbol.Record ls) h = ap symbol.Record (lists_one same_text tells_texts ks ls h)
symbol_is (symbol.Record ks) symbol.Arrow h = absurd (cc)
symbol_is (symbol.Record ks) (symbol.Name n) h = absurd (cc)
symbol_is symbol.Arrow symbol.Arrow h = refl
symbol_is symbol.Arrow (symbol.Record ls) h = absurd (cc)
symbol_is symbol.Arrow (symbol.Name n) h = absurd (cc)

pub symbol_same : (c : Symbol) → same_symbol c c ≡ true
symbol_same (symbol.Name n) = name_itself n
symbol_same (symbol.Record ks) = list_itself same_text tells_texts ks
symbol_same symbol.Arrow = refl

pub symbol_not : (c d : Symbol) → same_symbol c d ≡ false → c ≡ d → ⊥
symbol_not c d h e = let k : true ≡ false = sym (symbol_same c) ∙ ap (same_symbol c) e ∙ h in cc

-- ---- as the code compares records

-- two lists of texts are compared pair by pair, and texts byte by byte
pub texts_decide : (xs ys : List (List ℕ))
    → (pointwise (pointwise nat_eq) xs ys ≡ true → xs ≡ ys) × (xs ≡ ys → pointwise (pointwise nat_eq) xs ys ≡ true)
texts_decide = pointwise_decides bytes_decides

-- record symbols are one where their labels are
pub records_decide : (c d : Symbol) (ks ls us vs : List (List ℕ)) (r : Bool) → c ≡ symbol.Record ks
    → d ≡ symbol.Record ls
    → us ≡ ks → vs ≡ ls → r ≡ pointwise (pointwise nat_eq) us vs → (IsTrue r → c ≡ d) × (c ≡ d → IsTrue r)
records_decide c d ks ls us vs r e f g h is = (
  λ t. e ∙ ap symbol.Record (sym g ∙ (texts_decide us vs).0 (sym is ∙ t) ∙ h) ∙ sym f,
  λ same. is ∙ (texts_decide us vs).1 (g ∙ (let k : ks ≡ ls = cc in k) ∙ sym h),
)
