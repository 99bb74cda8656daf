-- Names that are bound in order, and what may stand beside them.
use Rattle.std.proofs.Common.{◌≡◌, ℕ, suc, List, [], ◌∷◌, ◌++◌, refl, sym, ap, ap₂, ◌∙◌, subst, Bool, true, false, ◌&&◌, ◌||◌, eqb, ltb, not, nat_eq}
use Rattle.std.specs.Prelude.{◌↔◌}
use Rattle.std.specs.Cmp.Lexicographic.{nat_list_eq_equiv, same_text as same_bytes}
use Rattle.unification.proofs.Walking.{not_both, or_right, or_either, and_left}
use Rattle.semantic_objects.specs.declared.name.Owner.{Owner}
use Rattle.semantic_objects.specs.declared.name.Owner.TheVariants as owner
use Rattle.semantic_objects.specs.declared.name.TyName.{TyName}
use Rattle.semantic_objects.specs.declared.symbol.Symbol.{Symbol}
use Rattle.semantic_objects.specs.declared.symbol.Symbol.TheVariants as symbol
use Rattle.semantic_objects.specs.Symbols.{same_text, same_owner, same_name}
use Rattle.semantic_objects.proofs.Same.{text_is, text_same}
use lib.Pointwise.{pointwise}
use Rattle.realisation.specs.Names.{is_listed}
use Rattle.static_semantics.specs.DatatypeInference.{same_as_home}
use Rattle.static_semantics.specs.Holding.{AllItems}
use Rattle.inference_laws.specs.Nodes.{Nodes, below_number}
use Rattle.unit_laws.specs.Parts.{allowing, AreBoundFrom}

-- ---- owners

pub texts_alike : (a b : List ℕ) → same_text a b ≡ pointwise nat_eq b a
texts_alike a b = by_tests (same_text a b) (pointwise nat_eq b a) refl refl
  where
    by_tests : (c d : Bool) → same_text a b ≡ c → pointwise nat_eq b a ≡ d → c ≡ d
    by_tests true true e f = refl
    by_tests false false e f = refl
    by_tests true false e f =
        let k : pointwise nat_eq a a ≡ true = nat_list_eq_equiv.refl a in
        let l : pointwise nat_eq a a ≡ false = subst (λ z. pointwise nat_eq z a ≡ false) (sym (text_is a b e)) f in
        absurd (cc)
    by_tests false true e f =
        let k : same_text a a ≡ true = text_same a in
        let l : same_text a a ≡ false = subst (λ z. same_text a z ≡ false) (same_bytes b a (sym f)) e in
        absurd (cc)

-- ---- one after another

pub bound_next : (n m : ℕ) (rest more all : List TyName) (name : TyName) (first : ℕ) (b : Bool) → m ≡ suc n
    → rest ≡ name ∷ more → (b ≡ true) ↔ AreBoundFrom n (name ∷ []) → b ≡ true
    → AreBoundFrom n rest ↔ AreBoundFrom first all → AreBoundFrom m more ↔ AreBoundFrom first all
bound_next n m rest more all name first b i e s t h = (
  λ k. h.0 (subst (AreBoundFrom n) (sym e) (with_more (s.0 t) (subst (λ z. AreBoundFrom z more) i k))),
  λ k. subst (λ z. AreBoundFrom z more) (sym i) (behind (subst (AreBoundFrom n) e (h.1 k))),
)
  where
    with_more : AreBoundFrom n (name ∷ []) → AreBoundFrom (suc n) more → AreBoundFrom n (name ∷ more)
    with_more k l = (k.0, k.1, l)

    behind : AreBoundFrom n (name ∷ more) → AreBoundFrom (suc n) more
    behind k = k.2

pub bound_fails : (n : ℕ) (rest more all : List TyName) (name : TyName) (first : ℕ) (b : Bool) → rest ≡ name ∷ more
    → (b ≡ true) ↔ AreBoundFrom n (name ∷ []) → b ≡ false → AreBoundFrom n rest ↔ AreBoundFrom first all
    → AreBoundFrom first all → ⊥
bound_fails n rest more all name first b e s f h k =
    not_both b f (s.1 (front (subst (AreBoundFrom n) e (h.1 k))))
  where
    front : AreBoundFrom n (name ∷ more) → AreBoundFrom n (name ∷ [])
    front l = (l.0, l.1, tt)

pub bound_end : (n : ℕ) (rest all : List TyName) (first : ℕ) → rest ≡ [] → AreBoundFrom n rest ↔ AreBoundFrom first all
    → AreBoundFrom first all
bound_end n rest all first e h = h.0 (subst (AreBoundFrom n) (sym e) tt)

-- ---- what is bound may stand anyway

abbrev pub IsOfBinder : TyName → Type 0
IsOfBinder name = name.owner ≡ owner.Bound

of_binder : (n : ℕ) (names : List TyName) → AreBoundFrom n names → AllItems IsOfBinder names
of_binder n [] h = tt
of_binder n (name ∷ names) h = (h.0, of_binder (suc n) names h.2)

both_binders : (xs ys : List TyName) → AllItems IsOfBinder xs → AllItems IsOfBinder ys → AllItems IsOfBinder (xs ++ ys)
both_binders [] ys h k = k
both_binders (x ∷ xs) ys h k = (h.0, both_binders xs ys h.1 k)

owner_bound : (o : Owner) → same_owner o owner.Bound ≡ true → o ≡ owner.Bound
owner_bound owner.Basis h = absurd (cc)
owner_bound (owner.«Unit» u) h = absurd (cc)
owner_bound owner.Bound h = refl

listed_bound : (name : TyName) (names : List TyName) → AllItems IsOfBinder names → is_listed name names ≡ true
    → name.owner ≡ owner.Bound
listed_bound name [] h e = absurd (cc)
listed_bound name (m ∷ ms) h e = or_either (same_name name m) (is_listed name ms) e
    (λ s. owner_bound name.owner (subst (λ o. same_owner name.owner o ≡ true) h.0
    (and_left (same_owner name.owner m.owner) _ s)))
    (λ s. listed_bound name ms h.1 s)

bound_stands : (home : List ℕ) (k : ℕ) (name : TyName) (n : ℕ) → name.owner ≡ owner.Bound
    → below_number home k (symbol.Name name) n ≡ true
bound_stands home k name n e =
    subst (λ o. (not (same_as_home home o) || ltb name.number k) ≡ true) (sym e) refl

pub allowed_more : (names : List TyName) (q : Nodes) (c : Symbol) (n : ℕ) → q c n ≡ true → allowing names q c n ≡ true
allowed_more names q symbol.Arrow n h = h
allowed_more names q (symbol.Record labels) n h = h
allowed_more names q (symbol.Name name) n h =
    or_right (is_listed name names && eqb n name.arity) (q (symbol.Name name) n) h

allowed_less : (names : List TyName) (home : List ℕ) (k : ℕ) → AllItems IsOfBinder names → (c : Symbol) (n : ℕ)
    → allowing names (below_number home k) c n ≡ true → below_number home k c n ≡ true
allowed_less names home k b symbol.Arrow n h = h
allowed_less names home k b (symbol.Record labels) n h = h
allowed_less names home k b (symbol.Name name) n h =
    or_either (is_listed name names && eqb n name.arity) (below_number home k (symbol.Name name) n) h
    (λ e. bound_stands home k name n (listed_bound name names b (and_left (is_listed name names) _ e)))
    (λ e. e)

pub one_less : (names : List TyName) (m : ℕ) (home : List ℕ) (k : ℕ) → AreBoundFrom m names → (c : Symbol) (n : ℕ)
    → allowing names (below_number home k) c n ≡ true → below_number home k c n ≡ true
one_less names m home k b = allowed_less names home k (of_binder m names b)

pub two_less : (xs ys : List TyName) (m n : ℕ) (home : List ℕ) (k : ℕ) → AreBoundFrom m xs → AreBoundFrom n ys
    → (c : Symbol) (i : ℕ) → allowing (xs ++ ys) (below_number home k) c i ≡ true → below_number home k c i ≡ true
two_less xs ys m n home k a b =
    allowed_less (xs ++ ys) home k (both_binders xs ys (of_binder m xs a) (of_binder n ys b))
