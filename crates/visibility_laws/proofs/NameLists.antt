-- Names in their order: which there are, and that each is less than those behind it; and lists with each item once.
use Rattle.std.proofs.Common.{◌≡◌, ◌∙◌, inl, inr, sym, ap, ap₂, refl, subst, ℕ, ◌==◌, Bool, true, false, not, ◌&&◌, ◌||◌, T, List, [], ◌∷◌, ◌++◌, map, None, arith, eqb-true}
use Rattle.std.specs.Prelude.{is_some}
use Rattle.std.specs.List.{list_any}
use Rattle.std.specs.Ordering.{eq_by_cmp, is_eq, is_gt, is_lt, nat_cmp, ordering_reverse}
use Rattle.std.specs.declared.cmp.Ordering.{Ordering}
use Rattle.std.specs.declared.cmp.Ordering.TheVariants.{Less, Equal, Greater}
use Rattle.std.specs.Cmp.{IsTotalOrder, nat_cmp_total}
use Rattle.std.specs.Cmp.Lexicographic.{slice_cmp, nat_list_cmp_total}
use Rattle.std.specs.FinMap.{contains_key-keys, entries, entries_sorted, from_entries, get-from_entries, is_sorted}
use Rattle.std.specs.FinMap.Entries.{below_all, is_some-find}
use Rattle.std.proofs.lemmas.Cmp.{on_total, then_total, tied_itself}
use Rattle.std.proofs.lemmas.Map.Lookups.{CmpEqualImpliesEq, exact_bytes, exact_pairs, exact_unsigned}
use Rattle.cm_base.specs.declared.record.ModName.{ModName}
use Rattle.cm_base.specs.declared.record.Namespace.{Namespace}
use Rattle.cm_base.specs.declared.record.Namespace.TheVariants as space
use Rattle.cm_conditions.specs.Values.{same_module}
use Rattle.cm_description.specs.declared.loaded.Export.{Export}
use Rattle.visibility.proofs.Among.{Member, filter_from, filter_to}
use Rattle.visibility.proofs.ModuleNames.{both, module_is}
use Rattle.visibility.specs.Exports.{each_once, in_name_order, name_cmp, named, same_export, space_place}

-- ---- the order of names

one_space : (s t : Namespace) → space_place s ≡ space_place t → s ≡ t
one_space space.Structure space.Structure h = refl
one_space space.Signature space.Signature h = refl
one_space space.Functor space.Functor h = refl
one_space space.Funsig space.Funsig h = refl
one_space space.Structure space.Signature h = absurd (omega (arith, h))
one_space space.Structure space.Functor h = absurd (omega (arith, h))
one_space space.Structure space.Funsig h = absurd (omega (arith, h))
one_space space.Signature space.Structure h = absurd (omega (arith, h))
one_space space.Signature space.Functor h = absurd (omega (arith, h))
one_space space.Signature space.Funsig h = absurd (omega (arith, h))
one_space space.Functor space.Structure h = absurd (omega (arith, h))
one_space space.Functor space.Signature h = absurd (omega (arith, h))
one_space space.Functor space.Funsig h = absurd (omega (arith, h))
one_space space.Funsig space.Structure h = absurd (omega (arith, h))
one_space space.Funsig space.Signature h = absurd (omega (arith, h))
one_space space.Funsig space.Functor h = absurd (omega (arith, h))

one_name : (a b : ModName) → ◌≡◌ {A = ℕ × List ℕ} (space_place a.space, a.name) (space_place b.space, b.name) → a ≡ b
one_name a b h =
    ap₂ (λ s n. let name : ModName = record { space = s; name = n } in name)
    (one_space a.space b.space (ap (λ (p : ℕ × List ℕ). p.0) h)) (ap (λ (p : ℕ × List ℕ). p.1) h)

-- names that tie are one
pub names_exact : CmpEqualImpliesEq name_cmp
names_exact a b h = one_name a b
    (exact_pairs nat_cmp (slice_cmp nat_cmp) exact_unsigned exact_bytes
    (space_place a.space, a.name) (space_place b.space, b.name) h)

pub names_total : IsTotalOrder name_cmp
names_total =
    then_total (on_total (λ (n : ModName). space_place n.space) nat_cmp_total)
    (on_total (λ (n : ModName). n.name) nat_list_cmp_total)

neither_by : (r s : Ordering) → r ≡ ordering_reverse s → is_gt r ≡ false → is_gt s ≡ false → r ≡ Equal
neither_by Less Less is first second = cc
neither_by Less Equal is first second = cc
neither_by Less Greater is first second = cc
neither_by Equal s is first second = refl
neither_by Greater s is first second = cc

-- two names of which neither comes behind the other are one
pub neither_behind : (a b : ModName) → is_gt (name_cmp a b) ≡ false → is_gt (name_cmp b a) ≡ false → a ≡ b
neither_behind a b first second =
    names_exact a b (neither_by (name_cmp a b) (name_cmp b a) (names_total.antisymm a b) first second)

-- ---- which names there are

tied : (r : Ordering) → is_eq r ≡ true → r ≡ Equal
tied Less h = cc
tied Equal h = refl
tied Greater h = cc

any_by : (q x : ModName) (xs : List ModName) (b : Bool) → eq_by_cmp name_cmp q x ≡ b
    → (list_any (eq_by_cmp name_cmp q) xs ≡ true → Member xs q)
    → (b || list_any (eq_by_cmp name_cmp q) xs) ≡ true → Member (x ∷ xs) q
any_by q x xs true is rest h = inl (sym (names_exact q x (tied (name_cmp q x) is)))
any_by q x xs false is rest h = inr (rest h)

any_to : (q : ModName) (xs : List ModName) → list_any (eq_by_cmp name_cmp q) xs ≡ true → Member xs q
any_to q [] h = cc
any_to q (x ∷ xs) h = any_by q x xs (eq_by_cmp name_cmp q x) refl (any_to q xs) h

or_true : (a : Bool) → (a || true) ≡ true
or_true true = refl
or_true false = refl

any_from : (q : ModName) (xs : List ModName) → Member xs q → list_any (eq_by_cmp name_cmp q) xs ≡ true
any_from q [] m = absurd m
any_from q (x ∷ xs) (inl same) =
    ap (λ n. eq_by_cmp name_cmp q n || list_any (eq_by_cmp name_cmp q) xs) same
    ∙ ap (λ r. is_eq r || list_any (eq_by_cmp name_cmp q) xs) (tied_itself names_total q)
any_from q (x ∷ xs) (inr more) =
    ap (λ b. eq_by_cmp name_cmp q x || b) (any_from q xs more) ∙ or_true (eq_by_cmp name_cmp q x)

names_again : (names : List ModName) → map (λ (e : ModName × Unit {0}). e.0) (map named names) ≡ names
names_again [] = refl
names_again (name ∷ names) = ap (λ l. name ∷ l) (names_again names)

same_any : (names : List ModName) (q : ModName)
    → list_any (eq_by_cmp name_cmp q) (in_name_order names) ≡ list_any (eq_by_cmp name_cmp q) names
same_any names q =
    sym (contains_key-keys (from_entries {R = name_cmp} (map named names)) q)
    ∙ ap is_some (get-from_entries names_total (map named names) q)
    ∙ is_some-find name_cmp q (map named names)
    ∙ ap (list_any (eq_by_cmp name_cmp q)) (names_again names)

-- the names in order are those of the list
pub ordered_to : (names : List ModName) (q : ModName) → Member (in_name_order names) q → Member names q
ordered_to names q m = any_to q names (sym (same_any names q) ∙ any_from q (in_name_order names) m)

pub ordered_from : (names : List ModName) (q : ModName) → Member names q → Member (in_name_order names) q
ordered_from names q m = any_to q (in_name_order names) (same_any names q ∙ any_from q names m)

-- ---- that they rise

first_of : (a b : Bool) → T (a && b) → T a
first_of true b h = tt
first_of false b h = h

second_of : (a b : Bool) → T (a && b) → T b
second_of true b h = h
second_of false b h = absurd h

less : (r : Ordering) → T (is_lt r) → is_gt r ≡ false
less Less h = refl
less Equal h = refl
less Greater h = absurd h

-- a name isn't behind those of entries above it
not_behind : (x : ModName) (es : List (ModName × Unit {0})) (q : ModName) → T (below_all name_cmp x es)
    → Member (map (λ (e : ModName × Unit {0}). e.0) es) q → is_gt (name_cmp x q) ≡ false
not_behind x [] q h m = absurd m
not_behind x (e ∷ es) q h (inl same) =
    ap (λ n. is_gt (name_cmp x n)) (sym same)
    ∙ less (name_cmp x e.0) (first_of (is_lt (name_cmp x e.0)) (below_all name_cmp x es) h)
not_behind x (e ∷ es) q h (inr more) =
    not_behind x es q (second_of (is_lt (name_cmp x e.0)) (below_all name_cmp x es) h) more

rising : (es : List (ModName × Unit {0})) (before : List ModName) (x : ModName) (after : List ModName) (q : ModName)
    → T (is_sorted name_cmp es) → map (λ (e : ModName × Unit {0}). e.0) es ≡ before ++ x ∷ after → Member after q
    → is_gt (name_cmp x q) ≡ false
rising [] [] x after q h split m = cc
rising [] (y ∷ before) x after q h split m = cc
rising (e ∷ es) [] x after q h split m =
    let head : e.0 ≡ x = cc in
    let rest : map (λ (e : ModName × Unit {0}). e.0) es ≡ after = cc in
    ap (λ n. is_gt (name_cmp n q)) (sym head)
    ∙ not_behind e.0 es q (first_of (below_all name_cmp e.0 es) (is_sorted name_cmp es) h)
    (subst (λ l. Member l q) (sym rest) m)
rising (e ∷ es) (y ∷ before) x after q h split m =
    let rest : map (λ (e : ModName × Unit {0}). e.0) es ≡ before ++ x ∷ after = cc in
    rising es before x after q (second_of (below_all name_cmp e.0 es) (is_sorted name_cmp es) h) rest m

-- a name in order isn't behind those that stand behind it
pub order_rises : (names before : List ModName) (x : ModName) (after : List ModName) (q : ModName)
    → in_name_order names ≡ before ++ x ∷ after → Member after q → is_gt (name_cmp x q) ≡ false
order_rises names before x after q split m =
    let table = from_entries {R = name_cmp} (map named names) in
    rising (entries table) before x after q (entries_sorted table) split m

pub not_behind_itself : (x : ModName) → is_gt (name_cmp x x) ≡ false
not_behind_itself x = ap is_gt (tied_itself names_total x)

-- ---- each item once

pub once_to : {A : Type 0} (same : A → A → Bool) (xs : List A) (y : A) → Member (each_once same xs) y → Member xs y
once_to same [] y m = absurd m
once_to same (x ∷ xs) y (inl here) = inl here
once_to same (x ∷ xs) y (inr more) =
    inr (once_to same xs y (filter_to (λ z. not (same x z)) (each_once same xs) y more).0)

once_by : {A : Type 0} (same : A → A → Bool) (x : A) (xs : List A) (y : A) (b : Bool) → same x y ≡ b
    → (b ≡ true → x ≡ y) → Member (each_once same xs) y → Member (each_once same (x ∷ xs)) y
once_by same x xs y true is one m = inl (one refl)
once_by same x xs y false is one m = inr (filter_from (λ z. not (same x z)) (each_once same xs) y m (ap not is))

pub once_from : {A : Type 0} (same : A → A → Bool) (xs : List A) (y : A)
    → ((x : A) → Member xs x → same x y ≡ true → x ≡ y) → Member xs y → Member (each_once same xs) y
once_from same [] y one m = absurd m
once_from same (x ∷ xs) y one (inl here) = inl here
once_from same (x ∷ xs) y one (inr more) =
    once_by same x xs y (same x y) refl (one x (inl refl)) (once_from same xs y (λ z h. one z (inr h)) more)

-- two exports that were found are one, where their names and units are
pub one_export : (a b : Export) → a.hash ≡ None → b.hash ≡ None → same_export a b ≡ true → a ≡ b
one_export a b first second same =
    let parts = both (same_module a.name b.name) (a.unit == b.unit) same in
    let name = module_is a.name b.name parts.0 in
    let unit = eqb-true a.unit b.unit parts.1 in
    let hash = first ∙ sym second in
    λ i. record { name = name i; unit = unit i; hash = hash i }
