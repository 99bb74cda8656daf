-- A table of module names, seen as a finite map, and the list of its names in order.
use Rattle.std.proofs.Common.{◌≡◌, sym, ap, subst, ◌∙◌, refl, Bool, true, false, cond, ◌&&◌, T, ℕ, Some, None, List, [], ◌∷◌, ◌++◌, map, arith}
use Rattle.std.proofs.Math.Path.{fun_ext}
use Rattle.std.specs.Prelude.{Result, Ok, Err, IfOk, OnOk}
use Rattle.std.specs.Ordering.{nat_cmp, is_lt, eq_by_cmp}
use Rattle.std.specs.declared.cmp.Ordering.{Ordering}
use Rattle.std.specs.declared.cmp.Ordering.TheVariants.{Less, Equal}
use Rattle.std.specs.Cmp.{IsTotalOrder, eq_by_cmp_equiv, nat_cmp_total}
use Rattle.std.specs.Cmp.Lexicographic.{slice_cmp, nat_list_cmp_total}
use Rattle.std.specs.FinMap.{FinMap, empty, get, insert, find, is_sorted, from_entries, from_sorted, keys}
use Rattle.std.specs.FinMap.{same_map, get-from_entries, get-from_sorted, entries-from_sorted, get-insert}
use Rattle.std.specs.FinMap.Entries.{below_all}
use Rattle.std.specs.List.{AllByRecursion}
use Rattle.std.specs.List.Sorted.{IsStrictlySortedBy}
use Rattle.std.specs.Map.{lookup, keys_of}
use Rattle.std.specs.BTreeMap.{is_at}
use Rattle.std.proofs.lemmas.Map.Lookups.{CmpEqualImpliesEq, exact_bytes, exact_pairs, exact_unsigned}
use Rattle.std.proofs.lemmas.Cmp.{on_total, then_total}
use Rattle.cm_base.specs.contracts.record.ModNameOrd.TheImpl as order
use Rattle.cm_base.specs.declared.record.ModName.{ModName}
use Rattle.cm_base.specs.declared.record.Namespace.{Namespace}
use Rattle.cm_base.specs.declared.record.Namespace.TheVariants as space
use Rattle.visibility.specs.Exports.{name_cmp, named, space_place, in_name_order}

-- the entries of a table
abbrev Entries : Type 0
Entries = List (ModName × Unit {0})

-- name spaces at one place are one
space_is : (s t : Namespace) → space_place s ≡ space_place t → s ≡ t
space_is space.Structure space.Structure h = refl
space_is space.Structure space.Signature h = absurd (omega arith)
space_is space.Structure space.Functor h = absurd (omega arith)
space_is space.Structure space.Funsig h = absurd (omega arith)
space_is space.Signature space.Structure h = absurd (omega arith)
space_is space.Signature space.Signature h = refl
space_is space.Signature space.Functor h = absurd (omega arith)
space_is space.Signature space.Funsig h = absurd (omega arith)
space_is space.Functor space.Structure h = absurd (omega arith)
space_is space.Functor space.Signature h = absurd (omega arith)
space_is space.Functor space.Functor h = refl
space_is space.Functor space.Funsig h = absurd (omega arith)
space_is space.Funsig space.Structure h = absurd (omega arith)
space_is space.Funsig space.Signature h = absurd (omega arith)
space_is space.Funsig space.Functor h = absurd (omega arith)
space_is space.Funsig space.Funsig h = refl

name_by : (a b : ModName) → ◌≡◌ {A = ℕ × List ℕ} (space_place a.space, a.name) (space_place b.space, b.name) → a ≡ b
name_by a b h =
    let spaces = space_is a.space b.space (ap (λ (p : ℕ × List ℕ). p.0) h) in
    let texts = ap (λ (p : ℕ × List ℕ). p.1) h in
    λ i. record { space = spaces i; name = texts i }

-- names that compare alike are one
exact_names : CmpEqualImpliesEq name_cmp
exact_names a b h = name_by a b
    (exact_pairs nat_cmp (slice_cmp nat_cmp) exact_unsigned exact_bytes
    (space_place a.space, a.name) (space_place b.space, b.name) h)

-- the order of names is total
names_total : IsTotalOrder name_cmp
names_total =
    then_total (on_total (λ (n : ModName). space_place n.space) nat_cmp_total)
    (on_total (λ (n : ModName). n.name) nat_list_cmp_total)

-- what a table has at a name is what its entries have there
lookup-find : (es : Entries) (q : ModName) → lookup (is_at (name_cmp q)) es ≡ find name_cmp q es
lookup-find [] q = refl
lookup-find (e ∷ es) q = ap (cond (is_at (name_cmp q) e.0) (Some e.1)) (lookup-find es q)

-- .. and what the map of its entries has there
get_name : (es : Entries) (q : ModName) → get (from_entries {R = name_cmp} es) q ≡ lookup (is_at (name_cmp q)) es
get_name es q = get-from_entries names_total es q ∙ sym (lookup-find es q)

-- a table that differs at one name is the map with that name
put_name : (es fs : Entries) (p : ModName)
    → ((q : ModName) → lookup (is_at (name_cmp q)) fs
    ≡ cond (is_at (name_cmp p) q) (Some tt) (lookup (is_at (name_cmp q)) es))
    → from_entries {R = name_cmp} fs ≡ insert (from_entries es) p tt
put_name es fs p h = same_map names_total exact_names _ _ (λ q.
    get_name fs q ∙ h q
    ∙ ap (λ b. cond b (Some tt) (lookup (is_at (name_cmp q)) es)) ((eq_by_cmp_equiv names_total).symm p q)
    ∙ sym (get-insert names_total (from_entries es) p tt q
    ∙ ap (cond (eq_by_cmp name_cmp q p) (Some tt)) (get_name es q)))

swapped : {A : Type 0} (a b : Bool) (x rest : A) → cond a x (cond b x rest) ≡ cond b x (cond a x rest)
swapped true true x rest = refl
swapped true false x rest = refl
swapped false b x rest = refl

-- one more name at the end is found as one that is put
find_push : (names : List ModName) (name q : ModName)
    → find name_cmp q (map named (names ++ name ∷ []))
    ≡ cond (eq_by_cmp name_cmp q name) (Some tt) (find name_cmp q (map named names))
find_push [] name q = refl
find_push (first ∷ names) name q =
    ap (cond (eq_by_cmp name_cmp q first) (Some tt)) (find_push names name q)
    ∙ swapped (eq_by_cmp name_cmp q first) (eq_by_cmp name_cmp q name) (Some tt) (find name_cmp q (map named names))

names_push : (names : List ModName) (name : ModName)
    → from_entries {R = name_cmp} (map named (names ++ name ∷ [])) ≡ insert (from_entries (map named names)) name tt
names_push names name = same_map names_total exact_names _ _ (λ q.
    get-from_entries names_total (map named (names ++ name ∷ [])) q
    ∙ find_push names name q
    ∙ sym (get-insert names_total (from_entries (map named names)) name tt q
    ∙ ap (cond (eq_by_cmp name_cmp q name) (Some tt)) (get-from_entries names_total (map named names) q)))

-- one more name is in the table
pub name_more : (es fs : Entries) (names : List ModName) (name : ModName)
    → from_entries {R = name_cmp} es ≡ from_entries {R = name_cmp} (map named names)
    → ((q : ModName) → lookup (is_at (name_cmp q)) fs
    ≡ cond (is_at (name_cmp name) q) (Some tt) (lookup (is_at (name_cmp q)) es))
    → from_entries {R = name_cmp} fs ≡ from_entries {R = name_cmp} (map named (names ++ name ∷ []))
name_more es fs names name has updated =
    put_name es fs name updated ∙ ap (λ m. insert m name tt) has ∙ sym (names_push names name)

-- the order that a table of names goes by
abbrev pub table_cmp : ModName → ModName → Ordering
table_cmp a b = (order.ghosts).cmp a b

abbrev called : Namespace → List ℕ → ModName
called space name = record { space = space; name = name }

-- .. is that of names
spaces_ordered : (s t : Namespace) (x y : List ℕ) → table_cmp (called s x) (called t y) ≡ name_cmp (called s x) (called t y)
spaces_ordered space.Structure space.Structure x y = refl
spaces_ordered space.Signature space.Signature x y = refl
spaces_ordered space.Functor space.Functor x y = refl
spaces_ordered space.Funsig space.Funsig x y = refl
spaces_ordered _ _ x y = refl

table_ordered : (a b : ModName) → table_cmp a b ≡ name_cmp a b
table_ordered a b = spaces_ordered a.space b.space a.name b.name

-- a name that is put into a table
pub name_put : (es fs : Entries) (names : List ModName) (name : ModName)
    → from_entries {R = name_cmp} es ≡ from_entries {R = name_cmp} (map named names)
    → ((q : ModName) → lookup (is_at (table_cmp q)) fs
    ≡ cond (is_at (table_cmp name) q) (Some tt) (lookup (is_at (table_cmp q)) es))
    → from_entries {R = name_cmp} fs ≡ from_entries {R = name_cmp} (map named (names ++ name ∷ []))
name_put es fs names name has updated =
    let same : ◌≡◌ {A = ModName → ModName → Ordering} table_cmp name_cmp =
    fun_ext (λ a. fun_ext (λ b. table_ordered a b)) in
    let Puts : (ModName → ModName → Ordering) → Type 0 =
    λ R. (q : ModName) → lookup (is_at (R q)) fs ≡ cond (is_at (R name) q) (Some tt) (lookup (is_at (R q)) es) in
    name_more es fs names name has (subst Puts same updated)

-- both of two tests
and : (a b : Bool) → T a → T b → T (a && b)
and true b p q = q
and false b p q = p

-- a name below all keys is below all entries
below : (x : ModName) (es : Entries) → AllByRecursion (λ y. name_cmp x y ≡ Less) (keys_of es)
    → T (below_all name_cmp x es)
below x [] h = tt
below x (e ∷ es) h = and _ _ (subst (λ r. T (is_lt r)) (sym h.0) tt) (below x es h.1)

-- entries of rising names are sorted
rising : (es : Entries) → IsStrictlySortedBy name_cmp (keys_of es) → T (is_sorted name_cmp es)
unfolding IsStrictlySortedBy
rising [] h = tt
rising (e ∷ es) h = and _ _ (below e.0 es h.0) (rising es h.1)

keys_are : (es : Entries) → map (λ (e : ModName × Unit {0}). e.0) es ≡ keys_of es
keys_are [] = refl
keys_are (e ∷ es) = ap (λ l. e.0 ∷ l) (keys_are es)

-- the names of a table in their order
keys_listed : (es : Entries) → IsStrictlySortedBy name_cmp (keys_of es)
    → keys (from_entries {R = name_cmp} es) ≡ keys_of es
keys_listed es h =
    let sorted = rising es h in
    ap keys (same_map names_total exact_names (from_entries es) (from_sorted es)
    (λ q. get-from_entries names_total es q ∙ sym (get-from_sorted name_cmp es q sorted)))
    ∙ ap (map (λ (e : ModName × Unit {0}). e.0)) (entries-from_sorted name_cmp es sorted)
    ∙ keys_are es

-- a list of the names of a table is the list of those names in their order
pub listed_so : {E : Type 0} (result : Result (List ModName) E) (es : Entries) (names : List ModName)
    → IfOk result (λ list. list ≡ keys_of es) → OnOk result (IsStrictlySortedBy name_cmp (keys_of es))
    → from_entries {R = name_cmp} es ≡ from_entries {R = name_cmp} (map named names)
    → IfOk result (λ list. list ≡ in_name_order names)
listed_so (Ok list) es names listed rises has = listed ∙ sym (keys_listed es rises) ∙ ap keys has
listed_so (Err fault) es names listed rises has = tt
