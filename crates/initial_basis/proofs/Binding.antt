-- The variable of a scheme that a row writes is one of those that the scheme has marks for.
use Rattle.std.proofs.Common.{◌≡◌, ℕ, suc, zero, ◌+◌, ◌<◌, refl, sym, ap, ◌∙◌, subst, arith, Option, None, Some, List, [], ◌∷◌, length, map, take, drop, Bool, true, false, ◌||◌, cond}
use Rattle.std.specs.Prelude.{if◌then◌else◌, codes}
use Rattle.std.specs.List.{slice_split, onto_first, list_any, before_first, after_first, position_or_len, fold}
use Rattle.std.specs.Str.{bytes_eq}
use Rattle.std.proofs.lemmas.Bool.{eqb-true}
use Rattle.semantic_objects.specs.declared.name.TyName.{TyName}
use Rattle.semantic_objects.specs.Trees.{Tree, Trees, trees_of, binds, binds_any, BindsBelow}
use Rattle.semantic_objects.specs.Parts.{arrow_tree}
use Rattle.initial_basis.specs.declared.type_names.NamedName.{NamedName}
use Rattle.initial_basis.specs.Phrases.{known, over_args, named, is_variable, is_equality_variable, unit_tree, atom, applied, tuple, is_star, product, is_arrow, type_of, marks_of}

or_either : {C : Type 0} (a b : Bool) → (a || b) ≡ true → (a ≡ true → C) → (b ≡ true → C) → C
or_either true b h f g = f refl
or_either false b h f g = g h

or_left : (a b : Bool) → a ≡ true → (a || b) ≡ true
or_left true b h = refl
or_left false b h = absurd (cc)

or_right : (a b : Bool) → b ≡ true → (a || b) ≡ true
or_right true b h = refl
or_right false b h = h

or_none : (a : Bool) → (a || false) ≡ true → a ≡ true
or_none true h = refl
or_none false h = absurd (cc)

-- a variable is written in some words, and it is the only one that a type binds
record Writes (words : List (List ℕ)) (i : ℕ) : Type 0 where
  some : list_any is_variable words ≡ true
  is : i ≡ 0

over_binds : (name : Option TyName) (args : List Tree) (i : ℕ) → binds i (over_args name args) ≡ true
    → binds_any i (trees_of args) ≡ true
over_binds None args i h = absurd (cc)
over_binds (Some name) args i h = h

named_binds : (names : List NamedName) (word : List ℕ) (args : List Tree) (i : ℕ)
    → binds i (named names word args) ≡ true → binds_any i (trees_of args) ≡ true
named_binds names word args i h = over_binds (known names word) args i h

atom_by : (names : List NamedName) (word : List ℕ) (i : ℕ) (b c : Bool) → is_variable word ≡ b
    → binds i (if b then Tree.Bound 0 else if c then unit_tree else named names word []) ≡ true → Writes (word ∷ []) i
atom_by names word i true c e h =
    record { some = or_left (is_variable word) false e; is = eqb-true i 0 h }
atom_by names word i false true e h = absurd (cc)
atom_by names word i false false e h =
    let k : false ≡ true = named_binds names word [] i h in absurd (cc)

atom_binds : (names : List NamedName) (word : List ℕ) (i : ℕ) → binds i (atom names word) ≡ true → Writes (word ∷ []) i
atom_binds names word i h = atom_by names word i (is_variable word) (bytes_eq word (codes "unit")) refl h

after_binds : (names : List NamedName) (words : List (List ℕ)) (tree : Tree) (i : ℕ)
    → binds i (fold (λ tree name. named names name (tree ∷ [])) tree words) ≡ true → binds i tree ≡ true
after_binds names [] tree i h = h
after_binds names (word ∷ words) tree i h =
    or_none (binds i tree) (named_binds names word (tree ∷ []) i (after_binds names words (named names word (tree ∷ [])) i h))

more_words : (word : List ℕ) (words : List (List ℕ)) (i : ℕ) → Writes (word ∷ []) i → Writes (word ∷ words) i
more_words word words i w = record {
  some = or_left (is_variable word) (list_any is_variable words) (or_none (is_variable word) w.some);
  is = w.is;
}

applied_binds : (names : List NamedName) (words : List (List ℕ)) (i : ℕ) → binds i (applied names words) ≡ true
    → Writes words i
applied_binds names [] i h = absurd (cc)
applied_binds names (word ∷ words) i h =
    more_words word words i (atom_binds names word i (after_binds names words (atom names word) i h))

tuple_binds : (ts : List Tree) (i : ℕ) → binds i (tuple ts) ≡ true → binds_any i (trees_of ts) ≡ true
tuple_binds [] i h = absurd (cc)
tuple_binds (one ∷ []) i h = or_left (binds i one) false h
tuple_binds (one ∷ two ∷ []) i h = h
tuple_binds (one ∷ two ∷ three ∷ []) i h = h
tuple_binds (one ∷ two ∷ three ∷ four ∷ more) i h = absurd (cc)

-- .. in one of the parts between marks
record WritesIn (parts : List (List (List ℕ))) (i : ℕ) : Type 0 where
  some : list_any (list_any is_variable) parts ≡ true
  is : i ≡ 0

parts_bind : (names : List NamedName) (parts : List (List (List ℕ))) (i : ℕ)
    → binds_any i (trees_of (map (applied names) parts)) ≡ true → WritesIn parts i
parts_bind names [] i h = absurd (cc)
parts_bind names (part ∷ parts) i h =
    or_either (binds i (applied names part)) (binds_any i (trees_of (map (applied names) parts))) h
    (λ k. let w = applied_binds names part i k in
    record { some = or_left (list_any is_variable part) (list_any (list_any is_variable) parts) w.some; is = w.is })
    (λ k. let w = parts_bind names parts i k in
    record { some = or_right (list_any is_variable part) (list_any (list_any is_variable) parts) w.some; is = w.is })

onto_any : {A : Type 0} (p : A → Bool) (x : A) (parts : List (List A)) → list_any (list_any p) (onto_first x parts) ≡ true
    → (p x || list_any (list_any p) parts) ≡ true
onto_any p x [] h = or_left (p x) false (or_none (p x) (or_none (p x || false) h))
onto_any p x (part ∷ parts) h =
    or_either (p x || list_any p part) (list_any (list_any p) parts) h
    (λ k. or_either (p x) (list_any p part) k
    (λ l. or_left (p x) (list_any p part || list_any (list_any p) parts) l)
    (λ l. or_right (p x) (list_any p part || list_any (list_any p) parts)
    (or_left (list_any p part) (list_any (list_any p) parts) l)))
    (λ k. or_right (p x) (list_any p part || list_any (list_any p) parts)
    (or_right (list_any p part) (list_any (list_any p) parts) k))

split_by : {A : Type 0} (p : A → Bool) (x : A) (xs : List A) (parts : List (List A)) (b : Bool)
    → list_any (list_any p) (cond b ([] ∷ parts) (onto_first x parts)) ≡ true
    → (list_any (list_any p) parts ≡ true → list_any p xs ≡ true) → (p x || list_any p xs) ≡ true
split_by p x xs parts true h f = or_right (p x) (list_any p xs) (f h)
split_by p x xs parts false h f =
    or_either (p x) (list_any (list_any p) parts) (onto_any p x parts h) (λ k. or_left (p x) (list_any p xs) k)
    (λ k. or_right (p x) (list_any p xs) (f k))

split_any : {A : Type 0} (p q : A → Bool) (xs : List A) → list_any (list_any p) (slice_split q xs) ≡ true
    → list_any p xs ≡ true
split_any p q [] h = absurd (cc)
split_any p q (x ∷ xs) h = split_by p x xs (slice_split q xs) (q x) h (λ k. split_any p q xs k)

product_binds : (names : List NamedName) (words : List (List ℕ)) (i : ℕ) → binds i (product names words) ≡ true
    → Writes words i
product_binds names words i h =
    let w = parts_bind names (slice_split is_star words) i (tuple_binds (map (applied names) (slice_split is_star words)) i h) in
    record { some = split_any is_variable is_star words w.some; is = w.is }

any_take : {A : Type 0} (p : A → Bool) (n : ℕ) (xs : List A) → list_any p (take n xs) ≡ true → list_any p xs ≡ true
any_take p zero xs h = absurd (cc)
any_take p (suc n) [] h = absurd (cc)
any_take p (suc n) (x ∷ xs) h = or_either (p x) (list_any p (take n xs)) h (λ k. or_left (p x) (list_any p xs) k)
    (λ k. or_right (p x) (list_any p xs) (any_take p n xs k))

any_drop : {A : Type 0} (p : A → Bool) (n : ℕ) (xs : List A) → list_any p (drop n xs) ≡ true → list_any p xs ≡ true
any_drop p zero xs h = h
any_drop p (suc n) [] h = absurd (cc)
any_drop p (suc n) (x ∷ xs) h = or_right (p x) (list_any p xs) (any_drop p n xs h)

type_by : (names : List NamedName) (words : List (List ℕ)) (i : ℕ) (b : Bool)
    → binds i (if b then arrow_tree (product names (before_first is_arrow words) ∷ product names (after_first is_arrow words) ∷ [])
    else product names words) ≡ true → Writes words i
type_by names words i true h =
    let from = product names (before_first is_arrow words) in
    let to = product names (after_first is_arrow words) in
    or_either (binds i from) (binds i to || false) h
    (λ k. let w = product_binds names (before_first is_arrow words) i k in
    record { some = any_take is_variable (position_or_len is_arrow words) words w.some; is = w.is })
    (λ k. let w = product_binds names (after_first is_arrow words) i (or_none (binds i to) k) in
    record { some = any_drop is_variable (position_or_len is_arrow words + 1) words w.some; is = w.is })
type_by names words i false h = product_binds names words i h

type_binds : (names : List NamedName) (words : List (List ℕ)) (i : ℕ) → binds i (type_of names words) ≡ true
    → Writes words i
type_binds names words i h = type_by names words i (list_any is_arrow words) h

one_mark : (b c : Bool) → c ≡ true → length (if b then true ∷ [] else if c then false ∷ [] else []) ≡ 1
one_mark true c h = refl
one_mark false true h = refl
one_mark false false h = absurd (cc)

pub scheme_below : (names : List NamedName) (words : List (List ℕ)) → BindsBelow (length (marks_of words)) (type_of names words)
scheme_below names words i h =
    let w = type_binds names words i h in
    let e : i ≡ 0 = w.is in
    let k : length (marks_of words) ≡ 1 =
    one_mark (list_any is_equality_variable words) (list_any is_variable words) w.some in
    omega (arith, e, k)

pub below_same : (names : List NamedName) (words : List (List ℕ)) (marks : List Bool) (body : Tree)
    → marks ≡ marks_of words → body ≡ type_of names words → BindsBelow (length marks) body
below_same names words marks body e f =
    subst (λ m. BindsBelow (length m) body) (sym e)
    (subst (BindsBelow (length (marks_of words))) (sym f) (scheme_below names words))
