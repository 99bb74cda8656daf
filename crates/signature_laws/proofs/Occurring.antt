-- What it means that a name stands in an environment: it stands alone at a type, and it occurs.
use Rattle.std.proofs.Common.{◌≡◌, ℕ, List, [], ◌∷◌, ◌++◌, refl, sym, ap, ◌∙◌, subst, Option, Some, Bool, true, false, cond, inl, inr}
use Rattle.std.specs.Ordering.{eq_by_cmp}
use Rattle.semantic_objects.specs.declared.name.TyName.{TyName}
use Rattle.semantic_objects.specs.declared.entry.TypeStr.{TypeStr}
use Rattle.semantic_objects.specs.Symbols.{same_name}
use Rattle.semantic_objects.specs.Tables.{Table, by_bytes, entry}
use Rattle.semantic_objects.specs.Trees.{Tree}
use Rattle.semantic_objects.specs.Environments.{Env, Structures, Signature, table_of}
use Rattle.env_parts.specs.Types.{con_types, type_types, types_in_types, types_in_values, types_in, types_in_structures}
use Rattle.realisation.specs.Names.{names_in, names_in_all, names_in_list, is_listed}
use Rattle.realisation.proofs.Listing.{name_is, name_same, listed_left, listed_right}
use Rattle.static_semantics.specs.Holding.{AllItems}
use Rattle.module_semantics.specs.SignatureNames.{name_alone, variables_from}
use Rattle.module_semantics.specs.Matching.{Item, type_items, value_items, items_under, structure_items}
use Rattle.module_semantics.specs.Promises.{IsOneOf, StandAlone}
use Rattle.unification.proofs.Walking.{or_left, or_either}
use Rattle.signature_laws.specs.Standing.{IsFound, IsOfName, StandsAt, Stands, SignatureStands}
use Rattle.signature_laws.specs.Promises.{StandingNamesOccur}
use Rattle.signature_laws.proofs.Alone.{IsAlone, alone_is}

-- ---- one of a list

one_left : (x : Item) (xs ys : List Item) → IsOneOf x xs → IsOneOf x (xs ++ ys)
one_left x [] ys h = absurd h
one_left x (y ∷ xs) ys (inl e) = inl e
one_left x (y ∷ xs) ys (inr h) = inr (one_left x xs ys h)

one_right : (x : Item) (xs ys : List Item) → IsOneOf x ys → IsOneOf x (xs ++ ys)
one_right x [] ys h = h
one_right x (y ∷ xs) ys h = inr (one_right x xs ys h)

-- ---- among the items of an environment

-- a type of a name alone is one of these items
abbrev HasType : TyName → List Item → Type 0
HasType name xs = (path : List (List ℕ)) × (str : TypeStr) × IsOneOf (Item.TypeItem path str) xs
    × (name_alone str.function ≡ Some name)

type_left : (name : TyName) (xs ys : List Item) → HasType name xs → HasType name (xs ++ ys)
type_left name xs ys h = (h.0, h.1, one_left (Item.TypeItem h.0 h.1) xs ys h.2, h.3)

type_right : (name : TyName) (xs ys : List Item) → HasType name ys → HasType name (xs ++ ys)
type_right name xs ys h = (h.0, h.1, one_right (Item.TypeItem h.0 h.1) xs ys h.2, h.3)

type_behind : (name : TyName) (x : Item) (xs : List Item) → HasType name xs → HasType name (x ∷ xs)
type_behind name x xs h = (h.0, h.1, inr h.2, h.3)

here_or_on : {A : Type 0} (R : A → Type 0) (Q : Type 0) (c : Bool) (x : A) (o : Option A) → (R x → Q)
    → (IsFound R o → Q) → IsFound R (cond c (Some x) o) → Q
here_or_on R Q true x o f g h = f h
here_or_on R Q false x o f g h = g h

type_of_row : (name : TyName) (path : List (List ℕ)) (n : List ℕ) (ts : Table TypeStr)
    → IsFound (IsOfName name) (entry n ts) → HasType name (type_items path ts)
type_of_row name path n [] h = absurd h
type_of_row name path n (row ∷ ts) h =
    here_or_on (IsOfName name) (HasType name (type_items path (row ∷ ts))) (eq_by_cmp by_bytes n row.0) row.1
    (entry n ts) (λ k. (path ++ row.0 ∷ [], row.1, inl refl, k))
    (λ k. type_behind name (Item.TypeItem (path ++ row.0 ∷ []) row.1) (type_items path ts)
    (type_of_row name path n ts k)) h

type_inside : (name : TyName) (rest : List (List ℕ)) (path : List (List ℕ)) (n : List ℕ) (ss : Structures)
    → ((q : List (List ℕ)) (env : Env) → StandsAt name rest env → HasType name (items_under q env))
    → IsFound (StandsAt name rest) (entry n (table_of ss)) → HasType name (structure_items path ss)
type_inside name rest path n Structures.Nil f h = absurd h
type_inside name rest path n (Structures.Cons part env ss) f h =
    let inner : List (List ℕ) = path ++ part ∷ [] in
    here_or_on (StandsAt name rest) (HasType name (structure_items path (Structures.Cons part env ss)))
    (eq_by_cmp by_bytes n part) env (entry n (table_of ss))
    (λ k. type_behind name (Item.StructureItem inner) (items_under inner env ++ structure_items path ss)
    (type_left name (items_under inner env) (structure_items path ss) (f inner env k)))
    (λ k. type_behind name (Item.StructureItem inner) (items_under inner env ++ structure_items path ss)
    (type_right name (items_under inner env) (structure_items path ss) (type_inside name rest path n ss f k))) h

at_item : (name : TyName) (parts path : List (List ℕ)) (env : Env) → StandsAt name parts env
    → HasType name (items_under path env)
at_item name [] path env h = absurd h
at_item name (n ∷ []) path (Env.MakeEnv ss ts vs) h =
    type_right name (structure_items path ss) (type_items path ts ++ value_items path vs)
    (type_left name (type_items path ts) (value_items path vs) (type_of_row name path n ts h))
at_item name (n ∷ m ∷ rest) path (Env.MakeEnv ss ts vs) h =
    type_left name (structure_items path ss) (type_items path ts ++ value_items path vs)
    (type_inside name (m ∷ rest) path n ss (λ q env k. at_item name (m ∷ rest) q env k) h)

one_of_all : (P : TyName → Type 0) (name : TyName) (names : List TyName) → AllItems P names
    → is_listed name names ≡ true → P name
one_of_all P name [] h l = absurd (cc)
one_of_all P name (m ∷ names) h l = or_either (same_name name m) (is_listed name names) l
    (λ e. subst P (sym (name_is name m e)) h.0) (λ k. one_of_all P name names h.1 k)

stand_alone : (sig : Signature) → SignatureStands sig → StandAlone sig
stand_alone sig h name l =
    let k : Stands sig.env name = one_of_all (Stands sig.env) name sig.bound h.stand l in
    at_item name k.0 [] sig.env k.1

-- ---- in the walk of type names

list_after : (xs ys : List Tree) → names_in_list (xs ++ ys) ≡ names_in_list xs ++ names_in_list ys
list_after [] ys = refl
list_after (x ∷ xs) ys = ap (λ z. names_in x ++ z) (list_after xs ys)
    ∙ sym (after_after (names_in x) (names_in_list xs) (names_in_list ys))
  where
    after_after : (a b c : List TyName) → (a ++ b) ++ c ≡ a ++ (b ++ c)
    after_after [] b c = refl
    after_after (z ∷ a) b c = ap (λ w. z ∷ w) (after_after a b c)

-- a name that stands in types
abbrev In : TyName → List Tree → Type 0
In name xs = is_listed name (names_in_list xs) ≡ true

in_left : (name : TyName) (xs ys : List Tree) → In name xs → In name (xs ++ ys)
in_left name xs ys h = subst (λ z. is_listed name z ≡ true) (sym (list_after xs ys))
    (listed_left name (names_in_list xs) (names_in_list ys) h)

in_right : (name : TyName) (xs ys : List Tree) → In name ys → In name (xs ++ ys)
in_right name xs ys h = subst (λ z. is_listed name z ≡ true) (sym (list_after xs ys))
    (listed_right name (names_in_list xs) (names_in_list ys) h)

in_type : (name : TyName) (str : TypeStr) → IsOfName name str → In name (type_types str)
in_type name str h =
    let k : IsAlone str.function.arity str.function.body name =
    alone_is str.function.arity str.function.body name h in
    listed_left name (names_in str.function.body) (names_in_list (con_types str.cons))
    (subst (λ z. is_listed name (names_in z) ≡ true) (sym k.over)
    (or_left (same_name name name)
    (is_listed name (names_in_all (variables_from str.function.arity 0))) (name_same name)))

in_types : (name : TyName) (n : List ℕ) (ts : Table TypeStr) → IsFound (IsOfName name) (entry n ts)
    → In name (types_in_types ts)
in_types name n [] h = absurd h
in_types name n (row ∷ ts) h =
    here_or_on (IsOfName name) (In name (types_in_types (row ∷ ts))) (eq_by_cmp by_bytes n row.0) row.1 (entry n ts)
    (λ k. in_left name (type_types row.1) (types_in_types ts) (in_type name row.1 k))
    (λ k. in_right name (type_types row.1) (types_in_types ts) (in_types name n ts k)) h

in_structures : (name : TyName) (rest : List (List ℕ)) (n : List ℕ) (ss : Structures)
    → ((env : Env) → StandsAt name rest env → In name (types_in env))
    → IsFound (StandsAt name rest) (entry n (table_of ss)) → In name (types_in_structures ss)
in_structures name rest n Structures.Nil f h = absurd h
in_structures name rest n (Structures.Cons part env ss) f h =
    here_or_on (StandsAt name rest) (In name (types_in_structures (Structures.Cons part env ss)))
    (eq_by_cmp by_bytes n part) env (entry n (table_of ss))
    (λ k. in_left name (types_in env) (types_in_structures ss) (f env k))
    (λ k. in_right name (types_in env) (types_in_structures ss) (in_structures name rest n ss f k)) h

in_env : (name : TyName) (path : List (List ℕ)) (env : Env) → StandsAt name path env → In name (types_in env)
in_env name [] env h = absurd h
in_env name (n ∷ []) (Env.MakeEnv ss ts vs) h =
    in_right name (types_in_structures ss) (types_in_types ts ++ types_in_values vs)
    (in_left name (types_in_types ts) (types_in_values vs) (in_types name n ts h))
in_env name (n ∷ m ∷ rest) (Env.MakeEnv ss ts vs) h =
    in_left name (types_in_structures ss) (types_in_types ts ++ types_in_values vs)
    (in_structures name (m ∷ rest) n ss (λ env k. in_env name (m ∷ rest) env k) h)

pub standing_names_occur : StandingNamesOccur
standing_names_occur = record {
  alone = stand_alone;
  occurs = λ env name h. in_env name h.0 env h.1;
}
