-- What a walk gives, wherever the environment stands: the path that leads to it shows in diagnostics alone.
use Rattle.std.proofs.Common.{◌≡◌, ℕ, refl, sym, ap, ap₂, ◌∙◌, List, [], ◌∷◌, ◌++◌, map, Option, Some, None, Bool, true, false, not, ◌&&◌, eqb, cond, append_assoc, append-nil}
use Rattle.std.proofs.lemmas.List.{map-append}
use Rattle.std.specs.Prelude.{Ok, Err}
use Rattle.std.specs.Ordering.{is_eq}
use Rattle.std.specs.Cmp.{tied_itself}
use Rattle.std.specs.Cmp.Lexicographic.{nat_list_cmp_total}
use Rattle.std.specs.FinMap.Entries.{find-put}
use Rattle.cm_base.specs.declared.diag.Place.{Place}
use Rattle.semantic_objects.specs.declared.name.TyName.{TyName}
use Rattle.semantic_objects.specs.declared.entry.TypeStr.{TypeStr}
use Rattle.semantic_objects.specs.declared.entry.ValueEntry.{ValueEntry}
use Rattle.semantic_objects.specs.Tables.{Table, by_bytes, entry}
use Rattle.semantic_objects.specs.Environments.{Env, Structures, structures, types, values}
use Rattle.unification.specs.Types.{State}
use Rattle.realisation.specs.Realised.{function_admits}
use Rattle.static_semantics.specs.Inferring.{Scope, Answer, ◌>>=◌, gives, refuses_where, found_in_structure, found_at}
use Rattle.static_semantics.specs.Holding.{AllItems}
use Rattle.module_semantics.specs.Matching.{Item, Rows, present, misfits_where, items_under, structure_items, type_items, value_items, if_flexible, realising, realising_item, realising_all, fits_type, fits_value, enriching_item, enriching_all}
use Rattle.module_semantics.specs.SignatureNames.{name_alone}
use Rattle.core_scopes.specs.Paths.{led_on}
use Rattle.structure_matching.specs.Searching.{at_of}

-- ---- what an answer gives

abbrev pub given : {A : Type 0} → Answer A → Option A
given None = None
given (Some (Err d)) = None
given (Some (Ok x)) = Some x

abbrev then_given : {A B : Type 0} → Option A → (A → Option B) → Option B
then_given None f = None
then_given (Some x) f = f x

given_then : {A B : Type 0} (m : Answer A) (f : A → Answer B) → given (m >>= f) ≡ then_given (given m) (λ x. given (f x))
given_then None f = refl
given_then (Some (Err d)) f = refl
given_then (Some (Ok x)) f = refl

then_same : {A B : Type 0} (o : Option A) (f h : A → Option B) → ((x : A) → f x ≡ h x) → then_given o f ≡ then_given o h
then_same None f h e = refl
then_same (Some x) f h e = e x

-- two steps that give the same, each with another one behind it
both_then : {A B : Type 0} (m n : Answer A) (f h : A → Answer B) → given m ≡ given n
    → ((x : A) → given (f x) ≡ given (h x)) → given (m >>= f) ≡ given (n >>= h)
both_then m n f h e k =
    given_then m f ∙ ap (λ o. then_given o (λ x. given (f x))) e
    ∙ then_same (given n) (λ x. given (f x)) (λ x. given (h x)) k ∙ sym (given_then n h)

some_is : {A : Type 0} (x y : A) → Some x ≡ Some y → x ≡ y
some_is x y h = cc

pub gives_by : {A : Type 0} (m : Answer A) (x : A) → given m ≡ Some x → m ≡ gives x
gives_by None x h = absurd (cc)
gives_by (Some (Err d)) x h = absurd (cc)
gives_by (Some (Ok y)) x h = ap gives (some_is y x h)

-- ---- items behind a path

abbrev pub behind : List (List ℕ) → Item → Item
behind path (Item.StructureItem p) = Item.StructureItem (path ++ p)
behind path (Item.TypeItem p str) = Item.TypeItem (path ++ p) str
behind path (Item.ValueItem p value) = Item.ValueItem (path ++ p) value

types_behind : (path rest : List (List ℕ)) (rows : Table TypeStr)
    → type_items (path ++ rest) rows ≡ map (behind path) (type_items rest rows)
types_behind path rest [] = refl
types_behind path rest (row ∷ rows) =
    ap₂ (λ p xs. Item.TypeItem p row.1 ∷ xs) (append_assoc path rest (row.0 ∷ [])) (types_behind path rest rows)

values_behind : (path rest : List (List ℕ)) (rows : Table ValueEntry)
    → value_items (path ++ rest) rows ≡ map (behind path) (value_items rest rows)
values_behind path rest [] = refl
values_behind path rest (row ∷ rows) =
    ap₂ (λ p xs. Item.ValueItem p row.1 ∷ xs) (append_assoc path rest (row.0 ∷ [])) (values_behind path rest rows)

mutual
  items_behind : (path rest : List (List ℕ)) (env : Env)
      → items_under (path ++ rest) env ≡ map (behind path) (items_under rest env)
  items_behind path rest (Env.MakeEnv ss ts vs) =
      ap₂ (λ xs ys. xs ++ ys) (structures_behind path rest ss)
      (ap₂ (λ xs ys. xs ++ ys) (types_behind path rest ts) (values_behind path rest vs)
      ∙ sym (map-append (behind path) (type_items rest ts) (value_items rest vs)))
      ∙ sym (map-append (behind path) (structure_items rest ss) (type_items rest ts ++ value_items rest vs))

  structures_behind : (path rest : List (List ℕ)) (ss : Structures)
      → structure_items (path ++ rest) ss ≡ map (behind path) (structure_items rest ss)
  structures_behind path rest Structures.Nil = refl
  structures_behind path rest (Structures.Cons name env more) =
      ap (λ p. Item.StructureItem p ∷ (items_under p env ++ structure_items (path ++ rest) more))
      (append_assoc path rest (name ∷ []))
      ∙ ap (λ xs. Item.StructureItem (path ++ (rest ++ name ∷ [])) ∷ xs)
      (ap₂ (λ xs ys. xs ++ ys) (items_behind path (rest ++ name ∷ []) env) (structures_behind path rest more)
      ∙ sym (map-append (behind path) (items_under (rest ++ name ∷ []) env) (structure_items rest more)))

pub items_at : (path : List (List ℕ)) (env : Env) → items_under path env ≡ map (behind path) (items_under [] env)
items_at path env = ap (λ p. items_under p env) (sym (append-nil path)) ∙ items_behind path [] env

-- ---- each item has a name

abbrev HasName : List (List ℕ) → Type 0
HasName [] = ⊥
HasName (name ∷ path) = Unit {0}

abbrev pub IsNamed : Item → Type 0
IsNamed (Item.StructureItem p) = HasName p
IsNamed (Item.TypeItem p str) = HasName p
IsNamed (Item.ValueItem p value) = HasName p

named_last : (path : List (List ℕ)) (name : List ℕ) → HasName (path ++ name ∷ [])
named_last [] name = tt
named_last (first ∷ path) name = tt

all_both : (xs ys : List Item) → AllItems IsNamed xs → AllItems IsNamed ys → AllItems IsNamed (xs ++ ys)
all_both [] ys h k = k
all_both (x ∷ xs) ys h k = (h.0, all_both xs ys h.1 k)

types_named : (path : List (List ℕ)) (rows : Table TypeStr) → AllItems IsNamed (type_items path rows)
types_named path [] = tt
types_named path (row ∷ rows) = (named_last path row.0, types_named path rows)

values_named : (path : List (List ℕ)) (rows : Table ValueEntry) → AllItems IsNamed (value_items path rows)
values_named path [] = tt
values_named path (row ∷ rows) = (named_last path row.0, values_named path rows)

mutual
  pub items_named : (path : List (List ℕ)) (env : Env) → AllItems IsNamed (items_under path env)
  items_named path (Env.MakeEnv ss ts vs) =
      all_both (structure_items path ss) (type_items path ts ++ value_items path vs) (structures_named path ss)
      (all_both (type_items path ts) (value_items path vs) (types_named path ts) (values_named path vs))

  structures_named : (path : List (List ℕ)) (ss : Structures) → AllItems IsNamed (structure_items path ss)
  structures_named path Structures.Nil = tt
  structures_named path (Structures.Cons name env more) = (
    named_last path name,
    all_both (items_under (path ++ name ∷ []) env) (structure_items path more)
        (items_named (path ++ name ∷ []) env) (structures_named path more),
  )

-- ---- what is found behind a path

none_some : {A P : Type 0} (x : A) → None ≡ Some x → P
none_some x h = absurd (cc)

inside : {A : Type 0} (table : Env → Table A) (first : List ℕ) (rest : List (List ℕ)) (name : List ℕ)
    (last : List (List ℕ)) (root env : Env) (o : Option Env) → entry first (structures root) ≡ o
    → found_in_structure o (led_on rest) ≡ Some env
    → ((inner : Env) → led_on rest inner ≡ Some env
    → found_at table (rest ++ name ∷ last) inner ≡ found_at table (name ∷ last) env)
    → found_at table (first ∷ (rest ++ name ∷ last)) root ≡ found_at table (name ∷ last) env
inside table first rest name last root env None e led k = none_some env led
inside table first [] name last root env (Some inner) e led k =
    ap (λ o. found_in_structure o (found_at table (name ∷ last))) e ∙ k inner led
inside table first (next ∷ rest) name last root env (Some inner) e led k =
    ap (λ o. found_in_structure o (found_at table (next ∷ (rest ++ name ∷ last)))) e ∙ k inner led

found_behind : {A : Type 0} (table : Env → Table A) (path : List (List ℕ)) (name : List ℕ) (last : List (List ℕ))
    (root env : Env) → led_on path root ≡ Some env
    → found_at table (path ++ name ∷ last) root ≡ found_at table (name ∷ last) env
found_behind table [] name last root env led = ap (found_at table (name ∷ last)) (some_is root env led)
found_behind table (first ∷ rest) name last root env led =
    inside table first rest name last root env (entry first (structures root)) refl led
    (λ inner k. found_behind table rest name last inner env k)

pub found_from : {A : Type 0} (table : Env → Table A) (path p : List (List ℕ)) (root env : Env)
    → led_on path root ≡ Some env → HasName p → found_at table (path ++ p) root ≡ found_at table p env
found_from table path [] root env led h = absurd h
found_from table path (name ∷ last) root env led h = found_behind table path name last root env led

-- what is found is asked, and the path shows where nothing is found alone
asked : {A B : Type 0} (inner : Scope) (place : Place) (p q : List (List ℕ)) (o : Option A) (f h : A → Answer B)
    → ((x : A) → given (f x) ≡ given (h x))
    → given (present inner (at_of place) p o >>= f) ≡ given (present inner (at_of place) q o >>= h)
asked inner place p q None f h e = refl
asked inner place p q (Some x) f h e = e x

asked_both : {A B : Type 0} (inner : Scope) (place : Place) (p q : List (List ℕ)) (o r : Option A) (f h : A → Answer B)
    → o ≡ r → ((x : A) → given (f x) ≡ given (h x))
    → given (present inner (at_of place) p o >>= f) ≡ given (present inner (at_of place) q r >>= h)
asked_both inner place p q o r f h is e =
    ap (λ z. given (present inner (at_of place) p z >>= f)) is ∙ asked inner place p q r f h e

-- ---- the walk for a realisation

realising_from : (inner : Scope) (place : Place) (s : State) (root env : Env) (path p : List (List ℕ)) (rows : Rows)
    (o : Option TyName) → led_on path root ≡ Some env → HasName p
    → given (realising inner (at_of place) s root (path ++ p) rows o)
    ≡ given (realising inner (at_of place) s env p rows o)
realising_from inner place s root env path p rows None led h = refl
realising_from inner place s root env path p rows (Some name) led h =
    asked_both inner place (path ++ p) p (found_at types (path ++ p) root) (found_at types p env) next next
    (found_from types path p root env led h) (λ str. refl)
  where
    next : TypeStr → Answer Rows
    next str =
        refuses_where (not (eqb str.function.arity name.arity)) 35 inner (at_of place)
        >>= λ u. refuses_where (name.eq && not (function_admits s.marks str.function)) 33 inner (at_of place)
        >>= λ v. gives (rows ++ (name, str.function) ∷ [])

realising_one : (inner : Scope) (place : Place) (s : State) (root env : Env) (bound : List TyName) (path : List (List ℕ))
    (item : Item) (rows : Rows) → led_on path root ≡ Some env → IsNamed item
    → given (realising_item inner (at_of place) s root bound (behind path item) rows)
    ≡ given (realising_item inner (at_of place) s env bound item rows)
realising_one inner place s root env bound path (Item.StructureItem p) rows led h =
    asked_both inner place (path ++ p) p (found_at structures (path ++ p) root) (found_at structures p env)
    (λ (e : Env). gives rows) (λ (e : Env). gives rows) (found_from structures path p root env led h) (λ e. refl)
realising_one inner place s root env bound path (Item.TypeItem p str) rows led h =
    realising_from inner place s root env path p rows (if_flexible bound rows (name_alone str.function)) led h
realising_one inner place s root env bound path (Item.ValueItem p value) rows led h = refl

realising_behind : (inner : Scope) (place : Place) (s : State) (root env : Env) (bound : List TyName)
    (path : List (List ℕ)) (xs : List Item) (rows : Rows) → led_on path root ≡ Some env → AllItems IsNamed xs
    → given (realising_all inner (at_of place) s root bound (map (behind path) xs) rows)
    ≡ given (realising_all inner (at_of place) s env bound xs rows)
realising_behind inner place s root env bound path [] rows led h = refl
realising_behind inner place s root env bound path (x ∷ xs) rows led h =
    both_then (realising_item inner (at_of place) s root bound (behind path x) rows)
    (realising_item inner (at_of place) s env bound x rows)
    (realising_all inner (at_of place) s root bound (map (behind path) xs))
    (realising_all inner (at_of place) s env bound xs)
    (realising_one inner place s root env bound path x rows led h.0)
    (λ more. realising_behind inner place s root env bound path xs more led h.1)

-- what the walk through an environment gives, from wherever it is found
pub realises_from : (inner : Scope) (place : Place) (s : State) (root env : Env) (bound : List TyName)
    (path : List (List ℕ)) (specified : Env) (rows : Rows) → led_on path root ≡ Some env
    → given (realising_all inner (at_of place) s root bound (items_under path specified) rows)
    ≡ given (realising_all inner (at_of place) s env bound (items_under [] specified) rows)
realises_from inner place s root env bound path specified rows led =
    ap (λ xs. given (realising_all inner (at_of place) s root bound xs rows)) (items_at path specified)
    ∙ realising_behind inner place s root env bound path (items_under [] specified) rows led (items_named [] specified)

-- ---- the walk over what is specified

misfits_same : (a b : Bool) (inner : Scope) (place : Place) (p q : List (List ℕ))
    → given (refuses_where a 35 inner (at_of place) >>= λ u. misfits_where b inner (at_of place) p)
    ≡ given (refuses_where a 35 inner (at_of place) >>= λ u. misfits_where b inner (at_of place) q)
misfits_same true b inner place p q = refl
misfits_same false true inner place p q = refl
misfits_same false false inner place p q = refl

misfits_alone : (b : Bool) (inner : Scope) (place : Place) (p q : List (List ℕ))
    → given (misfits_where b inner (at_of place) p) ≡ given (misfits_where b inner (at_of place) q)
misfits_alone true inner place p q = refl
misfits_alone false inner place p q = refl

abbrev compared : Scope → Place → TypeStr → List (List ℕ) → TypeStr → Answer (Unit {0})
compared inner place str p found =
    refuses_where (not (eqb str.function.arity found.function.arity)) 35 inner (at_of place)
    >>= λ u. misfits_where (not (fits_type str found)) inner (at_of place) p

enriching_one : (inner : Scope) (place : Place) (s : State) (root env : Env) (path : List (List ℕ)) (item : Item)
    → led_on path root ≡ Some env → IsNamed item
    → given (enriching_item inner (at_of place) s root (behind path item))
    ≡ given (enriching_item inner (at_of place) s env item)
enriching_one inner place s root env path (Item.StructureItem p) led h =
    asked_both inner place (path ++ p) p (found_at structures (path ++ p) root) (found_at structures p env)
    (λ (e : Env). gives tt) (λ (e : Env). gives tt) (found_from structures path p root env led h) (λ e. refl)
enriching_one inner place s root env path (Item.TypeItem p str) led h =
    asked_both inner place (path ++ p) p (found_at types (path ++ p) root) (found_at types p env)
    (compared inner place str (path ++ p)) (compared inner place str p) (found_from types path p root env led h)
    (λ found. misfits_same (not (eqb str.function.arity found.function.arity)) (not (fits_type str found)) inner place
    (path ++ p) p)
enriching_one inner place s root env path (Item.ValueItem p value) led h =
    asked_both inner place (path ++ p) p (found_at values (path ++ p) root) (found_at values p env)
    (λ (found : ValueEntry). misfits_where (not (fits_value s value found)) inner (at_of place) (path ++ p))
    (λ (found : ValueEntry). misfits_where (not (fits_value s value found)) inner (at_of place) p)
    (found_from values path p root env led h)
    (λ found. misfits_alone (not (fits_value s value found)) inner place (path ++ p) p)

enriching_behind : (inner : Scope) (place : Place) (s : State) (root env : Env) (path : List (List ℕ)) (xs : List Item)
    → led_on path root ≡ Some env → AllItems IsNamed xs
    → given (enriching_all inner (at_of place) s root (map (behind path) xs))
    ≡ given (enriching_all inner (at_of place) s env xs)
enriching_behind inner place s root env path [] led h = refl
enriching_behind inner place s root env path (x ∷ xs) led h =
    both_then (enriching_item inner (at_of place) s root (behind path x)) (enriching_item inner (at_of place) s env x)
    (λ (u : Unit {0}). enriching_all inner (at_of place) s root (map (behind path) xs))
    (λ (u : Unit {0}). enriching_all inner (at_of place) s env xs)
    (enriching_one inner place s root env path x led h.0)
    (λ u. enriching_behind inner place s root env path xs led h.1)

pub enriches_from : (inner : Scope) (place : Place) (s : State) (root env : Env) (path : List (List ℕ)) (specified : Env)
    → led_on path root ≡ Some env
    → given (enriching_all inner (at_of place) s root (items_under path specified))
    ≡ given (enriching_all inner (at_of place) s env (items_under [] specified))
enriches_from inner place s root env path specified led =
    ap (λ xs. given (enriching_all inner (at_of place) s root xs)) (items_at path specified)
    ∙ enriching_behind inner place s root env path (items_under [] specified) led (items_named [] specified)

-- ---- an environment in which another one stands behind a path

found_here : {A : Type 0} (name : List ℕ) (x : A) → entry name ((name, x) ∷ []) ≡ Some x
found_here name x = find-put by_bytes nat_list_cmp_total name name x []
    ∙ ap (λ r. cond (is_eq r) (Some x) (entry name [])) (tied_itself nat_list_cmp_total name)

abbrev pub around : List (List ℕ) → Env → Env
around [] env = env
around (name ∷ path) env = Env.MakeEnv (Structures.Cons name (around path env) Structures.Nil) [] []

pub led_around : (path : List (List ℕ)) (env : Env) → led_on path (around path env) ≡ Some env
led_around [] env = refl
led_around (name ∷ path) env =
    ap (λ o. found_in_structure o (led_on path)) (found_here name (around path env)) ∙ led_around path env
