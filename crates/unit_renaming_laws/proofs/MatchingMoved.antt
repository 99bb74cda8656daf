-- Matching moves with the variables.
use Rattle.std.proofs.Common.{◌≡◌, ℕ, List, [], ◌∷◌, ◌++◌, map, refl, sym, ap, ap₂, ◌∙◌, subst, Option, Some, None, Bool, true, false, ◌||◌, ◌&&◌, cond, not}
use Rattle.std.proofs.lemmas.List.{map-append}
use Rattle.std.specs.Prelude.{eqb}
use Rattle.std.specs.Option.{is_none}
use Rattle.std.specs.List.{list_any}
use Rattle.sml_trees.specs.declared.name.At.{At}
use Rattle.semantic_objects.specs.declared.name.TyName.{TyName}
use Rattle.semantic_objects.specs.declared.entry.ConEntry.{ConEntry}
use Rattle.semantic_objects.specs.declared.entry.TypeFn.{TypeFn}
use Rattle.semantic_objects.specs.declared.entry.TypeStr.{TypeStr}
use Rattle.semantic_objects.specs.declared.entry.ValueEntry.{ValueEntry}
use Rattle.semantic_objects.specs.Symbols.{same_list, same_text, same_bool}
use Rattle.semantic_objects.specs.Tables.{Table}
use Rattle.semantic_objects.specs.Environments.{Env, Structures, Signature, structures, types, values}
use Rattle.unification.specs.Types.{State}
use Rattle.unification.specs.Closing.{canonical_scheme}
use Rattle.realisation.specs.Names.{is_listed}
use Rattle.realisation.specs.Realised.{of_rows, realised, function_admits}
use Rattle.static_semantics.specs.Inferring.{Scope, found_at}
use Rattle.static_semantics.specs.EnvironmentsPut.{put_con, put_type, put_value, each_entry, put_env, put_structures, put_scope}
use Rattle.module_semantics.specs.SignatureNames.{name_alone}
use Rattle.module_semantics.specs.Matching.{Item, type_items, value_items, items_under, structure_items, items, present, misfits_where, Rows, if_flexible, realising, realising_item, realising_all, is_left, realisation_of, same_scheme, same_con, has_cons, has_status, fits_type, fits_value, enriching_item, enriching_all, matching, matched}
use Rattle.renaming_laws.specs.Moved.{moved, IsMoved, Both, Moves}
use Rattle.renaming_laws.proofs.Answers.{plain_then, both_where, mapped}
use Rattle.renaming_laws.proofs.Environments.{put_has_structures, put_has_types, put_has_values, put_found}
use Rattle.renaming_laws.proofs.Generality.{same_moved, admits_moved, covers_moved, canonical_moved}
use Rattle.unit_renaming_laws.specs.Moved.{put_type_function, put_realising, put_signature}
use Rattle.unit_renaming_laws.proofs.Realising.{rows_alike, realised_by_moved}
use Rattle.unit_renaming_laws.proofs.Specifying.{alone_moved}

-- ---- the walk

abbrev put_item : ℕ → Item → Item
put_item k (Item.StructureItem path) = Item.StructureItem path
put_item k (Item.TypeItem path str) = Item.TypeItem path (put_type (moved k) str)
put_item k (Item.ValueItem path value) = Item.ValueItem path (put_value (moved k) value)

types_walked : (k : ℕ) (path : List (List ℕ)) (rows : Table TypeStr)
    → type_items path (each_entry (put_type (moved k)) rows) ≡ map (put_item k) (type_items path rows)
types_walked k path [] = refl
types_walked k path (row ∷ rows) =
    ap (λ z. Item.TypeItem (path ++ row.0 ∷ []) (put_type (moved k) row.1) ∷ z) (types_walked k path rows)

values_walked : (k : ℕ) (path : List (List ℕ)) (rows : Table ValueEntry)
    → value_items path (each_entry (put_value (moved k)) rows) ≡ map (put_item k) (value_items path rows)
values_walked k path [] = refl
values_walked k path (row ∷ rows) =
    ap (λ z. Item.ValueItem (path ++ row.0 ∷ []) (put_value (moved k) row.1) ∷ z) (values_walked k path rows)

mutual
  env_walked : (k : ℕ) (path : List (List ℕ)) (env : Env)
      → items_under path (put_env (moved k) env) ≡ map (put_item k) (items_under path env)
  env_walked k path (Env.MakeEnv ss ts vs) =
      ap₂ (λ a b. a ++ b) (structures_walked k path ss)
      (ap₂ (λ a b. a ++ b) (types_walked k path ts) (values_walked k path vs)
      ∙ sym (map-append (put_item k) (type_items path ts) (value_items path vs)))
      ∙ sym (map-append (put_item k) (structure_items path ss) (type_items path ts ++ value_items path vs))

  structures_walked : (k : ℕ) (path : List (List ℕ)) (ss : Structures)
      → structure_items path (put_structures (moved k) ss) ≡ map (put_item k) (structure_items path ss)
  structures_walked k path Structures.Nil = refl
  structures_walked k path (Structures.Cons name env rest) =
      ap (λ z. Item.StructureItem (path ++ name ∷ []) ∷ z)
      (ap₂ (λ a b. a ++ b) (env_walked k (path ++ name ∷ []) env) (structures_walked k path rest)
      ∙ sym (map-append (put_item k) (items_under (path ++ name ∷ []) env) (structure_items path rest)))

-- ---- looking up

present_moved : {A : Type 0} (k : ℕ) (move : A → A) (sc : Scope) (at : At) (path : List (List ℕ)) (o p : Option A)
    → p ≡ mapped move o → Both (Moves move) (present sc at path o) (present (put_scope (moved k) sc) at path p)
present_moved k move sc at path o p e =
    subst (λ z. Both (Moves move) (present sc at path o) (present (put_scope (moved k) sc) at path z)) (sym e)
    (on k move sc at path o) where
      on : {A : Type 0} (k : ℕ) (move : A → A) (sc : Scope) (at : At) (path : List (List ℕ)) (o : Option A)
          → Both (Moves move) (present sc at path o) (present (put_scope (moved k) sc) at path (mapped move o))
      on k move sc at path None = refl
      on k move sc at path (Some x) = refl

structure_present : (k : ℕ) (sc : Scope) (at : At) (path : List (List ℕ)) (env : Env)
    → Both (Moves (put_env (moved k))) (present sc at path (found_at structures path env))
    (present (put_scope (moved k) sc) at path (found_at structures path (put_env (moved k) env)))
structure_present k sc at path env = present_moved k (put_env (moved k)) sc at path (found_at structures path env)
    (found_at structures path (put_env (moved k) env))
    (put_found (moved k) (put_env (moved k)) structures (put_has_structures (moved k)) path env)

type_present : (k : ℕ) (sc : Scope) (at : At) (path : List (List ℕ)) (env : Env)
    → Both (Moves (put_type (moved k))) (present sc at path (found_at types path env))
    (present (put_scope (moved k) sc) at path (found_at types path (put_env (moved k) env)))
type_present k sc at path env = present_moved k (put_type (moved k)) sc at path (found_at types path env)
    (found_at types path (put_env (moved k) env))
    (put_found (moved k) (put_type (moved k)) types (put_has_types (moved k)) path env)

value_present : (k : ℕ) (sc : Scope) (at : At) (path : List (List ℕ)) (env : Env)
    → Both (Moves (put_value (moved k))) (present sc at path (found_at values path env))
    (present (put_scope (moved k) sc) at path (found_at values path (put_env (moved k) env)))
value_present k sc at path env = present_moved k (put_value (moved k)) sc at path (found_at values path env)
    (found_at values path (put_env (moved k) env))
    (put_found (moved k) (put_value (moved k)) values (put_has_values (moved k)) path env)

-- ---- the first walk

abbrev pub RealisingMoves : ℕ → Rows → Rows → Type 0
RealisingMoves k = Moves (put_realising (moved k))

none_mapped : {A : Type 0} (f : A → A) (o : Option A) → is_none (mapped f o) ≡ is_none o
none_mapped f None = refl
none_mapped f (Some x) = refl

left_moved : (k : ℕ) (rows : Rows) (name : TyName)
    → is_none (of_rows (put_realising (moved k) rows) name) ≡ is_none (of_rows rows name)
left_moved k rows name = ap is_none (rows_alike k rows name)
    ∙ none_mapped (put_type_function (moved k)) (of_rows rows name)

flexible_moved : (k : ℕ) (bound : List TyName) (rows : Rows) (o : Option TyName)
    → if_flexible bound (put_realising (moved k) rows) o ≡ if_flexible bound rows o
flexible_moved k bound rows None = refl
flexible_moved k bound rows (Some name) =
    ap (λ z. cond (is_listed name bound && z) (Some name) None) (left_moved k rows name)

realising_moved : (k : ℕ) (sc : Scope) (at : At) (s r : State) (env : Env) (path : List (List ℕ)) (rows : Rows)
    (o : Option TyName) → IsMoved k s r
    → Both (RealisingMoves k) (realising sc at s env path rows o)
    (realising (put_scope (moved k) sc) at r (put_env (moved k) env) path (put_realising (moved k) rows) o)
realising_moved k sc at s r env path rows None h = refl
realising_moved k sc at s r env path rows (Some name) h =
    plain_then (put_type (moved k)) (RealisingMoves k) (present sc at path (found_at types path env))
    (present (put_scope (moved k) sc) at path (found_at types path (put_env (moved k) env))) _ _
    (type_present k sc at path env) (λ str.
    both_where k (RealisingMoves k) (not (eqb str.function.arity name.arity))
    (not (eqb str.function.arity name.arity)) 35 sc at _ _ refl
    (both_where k (RealisingMoves k) (name.eq && not (function_admits s.marks str.function))
    (name.eq && not (function_admits r.marks (put_type_function (moved k) str.function))) 33 sc at _ _
    (ap (λ z. name.eq && not z) (admits_moved k (λ i. true) s.marks r.marks str.function.body h.marks))
    (sym (map-append (λ (row : TyName × TypeFn). (row.0, put_type_function (moved k) row.1)) rows
    ((name, str.function) ∷ [])))))

realising_item_moved : (k : ℕ) (sc : Scope) (at : At) (s r : State) (env : Env) (bound : List TyName) (item : Item)
    (rows : Rows) → IsMoved k s r
    → Both (RealisingMoves k) (realising_item sc at s env bound item rows)
    (realising_item (put_scope (moved k) sc) at r (put_env (moved k) env) bound (put_item k item)
    (put_realising (moved k) rows))
realising_item_moved k sc at s r env bound (Item.StructureItem path) rows h =
    plain_then (put_env (moved k)) (RealisingMoves k) (present sc at path (found_at structures path env))
    (present (put_scope (moved k) sc) at path (found_at structures path (put_env (moved k) env))) _ _
    (structure_present k sc at path env) (λ e. refl)
realising_item_moved k sc at s r env bound (Item.TypeItem path str) rows h =
    let o : Option TyName = if_flexible bound rows (name_alone str.function) in
    subst (λ z. Both (RealisingMoves k) (realising sc at s env path rows o)
    (realising (put_scope (moved k) sc) at r (put_env (moved k) env) path (put_realising (moved k) rows) z))
    (sym (ap (if_flexible bound (put_realising (moved k) rows)) (alone_moved k str.function)
    ∙ flexible_moved k bound rows (name_alone str.function)))
    (realising_moved k sc at s r env path rows o h)
realising_item_moved k sc at s r env bound (Item.ValueItem path value) rows h = refl

realising_all_moved : (k : ℕ) (sc : Scope) (at : At) (s r : State) (env : Env) (bound : List TyName)
    (list : List Item) (rows : Rows) → IsMoved k s r
    → Both (RealisingMoves k) (realising_all sc at s env bound list rows)
    (realising_all (put_scope (moved k) sc) at r (put_env (moved k) env) bound (map (put_item k) list)
    (put_realising (moved k) rows))
realising_all_moved k sc at s r env bound [] rows h = refl
realising_all_moved k sc at s r env bound (item ∷ rest) rows h =
    plain_then (put_realising (moved k)) (RealisingMoves k) (realising_item sc at s env bound item rows)
    (realising_item (put_scope (moved k) sc) at r (put_env (moved k) env) bound (put_item k item)
    (put_realising (moved k) rows)) _ _ (realising_item_moved k sc at s r env bound item rows h)
    (λ more. realising_all_moved k sc at s r env bound rest more h)

any_left : (k : ℕ) (rows : Rows) (bound : List TyName)
    → list_any (is_left (put_realising (moved k) rows)) bound ≡ list_any (is_left rows) bound
any_left k rows [] = refl
any_left k rows (name ∷ names) = ap₂ (λ a b. a || b) (left_moved k rows name)
    (any_left k rows names)

realisation_moved : (k : ℕ) (sc : Scope) (at : At) (s r : State) (env : Env) (sig : Signature) → IsMoved k s r
    → Both (RealisingMoves k) (realisation_of sc at s env sig)
    (realisation_of (put_scope (moved k) sc) at r (put_env (moved k) env) (put_signature (moved k) sig))
realisation_moved k sc at s r env sig h =
    plain_then (put_realising (moved k)) (RealisingMoves k) (realising_all sc at s env sig.bound (items sig.env) [])
    (realising_all (put_scope (moved k) sc) at r (put_env (moved k) env) sig.bound (items (put_env (moved k) sig.env))
    []) _ _
    (subst (λ z. Both (RealisingMoves k) (realising_all sc at s env sig.bound (items sig.env) [])
    (realising_all (put_scope (moved k) sc) at r (put_env (moved k) env) sig.bound z []))
    (sym (env_walked k [] sig.env)) (realising_all_moved k sc at s r env sig.bound (items sig.env) [] h)) (λ rows.
    both_where k (RealisingMoves k) (list_any (is_left rows) sig.bound)
    (list_any (is_left (put_realising (moved k) rows)) sig.bound) 37 sc at _ _ (any_left k rows sig.bound) refl)

-- ---- the second walk

abbrev pub same_unit : Unit {0} → Unit {0}
same_unit u = u

list_alike : {A : Type 0} (f : A → A) (same : A → A → Bool) (xs ys : List A)
    → ((x y : A) → same (f x) (f y) ≡ same x y) → same_list same (map f xs) (map f ys) ≡ same_list same xs ys
list_alike f same [] [] h = refl
list_alike f same [] (y ∷ ys) h = refl
list_alike f same (x ∷ xs) [] h = refl
list_alike f same (x ∷ xs) (y ∷ ys) h = ap₂ (λ a b. a && b) (h x y) (list_alike f same xs ys h)

con_alike : (k : ℕ) (a b : ConEntry) → same_con (put_con (moved k) a) (put_con (moved k) b) ≡ same_con a b
con_alike k a b = ap (λ z. same_text a.name b.name && z)
    (ap₂ same_scheme (canonical_moved k a.scheme) (canonical_moved k b.scheme)
    ∙ ap (λ z. same_list same_bool (canonical_scheme a.scheme).marks (canonical_scheme b.scheme).marks && z)
    (same_moved k (canonical_scheme a.scheme).body (canonical_scheme b.scheme).body))

cons_alike : (k : ℕ) (want found : List ConEntry)
    → has_cons (map (put_con (moved k)) want) (map (put_con (moved k)) found) ≡ has_cons want found
cons_alike k [] found = refl
cons_alike k (con ∷ cons) found = list_alike (put_con (moved k)) same_con (con ∷ cons) found (con_alike k)

fits_type_moved : (k : ℕ) (want found : TypeStr)
    → fits_type (put_type (moved k) want) (put_type (moved k) found) ≡ fits_type want found
fits_type_moved k want found = ap₂ (λ a b. (eqb want.function.arity found.function.arity && a) && b)
    (same_moved k want.function.body found.function.body) (cons_alike k want.cons found.cons)

fits_value_moved : (k : ℕ) (s r : State) (want found : ValueEntry) → IsMoved k s r
    → fits_value r (put_value (moved k) want) (put_value (moved k) found) ≡ fits_value s want found
fits_value_moved k s r want found h =
    ap (λ z. z && has_status want.status found.status) (covers_moved k s r found.scheme want.scheme h)

misfits_moved : (k : ℕ) (c d : Bool) (sc : Scope) (at : At) (path : List (List ℕ)) → d ≡ c
    → Both (Moves same_unit) (misfits_where c sc at path) (misfits_where d (put_scope (moved k) sc) at path)
misfits_moved k true true sc at path e = refl
misfits_moved k false false sc at path e = refl
misfits_moved k true false sc at path e = absurd (cc)
misfits_moved k false true sc at path e = absurd (cc)

enriching_item_moved : (k : ℕ) (sc : Scope) (at : At) (s r : State) (env : Env) (item : Item) → IsMoved k s r
    → Both (Moves same_unit) (enriching_item sc at s env item)
    (enriching_item (put_scope (moved k) sc) at r (put_env (moved k) env) (put_item k item))
enriching_item_moved k sc at s r env (Item.StructureItem path) h =
    plain_then (put_env (moved k)) (Moves same_unit) (present sc at path (found_at structures path env))
    (present (put_scope (moved k) sc) at path (found_at structures path (put_env (moved k) env))) _ _
    (structure_present k sc at path env) (λ e. refl)
enriching_item_moved k sc at s r env (Item.TypeItem path str) h =
    plain_then (put_type (moved k)) (Moves same_unit) (present sc at path (found_at types path env))
    (present (put_scope (moved k) sc) at path (found_at types path (put_env (moved k) env))) _ _
    (type_present k sc at path env) (λ found.
    both_where k (Moves same_unit) (not (eqb str.function.arity found.function.arity))
    (not (eqb str.function.arity found.function.arity)) 35 sc at _ _ refl
    (misfits_moved k (not (fits_type str found))
    (not (fits_type (put_type (moved k) str) (put_type (moved k) found))) sc at path
    (ap not (fits_type_moved k str found))))
enriching_item_moved k sc at s r env (Item.ValueItem path value) h =
    plain_then (put_value (moved k)) (Moves same_unit) (present sc at path (found_at values path env))
    (present (put_scope (moved k) sc) at path (found_at values path (put_env (moved k) env))) _ _
    (value_present k sc at path env) (λ found.
    misfits_moved k (not (fits_value s value found))
    (not (fits_value r (put_value (moved k) value) (put_value (moved k) found))) sc at path
    (ap not (fits_value_moved k s r value found h)))

enriching_all_moved : (k : ℕ) (sc : Scope) (at : At) (s r : State) (env : Env) (list : List Item) → IsMoved k s r
    → Both (Moves same_unit) (enriching_all sc at s env list)
    (enriching_all (put_scope (moved k) sc) at r (put_env (moved k) env) (map (put_item k) list))
enriching_all_moved k sc at s r env [] h = refl
enriching_all_moved k sc at s r env (item ∷ rest) h =
    plain_then same_unit (Moves same_unit) (enriching_item sc at s env item)
    (enriching_item (put_scope (moved k) sc) at r (put_env (moved k) env) (put_item k item)) _ _
    (enriching_item_moved k sc at s r env item h) (λ u. enriching_all_moved k sc at s r env rest h)

-- ---- both

pub matching_moved : (k : ℕ) (sc : Scope) (at : At) (s r : State) (env : Env) (sig : Signature) → IsMoved k s r
    → Both (RealisingMoves k) (matching sc at s env sig)
    (matching (put_scope (moved k) sc) at r (put_env (moved k) env) (put_signature (moved k) sig))
matching_moved k sc at s r env sig h =
    plain_then (put_realising (moved k)) (RealisingMoves k) (realisation_of sc at s env sig)
    (realisation_of (put_scope (moved k) sc) at r (put_env (moved k) env) (put_signature (moved k) sig)) _ _
    (realisation_moved k sc at s r env sig h) (λ rows.
    plain_then same_unit (RealisingMoves k) (enriching_all sc at s env (items (realised (of_rows rows) sig.env)))
    (enriching_all (put_scope (moved k) sc) at r (put_env (moved k) env)
    (items (realised (of_rows (put_realising (moved k) rows)) (put_env (moved k) sig.env)))) _ _
    (subst (λ z. Both (Moves same_unit) (enriching_all sc at s env (items (realised (of_rows rows) sig.env)))
    (enriching_all (put_scope (moved k) sc) at r (put_env (moved k) env) z))
    (sym (ap items (realised_by_moved k rows sig.env) ∙ env_walked k [] (realised (of_rows rows) sig.env)))
    (enriching_all_moved k sc at s r env (items (realised (of_rows rows) sig.env)) h)) (λ u. refl))

pub matched_moved : (k : ℕ) (sc : Scope) (at : At) (s r : State) (env : Env) (sig : Signature) → IsMoved k s r
    → Both (Moves (put_env (moved k))) (matched sc at s env sig)
    (matched (put_scope (moved k) sc) at r (put_env (moved k) env) (put_signature (moved k) sig))
matched_moved k sc at s r env sig h =
    plain_then (put_realising (moved k)) (Moves (put_env (moved k))) (matching sc at s env sig)
    (matching (put_scope (moved k) sc) at r (put_env (moved k) env) (put_signature (moved k) sig)) _ _
    (matching_moved k sc at s r env sig h) (λ rows. realised_by_moved k rows sig.env)
