-- Tables and environments with types put in: looking up and adding go with it.
use Rattle.std.proofs.Common.{◌≡◌, ℕ, List, [], ◌∷◌, ◌++◌, map, drop, refl, sym, ap, ap₂, ◌∙◌, Option, Some, None, Bool, true, false, cond, zero, suc}
use Rattle.std.proofs.lemmas.List.{map-append}
use Rattle.std.specs.Option.{is_some}
use Rattle.std.specs.FinMap.Entries.{by_order}
use Rattle.std.specs.Ordering.{eq_by_cmp}
use Rattle.std.specs.declared.cmp.Ordering.{Ordering}
use Rattle.std.specs.declared.cmp.Ordering.TheVariants as ordering
use Rattle.semantic_objects.specs.declared.entry.ConEntry.{ConEntry}
use Rattle.semantic_objects.specs.declared.entry.TypeStr.{TypeStr}
use Rattle.semantic_objects.specs.declared.entry.ValueEntry.{ValueEntry}
use Rattle.semantic_objects.specs.declared.entry.VidStatus.TheVariants as status
use Rattle.semantic_objects.specs.Symbols.{same_text}
use Rattle.semantic_objects.specs.Tables.{Table, by_bytes, names_of, entry, with_entry, with_all}
use Rattle.semantic_objects.specs.Environments.{Env, Structures, table_of, structures_of, structures, types, values, with_type, with_value, modified_by}
use Rattle.unification.specs.Types.{Substitution}
use Rattle.unification.specs.Closing.{put_tree}
use Rattle.static_semantics.specs.Inferring.{found_at, found_in_structure, named, is_named, stands_for_con, con_bodies, type_bodies, value_bodies, bodies, structure_bodies}
use Rattle.static_semantics.specs.DatatypeInference.{with_cons, with_datatype}
use Rattle.static_semantics.specs.EnvironmentsPut.{put_con, put_type, put_value, each_entry, put_env, put_structures}
use Rattle.renaming_laws.proofs.Answers.{mapped}

-- ---- lists

pub map_drop : {A B : Type 0} (f : A → B) (n : ℕ) (xs : List A) → drop n (map f xs) ≡ map f (drop n xs)
map_drop f zero xs = refl
map_drop f (suc n) [] = refl
map_drop f (suc n) (x ∷ xs) = map_drop f n xs

-- ---- tables

module _ {A : Type 0} (f : A → A) where
  each_order : (o : Ordering) (a b c : Table A)
      → by_order o (each_entry f a) (each_entry f b) (each_entry f c) ≡ each_entry f (by_order o a b c)
  each_order ordering.Less a b c = refl
  each_order ordering.Equal a b c = refl
  each_order ordering.Greater a b c = refl

  pub each_with : (name : List ℕ) (x : A) (rows : Table A)
      → with_entry name (f x) (each_entry f rows) ≡ each_entry f (with_entry name x rows)
  each_with name x [] = refl
  each_with name x (row ∷ rows) =
      ap (λ z. by_order (by_bytes name row.0) ((name, f x) ∷ (row.0, f row.1) ∷ each_entry f rows)
      ((row.0, f x) ∷ each_entry f rows) ((row.0, f row.1) ∷ z)) (each_with name x rows)
      ∙ each_order (by_bytes name row.0) ((name, x) ∷ row ∷ rows) ((row.0, x) ∷ rows) (row ∷ with_entry name x rows)

  pub each_with_all : (xs table : Table A)
      → with_all (each_entry f xs) (each_entry f table) ≡ each_entry f (with_all xs table)
  each_with_all [] table = refl
  each_with_all (x ∷ xs) table = ap (with_all (each_entry f xs)) (each_with x.0 x.1 table)
      ∙ each_with_all xs (with_entry x.0 x.1 table)

  pub or_mapped : (c : Bool) (x : A) (o : Option A) → cond c (Some (f x)) (mapped f o) ≡ mapped f (cond c (Some x) o)
  or_mapped true x o = refl
  or_mapped false x o = refl

  pub each_found : (name : List ℕ) (rows : Table A) → entry name (each_entry f rows) ≡ mapped f (entry name rows)
  each_found name [] = refl
  each_found name (row ∷ rows) =
      ap (cond (eq_by_cmp by_bytes name row.0) (Some (f row.1))) (each_found name rows)
      ∙ or_mapped (eq_by_cmp by_bytes name row.0) row.1 (entry name rows)

  pub each_named : (name : List ℕ) (rows : Table A) → named name (each_entry f rows) ≡ mapped f (named name rows)
  each_named name [] = refl
  each_named name (row ∷ rows) = ap (cond (same_text name row.0) (Some (f row.1))) (each_named name rows)
      ∙ or_mapped (same_text name row.0) row.1 (named name rows)

  mapped_some : (o : Option A) → is_some (mapped f o) ≡ is_some o
  mapped_some None = refl
  mapped_some (Some x) = refl

  pub each_has : (name : List ℕ) (rows : Table A) → is_some (entry name (each_entry f rows)) ≡ is_some (entry name rows)
  each_has name rows = ap is_some (each_found name rows) ∙ mapped_some (entry name rows)

  pub each_is_named : (name : List ℕ) (rows : Table A) → is_named name (each_entry f rows) ≡ is_named name rows
  each_is_named name rows = ap is_some (each_named name rows) ∙ mapped_some (named name rows)

  pub each_names : (rows : Table A) → names_of (each_entry f rows) ≡ names_of rows
  each_names [] = refl
  each_names (row ∷ rows) = ap (λ z. row.0 ∷ z) (each_names rows)

-- ---- environments

module _ (s : Substitution) where
  put_table : (ss : Structures) → table_of (put_structures s ss) ≡ each_entry (put_env s) (table_of ss)
  put_table Structures.Nil = refl
  put_table (Structures.Cons name env rest) = ap (λ z. (name, put_env s env) ∷ z) (put_table rest)

  pub put_parts : (xs : Table Env) → structures_of (each_entry (put_env s) xs) ≡ put_structures s (structures_of xs)
  put_parts [] = refl
  put_parts (x ∷ xs) = ap (Structures.Cons x.0 (put_env s x.1)) (put_parts xs)

  pub put_has_structures : (e : Env) → structures (put_env s e) ≡ each_entry (put_env s) (structures e)
  put_has_structures (Env.MakeEnv ss ts vs) = put_table ss

  pub put_has_types : (e : Env) → types (put_env s e) ≡ each_entry (put_type s) (types e)
  put_has_types (Env.MakeEnv ss ts vs) = refl

  pub put_has_values : (e : Env) → values (put_env s e) ≡ each_entry (put_value s) (values e)
  put_has_values (Env.MakeEnv ss ts vs) = refl

  made_of : (a : Table Env) (b : Table TypeStr) (c : Table ValueEntry) (x : Table Env) (y : Table TypeStr)
      (z : Table ValueEntry) → a ≡ each_entry (put_env s) x → b ≡ each_entry (put_type s) y
      → c ≡ each_entry (put_value s) z
      → Env.MakeEnv (structures_of a) b c ≡ put_env s (Env.MakeEnv (structures_of x) y z)
  made_of a b c x y z e f g = ap (λ v. Env.MakeEnv (structures_of v) b c) e
      ∙ ap₂ (Env.MakeEnv (structures_of (each_entry (put_env s) x))) f g
      ∙ ap (λ v. Env.MakeEnv v (each_entry (put_type s) y) (each_entry (put_value s) z)) (put_parts x)

  pub put_with_value : (name : List ℕ) (x : ValueEntry) (e : Env)
      → with_value name (put_value s x) (put_env s e) ≡ put_env s (with_value name x e)
  put_with_value name x e = made_of (structures (put_env s e)) (types (put_env s e))
      (with_entry name (put_value s x) (values (put_env s e))) (structures e) (types e) (with_entry name x (values e))
      (put_has_structures e) (put_has_types e)
      (ap (with_entry name (put_value s x)) (put_has_values e) ∙ each_with (put_value s) name x (values e))

  pub put_with_type : (name : List ℕ) (x : TypeStr) (e : Env)
      → with_type name (put_type s x) (put_env s e) ≡ put_env s (with_type name x e)
  put_with_type name x e = made_of (structures (put_env s e)) (with_entry name (put_type s x) (types (put_env s e)))
      (values (put_env s e)) (structures e) (with_entry name x (types e)) (values e)
      (put_has_structures e) (ap (with_entry name (put_type s x)) (put_has_types e)
      ∙ each_with (put_type s) name x (types e)) (put_has_values e)

  all_of : {A : Type 0} (f : A → A) (a b x y : Table A) → a ≡ each_entry f x → b ≡ each_entry f y
      → with_all a b ≡ each_entry f (with_all x y)
  all_of f a b x y e g = ap₂ with_all e g ∙ each_with_all f x y

  pub put_modified : (e d : Env) → modified_by (put_env s e) (put_env s d) ≡ put_env s (modified_by e d)
  put_modified e d = made_of (with_all (structures (put_env s d)) (structures (put_env s e)))
      (with_all (types (put_env s d)) (types (put_env s e))) (with_all (values (put_env s d)) (values (put_env s e)))
      (with_all (structures d) (structures e)) (with_all (types d) (types e)) (with_all (values d) (values e))
      (all_of (put_env s) (structures (put_env s d)) (structures (put_env s e)) (structures d) (structures e)
      (put_has_structures d) (put_has_structures e))
      (all_of (put_type s) (types (put_env s d)) (types (put_env s e)) (types d) (types e) (put_has_types d)
      (put_has_types e))
      (all_of (put_value s) (values (put_env s d)) (values (put_env s e)) (values d) (values e) (put_has_values d)
      (put_has_values e))

  in_structure : {A : Type 0} (f : A → A) (o : Option Env) (find : Env → Option A)
      → ((e : Env) → find (put_env s e) ≡ mapped f (find e))
      → found_in_structure (mapped (put_env s) o) find ≡ mapped f (found_in_structure o find)
  in_structure f None find h = refl
  in_structure f (Some e) find h = h e

  pub put_found : {A : Type 0} (f : A → A) (table : Env → Table A)
      → ((e : Env) → table (put_env s e) ≡ each_entry f (table e)) → (parts : List (List ℕ)) (e : Env)
      → found_at table parts (put_env s e) ≡ mapped f (found_at table parts e)
  put_found f table h [] e = refl
  put_found f table h (name ∷ []) e = ap (entry name) (h e) ∙ each_found f name (table e)
  put_found f table h (name ∷ next ∷ rest) e =
      ap (λ z. found_in_structure z (found_at table (next ∷ rest))) (ap (entry name) (put_has_structures e)
      ∙ each_found (put_env s) name (structures e))
      ∙ in_structure f (entry name (structures e)) (found_at table (next ∷ rest))
      (λ d. put_found f table h (next ∷ rest) d)

  con_mapped : (o : Option ValueEntry) → stands_for_con (mapped (put_value s) o) ≡ stands_for_con o
  con_mapped None = refl
  con_mapped (Some v) = refl

  pub put_con_found : (parts : List (List ℕ)) (e : Env)
      → stands_for_con (found_at values parts (put_env s e)) ≡ stands_for_con (found_at values parts e)
  put_con_found parts e = ap stands_for_con (put_found (put_value s) values put_has_values parts e)
      ∙ con_mapped (found_at values parts e)

  pub put_con_named : (name : List ℕ) (e : Env)
      → stands_for_con (entry name (values (put_env s e))) ≡ stands_for_con (entry name (values e))
  put_con_named name e = put_con_found (name ∷ []) e

  -- ---- types with their constructors

  pub put_cons : (cons : List ConEntry) (e : Env)
      → with_cons (map (put_con s) cons) (put_env s e) ≡ put_env s (with_cons cons e)
  put_cons [] e = refl
  put_cons (con ∷ cons) e =
      let value : ValueEntry = record { status = status.Constructor; scheme = con.scheme } in
      ap (with_cons (map (put_con s) cons)) (put_with_value con.name value e)
      ∙ put_cons cons (with_value con.name value e)

  pub put_datatype : (name : List ℕ) (str : TypeStr) (e : Env)
      → with_datatype name (put_type s str) (put_env s e) ≡ put_env s (with_datatype name str e)
  put_datatype name str e = ap (with_cons (map (put_con s) str.cons)) (put_with_type name str e)
      ∙ put_cons str.cons (with_type name str e)

  -- ---- all types

  pub put_con_bodies : (cons : List ConEntry) → con_bodies (map (put_con s) cons) ≡ map (put_tree s) (con_bodies cons)
  put_con_bodies [] = refl
  put_con_bodies (con ∷ cons) = ap (λ z. put_tree s con.scheme.body ∷ z) (put_con_bodies cons)

  put_type_bodies : (ts : Table TypeStr)
      → type_bodies (each_entry (put_type s) ts) ≡ map (put_tree s) (type_bodies ts)
  put_type_bodies [] = refl
  put_type_bodies (t ∷ ts) = ap (λ z. put_tree s t.1.function.body ∷ z)
      (ap₂ (λ a b. a ++ b) (put_con_bodies t.1.cons) (put_type_bodies ts)
      ∙ sym (map-append (put_tree s) (con_bodies t.1.cons) (type_bodies ts)))

  put_value_bodies : (vs : Table ValueEntry)
      → value_bodies (each_entry (put_value s) vs) ≡ map (put_tree s) (value_bodies vs)
  put_value_bodies [] = refl
  put_value_bodies (v ∷ vs) = ap (λ z. put_tree s v.1.scheme.body ∷ z) (put_value_bodies vs)

  mutual
    pub put_bodies : (e : Env) → bodies (put_env s e) ≡ map (put_tree s) (bodies e)
    put_bodies (Env.MakeEnv ss ts vs) =
        ap₂ (λ a b. a ++ b) (put_structure_bodies ss)
        (ap₂ (λ a b. a ++ b) (put_type_bodies ts) (put_value_bodies vs)
        ∙ sym (map-append (put_tree s) (type_bodies ts) (value_bodies vs)))
        ∙ sym (map-append (put_tree s) (structure_bodies ss) (type_bodies ts ++ value_bodies vs))

    put_structure_bodies : (ss : Structures) → structure_bodies (put_structures s ss) ≡ map (put_tree s) (structure_bodies ss)
    put_structure_bodies Structures.Nil = refl
    put_structure_bodies (Structures.Cons name env rest) =
        ap₂ (λ a b. a ++ b) (put_bodies env) (put_structure_bodies rest)
        ∙ sym (map-append (put_tree s) (bodies env) (structure_bodies rest))
