-- The scope with the new types of a declaration, which all admit equality, and the one in which they do by a choice.
use Rattle.std.proofs.Common.{◌≡◌, ◌≢◌, ℕ, zero, suc, ◌+◌, ◌-◌, ◌<◌, ◌≤◌, List, [], ◌∷◌, map, length, get_or, drop, refl, sym, ap, ap₂, ◌∙◌, subst, arith, Option, Some, None, Bool, true, false, not, ◌||◌, ◌&&◌, cond, eqb}
use Rattle.std.specs.Prelude.{ltb}
use Rattle.std.proofs.lemmas.Bool.{eq-eqb, le-ltb, lt-ltb}
use Rattle.std.specs.Option.{option_map, is_some}
use Rattle.sml_trees.specs.declared.name.Name.{Name}
use Rattle.semantic_objects.specs.declared.name.TyName.{TyName}
use Rattle.semantic_objects.specs.declared.symbol.Symbol.{Symbol}
use Rattle.semantic_objects.specs.declared.symbol.Symbol.TheVariants as symbol
use Rattle.semantic_objects.specs.declared.entry.TypeFn.{TypeFn}
use Rattle.semantic_objects.specs.declared.entry.TypeStr.{TypeStr}
use Rattle.semantic_objects.specs.Symbols.{same_text}
use Rattle.semantic_objects.specs.Tables.{Table, entry, with_entry, with_all}
use Rattle.semantic_objects.specs.Trees.{Tree, Trees}
use Rattle.semantic_objects.specs.Environments.{Env, structures, types, empty_env, with_type, modified_by}
use Rattle.semantic_objects.proofs.Promised.{sets_entries, keeps_structures}
use Rattle.semantic_objects.proofs.Same.{text_is}
use Rattle.unification.specs.Types.{Ty, Substitution}
use Rattle.unification.specs.Closing.{is_among, place_of, closed_over_all}
use Rattle.unification.proofs.Walking.{and_both}
use Rattle.bare_phrases.specs.Phrases.{DatPhrase}
use Rattle.static_semantics.specs.BasicTypes.{types_of}
use Rattle.static_semantics.specs.Inferring.{Scope, Answer, ◌>>=◌, under, with_written_alone, refuses_where, name_at, found_at, found_in_structure, named, is_named}
use Rattle.static_semantics.specs.TypeInference.{as_written}
use Rattle.static_semantics.specs.DatatypeInference.{own_name, own_type, counted, new_types, same_as_home, settled_name, settled_symbol, settled}
use Rattle.static_semantics.specs.EnvironmentsPut.{each_entry, put_type, put_env, put_scope}
use Rattle.static_semantics.specs.RuleConditions.{are_distinct, type_names, types_by}
use Rattle.static_semantics.specs.Holding.{Given, IfSome, AllItems, AllRows, TypeHas}
use Rattle.static_semantics.proofs.Holding.{has_found, has_types}
use Rattle.static_semantics.proofs.TypesGrow.{given_more}
use Rattle.inference_laws.specs.Nodes.{TreeOf, TreesOf, count_trees, below_number}
use Rattle.inference_laws.specs.Alike.{FirmType, FirmValue, AnyName, FirmEnv}
use Rattle.inference_laws.specs.Naming.{RowsWith}
use Rattle.inference_laws.proofs.EnvsWith.{env_types, env_found}
use Rattle.inference_laws.proofs.PutAlike.{firm_type}
use Rattle.phrase_laws.proofs.Finding.{with_entry_put, with_all_put, entry_put, types_put, type_found_put}
use Rattle.datatype_laws.specs.Below.{AnyScheme, FunctionBelow, TypesBelow}
use Rattle.datatype_laws.proofs.Settling.{settled_tree, settled_trees, settled_str, ShowsSettled}

-- ---- names that stand for themselves

old_name : (same low high : Bool) (x y : TyName) → (not same || low) ≡ true → cond (same && (not low && high)) x y ≡ y
old_name true true high x y h = refl
old_name true false high x y h = absurd (cc)
old_name false low high x y h = refl

new_name : (same low high : Bool) (x y : TyName) → same ≡ true → low ≡ false → high ≡ true
    → cond (same && (not low && high)) x y ≡ x
new_name true false true x y h k l = refl
new_name true false false x y h k l = absurd (cc)
new_name true true high x y h k l = absurd (cc)
new_name false low high x y h k l = absurd (cc)

same_itself : (text : List ℕ) → same_text text text ≡ true
same_itself [] = refl
same_itself (c ∷ text) = and_both (eqb c c) (same_text text text) (eq-eqb c c refl) (same_itself text)

-- ---- names that are numbered

drop_first : (k : ℕ) (choice rest : List Bool) (eq : Bool) → drop k choice ≡ eq ∷ rest
    → (get_or choice k false ≡ eq) × (drop (suc k) choice ≡ rest)
drop_first zero [] rest eq h = absurd (cc)
drop_first zero (b ∷ choice) rest eq h = (cc, cc)
drop_first (suc k) [] rest eq h = absurd (cc)
drop_first (suc k) (b ∷ choice) rest eq h = drop_first k choice rest eq h

-- the new types, all of which admit equality
abbrev pub first_types : List ℕ → List DatPhrase → ℕ → Env → Env
first_types home [] number made = made
first_types home (bind ∷ binds) number made = first_types home binds (suc number)
    (with_type bind.name.text (own_type (own_name home number (length bind.tyvars) true)) made)

module _ (home : List ℕ) (first : ℕ) (choice : List Bool) where
  old_symbol : (c : Symbol) (k : ℕ) → below_number home first c k ≡ true → settled_symbol home first choice c ≡ c
  old_symbol symbol.Arrow k h = refl
  old_symbol (symbol.Record labels) k h = refl
  old_symbol (symbol.Name name) k h = ap symbol.Name
      (old_name (same_as_home home name.owner) (ltb name.number first) (ltb name.number (first + length choice)) _ name
      h)

  mutual
    old_tree : (t : Tree) → TreeOf (below_number home first) t → settled_tree home first choice t ≡ t
    old_tree (Tree.Bound i) h = refl
    old_tree (Tree.Free n) h = refl
    old_tree (Tree.Made c ts) h = ap₂ Tree.Made (old_symbol c (count_trees ts) h.0) (old_trees ts h.1)

    old_trees : (ts : Trees) → TreesOf (below_number home first) ts → settled_trees home first choice ts ≡ ts
    old_trees Trees.Nil h = refl
    old_trees (Trees.Cons t ts) h = ap₂ Trees.Cons (old_tree t h.0) (old_trees ts h.1)

  -- a type structure with a function of old names, and without variables of the table
  record Stays (str : TypeStr) : Type 0 where
    settles : settled_str home first choice str ≡ str
    puts : (s : Substitution) → put_type s str ≡ str

  str_settles : (str : TypeStr) → TreeOf (below_number home first) str.function.body
      → settled_str home first choice str ≡ str
  str_settles str h = ap (λ body. (let made : TypeStr = record {
    function = record { arity = str.function.arity; body = body };
    cons = str.cons;
  } in made)) (old_tree str.function.body h)

  abbrev F : TypeFn → Type 0
  F = FunctionBelow home first

  stays : (str : TypeStr) → F str.function → FirmType str → Stays str
  stays str h k = record { settles = str_settles str h; puts = λ s. firm_type s str k }

  both_stay : (o : Option TypeStr) → IfSome (λ (str : TypeStr). F str.function) o → IfSome FirmType o
      → (s : Substitution) → option_map (put_type s) o ≡ option_map (settled_str home first choice) o
  both_stay None h k s = refl
  both_stay (Some str) h k s =
      ap Some ((stays str h k).puts s ∙ sym (stays str h k).settles)

  -- ---- the new types

  variables_settled : (vs ws : List ℕ)
      → settled_trees home first choice (closed_over_all vs (types_of (map Ty.Var ws)))
      ≡ closed_over_all vs (types_of (map Ty.Var ws))
  variables_settled vs [] = refl
  variables_settled vs (w ∷ ws) = ap₂ Trees.Cons (leaf (is_among w vs)) (variables_settled vs ws)
    where
      leaf : (c : Bool) → settled_tree home first choice (cond c (Tree.Bound (place_of w vs)) (Tree.Free w))
          ≡ cond c (Tree.Bound (place_of w vs)) (Tree.Free w)
      leaf true = refl
      leaf false = refl

  name_settled : (number arity : ℕ) (eq : Bool) → first ≤ number → number < first + length choice
      → get_or choice (number - first) false ≡ eq
      → settled_name home first choice (own_name home number arity true) ≡ own_name home number arity eq
  name_settled number arity eq h k e = new_name (same_text home home) (ltb number first)
      (ltb number (first + length choice)) _ _ (same_itself home) (le-ltb number first h)
      (lt-ltb number (first + length choice) k)
      ∙ ap (own_name home number arity) e

  type_settled : (number arity : ℕ) (eq : Bool) → first ≤ number → number < first + length choice
      → get_or choice (number - first) false ≡ eq
      → settled_str home first choice (own_type (own_name home number arity true))
      ≡ own_type (own_name home number arity eq)
  type_settled number arity eq h k e = ap₂ (λ name args. (let made : TypeStr = record {
    function = record { arity = length (counted arity 0); body = Tree.Made (symbol.Name name) args };
    cons = [];
  } in made)) (name_settled number arity eq h k e) (variables_settled (counted arity 0) (counted arity 0))

  abbrev E : Table TypeStr → Table TypeStr
  E = each_entry (settled_str home first choice)

  new_settled : (binds : List DatPhrase) (suffix : List Bool) (number : ℕ) (made other : Env) → first ≤ number
      → number + length binds ≤ first + length choice → length suffix ≡ length binds
      → drop (number - first) choice ≡ suffix → types other ≡ E (types made)
      → types (types_by home suffix binds number other) ≡ E (types (first_types home binds number made))
  new_settled [] suffix number made other h k l d e = e
  new_settled (bind ∷ binds) [] number made other h k l d e = absurd (omega (arith, (let z : 0 ≡ suc (length binds) = l in z)))
  new_settled (bind ∷ binds) (eq ∷ suffix) number made other h k l d e =
      let arity : ℕ = length bind.tyvars in
      let at : (get_or choice (number - first) false ≡ eq) × (drop (suc (number - first)) choice ≡ suffix) =
      drop_first (number - first) choice suffix eq d in
      let next : suc (number - first) ≡ suc number - first = omega (arith, h) in
      let below : number < first + length choice =
      (let z : number + suc (length binds) ≤ first + length choice = k in omega (arith, z)) in
      new_settled binds suffix (suc number)
      (with_type bind.name.text (own_type (own_name home number arity true)) made)
      (with_type bind.name.text (own_type (own_name home number arity eq)) other) (omega (arith, h))
      (let z : number + suc (length binds) ≤ first + length choice = k in omega (arith, z))
      (let z : suc (length suffix) ≡ suc (length binds) = l in omega (arith, z))
      (subst (λ z. drop z choice ≡ suffix) next at.1)
      (ap₂ (with_entry bind.name.text) (sym (type_settled number arity eq h below at.0)) e
      ∙ with_entry_settled bind.name.text (own_type (own_name home number arity true)) (types made))
    where
      with_entry_settled : (name : List ℕ) (x : TypeStr) (rows : Table TypeStr)
          → with_entry name (settled_str home first choice x) (E rows) ≡ E (with_entry name x rows)
      with_entry_settled = with_entry_put (settled_str home first choice)

  -- ---- the scopes with them

  no_structures : (binds : List DatPhrase) (number : ℕ) (made : Env) → structures made ≡ []
      → structures (first_types home binds number made) ≡ []
  no_structures [] number made h = h
  no_structures (bind ∷ binds) number made h = no_structures binds (suc number)
      (with_type bind.name.text (own_type (own_name home number (length bind.tyvars) true)) made)
      (keeps_structures.table (structures made) ∙ h)

  no_structures_by : (binds : List DatPhrase) (suffix : List Bool) (number : ℕ) (made : Env) → structures made ≡ []
      → structures (types_by home suffix binds number made) ≡ []
  no_structures_by [] suffix number made h = h
  no_structures_by (bind ∷ binds) [] number made h = no_structures_by binds [] (suc number)
      (with_type bind.name.text (own_type (own_name home number (length bind.tyvars) false)) made)
      (keeps_structures.table (structures made) ∙ h)
  no_structures_by (bind ∷ binds) (eq ∷ suffix) number made h = no_structures_by binds suffix (suc number)
      (with_type bind.name.text (own_type (own_name home number (length bind.tyvars) eq)) made)
      (keeps_structures.table (structures made) ∙ h)

  structures_stay : (env by : Env) → structures by ≡ [] → structures (modified_by env by) ≡ structures env
  structures_stay env by h = keeps_structures.table (with_all (structures by) (structures env))
      ∙ ap (λ rows. with_all rows (structures env)) h

  same_inside : (n m : List ℕ) (rest : List (List ℕ)) (a b : Env) → structures a ≡ structures b
      → found_at types (n ∷ m ∷ rest) a ≡ found_at types (n ∷ m ∷ rest) b
  same_inside n m rest a b h = ap (λ ss. found_in_structure (entry n ss) (found_at types (m ∷ rest))) h

  -- a scope, and the same with what was put in, each with the new types
  module _ (sc : Scope) (binds : List DatPhrase) (s : Substitution) (firm : FirmEnv sc.env)
      (old : TypesBelow home first sc.env) (counts : length choice ≡ length binds) where
    abbrev pub one : Env
    one = first_types home binds first empty_env

    abbrev pub other : Env
    other = types_by home choice binds first empty_env

    old_found : (parts : List (List ℕ)) → IfSome (λ (str : TypeStr). F str.function) (found_at types parts sc.env)
    old_found parts = first_of (found_at types parts sc.env)
        (has_found AnyScheme F
        (TypeHas AnyScheme F) types
        (has_types AnyScheme F) parts sc.env old)
      where
        first_of : (o : Option TypeStr)
            → IfSome (TypeHas AnyScheme F) o
            → IfSome (λ (str : TypeStr). F str.function) o
        first_of None h = tt
        first_of (Some str) h = h.0

    firm_found : (parts : List (List ℕ)) → IfSome FirmType (found_at types parts sc.env)
    firm_found parts = env_found AnyName FirmType FirmValue FirmType types (env_types AnyName FirmType FirmValue) parts
        sc.env firm

    found_stays : (parts : List (List ℕ)) → found_at types parts (put_env s sc.env)
        ≡ option_map (settled_str home first choice) (found_at types parts sc.env)
    found_stays parts = type_found_put s parts sc.env
        ∙ both_stay (found_at types parts sc.env) (old_found parts) (firm_found parts) s

    -- the table of types as a whole
    rows_stay : (rows : Table TypeStr)
        → AllRows (TypeHas AnyScheme F) rows
        → RowsWith AnyName FirmType rows → each_entry (put_type s) rows ≡ E rows
    rows_stay [] h k = refl
    rows_stay (row ∷ rows) h k = ap₂ (λ str more. (row.0, str) ∷ more)
        ((stays row.1 h.0.0 k.1).puts s ∙ sym (stays row.1 h.0.0 k.1).settles) (rows_stay rows h.1 k.2)

    types_settle : types (modified_by (put_env s sc.env) other) ≡ E (types (modified_by sc.env one))
    types_settle = ap₂ with_all
        (new_settled binds choice first empty_env empty_env (omega arith)
        (let z : length choice ≡ length binds = counts in omega (arith, z)) counts
        (ap (λ k. drop k choice) (let z : first - first ≡ 0 = omega arith in z)) refl)
        (types_put s sc.env ∙ rows_stay (types sc.env) (has_types AnyScheme F sc.env old)
        (env_types AnyName FirmType FirmValue sc.env firm))
        ∙ with_all_put (settled_str home first choice) (types one) (types sc.env)

    found_settles : (parts : List (List ℕ)) → found_at types parts (modified_by (put_env s sc.env) other)
        ≡ option_map (settled_str home first choice) (found_at types parts (modified_by sc.env one))
    found_settles [] = refl
    found_settles (n ∷ []) = ap (entry n) types_settle
        ∙ entry_put (settled_str home first choice) n (types (modified_by sc.env one))
    found_settles (n ∷ m ∷ rest) =
        same_inside n m rest (modified_by (put_env s sc.env) other) (put_env s sc.env)
        (structures_stay (put_env s sc.env) other (no_structures_by binds choice first empty_env refl))
        ∙ found_stays (n ∷ m ∷ rest)
        ∙ ap (option_map (settled_str home first choice))
        (sym (same_inside n m rest (modified_by sc.env one) sc.env
        (structures_stay sc.env one (no_structures binds first empty_env refl))))

    written_settles : (own : List (List ℕ × ℕ)) (name : List ℕ)
        → named name (as_written own) ≡ option_map (settled home first choice) (named name (as_written own))
    written_settles [] name = refl
    written_settles (row ∷ own) name = by_test (same_text name row.0) (written_settles own name)
      where
        by_test : (c : Bool) → named name (as_written own)
            ≡ option_map (settled home first choice) (named name (as_written own))
            → cond c (Some (Ty.Var row.1)) (named name (as_written own))
            ≡ option_map (settled home first choice) (cond c (Some (Ty.Var row.1)) (named name (as_written own)))
        by_test true h = refl
        by_test false h = h

    -- constructors see the list of their type alone
    pub list_settles : (own : List (List ℕ × ℕ)) → ShowsSettled home first choice
        (with_written_alone (as_written own) (under one sc))
        (with_written_alone (as_written own) (under other (put_scope s sc)))
    list_settles own = record { types = found_settles; written = λ name. written_settles own name }

-- ---- the new types, as inference has them

-- they are these, where inference gives them, and their names differ
pub record NewOf (home : List ℕ) (binds : List DatPhrase) (number : ℕ) (made new : Env) : Type 0 where
  pub is : new ≡ first_types home binds number made
  pub absent : AllItems (λ (bind : DatPhrase). entry bind.name.text (types made) ≡ None) binds
  pub distinct : are_distinct (type_names binds) ≡ true

not_there : {A : Type 0} (o : Option A) → is_some o ≡ false → o ≡ None
not_there None h = refl
not_there (Some x) h = absurd (cc)

-- a name that isn't in a table with one more entry
apart : (name m : List ℕ) (x : TypeStr) (table : Table TypeStr) → entry m (with_entry name x table) ≡ None
    → (name ≢ m) × (entry m table ≡ None)
apart name m x table h =
    let differs : name ≢ m = λ e.
    let k : entry m (with_entry name x table) ≡ Some x =
    subst (λ z. entry z (with_entry name x table) ≡ Some x) e ((sets_entries TypeStr).here name x table) in
    (let l : None ≡ Some x = sym h ∙ k in absurd (cc)) in
    (differs, sym ((sets_entries TypeStr).others name m x table differs) ∙ h)

false_of : (b : Bool) → (b ≡ true → ⊥) → b ≡ false
false_of true h = absurd (h refl)
false_of false h = refl

one_absent : (name : List ℕ) (binds : List DatPhrase) (x : TypeStr) (table : Table TypeStr)
    → AllItems (λ (bind : DatPhrase). entry bind.name.text (with_entry name x table) ≡ None) binds
    → (is_named name (type_names binds) ≡ false)
    × AllItems (λ (bind : DatPhrase). entry bind.name.text table ≡ None) binds
one_absent name [] x table h = (refl, tt)
one_absent name (bind ∷ binds) x table h =
    let this : (name ≢ bind.name.text) × (entry bind.name.text table ≡ None) = apart name bind.name.text x table h.0 in
    let rest : (is_named name (type_names binds) ≡ false)
    × AllItems (λ (b : DatPhrase). entry b.name.text table ≡ None) binds = one_absent name binds x table h.1 in
    let no : same_text name bind.name.text ≡ false =
    false_of (same_text name bind.name.text) (λ e. this.0 (text_is name bind.name.text e)) in
    (ap (λ c. is_some (cond c (Some bind.tyvars) (named name (type_names binds)))) no ∙ rest.0, (this.1, rest.1))

passed : {A B : Type 0} (Q : B → Type 0) (o : Option A) (sc : Scope) (name : Name) (next : Unit {0} → Answer B)
    → (o ≡ None → Given Q (next tt)) → Given Q (refuses_where (is_some o) 40 sc (name_at name) >>= next)
passed Q None sc name next h = h refl
passed Q (Some x) sc name next h = tt

pub new_of : (sc : Scope) (binds : List DatPhrase) (number : ℕ) (made : Env)
    → Given (NewOf sc.home binds number made) (new_types sc binds number made)
new_of sc [] number made = record { is = refl; absent = tt; distinct = refl }
new_of sc (bind ∷ binds) number made =
    let str : TypeStr = own_type (own_name sc.home number (length bind.tyvars) true) in
    let after : Env = with_type bind.name.text str made in
    let Q : Env → Type 0 = NewOf sc.home (bind ∷ binds) number made in
    passed Q (entry bind.name.text (types made)) sc bind.name _ (λ e.
    given_more (NewOf sc.home binds (suc number) after) Q (new_types sc binds (suc number) after) (λ new h.
    let rest : (is_named bind.name.text (type_names binds) ≡ false)
    × AllItems (λ (b : DatPhrase). entry b.name.text (types made) ≡ None) binds =
    one_absent bind.name.text binds str (types made) h.absent in
    record {
      is = h.is;
      absent = (e, rest.1);
      distinct = and_both (not (is_named bind.name.text (type_names binds))) (are_distinct (type_names binds))
          (ap not rest.0) h.distinct;
    }) (new_of sc binds (suc number) after))
