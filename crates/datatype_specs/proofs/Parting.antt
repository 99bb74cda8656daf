-- Names of entries among those that are specified, and entries behind them.
use Rattle.std.proofs.Common.{◌≡◌, ℕ, refl, sym, ap, ap₂, ◌∙◌, subst, List, [], ◌∷◌, ◌++◌, map, Bool, true, false, ◌||◌}
use Rattle.std.specs.Prelude.{Result, Err}
use Rattle.std.specs.List.{list_any}
use Rattle.std.specs.Option.{is_some}
use Rattle.std.specs.FinMap.{nat_cmp-IsAntisymmetric, slice_cmp-IsAntisymmetric}
use Rattle.std.specs.FinMap.Entries.{by_order}
use Rattle.std.specs.declared.cmp.Ordering.{Ordering}
use Rattle.std.specs.declared.cmp.Ordering.TheVariants.{Less, Equal, Greater}
use Rattle.cm_base.specs.declared.fault.Fault.{Fault}
use Rattle.sml_trees.specs.declared.name.At.{At}
use Rattle.semantic_objects.specs.declared.entry.TypeStr.{TypeStr}
use Rattle.semantic_objects.specs.declared.entry.ValueEntry.{ValueEntry}
use Rattle.semantic_objects.specs.Tables.{Table, by_bytes, entry, with_entry, with_all}
use Rattle.semantic_objects.specs.Environments.{Env, Signature, env_of, structures_of, table_of, modified_by}
use Rattle.sml_modules.specs.declared.parts.NamedEnv.{NamedEnv}
use Rattle.sml_modules.specs.declared.parts.NamedType.{NamedType}
use Rattle.sml_modules.specs.Items.{map_rows, Item, as_value}
use Rattle.sml_modules.specs.Graphs.{Graph, env_at, structure_rows, type_rows}
use Rattle.name_trails.specs.Trails.{last_entry}
use Rattle.core_scopes.specs.declared.made.Made.{Made}
use Rattle.core_scopes.specs.declared.made.NamedInScope.{NamedInScope}
use Rattle.core_scopes.specs.Listed.{env_rows}
use Rattle.core_scopes.specs.Marks.{value_rows, env_of_made}
use Rattle.core_scopes.specs.Scopes.{entry_of}
use Rattle.core_scopes.proofs.Tables.{all_append, all_at_once}
use Rattle.core_scopes.proofs.Scoping.{map_append}
use Rattle.static_semantics.specs.Inferring.{Scope, gives}
use Rattle.module_semantics.specs.SignatureInference.{shares, have_common, specified}
use Rattle.type_phrases.specs.Inferred.{Answers, Refuses}
use Rattle.type_phrases.proofs.Steps.{refused}
use Rattle.signature_specs.specs.declared.specified.Specified.{Specified}
use Rattle.signature_specs.specs.Specs.{env_so_far, signature_so_far, IsFrontOf}
use Rattle.signature_specs.proofs.Specifying.{named, named_over, tables_back, is_specified, not_specified}
use Rattle.signature_specs.proofs.Fronts.{take_more}
use Rattle.datatype_specs.specs.Parts.{AddsPart}

-- ---- a test of names, over rows and over the table that they make

or_twice : (b c : Bool) → (b || c) ≡ (b || (b || c))
or_twice true c = refl
or_twice false c = refl

or_turned : (a b c : Bool) → (a || (b || c)) ≡ (b || (a || c))
or_turned true true c = refl
or_turned true false c = refl
or_turned false b c = refl

or_joined : (a b c : Bool) → (a || (b || c)) ≡ ((b || a) || c)
or_joined true true c = refl
or_joined true false c = refl
or_joined false true c = refl
or_joined false false c = refl

or_none : (b : Bool) → (b || false) ≡ b
or_none true = refl
or_none false = refl

abbrev any_named : {A : Type 0} → (List ℕ → Bool) → Table A → Bool
any_named p rows = list_any (λ row. p row.0) rows

any_set : {A : Type 0} (p : List ℕ → Bool) (n : List ℕ) (x : A) (t : Table A)
    → any_named p (with_entry n x t) ≡ (p n || any_named p t)
any_set p n x [] = refl
any_set {A} p n x (row ∷ rows) = by_test (by_bytes n row.0) refl (any_set p n x rows)
  where
    set_at : (o : Ordering) → by_bytes n row.0 ≡ o
        → any_named p (with_entry n x (row ∷ rows))
        ≡ any_named p (by_order o ((n, x) ∷ row ∷ rows) ((row.0, x) ∷ rows) (row ∷ with_entry n x rows))
    set_at o e =
        ap (λ q. any_named p (by_order q ((n, x) ∷ row ∷ rows) ((row.0, x) ∷ rows) (row ∷ with_entry n x rows))) e

    by_test : (o : Ordering) → by_bytes n row.0 ≡ o → any_named p (with_entry n x rows) ≡ (p n || any_named p rows)
        → any_named p (with_entry n x (row ∷ rows)) ≡ (p n || (p row.0 || any_named p rows))
    by_test Less e rest = set_at Less e
    by_test Equal e rest =
        let one : n ≡ row.0 = slice_cmp-IsAntisymmetric nat_cmp-IsAntisymmetric n row.0 e in
        set_at Equal e ∙ or_twice (p row.0) (any_named p rows)
        ∙ ap (λ m. p m || (p row.0 || any_named p rows)) (sym one)
    by_test Greater e rest =
        set_at Greater e ∙ ap (λ b. p row.0 || b) rest ∙ or_turned (p row.0) (p n) (any_named p rows)

any_all : {A : Type 0} (p : List ℕ → Bool) (rows t : Table A)
    → any_named p (with_all rows t) ≡ (any_named p rows || any_named p t)
any_all p [] t = refl
any_all p (row ∷ rows) t =
    any_all p rows (with_entry row.0 row.1 t)
    ∙ ap (λ b. any_named p rows || b) (any_set p row.0 row.1 t)
    ∙ or_joined (any_named p rows) (p row.0) (any_named p t)

pub any_rows : {A : Type 0} (p : List ℕ → Bool) (rows : Table A) → any_named p (with_all rows []) ≡ any_named p rows
any_rows p rows = any_all p rows [] ∙ or_none (any_named p rows)

any_mapped : {A B : Type 0} (p : B → Bool) (f : A → B) (xs : List A)
    → list_any p (map f xs) ≡ list_any (λ x. p (f x)) xs
any_mapped p f [] = refl
any_mapped p f (x ∷ xs) = ap (λ b. p (f x) || b) (any_mapped p f xs)

any_same : {A : Type 0} (p q : A → Bool) (xs : List A) → ((x : A) → p x ≡ q x) → list_any p xs ≡ list_any q xs
any_same p q [] h = refl
any_same p q (x ∷ xs) h = ap₂ (λ b c. b || c) (h x) (any_same p q xs h)

-- ---- names in common

shared : {A E : Type 0} (rows : Table A) (table : Table A) (names : E → List ℕ) (row_of : E → List ℕ × A)
    (part : List E) (p : List ℕ → Bool) → rows ≡ map row_of part → ((e : E) → (row_of e).0 ≡ names e)
    → ((name : List ℕ) → is_some (entry name table) ≡ p name)
    → shares (with_all rows []) table ≡ list_any (λ e. p (names e)) part
shared {A} rows table names row_of part p is same h =
    any_rows (λ name. is_some (entry name table)) rows
    ∙ ap (any_named (λ name. is_some (entry name table))) is
    ∙ any_mapped (λ (row : List ℕ × A). is_some (entry row.0 table)) row_of part
    ∙ any_same (λ e. is_some (entry (row_of e).0 table)) (λ e. p (names e)) part (λ e. h (row_of e).0 ∙ ap p (same e))

module _ {V : Type 0} (g : Graph) (read : V → ValueEntry) (part : Made V) (made : Specified) where
  structures_shared : shares (table_of (structures_of (with_all (structure_rows g part.structures) [])))
      (table_of (structures_of (with_all (map_rows (env_at g) made.structures) [])))
      ≡ list_any (λ (e : NamedEnv). is_some (last_entry made.structures e.name)) part.structures
  structures_shared =
      ap₂ (λ (a b : Table Env). shares a b) (tables_back (with_all (structure_rows g part.structures) []))
      (tables_back (with_all (map_rows (env_at g) made.structures) []))
      ∙ shared (structure_rows g part.structures) (with_all (map_rows (env_at g) made.structures) [])
      (λ (e : NamedEnv). e.name) (λ (e : NamedEnv). (e.name, env_at g e.env)) part.structures
      (λ name. is_some (last_entry made.structures name)) refl (λ e. refl) (named_over (env_at g) made.structures)

  types_shared : shares (with_all (type_rows part.types) []) (with_all made.types [])
      ≡ list_any (λ (e : NamedType). is_some (last_entry made.types e.name)) part.types
  types_shared =
      shared (type_rows part.types) (with_all made.types []) (λ (e : NamedType). e.name)
      (λ (e : NamedType). (e.name, e.entry)) part.types (λ name. is_some (last_entry made.types name)) refl (λ e. refl)
      (named made.types)

  values_shared : shares (with_all (value_rows read part.values) []) (with_all made.values [])
      ≡ list_any (λ (e : NamedInScope V). is_some (last_entry made.values e.name)) part.values
  values_shared =
      shared (value_rows read part.values) (with_all made.values []) (λ (e : NamedInScope V). e.name)
      (λ (e : NamedInScope V). (e.name, entry_of read e.entry)) part.values
      (λ name. is_some (last_entry made.values name)) refl (λ e. refl) (named made.values)

  pub common_is : (ss ts vs : Bool)
      → ss ≡ list_any (λ (e : NamedEnv). is_some (last_entry made.structures e.name)) part.structures
      → ts ≡ list_any (λ (e : NamedType). is_some (last_entry made.types e.name)) part.types
      → vs ≡ list_any (λ (e : NamedInScope V). is_some (last_entry made.values e.name)) part.values
      → (ss || (ts || vs)) ≡ have_common (env_of_made g read part) (env_so_far g made)
  common_is ss ts vs a b c =
      ap₂ (λ p q. p || q) (a ∙ sym structures_shared)
      (ap₂ (λ p q. p || q) (b ∙ sym types_shared) (c ∙ sym values_shared))

  or_first : (a b : Bool) → a ≡ true → a ≡ (a || b)
  or_first true b h = refl
  or_first false b h = absurd (cc)

  or_second : (a b : Bool) → a ≡ false → b ≡ (a || b)
  or_second true b h = absurd (cc)
  or_second false b h = refl

  abbrev AnyStructure : List NamedEnv → Bool
  AnyStructure xs = list_any (λ (e : NamedEnv). is_some (last_entry made.structures e.name)) xs

  abbrev AnyType : List NamedType → Bool
  AnyType xs = list_any (λ (e : NamedType). is_some (last_entry made.types e.name)) xs

  abbrev AnyValue : List (NamedInScope V) → Bool
  AnyValue xs = list_any (λ (e : NamedInScope V). is_some (last_entry made.values e.name)) xs

  -- the first kind in which there is one tells it
  pub common_structure : (ss : Bool) (xs : List NamedEnv) → xs ≡ part.structures → ss ≡ AnyStructure xs → ss ≡ true
      → ss ≡ have_common (env_of_made g read part) (env_so_far g made)
  common_structure ss xs e a h =
      or_first ss (AnyType part.types || AnyValue part.values) h
      ∙ common_is ss (AnyType part.types) (AnyValue part.values) (a ∙ ap AnyStructure e) refl refl

  pub common_type : (ss ts : Bool) (xs : List NamedEnv) (ys : List NamedType) → xs ≡ part.structures
      → ys ≡ part.types → ss ≡ AnyStructure xs → ts ≡ AnyType ys → ss ≡ false → ts ≡ true
      → ts ≡ have_common (env_of_made g read part) (env_so_far g made)
  common_type ss ts xs ys e f a b h k =
      or_first ts (AnyValue part.values) k ∙ or_second ss (ts || AnyValue part.values) h
      ∙ common_is ss ts (AnyValue part.values) (a ∙ ap AnyStructure e) (b ∙ ap AnyType f) refl

  pub common_value : (ss ts vs : Bool) (xs : List NamedEnv) (ys : List NamedType) (zs : List (NamedInScope V))
      → xs ≡ part.structures → ys ≡ part.types → zs ≡ part.values → ss ≡ AnyStructure xs → ts ≡ AnyType ys
      → vs ≡ AnyValue zs → ss ≡ false → ts ≡ false
      → vs ≡ have_common (env_of_made g read part) (env_so_far g made)
  common_value ss ts vs xs ys zs e f d a b k h l =
      or_second ts vs l ∙ or_second ss (ts || vs) h
      ∙ common_is ss ts vs (a ∙ ap AnyStructure e) (b ∙ ap AnyType f) (k ∙ ap AnyValue d)

  -- ---- entries behind others

  at_once : {A : Type 0} (rows t : Table A) → with_all (with_all rows []) t ≡ with_all rows t
  at_once rows t = all_at_once rows [] t refl

  env_is : (ss us : Table Env) (ts xs : Table TypeStr) (vs ys : Table ValueEntry) → ss ≡ us → ts ≡ xs → vs ≡ ys
      → env_of ss ts vs ≡ env_of us xs ys
  env_is ss us ts xs vs ys h k l = cc

  rows_of_structures : (part : List NamedEnv) → map_rows (env_at g) (env_rows part) ≡ structure_rows g part
  rows_of_structures [] = refl
  rows_of_structures (e ∷ es) = ap (λ (z : Table Env). (e.name, env_at g e.env) ∷ z) (rows_of_structures es)

  behind : {A : Type 0} (old new more : Table A) → new ≡ old ++ more
      → with_all (with_all more []) (with_all old []) ≡ with_all new []
  behind old new more e =
      at_once more (with_all old []) ∙ sym (all_append old more []) ∙ ap (λ z. with_all z []) (sym e)

  pub part_added : (new : Specified) → AddsPart made new part
      → modified_by (env_so_far g made) (env_of_made g read part) ≡ env_so_far g new
  part_added new h =
      env_is _ _ _ _ _ _
      (ap₂ (λ (a b : Table Env). with_all a b) (tables_back (with_all (structure_rows g part.structures) []))
      (tables_back (with_all (map_rows (env_at g) made.structures) []))
      ∙ behind (map_rows (env_at g) made.structures) (map_rows (env_at g) new.structures)
      (structure_rows g part.structures)
      (ap (map_rows (env_at g)) h.structures ∙ map_append (env_at g) made.structures (env_rows part.structures)
      ∙ ap (λ (z : Table Env). map_rows (env_at g) made.structures ++ z) (rows_of_structures part.structures)))
      (behind made.types new.types (type_rows part.types) h.types)
      (behind made.values new.values (value_rows read part.values) (h.values read))

  pub part_refused : {S : Type 0} (inner : Scope) (at : At) (s : S → Signature) (e : Fault) (r : Result S Fault)
      → r ≡ Err e → inner.home ≡ g.home → Refuses g 40 at [] e
      → have_common (env_of_made g read part) (env_so_far g made) ≡ true
      → Answers (specified inner at (env_of_made g read part) (signature_so_far g made)) s r
  part_refused {S} inner at s e r is home h k =
      subst (λ (z : Result S Fault). Answers (specified inner at (env_of_made g read part) (signature_so_far g made)) s z)
      (sym is)
      (not_specified inner at (env_of_made g read part) (signature_so_far g made) true s e (Err e) refl k
      (refused g inner 40 at [] (λ (u : Unit {0}). tt) e home h))

  pub part_specified : (new : Specified) (inner : Scope) (at : At) → AddsPart made new part
      → have_common (env_of_made g read part) (env_so_far g made) ≡ false
      → specified inner at (env_of_made g read part) (signature_so_far g made) ≡ gives (signature_so_far g new)
  part_specified new inner at h k =
      is_specified inner at (env_of_made g read part) (signature_so_far g made) false (env_so_far g new) k refl
      (part_added new h)
      ∙ ap (λ bound. gives (let sig : Signature = record { bound = bound; env = env_so_far g new } in sig)) (sym h.bound)

pub part_front : {V : Type 0} (old new : Specified) (part : Made V) → AddsPart old new part → IsFrontOf old new
part_front {V} old new part h = record {
  structures = take_more old.structures (env_rows part.structures) new.structures h.structures;
  types = take_more old.types (type_rows part.types) new.types h.types;
  values = take_more old.values (value_rows read part.values) new.values (h.values read);
}
  where
    read : V → ValueEntry
    read v = as_value Item.Nowhere
