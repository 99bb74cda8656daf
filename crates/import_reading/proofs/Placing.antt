-- Places under names: they are found and set as what stands at them.
use Rattle.std.proofs.Common.{◌≡◌, ℕ, refl, sym, ap, subst, ◌∙◌, List, [], ◌++◌, Some, None}
use Rattle.std.specs.Prelude.{Option, Result, Ok, Err, OnOk}
use Rattle.cm_base.specs.declared.fault.NoMemory.{NoMemory}
use Rattle.cm_base.specs.declared.record.Namespace.{Namespace}
use Rattle.cm_base.specs.declared.record.Namespace.TheVariants as space
use Rattle.cm_base.specs.declared.record.ModName.{ModName}
use Rattle.semantic_objects.specs.Tables.{Table, entry, with_entry}
use Rattle.semantic_objects.specs.Environments.{Env, Signature, Functor, Top, table_of, structures_of, structures, env_of}
use Rattle.semantic_objects.proofs.Promised.{keeps_structures}
use Rattle.env_parts.specs.declared.tables.EnvTables.{EnvTables}
use Rattle.env_parts.specs.declared.tables.TopTables.{TopTables}
use Rattle.sml_modules.specs.Items.{Item, at, as_env, as_signature, as_functor, IsEnv, IsSignature, IsFunctor, map_rows}
use Rattle.sml_modules.specs.Graphs.{Graph}
use Rattle.sml_modules.specs.Nodes.{AreAll, AreTopTables, top_of_tables}
use Rattle.sml_modules.specs.Adding.{ReadsEnv, Extends}
use Rattle.sml_modules.proofs.Unfolding.{all_more, rows_more}
use Rattle.sml_modules.proofs.Setting.{entry_at, with_map, all_set, all_found}
use Rattle.imported_interfaces.specs.Imported.{with_parts, with_found, with_found_structure, with_under}
use Rattle.interface_restoring.specs.declared.tops.UnitTables.{UnitTables}
use Rattle.interface_restoring.specs.Tops.{AreUnitTables, unit_of}
use Rattle.import_reading.specs.Placed.{FindsAt, FindsUnder, with_place_under, with_place}

tables_back : (rows : Table Env) → table_of (structures_of rows) ≡ rows
tables_back = keeps_structures.table

-- ---- places are found

found_at : {A : Type 0} (Is : Item → Type 0) (read : Item → A) (items : List Item) (name : List ℕ) (rows : Table ℕ)
    (table : Table A) (found : Option ℕ) → AreAll Is items rows → table ≡ map_rows (λ p. read (at items p)) rows
    → found ≡ entry name rows → FindsAt Is read items (entry name table) found
found_at Is read items name rows table None h t e = entry_at (λ p. read (at items p)) name rows table None t e
found_at Is read items name rows table (Some p) h t e =
    (all_found Is items name p rows h (sym e), entry_at (λ p. read (at items p)) name rows table (Some p) t e)

-- .. in tables of a top, and a name space
found_in : (items : List Item) (in_space other : Namespace) (name : List ℕ) (top : Top) (found : Option ℕ)
    → in_space ≡ other → FindsUnder items other name top found → FindsUnder items in_space name top found
found_in items in_space other name top found e h = subst (λ z. FindsUnder items z name top found) (sym e) h

pub structure_found : (items : List Item) (in_space : Namespace) (tables : TopTables) (env : Env)
    (env_tables : EnvTables) (name : List ℕ) (found : Option ℕ) → in_space ≡ space.Structure
    → env ≡ as_env (at items tables.env) → ReadsEnv items env env_tables → found ≡ entry name env_tables.structures
    → FindsUnder items in_space name (top_of_tables items tables) found
structure_found items in_space tables env env_tables name found s is h e =
    found_in items in_space space.Structure name (top_of_tables items tables) found s
    (found_at IsEnv as_env items name env_tables.structures (structures (as_env (at items tables.env))) found
    h.are.structures
    (ap structures (sym is ∙ h.is) ∙ tables_back (map_rows (λ p. as_env (at items p)) env_tables.structures)) e)

pub signature_found : (items : List Item) (in_space : Namespace) (tables : TopTables) (name : List ℕ) (found : Option ℕ)
    → AreTopTables items tables → in_space ≡ space.Signature → found ≡ entry name tables.signatures
    → FindsUnder items in_space name (top_of_tables items tables) found
signature_found items in_space tables name found h s e =
    found_in items in_space space.Signature name (top_of_tables items tables) found s
    (found_at IsSignature as_signature items name tables.signatures (top_of_tables items tables).signatures found
    h.signatures refl e)

pub functor_found : (items : List Item) (in_space : Namespace) (tables : TopTables) (name : List ℕ) (found : Option ℕ)
    → AreTopTables items tables → in_space ≡ space.Functor → found ≡ entry name tables.functors
    → FindsUnder items in_space name (top_of_tables items tables) found
functor_found items in_space tables name found h s e =
    found_in items in_space space.Functor name (top_of_tables items tables) found s
    (found_at IsFunctor as_functor items name tables.functors (top_of_tables items tables).functors found h.functors
    refl e)

pub funsig_found : (items : List Item) (in_space : Namespace) (tables : TopTables) (name : List ℕ) (found : Option ℕ)
    → AreTopTables items tables → in_space ≡ space.Funsig → found ≡ entry name tables.funsigs
    → FindsUnder items in_space name (top_of_tables items tables) found
funsig_found items in_space tables name found h s e =
    found_in items in_space space.Funsig name (top_of_tables items tables) found s
    (found_at IsFunctor as_functor items name tables.funsigs (top_of_tables items tables).funsigs found h.funsigs refl
    e)

-- ---- more nodes change nothing

top_same : (s t : Top) → s.env ≡ t.env → s.signatures ≡ t.signatures → s.functors ≡ t.functors
    → s.funsigs ≡ t.funsigs → s ≡ t
top_same s t h i j k = λ n. record { env = h n; signatures = i n; functors = j n; funsigs = k n }

there_more : (items more : List Item) (t : UnitTables) → AreUnitTables items t → AreUnitTables (items ++ more) t
there_more items more t h = record {
  structures = all_more IsEnv (λ k. k) items more t.structures h.structures;
  signatures = all_more IsSignature (λ k. k) items more t.signatures h.signatures;
  functors = all_more IsFunctor (λ k. k) items more t.functors h.functors;
  funsigs = all_more IsFunctor (λ k. k) items more t.funsigs h.funsigs;
}

unit_more : (items more : List Item) (t : UnitTables) → AreUnitTables items t
    → unit_of (items ++ more) t ≡ unit_of items t
unit_more items more t h = top_same _ _
    (ap (λ (z : Table Env). env_of z [] [])
    (rows_more IsEnv (λ k. k) as_env items more t.structures h.structures))
    (rows_more IsSignature (λ k. k) as_signature items more t.signatures h.signatures)
    (rows_more IsFunctor (λ k. k) as_functor items more t.functors h.functors)
    (rows_more IsFunctor (λ k. k) as_functor items more t.funsigs h.funsigs)

pub there_later : (old new : Graph) (t : UnitTables) → Extends old new → AreUnitTables old.items t
    → AreUnitTables new.items t
there_later old new t e h =
    subst (λ (z : List Item). AreUnitTables z t) (sym e.items) (there_more old.items e.more t h)

pub unit_later : (old new : Graph) (t : UnitTables) → Extends old new → AreUnitTables old.items t
    → unit_of new.items t ≡ unit_of old.items t
unit_later old new t e h = ap (λ (z : List Item). unit_of z t) e.items ∙ unit_more old.items e.more t h

-- ---- a place is set

pub set_there : (items : List Item) (in_space : Namespace) (name : List ℕ) (p : ℕ) (t : UnitTables) (top : Top)
    → AreUnitTables items t → FindsUnder items in_space name top (Some p)
    → AreUnitTables items (with_place_under in_space name p t)
set_there items space.Structure name p t top h f = record {
  structures = all_set IsEnv items name p t.structures f.0 h.structures;
  signatures = h.signatures;
  functors = h.functors;
  funsigs = h.funsigs;
}
set_there items space.Signature name p t top h f = record {
  structures = h.structures;
  signatures = all_set IsSignature items name p t.signatures f.0 h.signatures;
  functors = h.functors;
  funsigs = h.funsigs;
}
set_there items space.Functor name p t top h f = record {
  structures = h.structures;
  signatures = h.signatures;
  functors = all_set IsFunctor items name p t.functors f.0 h.functors;
  funsigs = h.funsigs;
}
set_there items space.Funsig name p t top h f = record {
  structures = h.structures;
  signatures = h.signatures;
  functors = h.functors;
  funsigs = all_set IsFunctor items name p t.funsigs f.0 h.funsigs;
}

-- what is found goes in front of what is there
row_set : {A : Type 0} (read : Item → A) (items : List Item) (name : List ℕ) (p : ℕ) (rows : Table ℕ)
    (want : Option A) → want ≡ Some (read (at items p))
    → with_found name want (map_rows (λ q. read (at items q)) rows)
    ≡ map_rows (λ q. read (at items q)) (with_entry name p rows)
row_set {A} read items name p rows want e =
    ap (λ (z : Option A). with_found name z (map_rows (λ q. read (at items q)) rows)) e
    ∙ with_map (λ q. read (at items q)) name p rows

env_set : (items : List Item) (name : List ℕ) (p : ℕ) (rows : Table ℕ) (want : Option Env)
    → want ≡ Some (as_env (at items p))
    → with_found_structure name want (env_of (map_rows (λ q. as_env (at items q)) rows) [] [])
    ≡ env_of (map_rows (λ q. as_env (at items q)) (with_entry name p rows)) [] []
env_set items name p rows want e =
    ap (λ (z : Option Env). with_found_structure name z (env_of (map_rows (λ q. as_env (at items q)) rows) [] [])) e
    ∙ ap (λ (z : Table Env). env_of (with_entry name (as_env (at items p)) z) [] [])
    (tables_back (map_rows (λ q. as_env (at items q)) rows))
    ∙ ap (λ (z : Table Env). env_of z [] []) (with_map (λ q. as_env (at items q)) name p rows)

pub set_is : (items : List Item) (in_space : Namespace) (name : List ℕ) (p : ℕ) (t : UnitTables) (top : Top)
    → FindsUnder items in_space name top (Some p)
    → with_under in_space name top (unit_of items t) ≡ unit_of items (with_place_under in_space name p t)
set_is items space.Structure name p t top f =
    ap (λ (z : Env). with_parts z (map_rows (λ q. as_signature (at items q)) t.signatures)
    (map_rows (λ q. as_functor (at items q)) t.functors) (map_rows (λ q. as_functor (at items q)) t.funsigs))
    (env_set items name p t.structures (entry name (structures top.env)) f.1)
set_is items space.Signature name p t top f =
    ap (λ (z : Table Signature). with_parts (env_of (map_rows (λ q. as_env (at items q)) t.structures) [] []) z
    (map_rows (λ q. as_functor (at items q)) t.functors) (map_rows (λ q. as_functor (at items q)) t.funsigs))
    (row_set as_signature items name p t.signatures (entry name top.signatures) f.1)
set_is items space.Functor name p t top f =
    ap (λ (z : Table Functor). with_parts (env_of (map_rows (λ q. as_env (at items q)) t.structures) [] [])
    (map_rows (λ q. as_signature (at items q)) t.signatures) z (map_rows (λ q. as_functor (at items q)) t.funsigs))
    (row_set as_functor items name p t.functors (entry name top.functors) f.1)
set_is items space.Funsig name p t top f =
    ap (λ (z : Table Functor). with_parts (env_of (map_rows (λ q. as_env (at items q)) t.structures) [] [])
    (map_rows (λ q. as_signature (at items q)) t.signatures) (map_rows (λ q. as_functor (at items q)) t.functors) z)
    (row_set as_functor items name p t.funsigs (entry name top.funsigs) f.1)

-- ---- the call that sets a place

-- what the tables are then, by what the table of that name space is
place_set : (with_rows : UnitTables → Table ℕ → UnitTables) (table : UnitTables → Table ℕ) (old : UnitTables)
    (wanted : ModName) (name : List ℕ) (p : ℕ) (rows : Table ℕ) (r : Result (Unit {0}) NoMemory)
    → with_rows old (with_entry wanted.name p (table old)) ≡ with_place wanted p old → name ≡ wanted.name
    → OnOk r (rows ≡ with_entry name p (table old)) → OnOk r (with_rows old rows ≡ with_place wanted p old)
place_set with_rows table old wanted name p rows (Ok u) s n h =
    ap (with_rows old) (h ∙ ap (λ m. with_entry m p (table old)) n) ∙ s
place_set with_rows table old wanted name p rows (Err why) s n h = tt

in_its_space : (old : UnitTables) (wanted : ModName) (p : ℕ) (in_space : Namespace) → wanted.space ≡ in_space
    → with_place_under in_space wanted.name p old ≡ with_place wanted p old
in_its_space old wanted p in_space s = ap (λ z. with_place_under z wanted.name p old) (sym s)

pub structure_set : (old : UnitTables) (wanted : ModName) (name : List ℕ) (p : ℕ) (rows : Table ℕ)
    (r : Result (Unit {0}) NoMemory) → wanted.space ≡ space.Structure → name ≡ wanted.name
    → OnOk r (rows ≡ with_entry name p old.structures)
    → OnOk r (record old { structures = rows } ≡ with_place wanted p old)
structure_set old wanted name p rows r s n h =
    place_set (λ t z. record t { structures = z }) (λ t. t.structures) old wanted name p rows r
    (in_its_space old wanted p space.Structure s) n h

pub signature_set : (old : UnitTables) (wanted : ModName) (name : List ℕ) (p : ℕ) (rows : Table ℕ)
    (r : Result (Unit {0}) NoMemory) → wanted.space ≡ space.Signature → name ≡ wanted.name
    → OnOk r (rows ≡ with_entry name p old.signatures)
    → OnOk r (record old { signatures = rows } ≡ with_place wanted p old)
signature_set old wanted name p rows r s n h =
    place_set (λ t z. record t { signatures = z }) (λ t. t.signatures) old wanted name p rows r
    (in_its_space old wanted p space.Signature s) n h

pub functor_set : (old : UnitTables) (wanted : ModName) (name : List ℕ) (p : ℕ) (rows : Table ℕ)
    (r : Result (Unit {0}) NoMemory) → wanted.space ≡ space.Functor → name ≡ wanted.name
    → OnOk r (rows ≡ with_entry name p old.functors)
    → OnOk r (record old { functors = rows } ≡ with_place wanted p old)
functor_set old wanted name p rows r s n h =
    place_set (λ t z. record t { functors = z }) (λ t. t.functors) old wanted name p rows r
    (in_its_space old wanted p space.Functor s) n h

pub funsig_set : (old : UnitTables) (wanted : ModName) (name : List ℕ) (p : ℕ) (rows : Table ℕ)
    (r : Result (Unit {0}) NoMemory) → wanted.space ≡ space.Funsig → name ≡ wanted.name
    → OnOk r (rows ≡ with_entry name p old.funsigs)
    → OnOk r (record old { funsigs = rows } ≡ with_place wanted p old)
funsig_set old wanted name p rows r s n h =
    place_set (λ t z. record t { funsigs = z }) (λ t. t.funsigs) old wanted name p rows r
    (in_its_space old wanted p space.Funsig s) n h
