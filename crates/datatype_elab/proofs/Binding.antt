-- The environment of datatypes.
use Rattle.std.proofs.Common.{◌≡◌, ℕ, ◌+◌, ◌-◌, ◌<◌, ◌≤◌, List, [], ◌∷◌, ◌++◌, length, map, get_or, drop, refl, sym, ap, ap₂, ◌∙◌, subst, Bool, false, arith, zero, suc}
use Rattle.std.proofs.lemmas.List.{map-append}
use Rattle.semantic_objects.specs.declared.entry.ConEntry.{ConEntry}
use Rattle.semantic_objects.specs.declared.entry.TypeStr.{TypeStr}
use Rattle.semantic_objects.specs.declared.entry.ValueEntry.{ValueEntry}
use Rattle.semantic_objects.specs.Tables.{Table as Named, with_entry, with_all}
use Rattle.semantic_objects.specs.Environments.{env_of, empty_env}
use Rattle.type_nodes.specs.Tables.{Table}
use Rattle.sml_modules.specs.Items.{map_rows}
use Rattle.sml_modules.specs.declared.parts.NamedType.{NamedType}
use Rattle.sml_modules.specs.Graphs.{Graph, structure_rows, type_rows}
use Rattle.name_trails.specs.Trails.{Rows}
use Rattle.static_semantics.specs.TypeInference.{numbers}
use Rattle.datatype_elab.specs.Reading.{con_of}
use Rattle.static_semantics.specs.DatatypeInference.{Dat, own_name, own_ty, datatype_str, with_cons, with_datatype, made_types}
use Rattle.core_scopes.specs.declared.made.Made.{Made}
use Rattle.core_scopes.specs.declared.made.NamedInScope.{NamedInScope}
use Rattle.core_scopes.specs.declared.value.ValueInScope.{ValueInScope}
use Rattle.core_scopes.specs.Scopes.{entry_of}
use Rattle.core_scopes.specs.Listed.{scope_rows}
use Rattle.core_scopes.specs.Marks.{value_rows, env_of_made}
use Rattle.core_scopes.proofs.Tables.{all_append}
use Rattle.type_phrases.proofs.PartsRead.{drop_item, drop_end}
use Rattle.datatype_elab.specs.declared.dats.DatRead.{DatRead}
use Rattle.datatype_elab.specs.Listing.{dat_of, IsDat, AreDats}
use Rattle.datatype_elab.specs.Making.{AreBound, made_type}
use Rattle.datatype_elab.specs.Binding.{con_value, con_values, AddsType, AllBound}
use Rattle.datatype_elab.proofs.Made.{made_type_is}

rows_read : {V : Type 0} (read : V → ValueEntry) (entries : List (NamedInScope V))
    → value_rows read entries ≡ map_rows (entry_of read) (scope_rows entries)
rows_read read [] = refl
rows_read {V} read (e ∷ entries) =
    ap (λ (rows : Rows ValueEntry). (e.name, entry_of read e.entry) ∷ rows) (rows_read read entries)

abbrev entry_rows : List ConEntry → Rows ValueEntry
entry_rows cons = map (λ (con : ConEntry). (con.name, con_value con)) cons

cons_read : {V : Type 0} (read : V → ValueEntry) (cons : List ConEntry)
    → map_rows (entry_of read) (con_values cons) ≡ entry_rows cons
cons_read read [] = refl
cons_read read (con ∷ cons) =
    ap (λ (rows : Rows ValueEntry). (con.name, con_value con) ∷ rows) (cons_read read cons)

cons_set : (cons : List ConEntry) (ts : Named TypeStr) (vs : Named ValueEntry)
    → with_cons cons (env_of [] ts vs) ≡ env_of [] ts (with_all (entry_rows cons) vs)
cons_set [] ts vs = refl
cons_set (con ∷ cons) ts vs = cons_set cons ts (with_entry con.name (con_value con) vs)

-- an environment without structures
flat_env : {V : Type 0} (g : Graph) (read : V → ValueEntry) (made : Made V) → made.structures ≡ []
    → env_of_made g read made
    ≡ env_of [] (with_all (type_rows made.types) []) (with_all (map_rows (entry_of read) (scope_rows made.values)) [])
flat_env {V} g read made e =
    ap₂ (λ ss (vs : Rows ValueEntry). env_of (with_all (structure_rows g ss) []) (with_all (type_rows made.types) [])
    (with_all vs [])) e (rows_read read made.values)

type_added : {V : Type 0} (g : Graph) (read : V → ValueEntry) (made new : Made V) (name : List ℕ) (entry : TypeStr)
    → made.structures ≡ [] → AddsType made name entry new
    → env_of_made g read new ≡ with_datatype name entry (env_of_made g read made)
type_added {V} g read made new name entry e h =
    flat_env g read new (h.structures ∙ e)
    ∙ ap₂ (λ (ts : Named TypeStr) (vs : Rows (ValueInScope V)).
    env_of [] (with_all ts []) (with_all (map_rows (entry_of read) vs) [])) h.types h.values
    ∙ ap₂ (λ (ts : Named TypeStr) (vs : Rows ValueEntry). env_of [] ts (with_all vs []))
    (all_append (type_rows made.types) ((name, entry) ∷ []) [])
    (map-append (λ (row : List ℕ × ValueInScope V). (row.0, entry_of read row.1)) (scope_rows made.values)
    (con_values entry.cons)
    ∙ ap (λ vs. map_rows (entry_of read) (scope_rows made.values) ++ vs) (cons_read read entry.cons))
    ∙ ap (λ (vs : Named ValueEntry). env_of [] (with_entry name entry (with_all (type_rows made.types) [])) vs)
    (all_append (map_rows (entry_of read) (scope_rows made.values)) (entry_rows entry.cons) [])
    ∙ sym (cons_set entry.cons (with_entry name entry (with_all (type_rows made.types) []))
    (with_all (map_rows (entry_of read) (scope_rows made.values)) []))
    ∙ ap (with_datatype name entry) (sym (flat_env g read made e))

dat_at : (t : Table) (dats : List DatRead) (k : ℕ) (dat : DatRead) → AreDats t dats → k < length dats
    → dat ≡ get_or dats k dat → IsDat t dat
dat_at t [] k dat h l e = absurd (omega (arith, l))
dat_at t (d ∷ dats) zero dat h l e = subst (IsDat t) (sym e) h.0
dat_at t (d ∷ dats) (suc k) dat h l e = dat_at t dats k dat h.1 (omega (arith, l)) e

pub bound_dat : (dats : List DatRead) (k : ℕ) (dat : DatRead) → AllBound dats → k < length dats
    → dat ≡ get_or dats k dat → AreBound (length dat.list) dat.cons
bound_dat [] k dat h l e = absurd (omega (arith, l))
bound_dat (d ∷ dats) zero dat h l e = subst (λ (x : DatRead). AreBound (length x.list) x.cons) (sym e) h.0
bound_dat (d ∷ dats) (suc k) dat h l e = bound_dat dats k dat h.1 (omega (arith, l)) e

pub record TypesMade {V : Type 0} (home : List ℕ) (first : ℕ) (choice : List Bool) (dats : List DatRead) (at : ℕ)
    (made : Made V) : Type 0 where
  pub flat : made.structures ≡ []
  pub left_is : (h : Graph) (read : V → ValueEntry) (t : Table) → AreDats t dats
      → made_types home first choice (first + at) (map (dat_of t) (drop at dats)) (env_of_made h read made)
      ≡ made_types home first choice first (map (dat_of t) dats) empty_env

pub types_begun : {V : Type 0} (home : List ℕ) (first : ℕ) (choice : List Bool) (dats : List DatRead) (made : Made V)
    → made.structures ≡ [] → type_rows made.types ≡ [] → scope_rows made.values ≡ []
    → TypesMade home first choice dats 0 made
types_begun {V} home first choice dats made e f k = record {
  flat = e;
  left_is = λ h read t are.
      ap₂ (λ n env. made_types home first choice n (map (dat_of t) dats) env)
      (let l : first + 0 ≡ first = omega arith in l)
      (flat_env h read made e
      ∙ ap₂ (λ (ts : Named TypeStr) (vs : Rows (ValueInScope V)).
      env_of [] (with_all ts []) (with_all (map_rows (entry_of read) vs) [])) f k);
}

pub types_more : {V : Type 0} (home : List ℕ) (first : ℕ) (choice : List Bool) (dats : List DatRead) (at : ℕ)
    (dat : DatRead) (made new : Made V) (name : List ℕ) (entry : TypeStr) → TypesMade home first choice dats at made
    → at < length dats → dat ≡ get_or dats at dat → name ≡ dat.name
    → entry ≡ made_type home first choice at dat → AddsType made name entry new
    → TypesMade home first choice dats (at + 1) new
types_more home first choice dats at dat made new name entry inv within is n e adds = record {
  flat = adds.structures ∙ inv.flat;
  left_is = λ h read t are.
      let rest : List Dat = map (dat_of t) (drop (at + 1) dats) in
      ap (λ k. made_types home first choice k rest (env_of_made h read new))
      (let l : first + (at + 1) ≡ suc (first + at) = omega arith in l)
      ∙ ap (made_types home first choice (suc (first + at)) rest)
      (type_added h read made new name entry inv.flat adds
      ∙ ap₂ (λ nm str. with_datatype nm str (env_of_made h read made)) n
      (e ∙ made_type_is home first at choice t dat (dat_at t dats at dat are within is)
      ∙ ap (λ k. datatype_str home first choice dat.list
      (own_ty (own_name home (first + at) (length dat.list) (get_or choice k false)) (numbers dat.list))
      (map (con_of t) dat.cons))
      (let l : at ≡ first + at - first = omega arith in l)))
      ∙ ap (λ ds. made_types home first choice (first + at) (map (dat_of t) ds) (env_of_made h read made))
      (sym (drop_item dats at dat within is))
      ∙ inv.left_is h read t are;
}

pub types_done : {V : Type 0} (home : List ℕ) (first : ℕ) (choice : List Bool) (dats : List DatRead) (at : ℕ)
    (made : Made V) → TypesMade home first choice dats at made → length dats ≤ at → (h : Graph) (read : V → ValueEntry)
    (t : Table) → AreDats t dats
    → env_of_made h read made ≡ made_types home first choice first (map (dat_of t) dats) empty_env
types_done home first choice dats at made inv end h read t are =
    ap (λ ds. made_types home first choice (first + at) (map (dat_of t) ds) (env_of_made h read made))
    (sym (drop_end dats at end))
    ∙ inv.left_is h read t are

pub type_bound : {V : Type 0} (made : Made V) (name : List ℕ) (entry copy : TypeStr) (types : List NamedType)
    (values : List (NamedInScope V)) (cons : List ConEntry)
    → types ≡ made.types ++ (record { name = name; entry = entry }) ∷ []
    → scope_rows values ≡ scope_rows made.values ++ con_values cons → cons ≡ copy.cons → copy ≡ entry
    → AddsType made name entry (record { structures = made.structures; types = types; values = values })
type_bound made name entry copy types values cons e f c k = record {
  structures = refl;
  types = ap type_rows e ∙ map-append (λ (t : NamedType). (t.name, t.entry)) made.types
      ((let t : NamedType = record { name = name; entry = entry } in t) ∷ []);
  values = f ∙ ap (λ cs. scope_rows made.values ++ con_values cs) (c ∙ ap (λ (s : TypeStr). s.cons) k);
}
