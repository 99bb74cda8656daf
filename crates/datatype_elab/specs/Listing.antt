-- Datatypes that are read under their lists of type variables. Only private functions cite this file.
use Rattle.std.specs.Prelude.{◌≡◌, ℕ, ◌<◌, List, [], ◌∷◌, ◌++◌, length, map, Result, IfOk}
use Rattle.cm_base.specs.declared.fault.Fault.{Fault}
use Rattle.semantic_objects.specs.declared.name.TyId.{TyId}
use Rattle.semantic_objects.specs.declared.name.TyId.TheVariants as id
use Rattle.semantic_objects.specs.declared.entry.ValueEntry.{ValueEntry}
use Rattle.semantic_objects.specs.Tables.{names_of}
use Rattle.unification.specs.Types.{Ty}
use Rattle.type_nodes.specs.Tables.{Table, state}
use Rattle.bare_phrases.specs.Phrases.{ConPhrase, DatPhrase}
use Rattle.sml_modules.specs.Items.{map_rows}
use Rattle.sml_modules.specs.Graphs.{Graph}
use Rattle.name_trails.specs.Trails.{Rows}
use Rattle.static_semantics.specs.Inferring.{with_written_alone}
use Rattle.static_semantics.specs.TypeInference.{numbers, as_written}
use Rattle.static_semantics.specs.DatatypeInference.{counted, Con, Dat, infer_cons, infer_dats}
use Rattle.core_scopes.specs.Scopes.{Bindings}
use Rattle.type_phrases.specs.Inferred.{Answers, KeepsTypes, progress, scope_in}
use Rattle.type_phrases.specs.Steps.{OnlyMakes}
use Rattle.datatype_elab.specs.declared.cons.ConRead.{ConRead}
use Rattle.datatype_elab.specs.declared.cons.Variables.{Variables}
use Rattle.datatype_elab.specs.declared.dats.DatRead.{DatRead}
use Rattle.datatype_elab.specs.Reading.{infer_dat, con_of, AreCons, con_names}

-- the ids of a list's variables
abbrev pub row_ids : Rows ℕ → Rows TyId
row_ids rows = map_rows (λ (n : ℕ). id.Variable n) rows

-- variables of a table for which nothing else stands
abbrev pub IsListIn : Table → Rows ℕ → Type 0
IsListIn t [] = Unit {0}
IsListIn t (row ∷ rows) = (row.1 < length t.births) × ((state t).stands row.1 ≡ Ty.Var row.1) × IsListIn t rows

-- constructors were read under a list alone
pub record AreConsUnder {V : Type 0} (g : Graph) (old : Table) (sc : Bindings V) (list : Rows ℕ)
    (refused : List (List ℕ)) (before : Rows (Unit {0})) (vs : Variables) (cons : List ConPhrase) (new : Table)
    (after : Rows (Unit {0})) (result : Result (List ConRead) Fault) : Type 0 where
  pub infers : (read : V → ValueEntry) (others : List Con) → names_of before ≡ names_of others
      → Answers (infer_cons (with_written_alone (as_written list) (scope_in g old read sc)) refused cons others [])
      (map (con_of new)) result
  pub read : IfOk result (AreCons new vs)
  pub names : IfOk result (λ made. names_of after ≡ names_of before ++ con_names made)
  pub makes : OnlyMakes old new

-- ---- datatypes

abbrev pub dat_of : Table → DatRead → Dat
dat_of t dat = record { name = dat.name; variables = dat.list; cons = map (con_of t) dat.cons }

-- a datatype whose arguments are closed over its list
pub record IsDat (t : Table) (dat : DatRead) : Type 0 where
  pub cons : AreCons t dat.variables dat.cons
  pub numbered : numbers dat.list ≡ counted dat.variables.count dat.variables.first
  pub counted : dat.variables.count ≡ length dat.list

abbrev pub AreDats : Table → List DatRead → Type 0
AreDats t [] = Unit {0}
AreDats t (dat ∷ dats) = IsDat t dat × AreDats t dats

-- a datatype was read
pub record IsDatStep {V : Type 0} (g : Graph) (old : Table) (sc : Bindings V) (refused : List (List ℕ))
    (before : Rows (Unit {0})) (bind : DatPhrase) (new : Table) (after : Rows (Unit {0}))
    (result : Result DatRead Fault) : Type 0 where
  pub infers : (u : Table) (read : V → ValueEntry) (others : List Con) → names_of before ≡ names_of others
      → Answers (infer_dat (scope_in g u read sc) refused bind others (progress old g))
      (λ dat. (dat_of new dat, progress new g)) result
  pub read : IfOk result (IsDat new)
  pub names : IfOk result (λ (dat : DatRead). names_of after ≡ names_of before ++ con_names dat.cons)
  pub keeps : KeepsTypes old new

-- datatypes were read
pub record AreDatsStep {V : Type 0} (g : Graph) (old : Table) (sc : Bindings V) (refused : List (List ℕ))
    (binds : List DatPhrase) (new : Table) (result : Result (List DatRead) Fault) : Type 0 where
  pub infers : (u : Table) (read : V → ValueEntry)
      → Answers (infer_dats (scope_in g u read sc) refused binds [] (progress old g))
      (λ dats. (map (dat_of new) dats, progress new g)) result
  pub read : IfOk result (AreDats new)
  pub keeps : KeepsTypes old new
