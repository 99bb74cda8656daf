-- Constructors and datatypes that are read one after another. Only private functions cite this file.
use Rattle.std.specs.Prelude.{◌≡◌, ℕ, List, [], ◌∷◌, ◌++◌, map, Option, Some, None, Result, IfOk}
use Rattle.std.specs.Option.{option_map}
use Rattle.cm_base.specs.declared.fault.Fault.{Fault}
use Rattle.sml_trees.specs.declared.name.Name.{Name}
use Rattle.semantic_objects.specs.declared.entry.ValueEntry.{ValueEntry}
use Rattle.semantic_objects.specs.Tables.{names_of}
use Rattle.unification.specs.Types.{Ty}
use Rattle.unification.specs.Closing.{closed_over}
use Rattle.type_nodes.specs.Tables.{Table, Has, type_of}
use Rattle.bare_phrases.specs.Phrases.{ConPhrase, DatPhrase}
use Rattle.sml_modules.specs.Graphs.{Graph}
use Rattle.name_trails.specs.Trails.{Rows}
use Rattle.static_semantics.specs.BasicTypes.{is_one_of}
use Rattle.static_semantics.specs.Inferring.{Progress, Scope, with_written_alone, Answer, ◌>>=◌, gives, refuses_where, name_at, is_named}
use Rattle.static_semantics.specs.TypeInference.{listed, as_written}
use Rattle.static_semantics.specs.DatatypeInference.{counted, Con, Dat, infer_optional_ty, infer_cons}
use Rattle.core_scopes.specs.Scopes.{Bindings}
use Rattle.type_phrases.specs.Inferred.{Answers, scope_in}
use Rattle.type_phrases.specs.Steps.{OnlyMakes}
use Rattle.listed_types.specs.declared.listed.ListedType.{ListedType}
use Rattle.datatype_elab.specs.declared.cons.ConRead.{ConRead}
use Rattle.datatype_elab.specs.declared.cons.Variables.{Variables}

-- the constructors before
abbrev pub Others : Type 0
Others = List Con

-- ---- single steps of the definition

-- a constructor's name, after others
abbrev pub check_con : Scope → List (List ℕ) → Name → List Con → Answer (Unit {0})
check_con sc refused name others =
    refuses_where (is_one_of refused name.text) 34 sc (name_at name)
    >>= λ u. refuses_where (is_named name.text others) 40 sc (name_at name)

-- a constructor after others
abbrev pub infer_con : Scope → List (List ℕ) → ConPhrase → List Con → Answer Con
infer_con sc refused con others =
    check_con sc refused con.name others
    >>= λ u. infer_optional_ty sc con.arg
    >>= λ arg. gives (con.name.text, arg)

-- a datatype after others, whose constructors are given
abbrev pub infer_dat : Scope → List (List ℕ) → DatPhrase → List Con → Progress → Answer (Dat × Progress)
infer_dat sc refused bind before st =
    listed sc bind.tyvars [] st
    >>= λ r. infer_cons (with_written_alone (as_written r.0) sc) refused bind.cons before []
    >>= λ cons. gives ((let dat : Dat = record { name = bind.name.text; variables = r.0; cons = cons } in dat), r.1)

-- ---- what was read

abbrev pub argument_ty : Table → Option ListedType → Option Ty
argument_ty t arg = option_map (λ (a : ListedType). type_of t a.id) arg

abbrev pub con_of : Table → ConRead → Con
con_of t con = (con.name, argument_ty t con.arg)

-- an argument whose tree is closed over variables
abbrev pub IsArgument : Table → Variables → Option ListedType → Type 0
IsArgument t vs None = Unit {0}
IsArgument t vs (Some a) = Has t a.id × (a.tree ≡ closed_over (counted vs.count vs.first) (type_of t a.id))

abbrev pub AreCons : Table → Variables → List ConRead → Type 0
AreCons t vs [] = Unit {0}
AreCons t vs (con ∷ cons) = IsArgument t vs con.arg × AreCons t vs cons

abbrev pub con_names : List ConRead → List (List ℕ)
con_names cons = map (λ (con : ConRead). con.name) cons

-- a constructor was read
pub record IsConStep {V : Type 0} (g : Graph) (old : Table) (sc : Bindings V) (refused : List (List ℕ))
    (before : Rows (Unit {0})) (vs : Variables) (con : ConPhrase) (new : Table) (after : Rows (Unit {0}))
    (result : Result ConRead Fault) : Type 0 where
  pub infers : (read : V → ValueEntry) (others : List Con) → names_of before ≡ names_of others
      → Answers (infer_con (scope_in g old read sc) refused con others) (con_of new) result
  pub read : IfOk result (λ (made : ConRead). IsArgument new vs made.arg)
  pub names : IfOk result (λ (made : ConRead). names_of after ≡ names_of before ++ made.name ∷ [])
  pub makes : OnlyMakes old new

-- constructors were read
pub record AreConsStep {V : Type 0} (g : Graph) (old : Table) (sc : Bindings V) (refused : List (List ℕ))
    (before : Rows (Unit {0})) (vs : Variables) (cons : List ConPhrase) (new : Table) (after : Rows (Unit {0}))
    (result : Result (List ConRead) Fault) : Type 0 where
  pub infers : (read : V → ValueEntry) (others : List Con) → names_of before ≡ names_of others
      → Answers (infer_cons (scope_in g old read sc) refused cons others []) (map (con_of new)) result
  pub read : IfOk result (AreCons new vs)
  pub names : IfOk result (λ made. names_of after ≡ names_of before ++ con_names made)
  pub makes : OnlyMakes old new
