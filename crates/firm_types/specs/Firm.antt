-- Types in which what was put in for variables changes nothing.
use Rattle.std.specs.Prelude.{◌≡◌, ℕ, List, Some, false}
use Rattle.sml_trees.specs.declared.name.LongName.{LongName}
use Rattle.semantic_objects.specs.declared.name.TyId.{TyId}
use Rattle.semantic_objects.specs.declared.name.TyId.TheVariants as id
use Rattle.semantic_objects.specs.declared.entry.TypeStr.{TypeStr}
use Rattle.semantic_objects.specs.declared.entry.ValueEntry.{ValueEntry}
use Rattle.semantic_objects.specs.Environments.{types}
use Rattle.env_parts.specs.Types.{holds_free}
use Rattle.unification.specs.Types.{Ty, Substitution, put}
use Rattle.type_nodes.specs.Tables.{Table, state}
use Rattle.bare_phrases.specs.Phrases.{TyPhrase, TyFields, TyPhrases}
use Rattle.sml_modules.specs.Graphs.{Graph}
use Rattle.static_semantics.specs.Inferring.{Scope, found_at}
use Rattle.static_semantics.specs.TypeInference.{infer_ty}
use Rattle.static_semantics.specs.Holding.{Given}
use Rattle.core_scopes.specs.Scopes.{Bindings, seen, written_of, first_entry}

-- a type in which nothing was put in
abbrev pub IsFirmTy : Substitution → Ty → Type 0
IsFirmTy s ty = put s ty ≡ ty

-- the type of a phrase, if it has one, is such a type
abbrev pub IsFirmPhrase : Substitution → Scope → TyPhrase → Type 0
IsFirmPhrase s inner phrase = Given (IsFirmTy s) (infer_ty inner phrase)

-- ---- what follows is cited by private functions alone

abbrev pub AreFirmFields : Substitution → Scope → TyFields → Type 0
AreFirmFields s inner TyFields.EndOfFields = Unit {0}
AreFirmFields s inner (TyFields.Field label ty rest) = IsFirmPhrase s inner ty × AreFirmFields s inner rest

abbrev pub AreFirmArgs : Substitution → Scope → TyPhrases → Type 0
AreFirmArgs s inner TyPhrases.EndOfArgs = Unit {0}
AreFirmArgs s inner (TyPhrases.Arg ty rest) = IsFirmPhrase s inner ty × AreFirmArgs s inner rest

-- an id is a variable that stands for itself
abbrev pub IsFirmId : Table → TyId → Type 0
IsFirmId t (id.Variable n) = (state t).stands n ≡ Ty.Var n
IsFirmId t (id.Made i) = ⊥

-- a written type variable, if it is in scope, stands for such a one
abbrev pub IsFirmVariable : {V : Type 0} → Table → Bindings V → List ℕ → Type 0
IsFirmVariable t sc name = (a : TyId) → first_entry (written_of sc) name ≡ Some a → IsFirmId t a

-- no variable of a table stands in a type function
abbrev pub IsClosedType : TypeStr → Type 0
IsClosedType str = holds_free str.function.body ≡ false

-- .. in that of a long name, if it stands for a type
abbrev pub IsFirmFunction : {V : Type 0} → Graph → Bindings V → LongName → Type 0
IsFirmFunction {V} g sc long = (read : V → ValueEntry) (str : TypeStr)
    → found_at types long.parts (seen g read sc) ≡ Some str → IsClosedType str
