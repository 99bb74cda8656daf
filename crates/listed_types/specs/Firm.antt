-- Phrases whose type names stand for functions in which no variable of a table stands.
use Rattle.std.specs.Prelude.{◌≡◌, List, [], ◌∷◌, Option, Some, None, Bool, true, false, not, ◌||◌}
use Rattle.semantic_objects.specs.declared.entry.TypeStr.{TypeStr}
use Rattle.semantic_objects.specs.declared.node.TypeNode.{TypeNode}
use Rattle.semantic_objects.specs.declared.node.TypeNode.TheVariants as node
use Rattle.semantic_objects.specs.Environments.{Env, types}
use Rattle.env_parts.specs.Types.{holds_free}
use Rattle.type_nodes.specs.Tables.{Table, whole, type_of}
use Rattle.semantic_objects.specs.declared.name.TyId.{TyId}
use Rattle.semantic_objects.specs.declared.entry.ValueEntry.{ValueEntry}
use Rattle.sml_modules.specs.Graphs.{Graph}
use Rattle.core_scopes.specs.Scopes.{Bindings, seen}
use Rattle.name_trails.specs.Trails.{Rows}
use Rattle.bare_phrases.specs.Phrases.{TyPhrase, TyFields, TyPhrases}
use Rattle.static_semantics.specs.Inferring.{found_at}

-- rows for whose ids nothing else stands: what was made as them is what they are
abbrev pub AreAlone : Table → Rows TyId → Type 0
AreAlone t [] = Unit {0}
AreAlone t (row ∷ rows) = (whole t row.1 ≡ type_of t row.1) × AreAlone t rows

-- ---- what follows is cited by private functions alone

-- a fact, where a test says so
abbrev pub Where : Bool → Type 0 → Type 0
Where true P = P
Where false P = Unit {0}

abbrev pub is_free : TypeNode → Bool
is_free (node.Bound i) = false
is_free (node.Free n) = true
is_free (node.Made c places) = false

abbrev pub any_free : List TypeNode → Bool
any_free [] = false
any_free (x ∷ xs) = is_free x || any_free xs

abbrev pub is_firm_found : Option TypeStr → Bool
is_firm_found None = true
is_firm_found (Some found) = not (holds_free found.function.body)

abbrev mutual
  pub IsFirm : Env → TyPhrase → Type 0
  IsFirm env (TyPhrase.Var name at) = Unit {0}
  IsFirm env (TyPhrase.Record fields at) = AreFirmFields env fields
  IsFirm env (TyPhrase.Named args long at) =
      (is_firm_found (found_at types long.parts env) ≡ true) × AreFirmArgs env args
  IsFirm env (TyPhrase.Arrow from to at) = IsFirm env from × IsFirm env to

  pub AreFirmFields : Env → TyFields → Type 0
  AreFirmFields env TyFields.EndOfFields = Unit {0}
  AreFirmFields env (TyFields.Field label ty rest) = IsFirm env ty × AreFirmFields env rest

  pub AreFirmArgs : Env → TyPhrases → Type 0
  AreFirmArgs env TyPhrases.EndOfArgs = Unit {0}
  AreFirmArgs env (TyPhrases.Arg ty rest) = IsFirm env ty × AreFirmArgs env rest

-- .. whatever the unit's own values are
abbrev pub FirmIn : {V : Type 0} → Graph → Bindings V → TyPhrase → Type 0
FirmIn {V} g sc phrase = (read : V → ValueEntry) → IsFirm (seen g read sc) phrase
