-- When an environment matches a signature, and what the signature's environment is then, with the first diagnostic.
-- The Definition, sections 5.2, 5.5 and 5.6, and rule 52.
--
-- The environment is taken as it is known, with everything put in, and so is the signature's. A type variable that is
-- left in it stands for itself alone.
--
-- The walk of a signature's environment: the structures, each with all that is inside it, then the types, then the
-- values, each in byte order. The order of the checks, each of which is named by its diagnostic and stands at the place
-- that is handed in:
--   first walk, for the realisation:
--     a structure: 36
--     a type whose type function is a flexible name alone, of which no type before it is one: 36; 35; 33 where the name
--       admits equality and the type function that is found doesn't. That one realises the name
--     other types, and values: none
--   then 37 without a name where a flexible name is left
--   second walk, through the realised environment:
--     a structure: 36
--     a type: 36; 35; 37 where the type function is another one, or where it is specified with constructors and what is
--       found hasn't the same ones
--     a value: 36; 37 where what is found isn't at least as general, or where a constructor or an exception is
--       specified and what is found hasn't this status
-- 36 and 37 have the long name from the signature's root.
use Rattle.std.specs.Prelude.{ℕ, List, [], ◌∷◌, ◌++◌, Option, Some, None, Err, Bool, true, false, ◌&&◌, not, cond, eqb}
use Rattle.std.specs.Option.{is_none}
use Rattle.std.specs.List.{join_with_byte, list_any}
use Rattle.sml_trees.specs.declared.name.At.{At}
use Rattle.semantic_objects.specs.declared.name.TyName.{TyName}
use Rattle.semantic_objects.specs.declared.entry.ConEntry.{ConEntry}
use Rattle.semantic_objects.specs.declared.entry.TypeFn.{TypeFn}
use Rattle.semantic_objects.specs.declared.entry.TypeStr.{TypeStr}
use Rattle.semantic_objects.specs.declared.entry.ValueEntry.{ValueEntry}
use Rattle.semantic_objects.specs.declared.entry.VidStatus.{VidStatus}
use Rattle.semantic_objects.specs.declared.entry.VidStatus.TheVariants as status
use Rattle.semantic_objects.specs.Symbols.{same_list, same_text, same_bool}
use Rattle.semantic_objects.specs.Tables.{Table}
use Rattle.semantic_objects.specs.Trees.{TypeScheme}
use Rattle.semantic_objects.specs.Environments.{Env, Structures, Signature, structures, types, values}
use Rattle.unification.specs.Types.{State}
use Rattle.unification.specs.Closing.{canonical_scheme}
use Rattle.unification.specs.Generality.{same_tree, covers}
use Rattle.realisation.specs.Names.{is_listed}
use Rattle.realisation.specs.Realised.{of_rows, realised, function_admits}
use Rattle.static_semantics.specs.Inferring.{Scope, Answer, ◌>>=◌, gives, diag_at, refuses_where, found_at}
use Rattle.module_semantics.specs.SignatureNames.{name_alone}

-- ---- the walk

-- what an environment has, each by its long name
pub data Item : Type 0 where
  StructureItem : List (List ℕ) → Item
  TypeItem : List (List ℕ) → TypeStr → Item
  ValueItem : List (List ℕ) → ValueEntry → Item

abbrev pub type_items : List (List ℕ) → Table TypeStr → List Item
type_items path [] = []
type_items path (row ∷ rows) = Item.TypeItem (path ++ row.0 ∷ []) row.1 ∷ type_items path rows

abbrev pub value_items : List (List ℕ) → Table ValueEntry → List Item
value_items path [] = []
value_items path (row ∷ rows) = Item.ValueItem (path ++ row.0 ∷ []) row.1 ∷ value_items path rows

-- all that an environment has, in the order of the walk, where it is found at a path itself
abbrev mutual
  pub items_under : List (List ℕ) → Env → List Item
  items_under path (Env.MakeEnv ss ts vs) =
      structure_items path ss ++ (type_items path ts ++ value_items path vs)

  pub structure_items : List (List ℕ) → Structures → List Item
  structure_items path Structures.Nil = []
  structure_items path (Structures.Cons name env rest) =
      Item.StructureItem (path ++ name ∷ [])
      ∷ (items_under (path ++ name ∷ []) env ++ structure_items path rest)

abbrev pub items : Env → List Item
items env = items_under [] env

-- ---- looking up

-- what is found under a long name, or 36
abbrev pub present : {A : Type 0} → Scope → At → List (List ℕ) → Option A → Answer A
present sc at path None = Some (Err (diag_at 36 sc at (join_with_byte 46 path ∷ [])))
present sc at path (Some x) = gives x

-- 37 with a long name, where a check fails
abbrev pub misfits_where : Bool → Scope → At → List (List ℕ) → Answer (Unit {0})
misfits_where fails sc at path = cond fails (Some (Err (diag_at 37 sc at (join_with_byte 46 path ∷ [])))) (gives tt)

-- ---- the first walk

-- type functions for names, in the order in which they were found
abbrev pub Rows : Type 0
Rows = List (TyName × TypeFn)

-- the flexible name that a type is alone, where nothing realises it yet
abbrev pub if_flexible : List TyName → Rows → Option TyName → Option TyName
if_flexible bound rows None = None
if_flexible bound rows (Some name) =
    cond (is_listed name bound && is_none (of_rows rows name)) (Some name) None

abbrev pub realising : Scope → At → State → Env → List (List ℕ) → Rows → Option TyName → Answer Rows
realising sc at s env path rows None = gives rows
realising sc at s env path rows (Some name) =
    present sc at path (found_at types path env)
    >>= λ str. refuses_where (not (eqb str.function.arity name.arity)) 35 sc at
    >>= λ u. refuses_where (name.eq && not (function_admits s.marks str.function)) 33 sc at
    >>= λ v. gives (rows ++ (name, str.function) ∷ [])

abbrev pub realising_item : Scope → At → State → Env → List TyName → Item → Rows → Answer Rows
realising_item sc at s env bound (Item.StructureItem path) rows =
    present sc at path (found_at structures path env) >>= λ e. gives rows
realising_item sc at s env bound (Item.TypeItem path str) rows =
    realising sc at s env path rows (if_flexible bound rows (name_alone str.function))
realising_item sc at s env bound (Item.ValueItem path value) rows = gives rows

abbrev pub realising_all : Scope → At → State → Env → List TyName → List Item → Rows → Answer Rows
realising_all sc at s env bound [] rows = gives rows
realising_all sc at s env bound (item ∷ rest) rows =
    realising_item sc at s env bound item rows >>= realising_all sc at s env bound rest

-- a name that no row realises
abbrev pub is_left : Rows → TyName → Bool
is_left rows name = is_none (of_rows rows name)

-- the rows that realise a signature's flexible names by the types of an environment
abbrev pub realisation_of : Scope → At → State → Env → Signature → Answer Rows
realisation_of sc at s env sig =
    realising_all sc at s env sig.bound (items sig.env) []
    >>= λ rows. refuses_where (list_any (is_left rows) sig.bound) 37 sc at
    >>= λ u. gives rows

-- ---- the second walk

abbrev pub same_function : TypeFn → TypeFn → Bool
same_function f g = eqb f.arity g.arity && same_tree f.body g.body

abbrev pub same_scheme : TypeScheme → TypeScheme → Bool
same_scheme σ τ = same_list same_bool σ.marks τ.marks && same_tree σ.body τ.body

-- constructors are the same where their names are and their schemes are in their one form
abbrev pub same_con : ConEntry → ConEntry → Bool
same_con a b =
    same_text a.name b.name && same_scheme (canonical_scheme a.scheme) (canonical_scheme b.scheme)

-- a type that is specified without constructors may have any
abbrev pub has_cons : List ConEntry → List ConEntry → Bool
has_cons [] found = true
has_cons (con ∷ cons) found = same_list same_con (con ∷ cons) found

abbrev pub has_status : VidStatus → VidStatus → Bool
has_status status.Variable found = true
has_status status.Constructor status.Constructor = true
has_status status.Constructor status.Variable = false
has_status status.Constructor status.Exception = false
has_status status.Exception status.Exception = true
has_status status.Exception status.Variable = false
has_status status.Exception status.Constructor = false

abbrev pub fits_type : TypeStr → TypeStr → Bool
fits_type want found = same_function want.function found.function && has_cons want.cons found.cons

abbrev pub fits_value : State → ValueEntry → ValueEntry → Bool
fits_value s want found = covers s found.scheme want.scheme && has_status want.status found.status

abbrev pub enriching_item : Scope → At → State → Env → Item → Answer (Unit {0})
enriching_item sc at s env (Item.StructureItem path) =
    present sc at path (found_at structures path env) >>= λ e. gives tt
enriching_item sc at s env (Item.TypeItem path str) =
    present sc at path (found_at types path env)
    >>= λ found. refuses_where (not (eqb str.function.arity found.function.arity)) 35 sc at
    >>= λ u. misfits_where (not (fits_type str found)) sc at path
enriching_item sc at s env (Item.ValueItem path value) =
    present sc at path (found_at values path env)
    >>= λ found. misfits_where (not (fits_value s value found)) sc at path

abbrev pub enriching_all : Scope → At → State → Env → List Item → Answer (Unit {0})
enriching_all sc at s env [] = gives tt
enriching_all sc at s env (item ∷ rest) =
    enriching_item sc at s env item >>= λ u. enriching_all sc at s env rest

-- ---- both

-- the rows by which an environment matches a signature
abbrev pub matching : Scope → At → State → Env → Signature → Answer Rows
matching sc at s env sig =
    realisation_of sc at s env sig
    >>= λ rows. enriching_all sc at s env (items (realised (of_rows rows) sig.env))
    >>= λ u. gives rows

-- the signature's environment, realised by the environment that matches it
abbrev pub matched : Scope → At → State → Env → Signature → Answer Env
matched sc at s env sig = matching sc at s env sig >>= λ rows. gives (realised (of_rows rows) sig.env)
