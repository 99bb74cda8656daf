-- Which rows are signatures and functors, and where these stand in a graph. The rows are those of a table whose nodes
-- are `made`.
use Rattle.std.specs.Prelude.{◌≡◌, ℕ, List, [], ◌∷◌, ◌++◌, length, Option}
use Rattle.node_bytes.specs.Nodes.{Node}
use Rattle.node_bytes.specs.Tables.{row_node}
use Rattle.node_bytes.specs.declared.table.Row.{Row}
use Rattle.semantic_objects.specs.declared.name.TyName.{TyName}
use Rattle.semantic_objects.specs.Environments.{Env, Signature, Functor}
use Rattle.interface_format.specs.Tags.{signature_node, functor_node}
use Rattle.interface_format.specs.Trees.{node_of_signature, node_of_functor}
use Rattle.interface_format.specs.Rules.{IsNumber, AreNumbered}
use Rattle.interface_format.specs.Rules as rules
use Rattle.interface_nodes.specs.Fields.{node_at}
use Rattle.sml_modules.specs.Items.{Item, as_env, as_signature, as_functor, IsEnv, IsSignature, IsFunctor}
use Rattle.row_forms.specs.declared.entries.CountedForm.{CountedForm}
use Rattle.row_forms.specs.declared.modules.FunctorForm.{FunctorForm}
use Rattle.row_environments.specs.Placed.{IsEnvOf, PlaceOrNone, AreAllPlaced, ArePlaced, AreValues}
use Rattle.row_binders.specs.declared.rows.BinderRows.{BinderRows}

-- ---- what a node is

pub record IsSignatureOf (home : List ℕ) (x : Node) (sig : Signature) : Type 0 where
  pub node : x ≡ node_of_signature home sig
  pub rules : rules.IsSignature sig

pub record IsFunctorOf (home : List ℕ) (x : Node) (fun : Functor) : Type 0 where
  pub node : x ≡ node_of_functor home fun
  pub rules : rules.IsFunctor fun

-- ---- what calls answer

-- names with the numbers from a first one on, in their order, and so many
pub record AreCounted (first count : ℕ) (names : List TyName) : Type 0 where
  pub counted : length names ≡ count
  pub numbered : AreNumbered first names

-- where the signature stands that binds so many names over an environment
abbrev pub FindsSignature : Env → ℕ → List Item → Option ℕ → Type 0
FindsSignature env count items found = (home : List ℕ) (x : Node) → IsEnvOf home x env → IsNumber count
    → PlaceOrNone IsSignature as_signature (IsSignatureOf home (signature_node count x)) items found

-- where the functor stands that binds so many names over two environments
abbrev pub FindsFunctor : Env → Env → FunctorForm → List Item → Option ℕ → Type 0
FindsFunctor param result form items found = (home : List ℕ) (x y : Node) → IsEnvOf home x param
    → IsEnvOf home y result → IsNumber form.bound → IsNumber form.further
    → PlaceOrNone IsFunctor as_functor (IsFunctorOf home (functor_node form.bound x form.further y)) items found

-- where each environment stands
abbrev pub AreEnvsPlaced : List ℕ → List Item → List Node → List (Option ℕ) → Type 0
AreEnvsPlaced home items made envs = AreAllPlaced IsEnv as_env (IsEnvOf home) items made envs

pub record HaveEnvs (home : List ℕ) (items : List Item) (envs : List (Option ℕ)) : Type 0 where
  pub made : List Node
  pub placed : AreEnvsPlaced home items made envs

-- where what has these fields stands. The environments are told of a graph with the first items
abbrev pub FormsSignature : List (Option ℕ) → List Item → CountedForm → List Item → Option ℕ → Type 0
FormsSignature envs old form items found = (home : List ℕ) (made : List Node) → AreEnvsPlaced home old made envs
    → IsNumber form.count
    → PlaceOrNone IsSignature as_signature (IsSignatureOf home (signature_node form.count (node_at made form.place)))
    items found

abbrev pub FormsFunctor : List (Option ℕ) → List Item → FunctorForm → List Item → Option ℕ → Type 0
FormsFunctor envs old form items found = (home : List ℕ) (made : List Node) → AreEnvsPlaced home old made envs
    → IsNumber form.bound → IsNumber form.further
    → PlaceOrNone IsFunctor as_functor
    (IsFunctorOf home (functor_node form.bound (node_at made form.param) form.further (node_at made form.body)))
    items found

-- where a row stands
abbrev pub PlacesSignature : List (Option ℕ) → List Item → Row → List Item → Option ℕ → Type 0
PlacesSignature envs old row items found = (home : List ℕ) (made : List Node) → AreEnvsPlaced home old made envs
    → PlaceOrNone IsSignature as_signature (IsSignatureOf home (row_node made row)) items found

abbrev pub PlacesFunctor : List (Option ℕ) → List Item → Row → List Item → Option ℕ → Type 0
PlacesFunctor envs old row items found = (home : List ℕ) (made : List Node) → AreEnvsPlaced home old made envs
    → PlaceOrNone IsFunctor as_functor (IsFunctorOf home (row_node made row)) items found

-- ---- all rows

-- of each row it is told what it is, and where it stands
pub record AreBound (home : List ℕ) (items : List Item) (made : List Node) (rows : BinderRows) : Type 0 where
  pub told : ArePlaced home items made rows.envs.told
  pub signatures : AreAllPlaced IsSignature as_signature (IsSignatureOf home) items made rows.signatures
  pub functors : AreAllPlaced IsFunctor as_functor (IsFunctorOf home) items made rows.functors

-- .. of the rows of some table, and values of them have places
pub record HaveBound (home : List ℕ) (items : List Item) (rows : BinderRows) : Type 0 where
  pub made : List Node
  pub bound : AreBound home items made rows
  pub values : AreValues rows.envs.told.entries.schemes items rows.envs.values

-- one row more is placed
abbrev pub PlacesBinder : List ℕ → List Item → List Item → BinderRows → Row → BinderRows → Type 0
PlacesBinder home before after old row new = (made : List Node) → AreBound home before made old
    → AreBound home after (made ++ row_node made row ∷ []) new
