-- What the equality of types as trees needs, found node by node. Only private functions cite this file.
use Rattle.std.specs.Prelude.{◌≡◌, ℕ, ◌-◌, List, [], ◌∷◌, ◌++◌, length, get_or, set, replicate, Option, Some, None, Bool, true, false, ◌⊎◌, cond}
use Rattle.semantic_objects.specs.declared.name.TyName.{TyName}
use Rattle.semantic_objects.specs.declared.node.TypeNode.{TypeNode}
use Rattle.semantic_objects.specs.declared.node.TypeNode.TheVariants as node
use Rattle.semantic_objects.specs.declared.symbol.Symbol.{Symbol}
use Rattle.semantic_objects.specs.Nodes.{AreBelow}
use Rattle.semantic_objects.specs.Trees.{Tree, Trees}
use Rattle.unification.specs.declared.equality.Equality.{Equality}
use Rattle.unification.specs.declared.equality.Equality.TheVariants as equality
use Rattle.unification.specs.Types.{equality_of}
use Rattle.static_semantics.specs.DatatypeInference.{is_new}
use Rattle.equality_laws.specs.Needs.{Need, need_of}
use Rattle.datatype_elab.specs.declared.needs.Need.{Need as Asked}
use Rattle.datatype_elab.specs.declared.needs.Need.TheVariants as asked
use Rattle.datatype_elab.specs.declared.needs.NewNames.{NewNames}

-- ---- what a symbol asks

abbrev pub need_is : Asked → Need
need_is asked.Never = Need.Never
need_is asked.Always = Need.Always
need_is asked.OfParts = Need.OfParts
need_is (asked.OfNew at) = Need.OfNew at

abbrev pub need_in : NewNames → Symbol → Need
need_in new c = need_of new.home new.first new.count c

abbrev pub new_place : NewNames → TyName → Option ℕ
new_place new name = cond (is_new new.home new.first new.count name) (Some (name.number - new.first)) None

abbrev pub need_by : Equality → Need
need_by equality.Never = Need.Never
need_by equality.Always = Need.Always
need_by equality.ByParts = Need.OfParts

abbrev pub known_need : Symbol → Need
known_need c = need_by (equality_of c)

-- ---- what a tree needs: that nothing stands against it, where `None` tells that something does, and new types

abbrev pub wanted_over : Need → List (Option ℕ) → List (Option ℕ)
wanted_over Need.Never parts = None ∷ []
wanted_over Need.Always parts = []
wanted_over Need.OfParts parts = parts
wanted_over (Need.OfNew at) parts = Some at ∷ parts

abbrev mutual
  pub wanted : (Symbol → Need) → Tree → List (Option ℕ)
  wanted need (Tree.Bound i) = []
  wanted need (Tree.Free n) = []
  wanted need (Tree.Made c ts) = wanted_over (need c) (all_wanted need ts)

  pub all_wanted : (Symbol → Need) → Trees → List (Option ℕ)
  all_wanted need Trees.Nil = []
  all_wanted need (Trees.Cons t ts) = wanted need t ++ all_wanted need ts

-- what a node needs by itself, and which of its parts it needs
abbrev pub own_wants : Need → List (Option ℕ)
own_wants Need.Never = None ∷ []
own_wants Need.Always = []
own_wants Need.OfParts = []
own_wants (Need.OfNew at) = Some at ∷ []

abbrev pub needed : Need → List ℕ → List ℕ
needed Need.Never places = []
needed Need.Always places = []
needed Need.OfParts places = places
needed (Need.OfNew at) places = places

abbrev pub own_of : (Symbol → Need) → TypeNode → List (Option ℕ)
own_of need (node.Bound i) = []
own_of need (node.Free n) = []
own_of need (node.Made c places) = own_wants (need c)

abbrev pub needed_of : (Symbol → Need) → TypeNode → List ℕ
needed_of need (node.Bound i) = []
needed_of need (node.Free n) = []
needed_of need (node.Made c places) = needed (need c) places

abbrev pub PartsBelow : ℕ → TypeNode → Type 0
PartsBelow n (node.Bound i) = Unit {0}
PartsBelow n (node.Free v) = Unit {0}
PartsBelow n (node.Made c places) = AreBelow n places

-- ---- marks

abbrev pub In : {X : Type 0} → X → List X → Type 0
In x [] = ⊥
In x (y ∷ ys) = (x ≡ y) ⊎ In x ys

abbrev pub IsMarked : List Bool → ℕ → Type 0
IsMarked marks p = get_or marks p false ≡ true

-- these places were marked
pub record Marks (old new : List Bool) (places : List ℕ) : Type 0 where
  pub counted : length new ≡ length old
  pub more : (p : ℕ) → IsMarked new p → IsMarked old p ⊎ In p places
  pub kept : (p : ℕ) → IsMarked old p → IsMarked new p
  pub all : (p : ℕ) → In p places → IsMarked new p

pub record LookedAt (need : Need) (places : List ℕ) (old new : List Bool) (before after : List (Option ℕ)) : Type 0
  where
    pub marks : Marks old new (needed need places)
    pub found : after ≡ before ++ own_wants need

pub record Looked (need : Symbol → Need) (x : TypeNode) (old new : List Bool) (before after : List (Option ℕ)) : Type 0
  where
    pub marks : Marks old new (needed_of need x)
    pub found : after ≡ before ++ own_of need x

pub record IsPassed (old new : List Bool) (before after : List (Option ℕ)) : Type 0 where
  pub marks : new ≡ old
  pub found : after ≡ before

abbrev pub nobody : TypeNode
nobody = node.Bound 0

abbrev pub SteppedBy : Bool → (Symbol → Need) → TypeNode → List Bool → List Bool → List (Option ℕ) → List (Option ℕ)
    → Type 0
SteppedBy true need x old new before after = Looked need x old new before after
SteppedBy false need x old new before after = IsPassed old new before after

abbrev pub Stepped : (Symbol → Need) → List TypeNode → ℕ → List Bool → List Bool → List (Option ℕ)
    → List (Option ℕ) → Type 0
Stepped need nodes at old new before after =
    SteppedBy (get_or old at false) need (get_or nodes at nobody) old new before after

-- the last of so many nodes is marked alone
abbrev pub begun : ℕ → List Bool
begun n = set (replicate n false) (n - 1) true

-- what is wanted was added
pub record AddsWants (wants before after : List (Option ℕ)) : Type 0 where
  pub more : (x : Option ℕ) → In x after → In x before ⊎ In x wants
  pub kept : (x : Option ℕ) → In x before → In x after
  pub all : (x : Option ℕ) → In x wants → In x after
