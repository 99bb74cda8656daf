-- What holds of every table, since each entry of its trail could be made when it was.
use Rattle.std.specs.Prelude.{◌≡◌, ℕ, ◌<◌, List, length, slice_get, slice_set, Option, Some, None, Bool, true, false}
use Rattle.semantic_objects.specs.declared.name.TyId.{TyId}
use Rattle.semantic_objects.specs.declared.name.TyId.TheVariants as id
use Rattle.unification.specs.Types.{Ty, occurs, admits}
use Rattle.unification.specs.Fitting.{IsFit}
use Rattle.type_nodes.specs.Nodes.{AreMade, rigid_in, marked_in}
use Rattle.type_nodes.specs.declared.entry.Entry.{Entry}
use Rattle.type_nodes.specs.declared.entry.Entry.TheVariants as entry
use Rattle.type_nodes.specs.Tables.{Table, store_of, Has, state, whole, link, rank, LinkedTo, IsHead, cut}

-- a variable that isn't rigid and for which nothing stands
pub record IsOpen (t : Table) (v : ℕ) : Type 0 where
  pub within : v < length t.births
  pub unlinked : link t v ≡ None
  pub flexible : rigid_in t.births v ≡ false

-- an id's type may be put in for a variable
pub record MayStand (t : Table) (v : ℕ) (a : TyId) : Type 0 where
  pub at : IsOpen t v
  pub has : Has t a
  pub head : IsHead t a
  pub absent : occurs v (whole t a) ≡ false
  pub admitted : (state t).marks v ≡ true → admits (state t).marks (whole t a) ≡ true
  pub falls : rank t a < rank t (id.Variable v)

-- a variable may be marked
pub record MayMark (t : Table) (v : ℕ) : Type 0 where
  pub at : IsOpen t v
  pub unmarked : (state t).marks v ≡ false

abbrev pub MayFollow : Table → Entry → Type 0
MayFollow t (entry.Bound v a) = MayStand t v a
MayFollow t (entry.Marked v) = MayMark t v

-- variables and nodes that were made, and a trail of which each entry could follow those before it
pub record IsHistory (t : Table) : Type 0 where
  pub made : AreMade (store_of t)
  pub follows : (i : ℕ) (e : Entry) → slice_get t.trail i ≡ Some e → MayFollow (cut i t) e

-- what follows from this for what stands for variables
pub record IsKept (t : Table) : Type 0 where
  pub made : AreMade (store_of t)
  pub fit : IsFit (state t)
  pub next : (state t).next ≡ length t.births
  pub rigid : (state t).rigid ≡ rigid_in t.births
  pub unlinked : (v : ℕ) → link t v ≡ None → (state t).stands v ≡ Ty.Var v
  pub linked : (v : ℕ) (a : TyId) → link t v ≡ Some a → LinkedTo t v a
  pub steady : (v : ℕ) → rigid_in t.births v ≡ true → (state t).marks v ≡ marked_in t.births v

-- a table whose links and marks are kept beside its trail
pub record IsTable (t : Table) (links : List (Option TyId)) (marks : List Bool) : Type 0 where
  pub history : IsHistory t
  pub kept : IsKept t
  pub links_counted : length links ≡ length t.births
  pub marks_counted : length marks ≡ length t.births
  pub links_are : (v : ℕ) (o : Option TyId) → slice_get links v ≡ Some o → o ≡ link t v
  pub marks_are : (v : ℕ) (b : Bool) → slice_get marks v ≡ Some b → b ≡ (state t).marks v

-- the variable of an entry, and the links and marks without the entry
abbrev pub last_variable : Entry → ℕ
last_variable (entry.Bound v a) = v
last_variable (entry.Marked v) = v

abbrev pub links_without : Entry → List (Option TyId) → List (Option TyId)
links_without (entry.Bound v a) links = slice_set links v None
links_without (entry.Marked v) links = links

abbrev pub marks_without : Entry → List Bool → List Bool
marks_without (entry.Bound v a) marks = marks
marks_without (entry.Marked v) marks = slice_set marks v false

-- a mark remembers a table that was one
pub record Remembers (t : Table) (v n e : ℕ) : Type 0 where
  pub history : IsHistory t
  pub variables : v ≡ length t.births
  pub nodes : n ≡ length t.nodes
  pub entries : e ≡ length t.trail
