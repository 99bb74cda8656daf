-- The arguments of datatypes bind variables of their lists alone.
use Rattle.std.proofs.Common.{◌≡◌, ℕ, ◌<◌, ◌∷◌, [], List, refl, sym, subst, Bool, true, false, cond, Option, Some, None, length}
use Rattle.std.proofs.lemmas.Bool.{eqb-true}
use Rattle.semantic_objects.specs.Trees.{Tree, binds, binds_any, BindsBelow}
use Rattle.unification.specs.Closing.{is_among, place_of, closed_over, closed_over_all}
use Rattle.unification.specs.Types.{Ty}
use Rattle.unification.proofs.Walking.{Anything, walk, or_either}
use Rattle.unification.proofs.Canonical.{place_below}
use Rattle.type_nodes.specs.Tables.{Table, type_of}
use Rattle.static_semantics.specs.DatatypeInference.{counted}
use Rattle.listed_types.specs.declared.listed.ListedType.{ListedType}
use Rattle.datatype_elab.specs.declared.cons.ConRead.{ConRead}
use Rattle.datatype_elab.specs.declared.cons.Variables.{Variables}
use Rattle.datatype_elab.specs.declared.dats.DatRead.{DatRead}
use Rattle.datatype_elab.specs.Reading.{IsArgument, AreCons}
use Rattle.datatype_elab.specs.Listing.{AreDats}
use Rattle.datatype_elab.specs.Making.{ArgBinds, AreBound}
use Rattle.datatype_elab.specs.Binding.{AllBound}
use Rattle.datatype_elab.proofs.OwnTypes.{length-counted}

variable_bound : (vs : List ℕ) (n : ℕ) (c : Bool) → is_among n vs ≡ c → (i : ℕ)
    → binds i (cond c (Tree.Bound (place_of n vs)) (Tree.Free n)) ≡ true → i < length vs
variable_bound vs n true e i h = subst (λ z. z < length vs) (sym (eqb-true i (place_of n vs) h)) (place_below n vs e)
variable_bound vs n false e i h = absurd (cc)

closed_binds : (vs : List ℕ) (t : Ty) (i : ℕ) → binds i (closed_over vs t) ≡ true → i < length vs
closed_binds vs t = walk Anything (λ u. (i : ℕ) → binds i (closed_over vs u) ≡ true → i < length vs)
    (λ us. (i : ℕ) → binds_any i (closed_over_all vs us) ≡ true → i < length vs)
    (record {
      variable = λ n _. variable_bound vs n (is_among n vs) refl;
      made = λ c ts h. h;
      none = λ i h. absurd (cc);
      more = λ u us k ks i h. or_either (binds i (closed_over vs u)) (binds_any i (closed_over_all vs us)) h (k i)
          (ks i);
    })
    t (λ n _. tt)

argument_bound : (t : Table) (vs : Variables) (arg : Option ListedType) → IsArgument t vs arg → ArgBinds vs.count arg
argument_bound t vs None h = tt
argument_bound t vs (Some a) h = subst (BindsBelow vs.count) (sym h.1)
    (subst (λ k. BindsBelow k (closed_over (counted vs.count vs.first) (type_of t a.id)))
    (length-counted vs.count vs.first) (closed_binds (counted vs.count vs.first) (type_of t a.id)))

cons_bound : (t : Table) (vs : Variables) (cons : List ConRead) → AreCons t vs cons → AreBound vs.count cons
cons_bound t vs [] h = tt
cons_bound t vs (con ∷ cons) h = (argument_bound t vs con.arg h.0, cons_bound t vs cons h.1)

pub dats_bound : (t : Table) (dats : List DatRead) → AreDats t dats → AllBound dats
dats_bound t [] h = tt
dats_bound t (dat ∷ dats) h = (
  subst (λ k. AreBound k dat.cons) h.0.counted (cons_bound t dat.variables dat.cons h.0.cons),
  dats_bound t dats h.1,
)
