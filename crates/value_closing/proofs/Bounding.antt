-- Values that are bound one after another, with what the table has of their schemes.
use Rattle.std.proofs.Common.{◌≡◌, List, [], ◌∷◌, ◌++◌, append_assoc, refl, sym, ap, ◌∙◌, subst}
use Rattle.type_nodes.specs.Tables.{Table, state}
use Rattle.sml_modules.specs.Items.{map_rows}
use Rattle.name_trails.specs.Trails.{Rows}
use Rattle.core_scopes.specs.declared.made.NamedInScope.{NamedInScope}
use Rattle.core_scopes.specs.declared.value.BoundValue.{BoundValue}
use Rattle.core_scopes.specs.declared.value.NamedBound.{NamedBound}
use Rattle.core_scopes.specs.declared.value.ValueInScope.{ValueInScope}
use Rattle.core_scopes.specs.Scopes.{value_of, AreHeld}
use Rattle.core_scopes.specs.Listed.{bound_rows, scope_rows}
use Rattle.core_scopes.proofs.Scoping.{map_append, held_append}
use Rattle.type_phrases.specs.Inferred.{KeepsTypes}
use Rattle.type_phrases.proofs.Keeping.{keeps_all, keeps_later}
use Rattle.pattern_elab.specs.declared.own.OwnVariable.{OwnVariable}
use Rattle.pattern_elab.specs.Scopes.{IsEnteredIn}
use Rattle.pattern_elab.proofs.Scoping.{values_later}
use Rattle.value_closing.specs.Under.{IsGiven}

-- what was bound so far, and the values that are left
pub record BoundSoFar (asked : Type 0) (first : Table) (values : List (NamedInScope OwnVariable)) (now : Table)
    (bounds : List (NamedBound OwnVariable)) (left : List (NamedInScope OwnVariable)) : Type 0 where
  pub rows : map_rows value_of (bound_rows bounds) ++ scope_rows left ≡ scope_rows values
  pub entered : AreHeld (IsEnteredIn now) (bound_rows bounds)
  pub given : asked → AreHeld IsGiven (bound_rows bounds)
  pub state : state now ≡ state first
  pub kept : KeepsTypes first now

pub bound_begin : (asked : Type 0) (t : Table) (values left : List (NamedInScope OwnVariable))
    (bounds : List (NamedBound OwnVariable)) → bounds ≡ [] → left ≡ values → BoundSoFar asked t values t bounds left
bound_begin asked t values left bounds n e = record {
  rows = ap (λ (z : List (NamedBound OwnVariable)). map_rows value_of (bound_rows z) ++ scope_rows left) n
      ∙ ap (λ (z : List (NamedInScope OwnVariable)). scope_rows z) e;
  entered = subst (λ (z : List (NamedBound OwnVariable)). AreHeld (IsEnteredIn t) (bound_rows z)) (sym n) tt;
  given = λ a. subst (λ (z : List (NamedBound OwnVariable)). AreHeld IsGiven (bound_rows z)) (sym n) tt;
  state = refl;
  kept = keeps_all t;
}

rows_snoc : (bounds : List (NamedBound OwnVariable)) (x : NamedBound OwnVariable)
    → bound_rows (bounds ++ x ∷ []) ≡ bound_rows bounds ++ (x.name, x.bound) ∷ []
rows_snoc [] x = refl
rows_snoc (b ∷ bounds) x = ap (λ (z : Rows (BoundValue OwnVariable)). (b.name, b.bound) ∷ z) (rows_snoc bounds x)

pub bound_next : (asked : Type 0) (first now new : Table) (values : List (NamedInScope OwnVariable))
    (bounds more : List (NamedBound OwnVariable)) (named : NamedInScope OwnVariable) (bound : BoundValue OwnVariable)
    (left rest : List (NamedInScope OwnVariable)) → BoundSoFar asked first values now bounds left
    → left ≡ named ∷ rest → bound.value ≡ named.entry → IsEnteredIn new bound → (asked → IsGiven bound) → state new ≡ state now → KeepsTypes now new
    → more ≡ bounds ++ record { name = named.name; bound = bound } ∷ []
    → BoundSoFar asked first values new more rest
bound_next asked first now new values bounds more named bound left rest s e value entered given same keeps is =
    let x : NamedBound OwnVariable = record { name = named.name; bound = bound } in
    let rows : bound_rows more ≡ bound_rows bounds ++ (named.name, bound) ∷ [] =
    ap (λ (z : List (NamedBound OwnVariable)). bound_rows z) is ∙ rows_snoc bounds x in
    record {
      rows =
          ap (λ (z : Rows (BoundValue OwnVariable)). map_rows value_of z ++ scope_rows rest) rows
          ∙ ap (λ (z : Rows (ValueInScope OwnVariable)). z ++ scope_rows rest)
          (map_append value_of (bound_rows bounds) ((named.name, bound) ∷ []))
          ∙ append_assoc (map_rows value_of (bound_rows bounds)) ((named.name, bound.value) ∷ []) (scope_rows rest)
          ∙ ap (λ (v : ValueInScope OwnVariable).
          map_rows value_of (bound_rows bounds) ++ (named.name, v) ∷ scope_rows rest) value
          ∙ ap (λ (z : List (NamedInScope OwnVariable)). map_rows value_of (bound_rows bounds) ++ scope_rows z) (sym e)
          ∙ s.rows;
      entered = subst (AreHeld (IsEnteredIn new)) (sym rows)
          (held_append (IsEnteredIn new) (bound_rows bounds) ((named.name, bound) ∷ [])
          (values_later now new (bound_rows bounds) keeps s.entered) (entered, tt));
      given = λ a. subst (AreHeld IsGiven) (sym rows)
          (held_append IsGiven (bound_rows bounds) ((named.name, bound) ∷ []) (s.given a) (given a, tt));
      state = same ∙ s.state;
      kept = keeps_later first now new s.kept keeps;
    }
