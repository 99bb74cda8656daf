-- Scopes that the variables of patterns are entered into, one after the other.
use Rattle.std.proofs.Common.{◌≡◌, ℕ, ◌+◌, ◌<◌, ◌≤◌, List, [], ◌∷◌, ◌++◌, append_assoc, length, drop, get_or, refl, sym, ap, ap₂, ◌∙◌, subst, add-one, drop-cons}
use Rattle.semantic_objects.specs.declared.name.TyId.{TyId}
use Rattle.semantic_objects.specs.Environments.{Env, with_value}
use Rattle.type_nodes.specs.Tables.{Table}
use Rattle.sml_modules.specs.Items.{map_rows}
use Rattle.sml_modules.specs.Graphs.{Graph}
use Rattle.sml_types.proofs.Frames.{drop_past}
use Rattle.name_trails.specs.Trails.{Rows}
use Rattle.static_semantics.specs.Inferring.{with_bound}
use Rattle.core_scopes.specs.declared.value.ValueInScope.TheVariants as value
use Rattle.core_scopes.specs.declared.value.BoundValue.{BoundValue}
use Rattle.core_scopes.specs.Scopes.{Bindings, bare, seen, written_of, entry_of, IsScopeOf}
use Rattle.core_scopes.specs.Marks.{IsFrontOf, Becomes, AddsBare}
use Rattle.core_scopes.proofs.Scoping.{fronts_go_on, map_append, adds_nothing, held_bare}
use Rattle.pattern_elab.specs.declared.own.OwnVariable.{OwnVariable}
use Rattle.pattern_elab.specs.Scopes.{own_entry, bound_of, variable_of, scope_of, IsCoreScope, IsEnteredIn, AreVariables}
use Rattle.core_rules.specs.Entered.{IsEntered}

-- what a call that binds a variable of a pattern makes of a scope
abbrev pub BindsOwn : Bindings OwnVariable → List ℕ → OwnVariable → Bindings OwnVariable → Type 0
BindsOwn old name own new = (g : Graph) → Becomes g old new
    (λ read. with_value name (entry_of read (value.Own own)) (seen g read old)) (written_of old)

-- what holds before a row: the rows that are left make of the scope what all make of the one before
pub record EnteredSoFar (rows : Rows OwnVariable) (i : ℕ) (old now : Bindings OwnVariable) : Type 0 where
  pub left : (g : Graph)
      → with_bound (bound_of (drop i rows)) (seen g own_entry now) ≡ with_bound (bound_of rows) (seen g own_entry old)
  pub written : written_of now ≡ written_of old
  pub front : IsFrontOf old now
  pub there : (g : Graph) → IsScopeOf g old → IsScopeOf g now
  pub bare : AddsBare old now

-- values of which a table has nothing, and then more
bare_then : (a b c : Bindings OwnVariable) → AddsBare a b → AddsBare b c → AddsBare a c
bare_then a b c h k = (
  h.0 ++ k.0,
  k.1 ∙ ap (λ (z : Rows (BoundValue OwnVariable)). z ++ map_rows bare k.0) h.1
      ∙ append_assoc a.values (map_rows bare h.0) (map_rows bare k.0)
      ∙ ap (λ (z : Rows (BoundValue OwnVariable)). a.values ++ z) (sym (map_append bare h.0 k.0)),
)

pub entered_begin : (rows : Rows OwnVariable) (old : Bindings OwnVariable) → IsFrontOf old old
    → EnteredSoFar rows 0 old old
entered_begin rows old h = record {
  left = λ g. refl;
  written = refl;
  front = h;
  there = λ g k. k;
  bare = adds_nothing old old refl;
}

-- some graph: marks hang on none
no_graph : Graph
no_graph = record { items = []; home = []; made = [] }

pub left_row : {A : Type 0} (xs : List A) (i : ℕ) (x : A) → i < length xs → x ≡ get_or xs i x
    → drop i xs ≡ x ∷ drop (i + 1) xs
left_row {A} xs i x h e = drop-cons xs i x h ∙ ap₂ (λ (y : A) n. y ∷ drop n xs) (sym e) (sym (add-one i))

pub entered_next : (rows : Rows OwnVariable) (i : ℕ) (row : List ℕ × OwnVariable) (old now new : Bindings OwnVariable)
    → EnteredSoFar rows i old now → i < length rows → row ≡ get_or rows i row → BindsOwn now row.0 row.1 new → AddsBare now new
    → EnteredSoFar rows (i + 1) old new
entered_next rows i row old now new s h e b more = record {
  left = λ g. ap (λ (env : Env). with_bound (bound_of (drop (i + 1) rows)) env) ((b g).seen own_entry)
      ∙ sym (ap (λ (z : Rows OwnVariable). with_bound (bound_of z) (seen g own_entry now)) (left_row rows i row h e))
      ∙ s.left g;
  written = (b no_graph).written ∙ s.written;
  front = fronts_go_on OwnVariable old now new s.front (b no_graph).front;
  there = λ g k. (b g).there (s.there g k);
  bare = bare_then old now new s.bare more;
}

core_same : (g : Graph) (t : Table) (old new : Bindings OwnVariable) → AddsBare old new → written_of new ≡ written_of old
    → (IsScopeOf g old → IsScopeOf g new) → IsCoreScope g t old → IsCoreScope g t new
core_same g t old new more e h k = record {
  there = h k.there;
  written = subst (AreVariables t) (sym e) k.written;
  entered = held_bare (IsEnteredIn t) old new (λ x. tt) more k.entered;
}

scope_made : (g : Graph) (old new : Bindings OwnVariable) (env : Env) → seen g own_entry new ≡ env
    → written_of new ≡ written_of old
    → scope_of g new ≡ record { env = env; written = map_rows variable_of (written_of old); home = g.home }
scope_made g old new env e f =
    ap₂ (λ (z : Env) (w : Rows TyId). record { env = z; written = map_rows variable_of w; home = g.home }) e f

pub entered_end : (rows : Rows OwnVariable) (i : ℕ) (old now : Bindings OwnVariable) → EnteredSoFar rows i old now
    → length rows ≤ i → (g : Graph) → IsEntered g rows old now
entered_end rows i old now s h g = record {
  seen = scope_made g old now (with_bound (bound_of rows) (seen g own_entry old))
      (sym (ap (λ (z : Rows OwnVariable). with_bound (bound_of z) (seen g own_entry now)) (drop_past rows i h))
      ∙ s.left g) s.written;
  front = s.front;
  there = λ t k. core_same g t old now s.bare s.written (s.there g) k;
}

-- want of memory leaves the scope as it was
pub front_same : (old now new : Bindings OwnVariable) → IsFrontOf old now → new ≡ now → IsFrontOf old new
front_same old now new h e = subst (IsFrontOf old) (sym e) h
