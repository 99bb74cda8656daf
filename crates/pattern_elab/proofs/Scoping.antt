-- Scopes of the core beside tables that grow, and as the words of type phrases have them.
use Rattle.std.proofs.Common.{◌≡◌, ℕ, List, [], ◌∷◌, Option, Some, None, IfSome, Bor, Bool, true, false, if◌then◌else◌, length, slice_get, refl, sym, ap, ap₂, ◌∙◌, subst, arith}
use Rattle.std.specs.Option.{option_copied}
use Rattle.semantic_objects.specs.declared.name.TyId.{TyId}
use Rattle.semantic_objects.specs.declared.name.TyId.TheVariants as id
use Rattle.unification.specs.Types.{Ty}
use Rattle.type_nodes.specs.Tables.{Table, Has, type_of}
use Rattle.sml_modules.specs.Items.{map_rows}
use Rattle.sml_modules.specs.Graphs.{Graph}
use Rattle.semantic_objects.specs.declared.entry.ValueEntry.{ValueEntry}
use Rattle.semantic_objects.specs.Trees.{TypeScheme}
use Rattle.semantic_objects.specs.Tables.{entry}
use Rattle.semantic_objects.specs.Environments.{values}
use Rattle.static_semantics.specs.Inferring.{found_at}
use Rattle.sml_trees.specs.declared.name.LongName.{LongName}
use Rattle.name_trails.specs.Trails.{Rows, same, entry_after, last_entry}
use Rattle.table_schemes.specs.declared.scheme.TableScheme.{TableScheme}
use Rattle.table_schemes.proofs.Later.{scheme_later}
use Rattle.core_scopes.specs.declared.value.BoundValue.{BoundValue}
use Rattle.core_scopes.specs.declared.value.ValueInScope.{ValueInScope}
use Rattle.core_scopes.specs.Scopes.{Bindings, entry_of, bound_entry, seen, written_of, AreHeld, IsBare}
use Rattle.core_scopes.proofs.Scoping.{value_found}
use Rattle.type_phrases.specs.Inferred.{KeepsTypes, HaveRows, IsScopeOver, scope_in}
use Rattle.pattern_elab.specs.declared.own.OwnVariable.{OwnVariable}
use Rattle.pattern_elab.specs.Scopes.{own_entry, variable_of, scope_of, IsVariableOf, AreVariables, MayBeEntered, IsEnteredIn, IsCoreScope, IsLastUnder, StandsFor}

variable_read : (t : Table) (a : TyId) → IsVariableOf t a → type_of t a ≡ variable_of a
variable_read t (id.Variable n) h = refl
variable_read t (id.Made i) h = absurd h

variable_has : (t : Table) (a : TyId) → IsVariableOf t a → Has t a
variable_has t (id.Variable n) h = h
variable_has t (id.Made i) h = absurd h

variable_later : (a b : Table) (x : TyId) → KeepsTypes a b → IsVariableOf a x → IsVariableOf b x
variable_later a b (id.Variable n) k h = k.ids (id.Variable n) h
variable_later a b (id.Made i) k h = absurd h

rows_read : (t : Table) (rows : Rows TyId) → AreVariables t rows → map_rows (type_of t) rows ≡ map_rows variable_of rows
rows_read t [] h = refl
rows_read t (row ∷ rows) h = ap₂ (λ (u : Ty) rest. (row.0, u) ∷ rest) (variable_read t row.1 h.0) (rows_read t rows h.1)

rows_have : (t : Table) (rows : Rows TyId) → AreVariables t rows → HaveRows t rows
rows_have t [] h = tt
rows_have t (row ∷ rows) h = (variable_has t row.1 h.0, rows_have t rows h.1)

rows_later : (a b : Table) (rows : Rows TyId) → KeepsTypes a b → AreVariables a rows → AreVariables b rows
rows_later a b [] k h = tt
rows_later a b (row ∷ rows) k h = (variable_later a b row.1 k h.0, rows_later a b rows k h.1)

-- a scope of the core is one of a graph and a table
pub over_core : (g : Graph) (t : Table) (sc : Bindings OwnVariable) → IsCoreScope g t sc → IsScopeOver g t sc
over_core g t sc h = record { there = h.there; written = rows_have t (written_of sc) h.written }

-- and what is in scope is the same
pub scope_core : (g : Graph) (t : Table) (sc : Bindings OwnVariable) → IsCoreScope g t sc
    → scope_in g t own_entry sc ≡ scope_of g sc
scope_core g t sc h =
    ap (λ (rows : List (_ × Ty)). record { env = seen g own_entry sc; written = rows; home = g.home })
    (rows_read t (written_of sc) h.written)

-- ---- what the table has

entered_later : (a b : Table) (σ : TypeScheme) (o : Option TableScheme) → KeepsTypes a b → MayBeEntered a σ o → MayBeEntered b σ o
entered_later a b σ None k h = tt
entered_later a b σ (Some scheme) k h = scheme_later a b σ scheme (record { types = k.types; ids = k.ids }) h

pub values_later : (a b : Table) (rows : Rows (BoundValue OwnVariable)) → KeepsTypes a b → AreHeld (IsEnteredIn a) rows
    → AreHeld (IsEnteredIn b) rows
values_later a b [] k h = tt
values_later a b (row ∷ rows) k h =
    (entered_later a b (entry_of own_entry row.1.value).scheme row.1.scheme k h.0, values_later a b rows k h.1)

bare_is : (t : Table) (σ : TypeScheme) (o : Option TableScheme) → o ≡ None → MayBeEntered t σ o
bare_is t σ None e = tt
bare_is t σ (Some x) e = absurd (cc)

-- where it has nothing, it has no more than it is said to have
pub bare_entered : (t : Table) (rows : Rows (BoundValue OwnVariable)) → AreHeld IsBare rows → AreHeld (IsEnteredIn t) rows
bare_entered t [] h = tt
bare_entered t (row ∷ rows) h =
    (bare_is t (entry_of own_entry row.1.value).scheme row.1.scheme h.0, bare_entered t rows h.1)

some_is : {A : Type 0} (x y : A) → Some x ≡ Some y → x ≡ y
some_is x y h = cc

-- what the last binding of a name gives it is of a row
held_after : {A : Type 0} (P : A → Type 0) (rows : Rows A) (name : List ℕ) (o : Option A) (x : A) → AreHeld P rows
    → ((y : A) → o ≡ Some y → P y) → entry_after o rows name ≡ Some x → P x
held_after P [] name o x h k e = k x e
held_after {A} P (row ∷ rows) name o x h k e =
    held_after P rows name (if same row.0 name then Some row.1 else o) x h.1 (by_test (same row.0 name)) e
  where
    by_test : (c : Bool) (y : A) → (if c then Some row.1 else o) ≡ Some y → P y
    by_test true y g = subst P (some_is row.1 y g) h.0
    by_test false y g = k y g

pub held_last : {A : Type 0} (P : A → Type 0) (rows : Rows A) (name : List ℕ) (x : A) → AreHeld P rows
    → last_entry rows name ≡ Some x → P x
unfolding last_entry
held_last P rows name x h e = held_after P rows name None x h (λ y g. absurd (cc)) e

one_part : (parts : List (List ℕ)) (name : List ℕ) → length parts ≡ 1 → Some name ≡ slice_get parts 0 → parts ≡ name ∷ []
one_part [] name h k = absurd (omega (arith, h))
one_part (x ∷ []) name h k = (let e : name ≡ x = cc in ap (λ (y : List ℕ). y ∷ []) (sym e))
one_part (x ∷ y ∷ rest) name h k = absurd (omega (arith, h))

pub last_under : (sc : Bindings OwnVariable) (long : LongName) (name : List ℕ) (b : BoundValue OwnVariable)
    → length long.parts ≡ 1 → Some name ≡ slice_get long.parts 0 → last_entry sc.values name ≡ Some b
    → IsLastUnder sc long b
last_under sc long name b h k e = (name, one_part long.parts name h k, e)

pub copied_is : {A : Type 0} {Q : A → Type 0} (o : Option (Bor A)) (w : Option A) → option_copied o ≡ w
    → ((x : A) → w ≡ Some x → Q x) → IfSome o (λ b. Q b.now)
copied_is None w e h = tt
copied_is (Some b) w e h = h b.now (sym e)

-- the table has what it is said to have of it
pub entered_under : (t : Table) (sc : Bindings OwnVariable) (long : LongName) (b : BoundValue OwnVariable)
    → AreHeld (IsEnteredIn t) sc.values → IsLastUnder sc long b → IsEnteredIn t b
entered_under t sc long b h l = held_last (IsEnteredIn t) sc.values l.0 b h l.2

-- and it is what the name stands for
pub same_under : (sc : Bindings OwnVariable) (long : LongName) (b : BoundValue OwnVariable)
    (value : ValueInScope OwnVariable) → IsLastUnder sc long b → StandsFor sc long value
    → entry_of own_entry b.value ≡ entry_of own_entry value
same_under sc long b value l s =
    some_is (entry_of own_entry b.value) (entry_of own_entry value)
    (value_found s.0 sc l.0 own_entry b l.2
    ∙ ap (λ (parts : List (List ℕ)). found_at values parts (seen s.0 own_entry sc)) (sym l.1) ∙ s.1)

-- it stays one while the table grows
pub core_later : (g : Graph) (a b : Table) (sc : Bindings OwnVariable) → KeepsTypes a b → IsCoreScope g a sc
    → IsCoreScope g b sc
core_later g a b sc k h = record {
  there = h.there;
  written = rows_later a b (written_of sc) k h.written;
  entered = values_later a b sc.values k h.entered;
}
