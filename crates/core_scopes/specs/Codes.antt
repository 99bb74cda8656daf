-- How the logic stores the bindings of a scope: as lists and sums of what it has codes for.
use Rattle.std.specs.Prelude.{◌≡◌, refl, ℕ, ◌⊎◌, Option}
use Rattle.std.specs.Coded.{Coded, code_by, coded_ℕ, coded_list, coded_option, coded×, coded⊎}
use mathlib.Core.Logic.{inl, inr}
use Rattle.semantic_objects.specs.declared.name.TyId.{TyId}
use Rattle.semantic_objects.specs.declared.entry.TypeStr.{TypeStr}
use Rattle.semantic_objects.specs.declared.entry.ValueEntry.{ValueEntry}
use Rattle.semantic_objects.specs.contracts.name.TyId as ty_id
use Rattle.semantic_objects.specs.contracts.entry.TypeStr as type_str
use Rattle.semantic_objects.specs.contracts.entry.ValueEntry as value_entry
use Rattle.sml_modules.specs.declared.id.EnvId.{EnvId}
use Rattle.sml_modules.specs.contracts.id.EnvId as env_id
use Rattle.name_trails.specs.Trails.{Rows}
use Rattle.table_schemes.specs.declared.scheme.TableScheme.{TableScheme}
use Rattle.table_schemes.specs.contracts.scheme.TableScheme as table_scheme
use Rattle.core_scopes.specs.declared.value.ValueInScope.{ValueInScope}
use Rattle.core_scopes.specs.declared.value.ValueInScope.TheVariants as value
use Rattle.core_scopes.specs.declared.value.BoundValue.{BoundValue}
use Rattle.core_scopes.specs.Scopes.{Bindings}

abbrev pub rows_code : {A : Type 0} → Coded A → Coded (Rows A)
rows_code a = coded_list (coded× (coded_list coded_ℕ) a)

abbrev pub split : {V : Type 0} → ValueInScope V → ValueEntry ⊎ V
split (value.Entry entry) = inl entry
split (value.Own own) = inr own

abbrev pub join : {V : Type 0} → ValueEntry ⊎ V → ValueInScope V
join (inl entry) = value.Entry entry
join (inr own) = value.Own own

pub join-split : {V : Type 0} (x : ValueInScope V) → join (split x) ≡ x
join-split (value.Entry entry) = refl
join-split (value.Own own) = refl

abbrev pub value_code : {V : Type 0} → Coded V → Coded (ValueInScope V)
value_code {V} v = code_by (ValueEntry ⊎ V) (coded⊎ value_entry.the_row.coded v) split join join-split

abbrev pub bound_code : {V : Type 0} → Coded V → Coded (BoundValue V)
bound_code {V} v =
    code_by (ValueInScope V × Option TableScheme) (coded× (value_code v) (coded_option table_scheme.the_row.coded))
    (λ b. (b.value, b.scheme)) (λ p. record { value = p.0; scheme = p.1 }) (λ _. refl)

abbrev pub bindings_code : {V : Type 0} → Coded V → Coded (Bindings V)
bindings_code {V} v =
    code_by ((EnvId × (Rows EnvId × Rows TypeStr)) × (Rows (BoundValue V) × (Rows TyId × ℕ)))
    (coded× (coded× env_id.the_row.coded (coded× (rows_code env_id.the_row.coded) (rows_code type_str.the_row.coded)))
    (coded× (rows_code (bound_code v)) (coded× (rows_code ty_id.the_row.coded) coded_ℕ)))
    (λ sc. ((sc.below, (sc.structures, sc.types)), (sc.values, (sc.written, sc.hidden))))
    (λ p. record {
      below = p.0.0;
      structures = p.0.1.0;
      types = p.0.1.1;
      values = p.1.0;
      written = p.1.1.0;
      hidden = p.1.1.1;
    })
    (λ _. refl)
