-- The value of a condition: a number of 64 bits, or none where it is undefined.
use Rattle.std.specs.Prelude.{ℕ, Bool, true, false, not, ◌&&◌, Option, None, Some, Result, Ok, Err, List, [], ◌∷◌, nat_eq, is_some, if◌then◌else◌, ℤ, pos, ◌+ℤ◌, ◌-ℤ◌, ◌*ℤ◌, int_lt}
use Rattle.std.specs.Ordering.{int_eq}
use Rattle.std.specs.List.{list_any}
use Rattle.std.specs.Option.{unwrap_or}
use Rattle.cm_base.specs.declared.diag.Diag.{Diag}
use Rattle.cm_base.specs.declared.diag.Place.{Place}
use Rattle.cm_base.specs.declared.record.Def.{Def}
use Rattle.cm_base.specs.declared.record.ModName.{ModName}
use Rattle.cm_base.specs.declared.record.Namespace.{Namespace}
use Rattle.cm_base.specs.declared.record.Namespace.TheVariants as space
use Rattle.cm_conditions.specs.Arithmetic.{in_range, truth, div_of, mod_of}
use Rattle.cm_conditions.specs.declared.cond.Cond.{Cond}
use Rattle.cm_conditions.specs.declared.cond.Cond.TheOpen.{Cond-F, Step-F}
use Rattle.cm_conditions.specs.declared.cond.Cond.TheFolds.{fold-Cond, fold-Step}
use Rattle.cm_conditions.specs.declared.cond.Step.{Step}
use lib.Pointwise.{pointwise}

-- the value of the first definition of a name, if there is one
abbrev pub def_of : List Def → List ℕ → Option ℤ
def_of [] name = None
def_of (def ∷ defs) name = if pointwise nat_eq def.name name then Some def.value else def_of defs name

-- whether two name spaces are one
abbrev pub same_space : Namespace → Namespace → Bool
same_space space.Structure space.Structure = true
same_space space.Signature space.Signature = true
same_space space.Functor space.Functor = true
same_space space.Funsig space.Funsig = true
same_space _ _ = false

-- whether two names are of one module
abbrev pub same_module : ModName → ModName → Bool
same_module a b = same_space a.space b.space && pointwise nat_eq a.name b.name

-- whether a module is among these
abbrev pub has_module : List ModName → ModName → Bool
has_module modules wanted = list_any (λ other. same_module other wanted) modules

-- goes on with a value, if there is one
abbrev pub with : {A B : Type 0} → Option A → (A → Option B) → Option B
with None f = None
with (Some a) f = f a

-- 0 alone is false
abbrev pub holds : ℤ → Bool
holds x = not (int_eq x (pos 0))

-- one operator after the other, from a first value on
abbrev pub steps_value : List (ℤ → Option ℤ) → Option ℤ → Option ℤ
steps_value [] left = left
steps_value (step ∷ steps) left = steps_value steps (with left step)

-- A condition of which the parts have these values, where names have definitions and modules are there as given.
abbrev pub cond_level : (List ℕ → Option ℤ) → (ModName → Bool) → Cond-F (Option ℤ) (ℤ → Option ℤ) → Option ℤ
cond_level defs there (Cond-F.Number n) = Some n
cond_level defs there (Cond-F.Name name) = Some (unwrap_or (defs name) (pos 0))
cond_level defs there (Cond-F.Defined name) = Some (truth (is_some (defs name)))
cond_level defs there (Cond-F.Provided wanted) = Some (truth (there wanted))
cond_level defs there (Cond-F.Parens inner) = inner
cond_level defs there (Cond-F.Not inner) = with inner (λ x. Some (truth (not (holds x))))
cond_level defs there (Cond-F.Chain first steps) = steps_value steps first

-- An operator whose right side has this value, behind a left side of that one. `andalso` and `orelse` leave the right
-- side where the left decides.
abbrev pub step_level : Step-F (Option ℤ) (ℤ → Option ℤ) → ℤ → Option ℤ
step_level (Step-F.Multiply right) x = with right (λ y. in_range (x *ℤ y))
step_level (Step-F.Div right) x = with right (λ y. div_of x y)
step_level (Step-F.Mod right) x = with right (λ y. mod_of x y)
step_level (Step-F.Add right) x = with right (λ y. in_range (x +ℤ y))
step_level (Step-F.Subtract right) x = with right (λ y. in_range (x -ℤ y))
step_level (Step-F.Equal right) x = with right (λ y. Some (truth (int_eq x y)))
step_level (Step-F.Unequal right) x = with right (λ y. Some (truth (not (int_eq x y))))
step_level (Step-F.Less right) x = with right (λ y. Some (truth (int_lt x y)))
step_level (Step-F.LessEqual right) x = with right (λ y. Some (truth (not (int_lt y x))))
step_level (Step-F.Greater right) x = with right (λ y. Some (truth (int_lt y x)))
step_level (Step-F.GreaterEqual right) x = with right (λ y. Some (truth (not (int_lt x y))))
step_level (Step-F.Andalso right) x =
    if holds x then with right (λ y. Some (truth (holds y))) else Some (truth false)
step_level (Step-F.Orelse right) x =
    if holds x then Some (truth true) else with right (λ y. Some (truth (holds y)))

-- the value of a condition, where names have definitions and modules are there as given
unfoldable pub value_by : (List ℕ → Option ℤ) → (ModName → Bool) → Cond → Option ℤ
value_by defs there cond = fold-Cond (Option ℤ) (ℤ → Option ℤ) (cond_level defs there) step_level cond

-- the value behind an operator, from that of its left side
unfoldable pub step_by : (List ℕ → Option ℤ) → (ModName → Bool) → Step → ℤ → Option ℤ
step_by defs there step = fold-Step (Option ℤ) (ℤ → Option ℤ) (cond_level defs there) step_level step

-- the value of a condition, under these definitions, where these modules are there
abbrev pub condition_value : List Def → List ModName → Cond → Option ℤ
condition_value defs exports cond = value_by (def_of defs) (has_module exports) cond

abbrev pub bad_condition : Place → Diag
bad_condition at = record { number = 3; at = at; names = [] }

-- a value, or the refusal of the condition at this place
abbrev pub value_at : Place → Option ℤ → Result ℤ Diag
value_at at None = Err (bad_condition at)
value_at at (Some x) = Ok x
