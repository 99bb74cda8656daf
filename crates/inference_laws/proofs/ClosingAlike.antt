-- Exceptions, replication, `open` and the closing of a `val` in environments that are seen alike.
use Rattle.std.proofs.Common.{◌≡◌, ℕ, List, [], ◌∷◌, ◌++◌, refl, ap, ap₂, ◌∙◌, subst, Option, Some, None, Bool, true, false, ◌||◌, cond, not}
use Rattle.std.specs.Option.{is_some}
use Rattle.sml_trees.specs.declared.name.At.{At}
use Rattle.sml_trees.specs.declared.name.Name.{Name}
use Rattle.sml_trees.specs.declared.name.LongName.{LongName}
use Rattle.semantic_objects.specs.declared.entry.ValueEntry.{ValueEntry}
use Rattle.semantic_objects.specs.declared.entry.VidStatus.TheVariants as status
use Rattle.semantic_objects.specs.Tables.{entry}
use Rattle.semantic_objects.specs.Trees.{TypeScheme}
use Rattle.semantic_objects.specs.Environments.{Env, structures, types, values, empty_env, modified_by, with_value}
use Rattle.unification.specs.Types.{Ty, State, Substitution, put}
use Rattle.unification.specs.Closing.{found_in, scheme_over}
use Rattle.unification.proofs.Closing.{found_same}
use Rattle.bare_phrases.specs.Phrases.{ExBodyPhrase, ExPhrase}
use Rattle.static_semantics.specs.BasicTypes.{exn_ty, arrow_ty, is_one_of, reserved_constructors}
use Rattle.static_semantics.specs.Inferring.{Progress, Scope, name_at, long_at, known, found_at, Bound, free_in_env}
use Rattle.static_semantics.specs.TypeInference.{infer_ty}
use Rattle.static_semantics.specs.DatatypeInference.{with_datatype, infer_replication, is_exception, exception_entry, exception_of, infer_exceptions, exceptions_of}
use Rattle.static_semantics.specs.CoreInference.{Group, closed_where, closed_variables, closed_groups, left_over, none_left, closed_val, infer_open}
use Rattle.static_semantics.specs.Holding.{Given}
use Rattle.inference_laws.specs.Alike.{RowsAlike, Both, ValuesAlike, TypesSame, SeenAlike, SameTy, in_env}
use Rattle.inference_laws.proofs.Alike.{same_then, both_plain, both_where, both_known, found_some, rows_alike_found, alike_found, alike_structures, alike_types, alike_values, alike_nothing, alike_with_value, alike_modified}
use Rattle.inference_laws.proofs.SameTypes.{given_any, ty_same, ItselfIn, value_itself, datatype_itself}
use Rattle.inference_laws.proofs.SeenLater.{types_of_seen, value_alike}

-- ---- exceptions

exception_alike : (s : Substitution) (sc : Scope) (f : Env) (body : ExBodyPhrase) → SeenAlike s sc.env f
    → Both (ValuesAlike s) (exception_of sc body) (exception_of (in_env f sc) body)
exception_alike s sc f ExBodyPhrase.Plain h = value_itself s (exception_entry exn_ty) refl
exception_alike s sc f (ExBodyPhrase.Of ty) h =
    same_then (λ t. Unit {0}) (ValuesAlike s) (infer_ty sc ty) (infer_ty (in_env f sc) ty) _ _
    (ty_same sc f ty (types_of_seen s sc.env f h)) (given_any (infer_ty sc ty))
    (λ t _. value_itself s (exception_entry (arrow_ty t exn_ty)) refl)
exception_alike s sc f (ExBodyPhrase.Copy long) h =
    both_plain (λ v. Unit {0}) (ValuesAlike s) (ValuesAlike s) (known sc long (found_at values long.parts sc.env))
    (known (in_env f sc) long (found_at values long.parts f)) _ _
    (given_any (known sc long (found_at values long.parts sc.env))) (value_alike s sc f long h) (λ v w _ k.
    both_where (ValuesAlike s) (not (is_exception v.status)) (not (is_exception w.status)) 34 sc f (long_at long) _ _
    (ap (λ z. not (is_exception z)) k.status) k)

exceptions_in_alike : (s : Substitution) (sc : Scope) (f : Env) (binds : List ExPhrase) (made other : Env)
    → SeenAlike s sc.env f → SeenAlike s made other
    → Both (SeenAlike s) (infer_exceptions sc binds made) (infer_exceptions (in_env f sc) binds other)
exceptions_in_alike s sc f [] made other h k = k
exceptions_in_alike s sc f (bind ∷ binds) made other h k =
    both_where (SeenAlike s) (is_one_of reserved_constructors bind.name.text)
    (is_one_of reserved_constructors bind.name.text) 34 sc f (name_at bind.name) _ _ refl
    (both_where (SeenAlike s) (is_some (entry bind.name.text (values made)))
    (is_some (entry bind.name.text (values other)))
    40 sc f (name_at bind.name) _ _ (found_some (ValuesAlike s) (entry bind.name.text (values made))
    (entry bind.name.text (values other)) (rows_alike_found (ValuesAlike s) bind.name.text (values made) (values other)
    (alike_values (ValuesAlike s) TypesSame made other k)))
    (both_plain (λ v. Unit {0}) (ValuesAlike s) (SeenAlike s) (exception_of sc bind.body)
    (exception_of (in_env f sc) bind.body) _ _ (given_any (exception_of sc bind.body))
    (exception_alike s sc f bind.body h) (λ v w _ l.
    exceptions_in_alike s sc f binds (with_value bind.name.text v made) (with_value bind.name.text w other) h
    (alike_with_value (ValuesAlike s) TypesSame bind.name.text v w made other l k))))

pub exceptions_alike : (s : Substitution) (sc : Scope) (f : Env) (binds : List ExPhrase) → SeenAlike s sc.env f
    → Both (SeenAlike s) (exceptions_of sc binds) (exceptions_of (in_env f sc) binds)
exceptions_alike s sc f binds h = exceptions_in_alike s sc f binds empty_env empty_env h
    (alike_nothing (ValuesAlike s) TypesSame)

-- ---- replication and `open`

pub replication_alike : (s : Substitution) (sc : Scope) (f : Env) (name : Name) (long : LongName) → SeenAlike s sc.env f
    → Both (SeenAlike s) (infer_replication sc name long) (infer_replication (in_env f sc) name long)
replication_alike s sc f name long h =
    both_plain (λ v. Unit {0}) TypesSame (SeenAlike s) (known sc long (found_at types long.parts sc.env))
    (known (in_env f sc) long (found_at types long.parts f)) _ _
    (given_any (known sc long (found_at types long.parts sc.env)))
    (both_known TypesSame sc f long (found_at types long.parts sc.env) (found_at types long.parts f)
    (alike_found (ValuesAlike s) TypesSame TypesSame types (alike_types (ValuesAlike s) TypesSame) long.parts sc.env f
    h))
    (λ x y _ k. subst (λ z. SeenAlike s (with_datatype name.text x empty_env) (with_datatype name.text z empty_env))
    k.same
    (datatype_itself s name.text x empty_env k.shaped (alike_nothing (ValuesAlike s) TypesSame)))

open_in_alike : (s : Substitution) (sc : Scope) (f : Env) (longs : List LongName) (made other : Env)
    → SeenAlike s sc.env f → SeenAlike s made other
    → Both (SeenAlike s) (infer_open sc longs made) (infer_open (in_env f sc) longs other)
open_in_alike s sc f [] made other h k = k
open_in_alike s sc f (long ∷ longs) made other h k =
    both_plain (λ v. Unit {0}) (SeenAlike s) (SeenAlike s) (known sc long (found_at structures long.parts sc.env))
    (known (in_env f sc) long (found_at structures long.parts f)) _ _
    (given_any (known sc long (found_at structures long.parts sc.env)))
    (both_known (SeenAlike s) sc f long (found_at structures long.parts sc.env) (found_at structures long.parts f)
    (alike_found (ValuesAlike s) TypesSame (SeenAlike s) structures (alike_structures (ValuesAlike s) TypesSame)
    long.parts
    sc.env f h))
    (λ x y _ l. open_in_alike s sc f longs (modified_by made x) (modified_by other y) h
    (alike_modified (ValuesAlike s) TypesSame made other x y k l))

pub open_alike : (s : Substitution) (sc : Scope) (f : Env) (longs : List LongName) → SeenAlike s sc.env f
    → Both (SeenAlike s) (infer_open sc longs empty_env) (infer_open (in_env f sc) longs empty_env)
open_alike s sc f longs h = open_in_alike s sc f longs empty_env empty_env h (alike_nothing (ValuesAlike s) TypesSame)

-- ---- the closing of a `val`

-- what holds of two lists pair by pair
abbrev pub ItemsAlike : {A : Type 0} → (A → A → Type 0) → List A → List A → Type 0
ItemsAlike R [] [] = Unit {0}
ItemsAlike R [] (y ∷ ys) = ⊥
ItemsAlike R (x ∷ xs) [] = ⊥
ItemsAlike R (x ∷ xs) (y ∷ ys) = R x y × ItemsAlike R xs ys

pub items_alike_after : {A : Type 0} (R : A → A → Type 0) (xs ys first second : List A) → ItemsAlike R xs ys
    → ItemsAlike R first second → ItemsAlike R (xs ++ first) (ys ++ second)
items_alike_after R [] [] first second h k = k
items_alike_after R [] (y ∷ ys) first second h k = absurd h
items_alike_after R (x ∷ xs) [] first second h k = absurd h
items_alike_after R (x ∷ xs) (y ∷ ys) first second h k = (h.0, items_alike_after R xs ys first second h.1 k)

pub items_alike_more : {A : Type 0} (R Q : A → A → Type 0) (xs ys : List A) → ((x y : A) → R x y → Q x y)
    → ItemsAlike R xs ys → ItemsAlike Q xs ys
items_alike_more R Q [] [] f h = tt
items_alike_more R Q [] (y ∷ ys) f h = absurd h
items_alike_more R Q (x ∷ xs) [] f h = absurd h
items_alike_more R Q (x ∷ xs) (y ∷ ys) f h = (f x y h.0, items_alike_more R Q xs ys f h.1)

-- bindings that are closed or not alike, with variables of the same types
abbrev pub GroupAlike : Substitution → Group → Group → Type 0
GroupAlike s g h = (g.0 ≡ h.0) × RowsAlike (SameTy s) g.1 h.1

-- two ways to tell what is kept that agree
abbrev pub Agree : (ℕ → Bool) → (ℕ → Bool) → Type 0
Agree kept other = (v : ℕ) → kept v ≡ other v

closed_same : (closes : Bool) (kept other : ℕ → Bool) (s : State) (a b : Ty) → Agree kept other → SameTy s.stands a b
    → closed_where closes kept s a ≡ closed_where closes other s b
closed_same true kept other s a b h e =
    ap (λ vs. scheme_over vs s.marks (put s.stands a)) (found_same kept other (put s.stands a) [] (λ n _. h n))
    ∙ ap (λ t. scheme_over (found_in other t []) s.marks t) e
closed_same false kept other s a b h e = ap (λ t. scheme_over [] s.marks t) e

value_of : TypeScheme → ValueEntry
value_of σ = record { status = status.Variable; scheme = σ }

variables_same : (closes : Bool) (kept other : ℕ → Bool) (s : State) (c d : Bound) (env : Env) → Agree kept other
    → RowsAlike (SameTy s.stands) c d
    → closed_variables closes kept s c env ≡ closed_variables closes other s d env
variables_same closes kept other s [] [] env h k = refl
variables_same closes kept other s [] (y ∷ ys) env h k = absurd k
variables_same closes kept other s (x ∷ xs) [] env h k = absurd k
variables_same closes kept other s (x ∷ xs) (y ∷ ys) env h k =
    ap₂ (λ n σ. closed_variables closes kept s xs
    (with_value n (let value : ValueEntry = record { status = status.Variable; scheme = σ } in value) env)) k.0
    (closed_same closes kept other s x.1 y.1 h k.1)
    ∙ variables_same closes kept other s xs ys
    (with_value y.0 (record { status = status.Variable; scheme = closed_where closes other s y.1 }) env) h k.2

groups_same : (kept other : ℕ → Bool) (s : State) (gs hs : List Group) (env : Env) → Agree kept other
    → ItemsAlike (GroupAlike s.stands) gs hs → closed_groups kept s gs env ≡ closed_groups other s hs env
groups_same kept other s [] [] env h k = refl
groups_same kept other s [] (y ∷ ys) env h k = absurd k
groups_same kept other s (x ∷ xs) [] env h k = absurd k
groups_same kept other s (x ∷ xs) (y ∷ ys) env h k =
    ap (closed_groups kept s xs) (ap (λ c. closed_variables c kept s x.1 env) k.0.0
    ∙ variables_same y.0 kept other s x.1 y.1 env h k.0.1)
    ∙ groups_same kept other s xs ys (closed_variables y.0 other s y.1 env) h k.1

left_same : (kept other : ℕ → Bool) (s : State) (made : Env) (own : List (List ℕ × ℕ)) → Agree kept other
    → left_over kept s made own ≡ left_over other s made own
left_same kept other s made [] h = refl
left_same kept other s made (row ∷ rows) h =
    ap₂ (λ b o. cond (b || free_in_env row.1 s.stands made) (Some row.0) o) (h row.1)
    (left_same kept other s made rows h)

none_left_same : (sc : Scope) (f : Env) (at : At) (x : Env × Progress) (o : Option (List ℕ))
    → none_left sc at x o ≡ none_left (in_env f sc) at x o
none_left_same sc f at x None = refl
none_left_same sc f at x (Some text) = refl

pub val_same : (sc : Scope) (f : Env) (at : At) (kept other : ℕ → Bool) (own : List (List ℕ × ℕ)) (gs hs : List Group)
    (st : Progress) → Agree kept other → ItemsAlike (GroupAlike st.types.stands) gs hs
    → closed_val sc at kept own gs st ≡ closed_val (in_env f sc) at other own hs st
val_same sc f at kept other own gs hs st h k =
    none_left_same sc f at (closed_groups kept st.types gs empty_env, st)
    (left_over kept st.types (closed_groups kept st.types gs empty_env) own)
    ∙ ap (none_left (in_env f sc) at (closed_groups kept st.types gs empty_env, st))
    (left_same kept other st.types (closed_groups kept st.types gs empty_env) own h)
    ∙ ap (λ made. none_left (in_env f sc) at (made, st) (left_over other st.types made own))
    (groups_same kept other st.types gs hs empty_env h k)

-- what is made is like itself
variables_itself : (p : Substitution) (closes : Bool) (kept : ℕ → Bool) (s : State) (c : Bound) (env : Env)
    → ItselfIn p env → ItselfIn p (closed_variables closes kept s c env)
variables_itself p closes kept s [] env h = h
variables_itself p closes kept s (x ∷ xs) env h =
    let value : ValueEntry = record { status = status.Variable; scheme = closed_where closes kept s x.1 } in
    variables_itself p closes kept s xs (with_value x.0 value env)
    (alike_with_value (ValuesAlike p) TypesSame x.0 value value env env
    (record { status = refl; marks = refl; body = refl; shaped = λ e. absurd (cc) }) h)

groups_itself : (p : Substitution) (kept : ℕ → Bool) (s : State) (gs : List Group) (env : Env) → ItselfIn p env
    → ItselfIn p (closed_groups kept s gs env)
groups_itself p kept s [] env h = h
groups_itself p kept s (g ∷ gs) env h = groups_itself p kept s gs (closed_variables g.0 kept s g.1 env)
    (variables_itself p g.0 kept s g.1 env h)

none_left_in : {A : Type 0} (R : A → Type 0) (sc : Scope) (at : At) (x : A) (o : Option (List ℕ)) → R x
    → Given R (none_left sc at x o)
none_left_in R sc at x None h = h
none_left_in R sc at x (Some text) h = tt

pub val_itself : (p : Substitution) (sc : Scope) (at : At) (kept : ℕ → Bool) (own : List (List ℕ × ℕ)) (gs : List Group)
    (st : Progress) → Given (λ r. ItselfIn p r.0) (closed_val sc at kept own gs st)
val_itself p sc at kept own gs st = none_left_in (λ (r : Env × Progress). ItselfIn p r.0) sc at
    (closed_groups kept st.types gs empty_env, st)
    (left_over kept st.types (closed_groups kept st.types gs empty_env) own)
    (groups_itself p kept st.types gs empty_env (alike_nothing (ValuesAlike p) TypesSame))
