-- What the rules of the Definition ask for besides derivations: names that differ, the closing of types, and datatypes
-- that maximise equality.
use Rattle.std.specs.Prelude.{◌≡◌, ℕ, suc, List, [], ◌∷◌, ◌++◌, length, map, get_or, Bool, true, false, ◌⊎◌, ◌&&◌, not, cond}
use Rattle.sml_trees.specs.declared.name.Name.{Name}
use Rattle.semantic_objects.specs.declared.entry.VidStatus.TheVariants as status
use Rattle.semantic_objects.specs.Trees.{TypeScheme, BindsBelow, frees}
use Rattle.semantic_objects.specs.Environments.{Env, empty_env, with_type, with_value}
use Rattle.unification.specs.Types.{Ty, Marks}
use Rattle.unification.specs.Instances.{fill}
use Rattle.unification.specs.Closing.{is_among, closed_over}
use Rattle.bare_phrases.specs.Phrases.{DatPhrase, Rules}
use Rattle.static_semantics.specs.BasicTypes.{is_one_of, is_equality_variable}
use Rattle.static_semantics.specs.Inferring.{Scope, is_named, Bound, is_kept, free_in_env}
use Rattle.static_semantics.specs.WrittenVariables.{written_in}
use Rattle.static_semantics.specs.DatatypeInference.{Dat, own_name, own_type, dat_admits}
use Rattle.static_semantics.specs.CoreInference.{Group}

-- ---- names that differ. The Definition, section 2.9

-- no name stands twice among the first parts
abbrev pub are_distinct : {A : Type 0} → List (List ℕ × A) → Bool
are_distinct [] = true
are_distinct (row ∷ rows) = not (is_named row.0 rows) && are_distinct rows

-- no number stands twice
abbrev pub do_differ : List ℕ → Bool
do_differ [] = true
do_differ (n ∷ ns) = not (is_among n ns) && do_differ ns

-- ---- written type variables

-- the variables of a list, with differing texts and differing numbers
pub record OfList (tyvars : List Name) (own : List (List ℕ × ℕ)) : Type 0 where
  pub texts : map (λ row. row.0) own ≡ map (λ (name : Name). name.text) tyvars
  pub distinct : are_distinct own ≡ true
  pub differ : do_differ (map (λ row. row.1) own) ≡ true

-- the texts that stand unguarded in a `val` and are neither in its list nor in scope
abbrev pub unscoped : List (List ℕ × Ty) → List Name → List (List ℕ) → List (List ℕ)
unscoped outer tyvars [] = []
unscoped outer tyvars (text ∷ texts) = cond (is_one_of (map (λ (name : Name). name.text) tyvars) text)
    (unscoped outer tyvars texts)
    (cond (is_named text outer) (unscoped outer tyvars texts) (text ∷ unscoped outer tyvars texts))

-- the variables that a `val` binds: those of its list, and those that are scoped at it. They differ, have their marks,
-- and are neither free in the environment nor in what a written variable around stands for. The Definition, section 4.6
pub record BindsOwn (q : Marks) (sc : Scope) (tyvars : List Name) (rules recs : Rules) (own : List (List ℕ × ℕ)) :
    Type 0 where
  pub texts : map (λ row. row.0) own
      ≡ map (λ (name : Name). name.text) tyvars ++ unscoped sc.written tyvars (written_in rules recs)
  pub distinct : are_distinct own ≡ true
  pub differ : do_differ (map (λ row. row.1) own) ≡ true
  pub marked : map (λ row. q row.1) own ≡ map (λ row. is_equality_variable row.0) own
  pub apart : (v : ℕ) → is_among v (map (λ row. row.1) own) ≡ true → is_kept sc Ty.Var v ≡ false

-- ---- closing. The Definition, section 4.8

-- a scheme closes a type over variables that are neither free in the environment nor in what a written variable in
-- scope stands for, and over no less: every variable that is left is free in one of these
pub record ClosesOver (q : Marks) (sc : Scope) (ty : Ty) (σ : TypeScheme) (names : List ℕ) : Type 0 where
  pub differ : do_differ names ≡ true
  pub apart : (v : ℕ) → is_among v names ≡ true → is_kept sc Ty.Var v ≡ false
  pub marks : σ.marks ≡ map q names
  pub bound : BindsBelow (length names) σ.body
  pub opened : fill (λ i. Ty.Var (get_or names i 0)) Ty.Var σ.body ≡ ty
  pub all : (v : ℕ) → frees v σ.body ≡ true → is_kept sc Ty.Var v ≡ true

-- a variable's scheme: its type closed where the right side is nonexpansive, and as it is where it isn't
abbrev pub HasScheme : Bool → Marks → Scope → Ty → TypeScheme → Type 0
HasScheme true q sc ty σ = (names : List ℕ) × ClosesOver q sc ty σ names
HasScheme false q sc ty σ = σ ≡ record { marks = []; body = closed_over [] ty }

-- variables with a scheme each
abbrev pub Schemes : Type 0
Schemes = List (List ℕ × TypeScheme)

abbrev pub HaveSchemes : Bool → Marks → Scope → Bound → Schemes → Type 0
HaveSchemes closes q sc [] [] = Unit {0}
HaveSchemes closes q sc [] (scheme ∷ schemes) = ⊥
HaveSchemes closes q sc (row ∷ rows) [] = ⊥
HaveSchemes closes q sc (row ∷ rows) (scheme ∷ schemes) =
    (scheme.0 ≡ row.0) × HasScheme closes q sc row.1 scheme.1 × HaveSchemes closes q sc rows schemes

-- the variables of several bindings
abbrev pub GroupsHaveSchemes : Marks → Scope → List Group → List Schemes → Type 0
GroupsHaveSchemes q sc [] [] = Unit {0}
GroupsHaveSchemes q sc [] (schemes ∷ more) = ⊥
GroupsHaveSchemes q sc (group ∷ groups) [] = ⊥
GroupsHaveSchemes q sc (group ∷ groups) (schemes ∷ more) =
    HaveSchemes group.0 q sc group.1 schemes × GroupsHaveSchemes q sc groups more

abbrev pub schemes_env : Schemes → Env → Env
schemes_env [] env = env
schemes_env (scheme ∷ schemes) env =
    schemes_env schemes (with_value scheme.0 (record { status = status.Variable; scheme = scheme.1 }) env)

abbrev pub groups_env : List Schemes → Env → Env
groups_env [] env = env
groups_env (schemes ∷ more) env = groups_env more (schemes_env schemes env)

abbrev pub groups_bound : List Group → Bound
groups_bound [] = []
groups_bound (group ∷ groups) = group.1 ++ groups_bound groups

-- a variable that stands in the environment, in what a written variable in scope stands for, or in what is made
abbrev pub IsSeen : Scope → Env → ℕ → Type 0
IsSeen sc made v = (is_kept sc Ty.Var v ≡ true) ⊎ (free_in_env v Ty.Var made ≡ true)

-- what a `val` makes of the variables of its bindings. `q` says which variables around are equality variables and `r`
-- which are inside: they differ at variables alone that stand neither around nor in what is made
pub record ClosesVal (q r : Marks) (sc : Scope) (own : List (List ℕ × ℕ)) (groups : List Group) (made : Env) :
    Type 0 where
  pub schemes : List Schemes
  pub closed : GroupsHaveSchemes r sc groups schemes
  pub is : made ≡ groups_env schemes empty_env
  pub distinct : are_distinct (groups_bound groups) ≡ true
  pub own_closed : (v : ℕ) → is_among v (map (λ row. row.1) own) ≡ true → free_in_env v Ty.Var made ≡ false
  pub agree : (v : ℕ) → IsSeen sc made v → r v ≡ q v

-- ---- datatypes. The Definition, section 4.9

-- the names of the types, each with its list
abbrev pub type_names : List DatPhrase → List (List ℕ × List Name)
type_names binds = map (λ (bind : DatPhrase). (bind.name.text, bind.tyvars)) binds

-- the new type names of a `datatype` in written order, admitting equality by a choice, after others
abbrev pub types_by : List ℕ → List Bool → List DatPhrase → ℕ → Env → Env
types_by home choice [] number made = made
types_by home [] (bind ∷ binds) number made = types_by home [] binds (suc number)
    (with_type bind.name.text (own_type (own_name home number (length bind.tyvars) false)) made)
types_by home (eq ∷ choice) (bind ∷ binds) number made = types_by home choice binds (suc number)
    (with_type bind.name.text (own_type (own_name home number (length bind.tyvars) eq)) made)

-- every constructor's argument of each type that admits equality by a choice is an equality type under that choice
abbrev pub RespectsIn : List ℕ → ℕ → List Bool → List Bool → List Dat → Type 0
RespectsIn home first whole [] [] = Unit {0}
RespectsIn home first whole [] (dat ∷ dats) = ⊥
RespectsIn home first whole (eq ∷ choice) [] = ⊥
RespectsIn home first whole (eq ∷ choice) (dat ∷ dats) =
    (eq ≡ true → dat_admits home first whole dat ≡ true) × RespectsIn home first whole choice dats

abbrev pub RespectsEquality : List ℕ → ℕ → List Dat → List Bool → Type 0
RespectsEquality home first dats choice = RespectsIn home first choice choice dats

-- each type that admits equality by the first choice does by the second
abbrev pub IsWithinChoice : List Bool → List Bool → Type 0
IsWithinChoice [] bs = Unit {0}
IsWithinChoice (a ∷ rest) [] = ⊥
IsWithinChoice (a ∷ rest) (b ∷ bs) = (a ≡ true → b ≡ true) × IsWithinChoice rest bs

-- equality as far as possible: the choice respects equality, and no other that does goes beyond it
pub record MaximisesEquality (home : List ℕ) (first : ℕ) (dats : List Dat) (choice : List Bool) : Type 0 where
  pub respects : RespectsEquality home first dats choice
  pub greatest : (other : List Bool) → RespectsEquality home first dats other → IsWithinChoice other choice
