-- Environments with other type functions and schemes: changes that agree on what stands in one, and one after another.
use Rattle.std.proofs.Common.{◌≡◌, ℕ, refl, ap, ap₂, List, [], ◌∷◌, ◌++◌, map}
use Rattle.semantic_objects.specs.declared.entry.ConEntry.{ConEntry}
use Rattle.semantic_objects.specs.declared.entry.TypeFn.{TypeFn}
use Rattle.semantic_objects.specs.declared.entry.TypeStr.{TypeStr}
use Rattle.semantic_objects.specs.declared.entry.ValueEntry.{ValueEntry}
use Rattle.semantic_objects.specs.declared.entry.VidStatus.{VidStatus}
use Rattle.semantic_objects.specs.Tables.{Table}
use Rattle.semantic_objects.specs.Trees.{Tree, TypeScheme}
use Rattle.semantic_objects.specs.Environments.{Env, Structures}
use Rattle.env_parts.specs.Types.{con_types, type_types, types_in, types_in_types, types_in_values, types_in_structures}
use Rattle.realisation.specs.Environments.{Change, changed_con, changed_type, changed_value, each_row, changed, changed_structures}
use Rattle.realisation.proofs.Listing.{Each, each_left, each_right}

-- ---- entries by their parts

abbrev con_of : List ℕ → TypeScheme → ConEntry
con_of name σ = record { name = name; scheme = σ }

abbrev str_of : TypeFn → List ConEntry → TypeStr
str_of function cons = record { function = function; cons = cons }

abbrev value_of : VidStatus → TypeScheme → ValueEntry
value_of status σ = record { status = status; scheme = σ }

abbrev row_of : {A : Type 0} → List ℕ → A → List ℕ × A
row_of name x = (name, x)

env_is : (ss us : Structures) (ts xs : Table TypeStr) (vs ys : Table ValueEntry) → ss ≡ us → ts ≡ xs → vs ≡ ys
    → Env.MakeEnv ss ts vs ≡ Env.MakeEnv us xs ys
env_is ss us ts xs vs ys h k l = cc

structures_is : (name : List ℕ) (env other : Env) (ss us : Structures) → env ≡ other → ss ≡ us
    → Structures.Cons name env ss ≡ Structures.Cons name other us
structures_is name env other ss us h k = cc

-- ---- changes that agree

-- two changes give the same where `P` holds of the type
pub record AgreeWhere (P : Tree → Type 0) (f g : Change) : Type 0 where
  pub function : (x : TypeFn) → P x.body → f.function x ≡ g.function x
  pub scheme : (σ : TypeScheme) → P σ.body → f.scheme σ ≡ g.scheme σ

cons_agree : (P : Tree → Type 0) (f g : Change) → AgreeWhere P f g → (cons : List ConEntry) → Each P (con_types cons)
    → map (changed_con f) cons ≡ map (changed_con g) cons
cons_agree P f g w [] h = refl
cons_agree P f g w (con ∷ cons) h = ap₂ (λ x xs. x ∷ xs) (ap (con_of con.name) (w.scheme con.scheme h.0))
    (cons_agree P f g w cons h.1)

types_agree : (P : Tree → Type 0) (f g : Change) → AgreeWhere P f g → (ts : Table TypeStr)
    → Each P (types_in_types ts) → each_row (changed_type f) ts ≡ each_row (changed_type g) ts
types_agree P f g w [] h = refl
types_agree P f g w (row ∷ rows) h =
    let here : Each P (type_types row.1) = each_left P (type_types row.1) (types_in_types rows) h in
    ap₂ (λ x xs. x ∷ xs) (ap (row_of row.0) (ap₂ str_of (w.function row.1.function here.0)
    (cons_agree P f g w row.1.cons here.1)))
    (types_agree P f g w rows (each_right P (type_types row.1) (types_in_types rows) h))

values_agree : (P : Tree → Type 0) (f g : Change) → AgreeWhere P f g → (vs : Table ValueEntry)
    → Each P (types_in_values vs) → each_row (changed_value f) vs ≡ each_row (changed_value g) vs
values_agree P f g w [] h = refl
values_agree P f g w (row ∷ rows) h = ap₂ (λ x xs. x ∷ xs)
    (ap (row_of row.0) (ap (value_of row.1.status) (w.scheme row.1.scheme h.0))) (values_agree P f g w rows h.1)

mutual
  pub changed_agree : (P : Tree → Type 0) (f g : Change) → AgreeWhere P f g → (env : Env) → Each P (types_in env)
      → changed f env ≡ changed g env
  changed_agree P f g w (Env.MakeEnv ss ts vs) h =
      let rest : Each P (types_in_types ts ++ types_in_values vs) =
      each_right P (types_in_structures ss) (types_in_types ts ++ types_in_values vs) h in
      env_is (changed_structures f ss) (changed_structures g ss) (each_row (changed_type f) ts)
      (each_row (changed_type g) ts) (each_row (changed_value f) vs) (each_row (changed_value g) vs)
      (structures_agree P f g w ss (each_left P (types_in_structures ss) (types_in_types ts ++ types_in_values vs) h))
      (types_agree P f g w ts (each_left P (types_in_types ts) (types_in_values vs) rest))
      (values_agree P f g w vs (each_right P (types_in_types ts) (types_in_values vs) rest))

  structures_agree : (P : Tree → Type 0) (f g : Change) → AgreeWhere P f g → (ss : Structures)
      → Each P (types_in_structures ss) → changed_structures f ss ≡ changed_structures g ss
  structures_agree P f g w Structures.Nil h = refl
  structures_agree P f g w (Structures.Cons name env rest) h =
      structures_is name (changed f env) (changed g env) (changed_structures f rest) (changed_structures g rest)
      (changed_agree P f g w env (each_left P (types_in env) (types_in_structures rest) h))
      (structures_agree P f g w rest (each_right P (types_in env) (types_in_structures rest) h))

-- ---- nothing changes

abbrev pub stays : Change
stays = record { function = λ x. x; scheme = λ σ. σ }

cons_stay : (cons : List ConEntry) → map (changed_con stays) cons ≡ cons
cons_stay [] = refl
cons_stay (con ∷ cons) = ap (λ xs. con ∷ xs) (cons_stay cons)

types_stay : (ts : Table TypeStr) → each_row (changed_type stays) ts ≡ ts
types_stay [] = refl
types_stay (row ∷ rows) = ap₂ (λ x xs. x ∷ xs)
    (ap (row_of row.0) (ap (str_of row.1.function) (cons_stay row.1.cons))) (types_stay rows)

values_stay : (vs : Table ValueEntry) → each_row (changed_value stays) vs ≡ vs
values_stay [] = refl
values_stay (row ∷ rows) = ap (λ xs. row ∷ xs) (values_stay rows)

mutual
  pub changed_stays : (env : Env) → changed stays env ≡ env
  changed_stays (Env.MakeEnv ss ts vs) = env_is (changed_structures stays ss) ss (each_row (changed_type stays) ts) ts
      (each_row (changed_value stays) vs) vs (structures_stay ss) (types_stay ts) (values_stay vs)

  structures_stay : (ss : Structures) → changed_structures stays ss ≡ ss
  structures_stay Structures.Nil = refl
  structures_stay (Structures.Cons name env rest) =
      structures_is name (changed stays env) env (changed_structures stays rest) rest (changed_stays env)
      (structures_stay rest)

-- ---- one change and then another

abbrev pub followed : Change → Change → Change
followed f g = record { function = λ x. g.function (f.function x); scheme = λ σ. g.scheme (f.scheme σ) }

cons_followed : (f g : Change) (cons : List ConEntry)
    → map (changed_con g) (map (changed_con f) cons) ≡ map (changed_con (followed f g)) cons
cons_followed f g [] = refl
cons_followed f g (con ∷ cons) = ap (λ xs. changed_con (followed f g) con ∷ xs) (cons_followed f g cons)

types_followed : (f g : Change) (ts : Table TypeStr)
    → each_row (changed_type g) (each_row (changed_type f) ts) ≡ each_row (changed_type (followed f g)) ts
types_followed f g [] = refl
types_followed f g (row ∷ rows) = ap₂ (λ x xs. x ∷ xs) (ap (row_of row.0)
    (ap (str_of (g.function (f.function row.1.function))) (cons_followed f g row.1.cons))) (types_followed f g rows)

values_followed : (f g : Change) (vs : Table ValueEntry)
    → each_row (changed_value g) (each_row (changed_value f) vs) ≡ each_row (changed_value (followed f g)) vs
values_followed f g [] = refl
values_followed f g (row ∷ rows) =
    ap (λ xs. (row.0, changed_value (followed f g) row.1) ∷ xs) (values_followed f g rows)

mutual
  pub changed_followed : (f g : Change) (env : Env) → changed g (changed f env) ≡ changed (followed f g) env
  changed_followed f g (Env.MakeEnv ss ts vs) = env_is (changed_structures g (changed_structures f ss))
      (changed_structures (followed f g) ss) (each_row (changed_type g) (each_row (changed_type f) ts))
      (each_row (changed_type (followed f g)) ts) (each_row (changed_value g) (each_row (changed_value f) vs))
      (each_row (changed_value (followed f g)) vs) (structures_followed f g ss) (types_followed f g ts)
      (values_followed f g vs)

  structures_followed : (f g : Change) (ss : Structures)
      → changed_structures g (changed_structures f ss) ≡ changed_structures (followed f g) ss
  structures_followed f g Structures.Nil = refl
  structures_followed f g (Structures.Cons name env rest) =
      structures_is name (changed g (changed f env)) (changed (followed f g) env)
      (changed_structures g (changed_structures f rest)) (changed_structures (followed f g) rest)
      (changed_followed f g env) (structures_followed f g rest)
