-- Environments that are seen alike are one with everything put in, and the other way round.
use Rattle.std.proofs.Common.{◌≡◌, ℕ, List, [], ◌∷◌, map, refl, sym, ap, ap₂, ◌∙◌, true, false}
use Rattle.std.proofs.lemmas.Bool.{eq-eqb}
use Rattle.semantic_objects.specs.declared.entry.ConEntry.{ConEntry}
use Rattle.semantic_objects.specs.declared.entry.TypeStr.{TypeStr}
use Rattle.semantic_objects.specs.declared.entry.ValueEntry.{ValueEntry}
use Rattle.semantic_objects.specs.Tables.{Table}
use Rattle.semantic_objects.specs.Trees.{Tree, Trees, TypeScheme, frees, frees_any}
use Rattle.semantic_objects.specs.Environments.{Env, Structures}
use Rattle.unification.specs.Types.{Substitution, State}
use Rattle.unification.specs.Unification.{IsSettled}
use Rattle.unification.specs.Closing.{put_tree, put_trees}
use Rattle.unification.proofs.Walking.{or_false_left, or_false_right}
use Rattle.static_semantics.specs.Inferring.{is_con}
use Rattle.static_semantics.specs.EnvironmentsPut.{put_scheme, put_con, put_type, put_value, each_entry, put_env, put_structures}
use Rattle.static_semantics.specs.Holding.{AllItems}
use Rattle.inference_laws.specs.Alike.{is_variable_tree, RowsAlike, StructuresAlike, IsShaped, ValuesAlike, TypesSame, SeenAlike, IsFirm, FirmType, FirmValue, AnyName, FirmEnv}
use Rattle.inference_laws.specs.Naming.{RowsWith, StructuresWith}
use Rattle.inference_laws.specs.Promises.{SeesWhatIsPut}
use Rattle.inference_laws.proofs.SeenLater.{tree_changed}
use Rattle.inference_laws.proofs.Firm.{firm_shaped, dec_firm, datatypes_firm, exceptions_firm}

-- ---- seen alike, so one

scheme_one : (s : Substitution) (σ τ : TypeScheme) → σ.marks ≡ τ.marks → put_tree s σ.body ≡ put_tree s τ.body
    → put_scheme s σ ≡ put_scheme s τ
scheme_one s σ τ h k = ap₂ (λ ms x. (let scheme : TypeScheme = record { marks = ms; body = x } in scheme)) h k

value_one : (s : Substitution) (v w : ValueEntry) → ValuesAlike s v w → put_value s v ≡ put_value s w
value_one s v w h = ap₂ (λ st σ. (let value : ValueEntry = record { status = st; scheme = σ } in value)) h.status
    (scheme_one s v.scheme w.scheme h.marks h.body)

rows_one : {A : Type 0} (R : A → A → Type 0) (p : A → A) (xs ys : Table A) → ((x y : A) → R x y → p x ≡ p y)
    → RowsAlike R xs ys → each_entry p xs ≡ each_entry p ys
rows_one R p [] [] f h = refl
rows_one R p [] (y ∷ ys) f h = absurd h
rows_one R p (x ∷ xs) [] f h = absurd h
rows_one R p (x ∷ xs) (y ∷ ys) f h =
    ap₂ (λ n a. (n, a) ∷ each_entry p xs) h.0 (f x.1 y.1 h.1)
    ∙ ap (λ rest. (y.0, p y.1) ∷ rest) (rows_one R p xs ys f h.2)

mutual
  env_one : (s : Substitution) (e f : Env) → SeenAlike s e f → put_env s e ≡ put_env s f
  env_one s (Env.MakeEnv ss ts vs) (Env.MakeEnv rs us ws) h =
      ap₂ (λ a b. Env.MakeEnv a b (each_entry (put_value s) vs)) (structures_one s ss rs h.0)
      (rows_one TypesSame (put_type s) ts us (λ x y k. ap (put_type s) k.same) h.1)
      ∙ ap (Env.MakeEnv (put_structures s rs) (each_entry (put_type s) us))
      (rows_one (ValuesAlike s) (put_value s) vs ws (value_one s) h.2)

  structures_one : (s : Substitution) (ss rs : Structures) → StructuresAlike (ValuesAlike s) TypesSame ss rs
      → put_structures s ss ≡ put_structures s rs
  structures_one s Structures.Nil Structures.Nil h = refl
  structures_one s Structures.Nil (Structures.Cons n f others) h = absurd h
  structures_one s (Structures.Cons m e rest) Structures.Nil h = absurd h
  structures_one s (Structures.Cons m e rest) (Structures.Cons n f others) h =
      ap₂ (λ a b. Structures.Cons a b (put_structures s rest)) h.0 (env_one s e f h.1)
      ∙ ap (Structures.Cons n (put_env s f)) (structures_one s rest others h.2)

-- ---- one, so seen alike

mutual
  firm_put : (s : Substitution) (x : Tree) → IsFirm x → put_tree s x ≡ x
  firm_put s (Tree.Bound i) h = refl
  firm_put s (Tree.Free n) h = let k : true ≡ false = sym (eq-eqb n n refl) ∙ h n in absurd (cc)
  firm_put s (Tree.Made c xs) h = ap (Tree.Made c) (firm_puts s xs h)

  firm_puts : (s : Substitution) (xs : Trees) → ((n : ℕ) → frees_any n xs ≡ false) → put_trees s xs ≡ xs
  firm_puts s Trees.Nil h = refl
  firm_puts s (Trees.Cons x xs) h = ap₂ Trees.Cons
      (firm_put s x (λ n. or_false_left (frees n x) (frees_any n xs) (h n)))
      (firm_puts s xs (λ n. or_false_right (frees n x) (frees_any n xs) (h n)))

firm_cons : (s : Substitution) (cons : List ConEntry) → AllItems (λ (con : ConEntry). IsFirm con.scheme.body) cons
    → map (put_con s) cons ≡ cons
firm_cons s [] h = refl
firm_cons s (con ∷ cons) h =
    ap₂ (λ x rest. (let entry : ConEntry = record {
      name = con.name;
      scheme = record { marks = con.scheme.marks; body = x };
    } in entry) ∷ rest) (firm_put s con.scheme.body h.0) (firm_cons s cons h.1)

cons_shaped : (cons : List ConEntry) → AllItems (λ (con : ConEntry). IsFirm con.scheme.body) cons
    → AllItems IsShaped cons
cons_shaped [] h = tt
cons_shaped (con ∷ cons) h = (firm_shaped con.scheme.body h.0, cons_shaped cons h.1)

pub firm_type : (s : Substitution) (str : TypeStr) → FirmType str → put_type s str ≡ str
firm_type s str h = ap₂ (λ x cons. (let made : TypeStr = record {
  function = record { arity = str.function.arity; body = x };
  cons = cons;
} in made)) (firm_put s str.function.body h.0) (firm_cons s str.cons h.1)

type_same : (s : Substitution) (x y : TypeStr) → FirmType x → FirmType y → put_type s x ≡ put_type s y → TypesSame x y
type_same s x y h k e = record {
  same = sym (firm_type s x h) ∙ e ∙ firm_type s y k;
  shaped = cons_shaped x.cons h.1;
}

value_alike : (s : Substitution) (v w : ValueEntry) → FirmValue v → FirmValue w → put_value s v ≡ put_value s w
    → ValuesAlike s v w
value_alike s v w h k e =
    let i : v.status ≡ w.status = ap (λ (z : ValueEntry). z.status) e in
    record {
      status = i;
      marks = ap (λ (z : ValueEntry). z.scheme.marks) e;
      body = ap (λ (z : ValueEntry). z.scheme.body) e;
      shaped = λ c. (h c, k (let j : is_con w.status ≡ true = sym (ap is_con i) ∙ c in j));
    }

rows_alike : {A : Type 0} (R : A → A → Type 0) (F : A → Type 0) (p : A → A) (xs ys : Table A)
    → ((x y : A) → F x → F y → p x ≡ p y → R x y) → RowsWith AnyName F xs → RowsWith AnyName F ys → each_entry p xs ≡
    each_entry p ys
    → RowsAlike R xs ys
rows_alike R F p [] [] f h k e = tt
rows_alike R F p [] (y ∷ ys) f h k e = absurd (cc)
rows_alike R F p (x ∷ xs) [] f h k e = absurd (cc)
rows_alike {A = A} R F p (x ∷ xs) (y ∷ ys) f h k e =
    let Row : Type 0 = List ℕ × A in
    let one : Row = (x.0, p x.1) in
    let two : Row = (y.0, p y.1) in
    let first : one ≡ two = cc in
    let rest : each_entry p xs ≡ each_entry p ys = cc in (
      ap (λ (z : List ℕ × A). z.0) first,
      f x.1 y.1 h.1 k.1 (ap (λ (z : List ℕ × A). z.1) first),
      rows_alike R F p xs ys f h.2 k.2 rest,
    )

mutual
  env_alike : (s : Substitution) (e f : Env) → FirmEnv e → FirmEnv f → put_env s e ≡ put_env s f → SeenAlike s e f
  env_alike s (Env.MakeEnv ss ts vs) (Env.MakeEnv rs us ws) h k i =
      let a : put_structures s ss ≡ put_structures s rs = cc in
      let b : each_entry (put_type s) ts ≡ each_entry (put_type s) us = cc in
      let c : each_entry (put_value s) vs ≡ each_entry (put_value s) ws = cc in (
        structures_alike s ss rs h.0 k.0 a,
        rows_alike TypesSame FirmType (put_type s) ts us (type_same s) h.1 k.1 b,
        rows_alike (ValuesAlike s) FirmValue (put_value s) vs ws (value_alike s) h.2 k.2 c,
      )

  structures_alike : (s : Substitution) (ss rs : Structures) → StructuresWith AnyName FirmType FirmValue ss →
      StructuresWith AnyName FirmType FirmValue rs
      → put_structures s ss ≡ put_structures s rs → StructuresAlike (ValuesAlike s) TypesSame ss rs
  structures_alike s Structures.Nil Structures.Nil h k i = tt
  structures_alike s Structures.Nil (Structures.Cons n f others) h k i = absurd (cc)
  structures_alike s (Structures.Cons m e rest) Structures.Nil h k i = absurd (cc)
  structures_alike s (Structures.Cons m e rest) (Structures.Cons n f others) h k i =
      let a : m ≡ n = cc in
      let b : put_env s e ≡ put_env s f = cc in
      let c : put_structures s rest ≡ put_structures s others = cc in
      (a, env_alike s e f h.1 k.1 b, structures_alike s rest others h.2 k.2 c)

-- ---- an environment with everything put in

shape_kept : (s : Substitution) (x : Tree) → is_variable_tree x ≡ false → is_variable_tree (put_tree s x) ≡ false
shape_kept s (Tree.Bound i) h = refl
shape_kept s (Tree.Free n) h = absurd (cc)
shape_kept s (Tree.Made c xs) h = refl

value_put : (s : State) (v : ValueEntry) → IsSettled s → FirmValue v → ValuesAlike s.stands v (put_value s.stands v)
value_put s v h k = record {
  status = refl;
  marks = refl;
  body = tree_changed s.stands s.stands s.stands v.scheme.body (λ n. sym (h.solves.types n));
  shaped = λ e. (k e, shape_kept s.stands v.scheme.body (k e));
}

type_put : (s : Substitution) (str : TypeStr) → FirmType str → TypesSame str (put_type s str)
type_put s str h = record { same = sym (firm_type s str h); shaped = cons_shaped str.cons h.1 }

rows_put : {A : Type 0} (R : A → A → Type 0) (F : A → Type 0) (p : A → A) (xs : Table A)
    → ((x : A) → F x → R x (p x)) → RowsWith AnyName F xs → RowsAlike R xs (each_entry p xs)
rows_put R F p [] f h = tt
rows_put R F p (x ∷ xs) f h = (refl, f x.1 h.1, rows_put R F p xs f h.2)

mutual
  env_put : (s : State) (e : Env) → IsSettled s → FirmEnv e → SeenAlike s.stands e (put_env s.stands e)
  env_put s (Env.MakeEnv ss ts vs) h k = (
    structures_put s ss h k.0,
    rows_put TypesSame FirmType (put_type s.stands) ts (type_put s.stands) k.1,
    rows_put (ValuesAlike s.stands) FirmValue (put_value s.stands) vs (λ v i. value_put s v h i) k.2,
  )

  structures_put : (s : State) (ss : Structures) → IsSettled s → StructuresWith AnyName FirmType FirmValue ss
      → StructuresAlike (ValuesAlike s.stands) TypesSame ss (put_structures s.stands ss)
  structures_put s Structures.Nil h k = tt
  structures_put s (Structures.Cons n e rest) h k = (refl, env_put s e h k.1, structures_put s rest h k.2)

pub sees_what_is_put : SeesWhatIsPut
sees_what_is_put = record {
  one = env_one;
  alike = env_alike;
  itself = env_put;
  dec = dec_firm;
  datatypes = datatypes_firm;
  exceptions = exceptions_firm;
}
