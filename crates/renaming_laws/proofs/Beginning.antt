-- From whichever fit state a declaration is inferred, in an environment without variables of the table it gives the same.
use Rattle.std.proofs.Common.{◌≡◌, ℕ, ◌+◌, ◌<◌, List, [], ◌∷◌, map, refl, sym, ap, ap₂, ◌∙◌, subst, Some, None, Bool, true, false, ◌||◌, arith}
use Rattle.std.specs.Prelude.{Ok, Err}
use Rattle.std.proofs.lemmas.Bool.{eq-eqb}
use Rattle.semantic_objects.specs.declared.entry.ConEntry.{ConEntry}
use Rattle.semantic_objects.specs.declared.entry.TypeStr.{TypeStr}
use Rattle.semantic_objects.specs.declared.entry.ValueEntry.{ValueEntry}
use Rattle.semantic_objects.specs.Tables.{Table}
use Rattle.semantic_objects.specs.Trees.{Tree, Trees, frees, frees_any}
use Rattle.semantic_objects.specs.Environments.{Env, Structures}
use Rattle.unification.specs.Types.{Substitution, State, put}
use Rattle.unification.specs.Closing.{closed_over, put_tree, put_trees}
use Rattle.unification.specs.Fitting.{IsFit, no_variable}
use Rattle.unification.proofs.Walking.{either_way, or_false_left, or_false_right}
use Rattle.bare_phrases.specs.Phrases.{DecPhrase}
use Rattle.static_semantics.specs.Inferring.{Progress, outermost, Answer}
use Rattle.static_semantics.specs.CoreInference.{infer_dec}
use Rattle.static_semantics.specs.EnvironmentsPut.{put_con, put_type, put_value, each_entry, put_env, put_structures}
use Rattle.static_semantics.specs.Holding.{AllItems, AllRows, ConHas, TypeHas, ValueHas, StructuresHave}
use Rattle.renaming_laws.specs.Moved.{moved, IsMoved, Both}
use Rattle.renaming_laws.specs.Firm.{IsFirm, FirmScheme, FirmFunction, FirmEnv, GivesSame}
use Rattle.renaming_laws.specs.Promises.{BeginsAnywhere}
use Rattle.renaming_laws.proofs.Unifying.{eqb_moved}
use Rattle.renaming_laws.proofs.Closing.{closed_moved}
use Rattle.renaming_laws.proofs.StepsMoved.{DecsMove}
use Rattle.renaming_laws.proofs.CoreMoved.{dec_moved}

-- ---- states

fit_is_moved : (s : State) → IsFit s → IsMoved s.next no_variable s
fit_is_moved s h = record {
  next = omega (arith);
  stands = λ n. h.beyond (n + s.next) (omega (arith));
  marks = λ n. either_way (s.marks (n + s.next))
      (λ e. let l : n + s.next < s.next = h.marks (n + s.next) e in absurd (omega (arith, l))) (λ e. e);
  rigid = λ n. either_way (s.rigid (n + s.next))
      (λ e. let l : n + s.next < s.next = h.rigid (n + s.next) e in absurd (omega (arith, l))) (λ e. e);
}

-- ---- tables

pub rows_stay : {A : Type 0} (R : A → Type 0) (f : A → A) (rows : Table A) → ((x : A) → R x → f x ≡ x) → AllRows R rows
    → each_entry f rows ≡ rows
rows_stay R f [] g h = refl
rows_stay R f (row ∷ rows) g h = ap₂ (λ x rest. (row.0, x) ∷ rest) (g row.1 h.0) (rows_stay R f rows g h.1)

pub rows_twice : {A : Type 0} (f g p q : A → A) (rows : Table A) → ((x : A) → f (g x) ≡ p (q x))
    → each_entry f (each_entry g rows) ≡ each_entry p (each_entry q rows)
rows_twice f g p q [] h = refl
rows_twice f g p q (row ∷ rows) h = ap₂ (λ x rest. (row.0, x) ∷ rest) (h row.1) (rows_twice f g p q rows h)

rows_back : {A : Type 0} (R : A → Type 0) (f : A → A) (rows : Table A) → ((x : A) → R (f x) → R x)
    → AllRows R (each_entry f rows) → AllRows R rows
rows_back R f [] g h = tt
rows_back R f (row ∷ rows) g h = (g row.1 h.0, rows_back R f rows g h.1)

abbrev pub con_of : List ℕ → List Bool → Tree → ConEntry
con_of name marks body = record { name = name; scheme = record { marks = marks; body = body } }

abbrev pub str_of : ℕ → Tree → List ConEntry → TypeStr
str_of arity body cons = record { function = record { arity = arity; body = body }; cons = cons }

abbrev pub value_of : ValueEntry → Tree → ValueEntry
value_of v body = record { status = v.status; scheme = record { marks = v.scheme.marks; body = body } }

-- ---- without variables of the table

mutual
  firm_stays : (s : Substitution) (x : Tree) → IsFirm x → put_tree s x ≡ x
  firm_stays s (Tree.Bound i) h = refl
  firm_stays s (Tree.Free n) h = let e : true ≡ false = sym (eq-eqb n n refl) ∙ h n in absurd (cc)
  firm_stays s (Tree.Made c xs) h = ap (Tree.Made c) (firm_all_stay s xs h)

  firm_all_stay : (s : Substitution) (xs : Trees) → ((n : ℕ) → frees_any n xs ≡ false) → put_trees s xs ≡ xs
  firm_all_stay s Trees.Nil h = refl
  firm_all_stay s (Trees.Cons x xs) h = ap₂ Trees.Cons
      (firm_stays s x (λ n. or_false_left (frees n x) (frees_any n xs) (h n)))
      (firm_all_stay s xs (λ n. or_false_right (frees n x) (frees_any n xs) (h n)))

cons_stay : (s : Substitution) (cons : List ConEntry) → AllItems (ConHas FirmScheme) cons → map (put_con s) cons ≡ cons
cons_stay s [] h = refl
cons_stay s (con ∷ cons) h =
    ap₂ (λ x rest. con_of con.name con.scheme.marks x ∷ rest) (firm_stays s con.scheme.body h.0) (cons_stay s cons h.1)

type_stays : (s : Substitution) (str : TypeStr) → TypeHas FirmScheme FirmFunction str → put_type s str ≡ str
type_stays s str h =
    ap₂ (str_of str.function.arity) (firm_stays s str.function.body h.0) (cons_stay s str.cons h.1)

value_stays : (s : Substitution) (v : ValueEntry) → ValueHas FirmScheme v → put_value s v ≡ v
value_stays s v h = ap (value_of v) (firm_stays s v.scheme.body h)

mutual
  env_stays : (s : Substitution) (env : Env) → FirmEnv env → put_env s env ≡ env
  env_stays s (Env.MakeEnv ss ts vs) h =
      ap (λ z. Env.MakeEnv z (each_entry (put_type s) ts) (each_entry (put_value s) vs)) (structures_stay s ss h.0)
      ∙ ap₂ (Env.MakeEnv ss)
      (rows_stay (TypeHas FirmScheme FirmFunction) (put_type s) ts (type_stays s) h.1)
      (rows_stay (ValueHas FirmScheme) (put_value s) vs (value_stays s) h.2)

  structures_stay : (s : Substitution) (ss : Structures) → StructuresHave FirmScheme FirmFunction ss
      → put_structures s ss ≡ ss
  structures_stay s Structures.Nil h = refl
  structures_stay s (Structures.Cons name env rest) h =
      ap₂ (Structures.Cons name) (env_stays s env h.0) (structures_stay s rest h.1)

-- ---- what is known moves too

abbrev pub Follows : ℕ → Substitution → Substitution → Type 0
Follows k p q = (n : ℕ) → q (n + k) ≡ put (moved k) (p n)

mutual
  tree_known : (k : ℕ) (p q : Substitution) (x : Tree) → Follows k p q
      → put_tree q (put_tree (moved k) x) ≡ put_tree (moved k) (put_tree p x)
  tree_known k p q (Tree.Bound i) h = refl
  tree_known k p q (Tree.Free n) h = ap (closed_over []) (h n) ∙ closed_moved k [] (p n)
  tree_known k p q (Tree.Made c xs) h = ap (Tree.Made c) (trees_known k p q xs h)

  trees_known : (k : ℕ) (p q : Substitution) (xs : Trees) → Follows k p q
      → put_trees q (put_trees (moved k) xs) ≡ put_trees (moved k) (put_trees p xs)
  trees_known k p q Trees.Nil h = refl
  trees_known k p q (Trees.Cons x xs) h = ap₂ Trees.Cons (tree_known k p q x h) (trees_known k p q xs h)

cons_known : (k : ℕ) (p q : Substitution) (cons : List ConEntry) → Follows k p q
    → map (put_con q) (map (put_con (moved k)) cons) ≡ map (put_con (moved k)) (map (put_con p) cons)
cons_known k p q [] h = refl
cons_known k p q (con ∷ cons) h = ap₂ (λ x rest. con_of con.name con.scheme.marks x ∷ rest)
    (tree_known k p q con.scheme.body h) (cons_known k p q cons h)

type_known : (k : ℕ) (p q : Substitution) (str : TypeStr) → Follows k p q
    → put_type q (put_type (moved k) str) ≡ put_type (moved k) (put_type p str)
type_known k p q str h =
    ap₂ (str_of str.function.arity) (tree_known k p q str.function.body h) (cons_known k p q str.cons h)

value_known : (k : ℕ) (p q : Substitution) (v : ValueEntry) → Follows k p q
    → put_value q (put_value (moved k) v) ≡ put_value (moved k) (put_value p v)
value_known k p q v h = ap (value_of v) (tree_known k p q v.scheme.body h)

mutual
  pub env_known : (k : ℕ) (p q : Substitution) (env : Env) → Follows k p q
      → put_env q (put_env (moved k) env) ≡ put_env (moved k) (put_env p env)
  env_known k p q (Env.MakeEnv ss ts vs) h =
      ap (λ z. Env.MakeEnv z (each_entry (put_type q) (each_entry (put_type (moved k)) ts))
      (each_entry (put_value q) (each_entry (put_value (moved k)) vs))) (structures_known k p q ss h)
      ∙ ap₂ (Env.MakeEnv (put_structures (moved k) (put_structures p ss)))
      (rows_twice (put_type q) (put_type (moved k)) (put_type (moved k)) (put_type p) ts (λ x. type_known k p q x h))
      (rows_twice (put_value q) (put_value (moved k)) (put_value (moved k)) (put_value p) vs
      (λ v. value_known k p q v h))

  structures_known : (k : ℕ) (p q : Substitution) (ss : Structures) → Follows k p q
      → put_structures q (put_structures (moved k) ss) ≡ put_structures (moved k) (put_structures p ss)
  structures_known k p q Structures.Nil h = refl
  structures_known k p q (Structures.Cons name env rest) h =
      ap₂ (Structures.Cons name) (env_known k p q env h) (structures_known k p q rest h)

-- ---- what holds no variable, moved, held none before

mutual
  frees_moved : (k n : ℕ) (x : Tree) → frees (n + k) (put_tree (moved k) x) ≡ frees n x
  frees_moved k n (Tree.Bound i) = refl
  frees_moved k n (Tree.Free m) = eqb_moved k n m
  frees_moved k n (Tree.Made c xs) = frees_any_moved k n xs

  frees_any_moved : (k n : ℕ) (xs : Trees) → frees_any (n + k) (put_trees (moved k) xs) ≡ frees_any n xs
  frees_any_moved k n Trees.Nil = refl
  frees_any_moved k n (Trees.Cons x xs) = ap₂ (λ a b. a || b) (frees_moved k n x) (frees_any_moved k n xs)

firm_before : (k : ℕ) (x : Tree) → IsFirm (put_tree (moved k) x) → IsFirm x
firm_before k x h n = sym (frees_moved k n x) ∙ h (n + k)

cons_before : (k : ℕ) (cons : List ConEntry) → AllItems (ConHas FirmScheme) (map (put_con (moved k)) cons)
    → AllItems (ConHas FirmScheme) cons
cons_before k [] h = tt
cons_before k (con ∷ cons) h = (firm_before k con.scheme.body h.0, cons_before k cons h.1)

type_before : (k : ℕ) (str : TypeStr) → TypeHas FirmScheme FirmFunction (put_type (moved k) str)
    → TypeHas FirmScheme FirmFunction str
type_before k str h = (firm_before k str.function.body h.0, cons_before k str.cons h.1)

mutual
  env_before : (k : ℕ) (env : Env) → FirmEnv (put_env (moved k) env) → FirmEnv env
  env_before k (Env.MakeEnv ss ts vs) h = (
    structures_before k ss h.0,
    rows_back (TypeHas FirmScheme FirmFunction) (put_type (moved k)) ts (type_before k) h.1,
    rows_back (ValueHas FirmScheme) (put_value (moved k)) vs (λ v l. firm_before k v.scheme.body l) h.2,
  )

  structures_before : (k : ℕ) (ss : Structures)
      → StructuresHave FirmScheme FirmFunction (put_structures (moved k) ss)
      → StructuresHave FirmScheme FirmFunction ss
  structures_before k Structures.Nil h = tt
  structures_before k (Structures.Cons name env rest) h = (env_before k env h.0, structures_before k rest h.1)

-- ---- two runs that are moved from one

pub both_of_one : {A : Type 0} (R Q S : A → A → Type 0) (m n o : Answer A) → Both R m n → Both Q m o
    → ((x r v : A) → R x r → Q x v → S r v) → Both S n o
both_of_one R Q S None None None h l f = tt
both_of_one R Q S None None (Some z) h l f = absurd l
both_of_one R Q S None (Some y) o h l f = absurd h
both_of_one R Q S (Some (Err d)) None o h l f = absurd h
both_of_one R Q S (Some (Ok x)) None o h l f = absurd h
both_of_one R Q S (Some (Err d)) (Some (Ok y)) o h l f = absurd h
both_of_one R Q S (Some (Ok x)) (Some (Err e)) o h l f = absurd h
both_of_one R Q S (Some (Err d)) (Some (Err e)) None h l f = absurd l
both_of_one R Q S (Some (Err d)) (Some (Err e)) (Some (Ok z)) h l f = absurd l
both_of_one R Q S (Some (Err d)) (Some (Err e)) (Some (Err i)) h l f = l ∙ sym h
both_of_one R Q S (Some (Ok x)) (Some (Ok y)) None h l f = absurd l
both_of_one R Q S (Some (Ok x)) (Some (Ok y)) (Some (Err i)) h l f = absurd l
both_of_one R Q S (Some (Ok x)) (Some (Ok y)) (Some (Ok z)) h l f = f x y z h l

known_moves : (k : ℕ) (x r : Env × Progress) → DecsMove k x r
    → put_env r.1.types.stands r.0 ≡ put_env (moved k) (put_env x.1.types.stands x.0)
known_moves k x r h = ap (put_env r.1.types.stands) h.0
    ∙ env_known k x.1.types.stands r.1.types.stands x.0 h.1.types.stands

pub same_given : (j k : ℕ) (x r v : Env × Progress) → DecsMove j x r → DecsMove k x v → GivesSame r v
same_given j k x r v h l = record {
  names = l.1.names ∙ sym h.1.names;
  known = λ firm.
      let known : Env = put_env x.1.types.stands x.0 in
      let before : FirmEnv known = env_before j known (subst FirmEnv (known_moves j x r h) firm) in
      known_moves k x v l ∙ env_stays (moved k) known before
      ∙ sym (known_moves j x r h ∙ env_stays (moved j) known before);
}

abbrev pub first_of : Progress → Progress
first_of st = record { types = no_variable; names = st.names }

from_first : (depth : ℕ) (home : List ℕ) (env : Env) (dec : DecPhrase) (st u : Progress) → FirmEnv env
    → IsFit u.types → u.names ≡ st.names
    → Both (DecsMove u.types.next) (infer_dec depth (outermost home env) dec (first_of st))
    (infer_dec depth (outermost home env) dec u)
from_first depth home env dec st u firm h e =
    subst (λ z. Both (DecsMove u.types.next) (infer_dec depth (outermost home env) dec (first_of st))
    (infer_dec depth (outermost home z) dec u)) (env_stays (moved u.types.next) env firm)
    (dec_moved u.types.next depth (outermost home env) dec (first_of st) u
    (record { types = fit_is_moved u.types h; names = e }))

pub begins_anywhere : BeginsAnywhere
begins_anywhere = record {
  begins = fit_is_moved;
  stays = λ k. env_stays (moved k);
  dec = λ depth home env dec st u firm h l e.
      both_of_one (DecsMove st.types.next) (DecsMove u.types.next) GivesSame
      (infer_dec depth (outermost home env) dec (first_of st)) (infer_dec depth (outermost home env) dec st)
      (infer_dec depth (outermost home env) dec u) (from_first depth home env dec st st firm h refl)
      (from_first depth home env dec st u firm l e) (same_given st.types.next u.types.next);
}
