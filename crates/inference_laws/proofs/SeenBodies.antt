-- What is looked up in environments that are seen alike: free variables, sizes, nonexpansive expressions.
use Rattle.std.proofs.Common.{◌≡◌, ℕ, zero, suc, List, [], ◌∷◌, ◌++◌, length, drop, refl, sym, ap, ap₂, ◌∙◌, subst, Bool, ◌||◌, ◌&&◌, not}
use Rattle.std.specs.List.{list_any}
use Rattle.semantic_objects.specs.declared.entry.TypeStr.{TypeStr}
use Rattle.semantic_objects.specs.declared.entry.ValueEntry.{ValueEntry}
use Rattle.semantic_objects.specs.Tables.{Table}
use Rattle.semantic_objects.specs.Trees.{Tree}
use Rattle.semantic_objects.specs.Environments.{Env, Structures, values, with_value}
use Rattle.unification.specs.Types.{Ty, Substitution, occurs}
use Rattle.unification.specs.Closing.{closed_over, put_tree}
use Rattle.bare_phrases.specs.Phrases.{PatPhrase, ExpPhrase, ExpFields}
use Rattle.static_semantics.specs.Inferring.{Scope, found_at, stands_for_con, Bound, variable_entry, with_bound, con_bodies, type_bodies, value_bodies, bodies, structure_bodies, seen, free_in_written, is_kept, is_too_large, has_too_large}
use Rattle.static_semantics.specs.Nonexpansive.{ends_in_ref, constructs, is_nonexpansive, are_nonexpansive}
use Rattle.static_semantics.specs.CoreInference.{names_variable, is_variable}
use Rattle.inference_laws.specs.Alike.{RowsAlike, StructuresAlike, ValuesAlike, TypesSame, SeenAlike, SameTy, in_env}
use Rattle.inference_laws.proofs.Alike.{alike_found, alike_values, alike_with_value}
use Rattle.inference_laws.proofs.PatternsAlike.{con_same, name_con_same}
use Rattle.inference_laws.proofs.SeenLater.{put_closed, seen_same}

-- ---- lists of trees

abbrev TreesAlike : Substitution → List Tree → List Tree → Type 0
TreesAlike s [] [] = Unit {0}
TreesAlike s [] (y ∷ ys) = ⊥
TreesAlike s (x ∷ xs) [] = ⊥
TreesAlike s (x ∷ xs) (y ∷ ys) = (put_tree s x ≡ put_tree s y) × TreesAlike s xs ys

trees_itself : (s : Substitution) (xs : List Tree) → TreesAlike s xs xs
trees_itself s [] = tt
trees_itself s (x ∷ xs) = (refl, trees_itself s xs)

trees_after : (s : Substitution) (xs ys first second : List Tree) → TreesAlike s xs ys → TreesAlike s first second
    → TreesAlike s (xs ++ first) (ys ++ second)
trees_after s [] [] first second h k = k
trees_after s [] (y ∷ ys) first second h k = absurd h
trees_after s (x ∷ xs) [] first second h k = absurd h
trees_after s (x ∷ xs) (y ∷ ys) first second h k = (h.0, trees_after s xs ys first second h.1 k)

type_alike : (s : Substitution) (ts us : Table TypeStr) → RowsAlike TypesSame ts us
    → TreesAlike s (type_bodies ts) (type_bodies us)
type_alike s [] [] h = tt
type_alike s [] (u ∷ us) h = absurd h
type_alike s (t ∷ ts) [] h = absurd h
type_alike s (t ∷ ts) (u ∷ us) h = (
  ap (λ (str : TypeStr). put_tree s str.function.body) h.1.same,
  trees_after s (con_bodies t.1.cons) (con_bodies u.1.cons) (type_bodies ts) (type_bodies us)
      (subst (λ (str : TypeStr). TreesAlike s (con_bodies t.1.cons) (con_bodies str.cons)) h.1.same
      (trees_itself s (con_bodies t.1.cons))) (type_alike s ts us h.2),
)

value_bodies_alike : (s : Substitution) (vs ws : Table ValueEntry) → RowsAlike (ValuesAlike s) vs ws
    → TreesAlike s (value_bodies vs) (value_bodies ws)
value_bodies_alike s [] [] h = tt
value_bodies_alike s [] (w ∷ ws) h = absurd h
value_bodies_alike s (v ∷ vs) [] h = absurd h
value_bodies_alike s (v ∷ vs) (w ∷ ws) h = (h.1.body, value_bodies_alike s vs ws h.2)

mutual
  bodies_alike : (s : Substitution) (e f : Env) → SeenAlike s e f → TreesAlike s (bodies e) (bodies f)
  bodies_alike s (Env.MakeEnv ss ts vs) (Env.MakeEnv rs us ws) h =
      trees_after s (structure_bodies ss) (structure_bodies rs) (type_bodies ts ++ value_bodies vs)
      (type_bodies us ++ value_bodies ws) (structures_bodies_alike s ss rs h.0)
      (trees_after s (type_bodies ts) (type_bodies us) (value_bodies vs) (value_bodies ws) (type_alike s ts us h.1)
      (value_bodies_alike s vs ws h.2))

  structures_bodies_alike : (s : Substitution) (ss rs : Structures) → StructuresAlike (ValuesAlike s) TypesSame ss rs
      → TreesAlike s (structure_bodies ss) (structure_bodies rs)
  structures_bodies_alike s Structures.Nil Structures.Nil h = tt
  structures_bodies_alike s Structures.Nil (Structures.Cons n f others) h = absurd h
  structures_bodies_alike s (Structures.Cons m e rest) Structures.Nil h = absurd h
  structures_bodies_alike s (Structures.Cons m e rest) (Structures.Cons n f others) h =
      trees_after s (bodies e) (bodies f) (structure_bodies rest) (structure_bodies others)
      (bodies_alike s e f h.1) (structures_bodies_alike s rest others h.2)

any_same : (s : Substitution) (test : Ty → Bool) (xs ys : List Tree) → TreesAlike s xs ys
    → list_any (λ tree. test (seen s tree)) xs ≡ list_any (λ tree. test (seen s tree)) ys
any_same s test [] [] h = refl
any_same s test [] (y ∷ ys) h = absurd h
any_same s test (x ∷ xs) [] h = absurd h
any_same s test (x ∷ xs) (y ∷ ys) h = ap₂ (λ a b. a || b) (ap test (seen_same s x y h.0)) (any_same s test xs ys h.1)

pub kept_same : (sc : Scope) (f : Env) (s : Substitution) (v : ℕ) → SeenAlike s sc.env f
    → is_kept sc s v ≡ is_kept (in_env f sc) s v
kept_same sc f s v h = ap (λ z. z || free_in_written v s sc.written)
    (any_same s (occurs v) (bodies sc.env) (bodies f) (bodies_alike s sc.env f h))

pub large_same : (s : Substitution) (e f : Env) → SeenAlike s e f → has_too_large s e ≡ has_too_large s f
large_same s e f h = any_same s is_too_large (bodies e) (bodies f) (bodies_alike s e f h)

-- ---- nonexpansive expressions, and `rec` patterns

found_con_same : (s : Substitution) (e f : Env) (parts : List (List ℕ)) → SeenAlike s e f
    → stands_for_con (found_at values parts e) ≡ stands_for_con (found_at values parts f)
found_con_same s e f parts h = con_same s (found_at values parts e) (found_at values parts f)
    (alike_found (ValuesAlike s) TypesSame (ValuesAlike s) values (alike_values (ValuesAlike s) TypesSame) parts e f h)

constructs_same : (s : Substitution) (e f : Env) (exp : ExpPhrase) → SeenAlike s e f
    → constructs e exp ≡ constructs f exp
constructs_same s e f (ExpPhrase.Int value at) h = refl
constructs_same s e f (ExpPhrase.Str value at) h = refl
constructs_same s e f (ExpPhrase.Char value at) h = refl
constructs_same s e f (ExpPhrase.Long long at) h = ap (λ z. z && not (ends_in_ref long.parts))
    (found_con_same s e f long.parts h)
constructs_same s e f (ExpPhrase.Record fields at) h = refl
constructs_same s e f (ExpPhrase.Let dec body at) h = refl
constructs_same s e f (ExpPhrase.App function argument at) h = refl
constructs_same s e f (ExpPhrase.Typed exp ty at) h = refl
constructs_same s e f (ExpPhrase.Handle exp rules at) h = refl
constructs_same s e f (ExpPhrase.Raise exp at) h = refl
constructs_same s e f (ExpPhrase.Fn rules at) h = refl

mutual
  pub nonexpansive_same : (s : Substitution) (e f : Env) (exp : ExpPhrase) → SeenAlike s e f
      → is_nonexpansive e exp ≡ is_nonexpansive f exp
  nonexpansive_same s e f (ExpPhrase.Int value at) h = refl
  nonexpansive_same s e f (ExpPhrase.Str value at) h = refl
  nonexpansive_same s e f (ExpPhrase.Char value at) h = refl
  nonexpansive_same s e f (ExpPhrase.Long long at) h = refl
  nonexpansive_same s e f (ExpPhrase.Record fields at) h = all_nonexpansive_same s e f fields h
  nonexpansive_same s e f (ExpPhrase.Let dec body at) h = refl
  nonexpansive_same s e f (ExpPhrase.App function argument at) h = ap₂ (λ a b. a && b)
      (constructs_same s e f function h) (nonexpansive_same s e f argument h)
  nonexpansive_same s e f (ExpPhrase.Typed exp ty at) h = nonexpansive_same s e f exp h
  nonexpansive_same s e f (ExpPhrase.Handle exp rules at) h = refl
  nonexpansive_same s e f (ExpPhrase.Raise exp at) h = refl
  nonexpansive_same s e f (ExpPhrase.Fn rules at) h = refl

  all_nonexpansive_same : (s : Substitution) (e f : Env) (fields : ExpFields) → SeenAlike s e f
      → are_nonexpansive e fields ≡ are_nonexpansive f fields
  all_nonexpansive_same s e f ExpFields.EndOfFields h = refl
  all_nonexpansive_same s e f (ExpFields.Field label exp rest) h = ap₂ (λ a b. a && b) (nonexpansive_same s e f exp h)
      (all_nonexpansive_same s e f rest h)

names_same : (s : Substitution) (e f : Env) (parts : List (List ℕ)) → SeenAlike s e f
    → names_variable e parts ≡ names_variable f parts
names_same s e f [] h = refl
names_same s e f (name ∷ []) h = ap not (name_con_same s e f name h)
names_same s e f (name ∷ next ∷ rest) h = refl

pub variable_same : (s : Substitution) (e f : Env) (pat : PatPhrase) → SeenAlike s e f
    → is_variable e pat ≡ is_variable f pat
variable_same s e f (PatPhrase.Wild at) h = refl
variable_same s e f (PatPhrase.Int value at) h = refl
variable_same s e f (PatPhrase.Str value at) h = refl
variable_same s e f (PatPhrase.Char value at) h = refl
variable_same s e f (PatPhrase.Long long at) h = names_same s e f long.parts h
variable_same s e f (PatPhrase.Record fields at) h = refl
variable_same s e f (PatPhrase.Con long arg at) h = refl
variable_same s e f (PatPhrase.Typed pat ty at) h = variable_same s e f pat h
variable_same s e f (PatPhrase.As name ty pat at) h = refl

-- ---- variables of patterns in the environment

pub entries_alike : (s : Substitution) (a b : Ty) → SameTy s a b → ValuesAlike s (variable_entry a) (variable_entry b)
entries_alike s a b e = record {
  status = refl;
  marks = refl;
  body = put_closed s a ∙ ap (closed_over []) e ∙ sym (put_closed s b);
  shaped = λ k. absurd (cc);
}

pub bound_alike : (s : Substitution) (c d : Bound) (e f : Env) → RowsAlike (SameTy s) c d → SeenAlike s e f
    → SeenAlike s (with_bound c e) (with_bound d f)
bound_alike s [] [] e f h k = k
bound_alike s [] (y ∷ ys) e f h k = absurd h
bound_alike s (x ∷ xs) [] e f h k = absurd h
bound_alike s (x ∷ xs) (y ∷ ys) e f h k =
    bound_alike s xs ys (with_value x.0 (variable_entry x.1) e) (with_value y.0 (variable_entry y.1) f) h.2
    (subst (λ z. SeenAlike s (with_value x.0 (variable_entry x.1) e) (with_value z (variable_entry y.1) f)) h.0
    (alike_with_value (ValuesAlike s) TypesSame x.0 (variable_entry x.1) (variable_entry y.1) e f
    (entries_alike s x.1 y.1 h.1) k))

pub rows_length : {A : Type 0} (R : A → A → Type 0) (xs ys : Table A) → RowsAlike R xs ys → length xs ≡ length ys
rows_length R [] [] h = refl
rows_length R [] (y ∷ ys) h = absurd h
rows_length R (x ∷ xs) [] h = absurd h
rows_length R (x ∷ xs) (y ∷ ys) h = ap suc (rows_length R xs ys h.2)

pub rows_dropped : {A : Type 0} (R : A → A → Type 0) (n : ℕ) (xs ys : Table A) → RowsAlike R xs ys
    → RowsAlike R (drop n xs) (drop n ys)
rows_dropped R zero xs ys h = h
rows_dropped R (suc n) [] [] h = tt
rows_dropped R (suc n) [] (y ∷ ys) h = absurd h
rows_dropped R (suc n) (x ∷ xs) [] h = absurd h
rows_dropped R (suc n) (x ∷ xs) (y ∷ ys) h = rows_dropped R n xs ys h.2

pub added_alike : (s : Substitution) (c d a b : Bound) → RowsAlike (SameTy s) a b → length c ≡ length d
    → RowsAlike (SameTy s) (drop (length c) a) (drop (length d) b)
added_alike s c d a b h e = subst (λ n. RowsAlike (SameTy s) (drop (length c) a) (drop n b)) e
    (rows_dropped (SameTy s) (length c) a b h)
