-- An environment of a state, as it is known there, is one that can be matched.
use Rattle.std.proofs.Common.{◌≡◌, ℕ, ◌<◌, [], ◌∷◌, refl, sym, ◌∙◌, subst, Option, Some, None, true, false}
use Rattle.std.specs.Option.{option_map}
use Rattle.semantic_objects.specs.declared.entry.TypeStr.{TypeStr}
use Rattle.semantic_objects.specs.declared.entry.ValueEntry.{ValueEntry}
use Rattle.semantic_objects.specs.Tables.{Table}
use Rattle.semantic_objects.specs.Trees.{Tree, Trees, BindsBelow, frees, frees_any}
use Rattle.semantic_objects.specs.Environments.{Env, Structures, types, values}
use Rattle.unification.specs.Types.{Substitution, State}
use Rattle.unification.specs.Closing.{put_tree, put_trees}
use Rattle.unification.specs.Fitting.{IsFit}
use Rattle.unification.specs.Generality.{IsOf}
use Rattle.unification.proofs.Walking.{or_either, or_left, or_right}
use Rattle.static_semantics.specs.Inferring.{found_at}
use Rattle.static_semantics.specs.EnvironmentsPut.{put_type, put_value, each_entry, put_env, put_structures}
use Rattle.static_semantics.specs.Holding.{IfSome, TypeHas, ValueHas}
use Rattle.static_semantics.specs.Growing.{SchemeIn, FunctionIn, EnvIn}
use Rattle.static_semantics.proofs.Holding.{has_types, has_values, has_found}
use Rattle.static_semantics.proofs.Growing.{scheme_of}
use Rattle.inference_laws.specs.Nodes.{Nodes, SchemeOf, FunctionOf, EnvOf}
use Rattle.inference_laws.specs.Naming.{RowsWith, StructuresWith}
use Rattle.inference_laws.specs.Alike.{is_variable_tree, FirmType, FirmValue, AnyName, FirmEnv}
use Rattle.inference_laws.specs.Promises.{Any}
use Rattle.inference_laws.proofs.EnvsWith.{env_types, env_found}
use Rattle.inference_laws.proofs.PutAlike.{firm_type}
use Rattle.module_semantics.specs.Promises.{IsOfState}
use Rattle.phrase_laws.proofs.Finding.{type_found_put, value_found_put}
use Rattle.reopening_laws.proofs.Schemes.{occurs_closed}

-- ---- types

mutual
  put_of : (s : State) → IsFit s → (x : Tree) → IsOf s x → IsOf s (put_tree s.stands x)
  put_of s fit (Tree.Bound i) h m e = absurd (cc)
  put_of s fit (Tree.Free n) h m e =
      fit.below n (h n (Rattle.std.proofs.lemmas.Bool.eq-eqb n n refl)) m (occurs_closed m (s.stands n) e)
  put_of s fit (Tree.Made c ts) h m e = puts_of s fit ts h m e

  puts_of : (s : State) → IsFit s → (xs : Trees) → ((n : ℕ) → frees_any n xs ≡ true → n < s.next) → (m : ℕ)
      → frees_any m (put_trees s.stands xs) ≡ true → m < s.next
  puts_of s fit Trees.Nil h m e = absurd (cc)
  puts_of s fit (Trees.Cons x xs) h m e = or_either (frees m (put_tree s.stands x)) (frees_any m (put_trees s.stands xs)) e
      (λ i. put_of s fit x (λ n j. h n (or_left (frees n x) (frees_any n xs) j)) m i)
      (λ i. puts_of s fit xs (λ n j. h n (or_right (frees n x) (frees_any n xs) j)) m i)

-- ---- what is found

function_found : (s : Substitution) (o : Option TypeStr) (q : Nodes) (str : TypeStr)
    → IfSome (TypeHas (SchemeOf q) (FunctionOf q)) o → IfSome FirmType o → option_map (put_type s) o ≡ Some str
    → BindsBelow str.function.arity str.function.body
function_found s None q str h k e = absurd (cc)
function_found s (Some x) q str h k e =
    let i : put_type s x ≡ str = cc in
    subst (λ (z : TypeStr). BindsBelow z.function.arity z.function.body) (sym (firm_type s x k) ∙ i) h.0.closed

value_found : (s : State) (o : Option ValueEntry) (value : ValueEntry) → IsFit s → IfSome (ValueHas (SchemeIn Any s)) o
    → option_map (put_value s.stands) o ≡ Some value → IsOf s value.scheme.body
value_found s None value fit h e = absurd (cc)
value_found s (Some x) value fit h e =
    let i : put_value s.stands x ≡ value = cc in
    subst (λ (z : ValueEntry). IsOf s z.scheme.body) i (put_of s fit x.scheme.body (scheme_of Any s x.scheme h).of)

pub of_state : (q : Nodes) (s : State) (env : Env) → IsFit s → EnvIn Any s env → EnvOf q env → FirmEnv env
    → IsOfState s (put_env s.stands env)
of_state q s env fit h of firm = record {
  marks = fit.marks;
  functions = λ path str e. function_found s.stands (found_at types path env) q str
      (has_found (SchemeOf q) (FunctionOf q) (TypeHas (SchemeOf q) (FunctionOf q)) types
      (has_types (SchemeOf q) (FunctionOf q)) path env of)
      (env_found AnyName FirmType FirmValue FirmType types (env_types AnyName FirmType FirmValue) path env firm)
      (sym (type_found_put s.stands path env) ∙ e);
  values = λ path value e. value_found s (found_at values path env) value fit
      (has_found (SchemeIn Any s) (FunctionIn Any s) (ValueHas (SchemeIn Any s)) values
      (has_values (SchemeIn Any s) (FunctionIn Any s)) path env h)
      (sym (value_found_put s.stands path env) ∙ e);
}

-- ---- what is known has no variable in its types either

types_firm : (s : Substitution) (ts : Table TypeStr) → RowsWith AnyName FirmType ts
    → RowsWith AnyName FirmType (each_entry (put_type s) ts)
types_firm s [] h = tt
types_firm s (row ∷ rows) h = (tt, subst FirmType (sym (firm_type s row.1 h.1)) h.1, types_firm s rows h.2)

no_variable_put : (s : Substitution) (x : Tree) → is_variable_tree x ≡ false → is_variable_tree (put_tree s x) ≡ false
no_variable_put s (Tree.Bound i) h = refl
no_variable_put s (Tree.Free n) h = absurd (cc)
no_variable_put s (Tree.Made c ts) h = refl

values_firm : (s : Substitution) (vs : Table ValueEntry) → RowsWith AnyName FirmValue vs
    → RowsWith AnyName FirmValue (each_entry (put_value s) vs)
values_firm s [] h = tt
values_firm s (row ∷ rows) h =
    (tt, (λ e. no_variable_put s row.1.scheme.body (h.1 e)), values_firm s rows h.2)

mutual
  pub known_firm : (s : Substitution) (env : Env) → FirmEnv env → FirmEnv (put_env s env)
  known_firm s (Env.MakeEnv ss ts vs) h = (structures_firm s ss h.0, types_firm s ts h.1, values_firm s vs h.2)

  structures_firm : (s : Substitution) (ss : Structures) → StructuresWith AnyName FirmType FirmValue ss
      → StructuresWith AnyName FirmType FirmValue (put_structures s ss)
  structures_firm s Structures.Nil h = tt
  structures_firm s (Structures.Cons name env rest) h = (tt, known_firm s env h.1, structures_firm s rest h.2)
