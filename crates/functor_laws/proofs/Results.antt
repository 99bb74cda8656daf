-- What stands in an opened parameter, and in the result of a functor.
use Rattle.std.proofs.Common.{◌≡◌, ℕ, ◌+◌, ◌<◌, ◌≤◌, List, ◌++◌, length, refl, sym, ◌∙◌, subst, arith, Option, Some, None, Bool, true, false, ◌&&◌, not, eqb}
use Rattle.std.proofs.Common.{length-append}
use Rattle.std.specs.Option.{is_none}
use Rattle.semantic_objects.specs.declared.name.TyName.{TyName}
use Rattle.semantic_objects.specs.declared.symbol.Symbol.TheVariants as symbol
use Rattle.semantic_objects.specs.declared.entry.TypeFn.{TypeFn}
use Rattle.semantic_objects.specs.Environments.{Env, Signature}
use Rattle.unification.proofs.Walking.{either_way, or_either, and_left, and_right}
use Rattle.realisation.specs.Names.{names_in_env, is_listed}
use Rattle.realisation.specs.Realised.{of_rows, realised}
use Rattle.realisation.specs.Canonical.{is_bound_name}
use Rattle.inference_laws.specs.Nodes.{Nodes, TreeOf, EnvOf}
use Rattle.module_semantics.specs.SignatureNames.{rows_between, unit_names, bound_names}
use Rattle.unit_semantics.specs.UnitInference.{functor_of}
use Rattle.unit_laws.specs.Parts.{allowing, AreBoundFrom}
use Rattle.unit_laws.proofs.Naming.{own_function, has_between, unit_length, bound_length}
use Rattle.unit_laws.proofs.Realised.{PutOf, Realises, env_realised}
use Rattle.functor_laws.specs.Promises.{open_below, TakesFromParameter}
use Rattle.functor_laws.proofs.Occurring.{among, env_among, env_stands}
use Rattle.functor_laws.proofs.Pairs.{ArePaired, put_is, paired_either, IsUnitFrom, paired_from, paired_onto, same_pair, listed_below, bound_from, comes, came}
use Rattle.functor_laws.proofs.Nodes.{not_bound, open_inside, inside_nodes, coming_inside, inside_comes, result_nodes, free_in_result, other_in_result, listed_in_result, result_listed}

-- what a name is put for it is made of such nodes, by the two cases
put_case : (r : Nodes) (n : TyName) (parts : ℕ) (o : Option TypeFn)
    → (o ≡ None → r (symbol.Name n) parts ≡ true) → ((f : TypeFn) → o ≡ Some f → TreeOf r f.body) → PutOf r n parts o
put_case r n parts None h k = h refl
put_case r n parts (Some f) h k = k f refl

none_false : (o : Option TypeFn) → is_none o ≡ false → o ≡ None → ⊥
none_false None h k = absurd (cc)
none_false (Some f) h k = absurd (cc)

-- ---- the opened parameter

module _ (home : List ℕ) (before : ℕ) (bound : List TyName) (names : List TyName) where
  abbrev Opened : List TyName
  Opened = unit_names home before bound

  abbrev In : Nodes
  In = inside_nodes home before (before + length bound) bound (unit_names home before bound) names

  abbrev Outer : Nodes
  Outer = among names (allowing bound (open_below home before))

  put_inside : (n : TyName) (f : TypeFn) → is_listed n names ≡ true
      → of_rows (rows_between bound (unit_names home before bound)) n ≡ Some f → TreeOf In f.body
  put_inside n f l e =
      let p = put_is bound (unit_names home before bound) n f e in
      let u : IsUnitFrom home before (before + length bound) p.0 = paired_from home before bound n p.0 p.1 in
      subst (λ (z : TypeFn). TreeOf In z.body) (sym p.2)
      (own_function In p.0 (coming_inside home before (before + length bound) bound (unit_names home before bound) names
      p.0 (p.0).arity u.owner (comes bound (unit_names home before bound) names n p.0 p.1 l))).body

  opened_name : (n : TyName) (parts : ℕ) → Outer (symbol.Name n) parts ≡ true
      → PutOf In n parts (of_rows (rows_between bound (unit_names home before bound)) n)
  opened_name n parts h =
      let all : Bool = allowing bound (open_below home before) (symbol.Name n) parts in
      put_case In n parts (of_rows (rows_between bound (unit_names home before bound)) n)
      (λ e. or_either (is_listed n bound && eqb parts n.arity) (open_below home before (symbol.Name n) parts)
      (and_right (is_listed n names) all h)
      (λ i. absurd (none_false (of_rows (rows_between bound (unit_names home before bound)) n)
      (has_between bound (unit_names home before bound) (unit_length home before bound) n
      (and_left (is_listed n bound) (eqb parts n.arity) i)) e))
      (λ i. open_inside home before (before + length bound) bound (unit_names home before bound) names before
      (omega arith) (symbol.Name n) parts i))
      (λ f e. put_inside n f (and_left (is_listed n names) all h) e)

  opened_realises : Realises Outer In (of_rows (rows_between bound (unit_names home before bound)))
  opened_realises = record {
    arrow = λ parts h. refl;
    record_ = λ labels parts h. refl;
    empty = refl;
    names = opened_name;
  }

  -- ---- the result

  -- the rows between names of the opened parameter with more, and those that the functor binds
  abbrev Rows_ : List TyName → List (TyName × TypeFn)
  Rows_ more = rows_between (unit_names home before bound ++ more) (bound ++ bound_names (length bound) more)

  abbrev Out : Nodes
  Out = result_nodes bound names

  not_listed : (m : TyName) → AreBoundFrom 0 bound → length bound ≤ m.number → is_listed m bound ≡ false
  not_listed m b l = either_way (is_listed m bound)
      (λ i. absurd (let j : m.number < 0 + length bound = listed_below 0 bound m b i in omega (arith, j, l)))
      (λ i. i)

  -- the name in the functor of a bound one that occurs in the parameter
  first_out : (n m : TyName) (parts : ℕ) → In (symbol.Name n) parts ≡ true
      → ArePaired (unit_names home before bound) bound n m → is_listed m names ≡ true
  first_out n m parts h p =
      let c = came bound (unit_names home before bound) names n
      (inside_comes home before (before + length bound) bound (unit_names home before bound) names n parts
      (paired_onto home before bound n m p) h) in
      subst (λ z. is_listed z names ≡ true) (sym (same_pair home before bound n m c.0 p c.1)) c.2

  -- names that are allowed besides
  record IsBeside (allowed more : List TyName) : Type 0 where
    listed : (n : TyName) → is_listed n allowed ≡ true → is_listed n more ≡ true
    bound_ : (n : TyName) → is_listed n allowed ≡ true → not (is_bound_name n) ≡ false

  clash : (b : Bool) → b ≡ true → b ≡ false → ⊥
  clash true h k = absurd (cc)
  clash false h k = absurd (cc)

  out_name : (more allowed : List TyName) → AreBoundFrom 0 bound → IsBeside allowed more → (n m : TyName) (parts : ℕ)
      → allowing allowed In (symbol.Name n) parts ≡ true
      → ArePaired (unit_names home before bound ++ more) (bound ++ bound_names (length bound) more) n m
      → Out (symbol.Name m) m.arity ≡ true
  out_name more allowed b w n m parts h p = paired_either (unit_names home before bound) more bound
      (bound_names (length bound) more) n m (unit_length home before bound) p
      (λ i. listed_in_result bound names m m.arity
      (or_either (is_listed n allowed && eqb parts n.arity) (In (symbol.Name n) parts) h
      (λ a. absurd (clash (not (is_bound_name n))
      (not_bound home n (paired_onto home before bound n m i).owner)
      (w.bound_ n (and_left (is_listed n allowed) (eqb parts n.arity) a))))
      (λ a. first_out n m parts a i)))
      (λ i. other_in_result bound names m m.arity (not_listed m b (bound_from (length bound) more n m i)))

  stays_out : (more allowed : List TyName) → IsBeside allowed more → (n : TyName) (parts : ℕ)
      → allowing allowed In (symbol.Name n) parts ≡ true → of_rows (Rows_ more) n ≡ None
      → Out (symbol.Name n) parts ≡ true
  stays_out more allowed w n parts h e =
      or_either (is_listed n allowed && eqb parts n.arity) (In (symbol.Name n) parts) h
      (λ a. absurd (none_false (of_rows (Rows_ more) n)
      (has_between (unit_names home before bound ++ more) (bound ++ bound_names (length bound) more) long n
      (Rattle.realisation.proofs.Listing.listed_right n (unit_names home before bound) more
      (w.listed n (and_left (is_listed n allowed) (eqb parts n.arity) a)))) e))
      (λ a. free_in_result bound names n parts
      (and_left (not (is_bound_name n)) _ a))
    where
      long : length (bound ++ bound_names (length bound) more) ≡ length (unit_names home before bound ++ more)
      long = length-append bound (bound_names (length bound) more)
          ∙ (let a : length (bound_names (length bound) more) ≡ length more = bound_length (length bound) more in
          let b : length (unit_names home before bound) ≡ length bound = unit_length home before bound in
          let c : length bound + length (bound_names (length bound) more)
          ≡ length (unit_names home before bound) + length more = omega (arith, a, b) in c)
          ∙ sym (length-append (unit_names home before bound) more)

  out_realises : (more allowed : List TyName) → AreBoundFrom 0 bound → IsBeside allowed more
      → Realises (allowing allowed In) Out (of_rows (Rows_ more))
  out_realises more allowed b w = record {
    arrow = λ parts h. refl;
    record_ = λ labels parts h. refl;
    empty = refl;
    names = λ n parts h. put_case Out n parts (of_rows (Rows_ more) n)
        (λ e. stays_out more allowed w n parts h e)
        (λ f e. let p = put_is (unit_names home before bound ++ more) (bound ++ bound_names (length bound) more) n f e in
        subst (λ (z : TypeFn). TreeOf Out z.body) (sym p.2)
        (own_function Out p.0 (out_name more allowed b w n p.0 parts h p.1)).body);
  }

-- a signature that is opened in a functor: its names there stand for those that occur in it
pub param_inside : (home : List ℕ) (before : ℕ) (param : Signature)
    → EnvOf (allowing param.bound (open_below home before)) param.env
    → EnvOf (inside_nodes home before (before + length param.bound) param.bound (unit_names home before param.bound)
    (names_in_env param.env))
    (realised (of_rows (rows_between param.bound (unit_names home before param.bound))) param.env)
param_inside home before param h = env_realised _ _ (of_rows (rows_between param.bound (unit_names home before
    param.bound)))
    (opened_realises home before param.bound (names_in_env param.env)) param.env
    (env_among (allowing param.bound (open_below home before)) param.env h)

-- a functor over it, whose result has further names, some of which may be bound ones
pub functor_takes : (home : List ℕ) (before : ℕ) (param inside : Signature) (more allowed : List TyName) (result : Env)
    → inside.bound ≡ unit_names home before param.bound → AreBoundFrom 0 param.bound
    → ((n : TyName) → is_listed n allowed ≡ true → is_listed n more ≡ true)
    → ((n : TyName) → is_listed n allowed ≡ true → not (is_bound_name n) ≡ false)
    → EnvOf (allowing allowed (inside_nodes home before (before + length param.bound) param.bound
    (unit_names home before param.bound) (names_in_env param.env))) result
    → TakesFromParameter (functor_of param inside more result)
functor_takes home before param inside more allowed result e b l k h =
    subst (λ z. TakesFromParameter (functor_of param (let s : Signature = record { bound = z; env = inside.env } in s)
    more result)) (sym e) (λ n i of.
    let s = env_stands (result_nodes param.bound (names_in_env param.env)) _ n
    (env_realised _ _ (of_rows (rows_between (unit_names home before param.bound ++ more)
    (param.bound ++ bound_names (length param.bound) more)))
    (out_realises home before param.bound (names_in_env param.env) more allowed b (record { listed = l; bound_ = k }))
    result h) i in
    result_listed param.bound (names_in_env param.env) n s.0 s.1 of)
