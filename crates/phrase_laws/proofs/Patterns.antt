-- Patterns have derivations.
use Rattle.std.proofs.Common.{◌≡◌, ℕ, List, [], ◌∷◌, ◌++◌, refl, sym, ap, ◌∙◌, subst, Option, Some, None, Bool, true, false, not, cond}
use Rattle.std.specs.Option.{is_some}
use Rattle.sml_trees.specs.declared.name.At.{At}
use Rattle.sml_trees.specs.declared.name.Name.{Name}
use Rattle.sml_trees.specs.declared.name.LongName.{LongName}
use Rattle.semantic_objects.specs.declared.entry.ValueEntry.{ValueEntry}
use Rattle.semantic_objects.specs.declared.symbol.Symbol.TheVariants as symbol
use Rattle.semantic_objects.specs.Symbols.{same_text}
use Rattle.semantic_objects.specs.Tables.{Table, entry, with_entry}
use Rattle.semantic_objects.specs.Trees.{Tree}
use Rattle.semantic_objects.specs.Environments.{values}
use Rattle.semantic_objects.proofs.Same.{text_is, text_same}
use Rattle.unification.specs.Types.{Ty, Types, Substitution, State, put}
use Rattle.unification.specs.Unification.{Solves}
use Rattle.unification.specs.Instances.{IsInstance}
use Rattle.unification.specs.Closing.{put_tree}
use Rattle.unification.proofs.Walking.{either_way, and_left, and_right, and_both}
use Rattle.bare_phrases.specs.Phrases.{TyPhrase, PatPhrase, PatFields}
use Rattle.static_semantics.specs.BasicTypes.{int_ty, string_ty, char_ty, arrow_ty, record_ty, arrow_parts, reserved_names, is_one_of}
use Rattle.static_semantics.specs.Inferring.{Progress, Scope, gives, name_at, known, unify_at, found_at, named, is_named, is_con, stands_for_con, new_variable, new_instance, Bound, is_too_large, sized_pat}
use Rattle.static_semantics.specs.TypeInference.{infer_ty}
use Rattle.static_semantics.specs.PatternInference.{bind_variable, takes_none, arrow_in, with_argument, lone_con, applied_con, known_pat, name_by, name_pat, typed_variable, infer_pat, infer_pat_fields}
use Rattle.static_semantics.specs.EnvironmentsPut.{put_scheme, put_value, put_rows, put_scope}
use Rattle.static_semantics.specs.RuleConditions.{are_distinct}
use Rattle.static_semantics.specs.Elaborates.{ElaboratesTy, ElaboratesTyIfAny, ElaboratesPat, ElaboratesPatFields}
use Rattle.static_semantics.specs.Holding.{Given, IfSome, AllRows}
use Rattle.static_semantics.specs.Growing.{TyIn, Grows, IsReady}
use Rattle.static_semantics.proofs.Holding.{given_then, given_where, given_known, rows_with, rows_after}
use Rattle.static_semantics.proofs.Growing.{grows_same, grows_then, rows_later, ready_later, grows_variable, ty_new, grows_instance}
use Rattle.static_semantics.proofs.TypesGrow.{given_more}
use Rattle.static_semantics.proofs.PatternsGrow.{PatIn, pat_grows}
use Rattle.inference_laws.specs.Alike.{is_variable_tree, FirmType, FirmValue, AnyName, FirmEnv}
use Rattle.inference_laws.specs.Promises.{Any}
use Rattle.inference_laws.proofs.EnvsWith.{env_values, env_found}
use Rattle.inference_laws.proofs.Making.{given_both}
use Rattle.phrase_laws.specs.Derived.{SolvesBefore, LeavesBefore, BindsMore, PatDerived, PatFieldsDerived}
use Rattle.phrase_laws.proofs.Finding.{no_entry_put, with_entry_put, rows_after_put, value_found_put, con_put, record_put}
use Rattle.phrase_laws.proofs.Types.{given_check, given_new, is_not, TyDerived, ty_derives}
use Rattle.phrase_laws.proofs.Steps.{given_each, found_each, Joined, unify_joins, solved_variable, leaves_variable, solved_instance, leaves_instance, instance_under, ty_known, unify_known}

-- ---- names that differ

named_or : {A : Type 0} (c : Bool) (x : A) (o : Option A) → is_some (cond c (Some x) o) ≡ false
    → (c ≡ false) × (is_some o ≡ false)
named_or true x o h = absurd (cc)
named_or false x o h = (refl, h)

named_neither : {A : Type 0} (c : Bool) (x : A) (o : Option A) → c ≡ false → is_some o ≡ false
    → is_some (cond c (Some x) o) ≡ false
named_neither true x o h k = absurd (cc)
named_neither false x o h k = k

-- texts that differ, the other way round
differ_back : (a b : List ℕ) → same_text a b ≡ false → same_text b a ≡ false
differ_back a b h = either_way (same_text b a)
    (λ e. let same : same_text a b ≡ true = subst (λ z. same_text a z ≡ true) (sym (text_is b a e)) (text_same a) in
    absurd (let f : true ≡ false = sym same ∙ h in cc))
    (λ e. e)

still_absent : {A : Type 0} (text name : List ℕ) (x : A) (rows : List (List ℕ × A)) → is_named text rows ≡ false
    → same_text text name ≡ false → is_named text (rows ++ (name, x) ∷ []) ≡ false
still_absent text name x [] h k = named_neither (same_text text name) x None k refl
still_absent text name x (row ∷ rows) h k =
    let e : (same_text text row.0 ≡ false) × (is_named text rows ≡ false) =
    named_or (same_text text row.0) row.1 (named text rows) h in
    named_neither (same_text text row.0) row.1 (named text (rows ++ (name, x) ∷ [])) e.0
    (still_absent text name x rows e.1 k)

pub not_true : (b : Bool) → not b ≡ true → b ≡ false
not_true true h = absurd (cc)
not_true false h = refl

pub distinct_more : {A : Type 0} (name : List ℕ) (x : A) (rows : List (List ℕ × A)) → is_named name rows ≡ false
    → are_distinct rows ≡ true → are_distinct (rows ++ (name, x) ∷ []) ≡ true
distinct_more name x [] h k = refl
distinct_more name x (row ∷ rows) h k =
    let e : (same_text name row.0 ≡ false) × (is_named name rows ≡ false) =
    named_or (same_text name row.0) row.1 (named name rows) h in
    and_both (not (is_named row.0 (rows ++ (name, x) ∷ []))) (are_distinct (rows ++ (name, x) ∷ []))
    (ap not (still_absent row.0 name x rows
    (not_true (is_named row.0 rows) (and_left (not (is_named row.0 rows)) (are_distinct rows) k))
    (differ_back name row.0 e.0)))
    (distinct_more name x rows e.1 (and_right (not (is_named row.0 rows)) (are_distinct rows) k))

-- ---- what is bound, step by step

after_nothing : (rows : Bound) → rows ++ [] ≡ rows
after_nothing [] = refl
after_nothing (row ∷ rows) = ap (λ z. row ∷ z) (after_nothing rows)

after_both : (a b c : Bound) → (a ++ b) ++ c ≡ a ++ (b ++ c)
after_both [] b c = refl
after_both (row ∷ rows) b c = ap (λ z. row ∷ z) (after_both rows b c)

binds_none : (bound : Bound) (st u : Progress) → u.names ≡ st.names → SolvesBefore st u → LeavesBefore st u
    → BindsMore bound [] st u bound
binds_none bound st u e h l = record {
  after = sym (after_nothing bound);
  distinct = λ k. k;
  names = e;
  solved = h;
  leaves = l;
}

binds_then : (bound first second mid last : Bound) (st u v : Progress) → BindsMore bound first st u mid
    → BindsMore mid second u v last → BindsMore bound (first ++ second) st v last
binds_then bound first second mid last st u v h k = record {
  after = k.after ∙ ap (λ z. z ++ second) h.after ∙ after_both bound first second;
  distinct = λ e. k.distinct (h.distinct e);
  names = k.names ∙ h.names;
  solved = λ p q. h.solved p (k.solved p q);
  leaves = λ p q. h.leaves p (k.leaves p q);
}

-- a step that binds nothing
binds_on : (bound own all : Bound) (st u v : Progress) → BindsMore bound own st u all → v.names ≡ u.names
    → SolvesBefore u v → LeavesBefore u v → BindsMore bound own st v all
binds_on bound own all st u v h e k l = record {
  after = h.after;
  distinct = h.distinct;
  names = e ∙ h.names;
  solved = λ p q. h.solved p (k p q);
  leaves = λ p q. h.leaves p (l p q);
}

-- ---- values that are found

-- a value with types put in, and that it is no constructor whose type is a variable
pub record ValueFound (sc : Scope) (long : LongName) (value : ValueEntry) : Type 0 where
  pub found : (s : Substitution) → found_at values long.parts (put_scope s sc).env ≡ Some (put_value s value)
  pub firm : FirmValue value

both_if : {A : Type 0} (R Q : A → Type 0) (o : Option A) → IfSome R o → IfSome Q o → IfSome (λ x. R x × Q x) o
both_if R Q None h k = tt
both_if R Q (Some x) h k = (h, k)

found_of : (sc : Scope) (long : LongName) (o : Option ValueEntry)
    → IfSome (λ v. (s : Substitution) → found_at values long.parts (put_scope s sc).env ≡ Some (put_value s v)) o
    → IfSome FirmValue o → IfSome (ValueFound sc long) o
found_of sc long None h k = tt
found_of sc long (Some value) h k = record { found = h; firm = k }

pub value_known : (sc : Scope) (long : LongName) → FirmEnv sc.env
    → Given (ValueFound sc long) (known sc long (found_at values long.parts sc.env))
value_known sc long h = given_known (ValueFound sc long) sc long (found_at values long.parts sc.env)
    (found_of sc long (found_at values long.parts sc.env)
    (found_each put_value (found_at values long.parts sc.env)
    (λ s. found_at values long.parts (put_scope s sc).env) (λ s. value_found_put s long.parts sc.env))
    (env_found AnyName FirmType FirmValue FirmValue values (env_values AnyName FirmType FirmValue) long.parts sc.env
    h))

takes_none_put : (s : Substitution) (body : Tree) → is_variable_tree body ≡ false
    → takes_none (put_tree s body) ≡ takes_none body
takes_none_put s (Tree.Bound i) h = refl
takes_none_put s (Tree.Free n) h = absurd (cc)
takes_none_put s (Tree.Made c ts) h = refl

-- ---- steps of patterns

pat_sized : (sc : Scope) (pat : PatPhrase) (bound : Bound) (st : Progress) (at : At) (r : Ty × Bound × Progress)
    → PatDerived sc pat bound st r → Given (PatDerived sc pat bound st) (sized_pat sc at r)
pat_sized sc pat bound st at r h =
    given_where (PatDerived sc pat bound st) (is_too_large (put r.2.types.stands r.0)) 38 sc at (λ u. gives r) h

-- a variable that is bound after others
record VariableBound (name : List ℕ) (bound : Bound) (st : Progress) (x : Ty × Bound × Progress) : Type 0 where
  allowed : is_one_of reserved_names name ≡ false
  binds : BindsMore bound ((name, x.0) ∷ []) st x.2 x.1
  grows : PatIn Any st x

variable_bound : (sc : Scope) (at : At) (name : List ℕ) (bound : Bound) (st : Progress) → IsReady Any sc st
    → AllRows (TyIn Any st.types) bound → Given (VariableBound name bound st) (bind_variable sc at name bound st)
variable_bound sc at name bound st h rows =
    let g : Grows Any st (new_variable st).1 = grows_variable Any false false st h.fit h.new in
    let t : TyIn Any (new_variable st).1.types (new_variable st).0 = ty_new Any false false st h.fit h.new in
    given_check (VariableBound name bound st) (is_one_of reserved_names name) 34 sc at _ (λ e.
    given_check (VariableBound name bound st) (is_named name bound) 40 sc at _ (λ k.
    record {
      allowed = e;
      binds = record {
        after = refl;
        distinct = distinct_more name (new_variable st).0 bound k;
        names = refl;
        solved = solved_variable st h.fit;
        leaves = leaves_variable st h.fit;
      };
      grows = (
        g,
        t,
        rows_after (TyIn Any (new_variable st).1.types) bound ((name, (new_variable st).0) ∷ [])
            (rows_later Any st (new_variable st).1 bound g rows) (t, tt),
      );
    }))

-- a name that is bound
name_bound : (sc : Scope) (long : LongName) (at : At) (name : List ℕ) (bound : Bound) (st : Progress)
    → long.parts ≡ name ∷ [] → stands_for_con (entry name (values sc.env)) ≡ false → (x : Ty × Bound × Progress)
    → VariableBound name bound st x → PatDerived sc (PatPhrase.Long long at) bound st x
name_bound sc long at name bound st e c x h = record {
  own = (name, x.0) ∷ [];
  binds = h.binds;
  derives = λ p q. ElaboratesPat.rule_34 p.marks (put_scope p.stands sc) long at name (put p.stands x.0) e
      (con_put p.stands name sc.env ∙ c) h.allowed;
}

lone_derived : (sc : Scope) (long : LongName) (at : At) (bound : Bound) (value : ValueEntry) (st : Progress)
    → IsReady Any sc st → ValueFound sc long value
    → Given (PatDerived sc (PatPhrase.Long long at) bound st) (lone_con sc at bound value st)
lone_derived sc long at bound value st h f =
    given_check (PatDerived sc (PatPhrase.Long long at) bound st) (not (is_con value.status)) 34 sc at _ (λ e.
    given_check (PatDerived sc (PatPhrase.Long long at) bound st) (not (takes_none value.scheme.body)) 34 sc at _ (λ k.
    let c : is_con value.status ≡ true = is_not (is_con value.status) e in
    record {
      own = [];
      binds = binds_none bound st (new_instance value.scheme st).1 refl (solved_instance value.scheme st h.fit)
          (leaves_instance value.scheme st h.fit);
      derives = λ p q. ElaboratesPat.rule_35 p.marks (put_scope p.stands sc) long at (put_value p.stands value)
          (put p.stands (new_instance value.scheme st).0) (f.found p.stands) c
          (takes_none_put p.stands value.scheme.body (f.firm c) ∙ is_not (takes_none value.scheme.body) k)
          (instance_under value.scheme st p q);
    }))

known_derived : (sc : Scope) (long : LongName) (at : At) (bound : Bound) (st : Progress) → FirmEnv sc.env
    → IsReady Any sc st → Given (PatDerived sc (PatPhrase.Long long at) bound st) (known_pat sc long at bound st)
known_derived sc long at bound st firm h =
    given_then (ValueFound sc long) (PatDerived sc (PatPhrase.Long long at) bound st)
    (known sc long (found_at values long.parts sc.env)) _ (value_known sc long firm)
    (λ value f. lone_derived sc long at bound value st h f)

by_derived : (sc : Scope) (long : LongName) (at : At) (c : Bool) (name : List ℕ) (bound : Bound) (st : Progress)
    → FirmEnv sc.env → IsReady Any sc st → AllRows (TyIn Any st.types) bound → long.parts ≡ name ∷ []
    → stands_for_con (entry name (values sc.env)) ≡ c
    → Given (PatDerived sc (PatPhrase.Long long at) bound st) (name_by sc at c name long bound st)
by_derived sc long at true name bound st firm h rows e c = known_derived sc long at bound st firm h
by_derived sc long at false name bound st firm h rows e c =
    given_more (VariableBound name bound st) (PatDerived sc (PatPhrase.Long long at) bound st)
    (bind_variable sc at name bound st) (name_bound sc long at name bound st e c)
    (variable_bound sc at name bound st h rows)

name_derived : (sc : Scope) (long : LongName) (at : At) (parts : List (List ℕ)) (bound : Bound) (st : Progress)
    → FirmEnv sc.env → IsReady Any sc st → AllRows (TyIn Any st.types) bound → long.parts ≡ parts
    → Given (PatDerived sc (PatPhrase.Long long at) bound st) (name_pat sc long at parts bound st)
name_derived sc long at [] bound st firm h rows e = known_derived sc long at bound st firm h
name_derived sc long at (name ∷ []) bound st firm h rows e =
    by_derived sc long at (stands_for_con (entry name (values sc.env))) name bound st firm h rows e refl
name_derived sc long at (name ∷ next ∷ rest) bound st firm h rows e = known_derived sc long at bound st firm h

-- the two sides of an arrow that was found
abbrev SidesOf : Ty → Ty × Ty → Type 0
SidesOf ty parts = ty ≡ arrow_ty parts.0 parts.1

sides_if : (ty : Ty) → IfSome (SidesOf ty) (arrow_parts ty)
sides_if (Ty.Var n) = tt
sides_if (Ty.Made symbol.Arrow Types.Nil) = tt
sides_if (Ty.Made symbol.Arrow (Types.Cons a Types.Nil)) = tt
sides_if (Ty.Made symbol.Arrow (Types.Cons a (Types.Cons b Types.Nil))) = refl
sides_if (Ty.Made symbol.Arrow (Types.Cons a (Types.Cons b (Types.Cons c ts)))) = tt
sides_if (Ty.Made (symbol.Record labels) ts) = tt
sides_if (Ty.Made (symbol.Name name) ts) = tt

arrow_if : (body : Tree) (ty : Ty) → IfSome (SidesOf ty) (arrow_in body ty)
arrow_if (Tree.Bound i) ty = tt
arrow_if (Tree.Free n) ty = tt
arrow_if (Tree.Made c ts) ty = sides_if ty

argument_if : (R : Ty × Ty → Type 0) (sc : Scope) (at : At) (o : Option (Ty × Ty)) → IfSome R o
    → Given R (with_argument sc at o)
argument_if R sc at None h = tt
argument_if R sc at (Some parts) h = h

applied_derived : (depth : ℕ) (sc : Scope) (long : LongName) (arg : PatPhrase) (at : At) (bound : Bound)
    (st : Progress) (value : ValueEntry) (r : Ty × Bound × Progress) → Grows Any st r.2 → IsReady Any sc r.2
    → ValueFound sc long value → PatDerived sc arg bound st r
    → Given (PatDerived sc (PatPhrase.Con long arg at) bound st) (applied_con depth sc at value r)
applied_derived depth sc long arg at bound st value r g h f d =
    let Q : Ty × Bound × Progress → Type 0 = PatDerived sc (PatPhrase.Con long arg at) bound st in
    let u : Progress = (new_instance value.scheme r.2).1 in
    let inst : Ty = (new_instance value.scheme r.2).0 in
    let i : Grows Any r.2 u = grows_instance Any value.scheme r.2 h.fit h.new in
    given_check Q (not (is_con value.status)) 34 sc at _ (λ e.
    given_then (SidesOf inst) Q (with_argument sc at (arrow_in value.scheme.body inst)) _
    (argument_if (SidesOf inst) sc at (arrow_in value.scheme.body inst) (arrow_if value.scheme.body inst)) (λ parts k.
    given_then (Joined parts.0 r.0 u) Q (unify_at depth sc at parts.0 r.0 u) _
    (unify_joins depth sc at parts.0 r.0 u i.fit) (λ v j.
    record {
      own = d.own;
      binds = binds_on bound d.own r.1 st r.2 v d.binds j.names
          (λ p q. solved_instance value.scheme r.2 h.fit p (j.solved p q))
          (λ p q. leaves_instance value.scheme r.2 h.fit p (j.leaves p q));
      derives = λ p q. ElaboratesPat.rule_41 p.marks (put_scope p.stands sc) long arg at (put_value p.stands value)
          (put_rows p.stands d.own) (put p.stands parts.0) (put p.stands parts.1) (f.found p.stands)
          (is_not (is_con value.status) e)
          (subst (λ z. IsInstance p.marks (put_scheme p.stands value.scheme) (put p.stands z)) k
          (instance_under value.scheme r.2 p (j.solved p q)))
          (subst (ElaboratesPat p.marks (put_scope p.stands sc) arg (put_rows p.stands d.own)) (sym (j.same p q))
          (d.derives p (solved_instance value.scheme r.2 h.fit p (j.solved p q))));
    })))

-- a type that is written at a variable is its type
record TypedBy (sc : Scope) (ty : Option TyPhrase) (x : Ty) (st u : Progress) : Type 0 where
  solved : SolvesBefore st u
  leaves : LeavesBefore st u
  names : u.names ≡ st.names
  typed : (p : State) → Solves p u.types → ElaboratesTyIfAny (put_scope p.stands sc) ty (put p.stands x)
  grows : Grows Any st u

typed_by : (depth : ℕ) (sc : Scope) (at : At) (x : Ty) (ty : Option TyPhrase) (st : Progress) → IsReady Any sc st
    → TyIn Any st.types x → Given (TypedBy sc ty x st) (typed_variable depth sc at x ty st)
typed_by depth sc at x None st h k = record {
  solved = λ p q. q;
  leaves = λ p q. q;
  names = refl;
  typed = λ p q. ElaboratesTyIfAny.no_ty (put_scope p.stands sc) (put p.stands x);
  grows = grows_same Any st h.fit;
}
typed_by depth sc at x (Some ty) st h k =
    let D : Ty → Type 0 = λ t. (s : Substitution) → TyDerived s sc ty t in
    given_then (λ t. TyIn Any st.types t × D t) (TypedBy sc (Some ty) x st) (infer_ty sc ty) _
    (ty_known sc ty st h) (λ t d.
    given_more (λ u. Grows Any st u × Joined x t st u) (TypedBy sc (Some ty) x st) (unify_at depth sc at x t st)
    (λ u j. record {
      solved = j.1.solved;
      leaves = j.1.leaves;
      names = j.1.names;
      typed = λ p q. ElaboratesTyIfAny.some_ty (put_scope p.stands sc) ty (put p.stands x)
          (subst (ElaboratesTy (put_scope p.stands sc) ty) (sym (j.1.same p q)) (d.1 p.stands));
      grows = j.0;
    })
    (unify_known depth sc at x t st h.fit k d.0))

-- ---- patterns

wild_derived : (sc : Scope) (at : At) (bound : Bound) (st : Progress) → IsReady Any sc st
    → PatDerived sc (PatPhrase.Wild at) bound st ((new_variable st).0, bound, (new_variable st).1)
wild_derived sc at bound st h = record {
  own = [];
  binds = binds_none bound st (new_variable st).1 refl (solved_variable st h.fit) (leaves_variable st h.fit);
  derives = λ p q. ElaboratesPat.rule_32 p.marks (put_scope p.stands sc) at (put p.stands (new_variable st).0);
}

constant_derived : (sc : Scope) (pat : PatPhrase) (ty : Ty) (bound : Bound) (st : Progress)
    → ((p : State) → ElaboratesPat p.marks (put_scope p.stands sc) pat [] (put p.stands ty))
    → PatDerived sc pat bound st (ty, bound, st)
constant_derived sc pat ty bound st h =
    record { own = []; binds = binds_none bound st st refl (λ p q. q) (λ p q. q); derives = λ p q. h p }

record_derived : (sc : Scope) (fields : PatFields) (at : At) (bound : Bound) (st : Progress)
    (r : Table Ty × Bound × Progress) → PatFieldsDerived sc fields [] bound st r
    → PatDerived sc (PatPhrase.Record fields at) bound st (record_ty r.0, r.1, r.2)
record_derived sc fields at bound st r h = record {
  own = h.own;
  binds = h.binds;
  derives = λ p q. subst
      (ElaboratesPat p.marks (put_scope p.stands sc) (PatPhrase.Record fields at) (put_rows p.stands h.own))
      (record_put p.stands r.0)
      (ElaboratesPat.rule_36 p.marks (put_scope p.stands sc) fields at (put_rows p.stands h.own)
      (put_rows p.stands r.0) (h.derives p q));
}

typed_derived : (sc : Scope) (pat : PatPhrase) (ty : TyPhrase) (at : At) (bound : Bound) (st : Progress)
    (r : Ty × Bound × Progress) (t : Ty) (u : Progress) → PatDerived sc pat bound st r
    → ((s : Substitution) → TyDerived s sc ty t) → Joined r.0 t r.2 u
    → PatDerived sc (PatPhrase.Typed pat ty at) bound st (r.0, r.1, u)
typed_derived sc pat ty at bound st r t u h d j = record {
  own = h.own;
  binds = binds_on bound h.own r.1 st r.2 u h.binds j.names j.solved j.leaves;
  derives = λ p q. ElaboratesPat.rule_42 p.marks (put_scope p.stands sc) pat ty at (put_rows p.stands h.own)
      (put p.stands r.0) (h.derives p (j.solved p q))
      (subst (ElaboratesTy (put_scope p.stands sc) ty) (sym (j.same p q)) (d p.stands));
}

as_derived : (sc : Scope) (name : Name) (ty : Option TyPhrase) (pat : PatPhrase) (at : At) (bound : Bound)
    (st : Progress) (x : Ty × Bound × Progress) (s : Progress) (r : Ty × Bound × Progress) (u : Progress)
    → stands_for_con (entry name.text (values sc.env)) ≡ false → VariableBound name.text bound st x
    → TypedBy sc ty x.0 x.2 s → PatDerived sc pat x.1 s r → Joined x.0 r.0 r.2 u
    → PatDerived sc (PatPhrase.As name ty pat at) bound st (x.0, r.1, u)
as_derived sc name ty pat at bound st x s r u c b t h j =
    let first : BindsMore bound ((name.text, x.0) ∷ []) st s x.1 =
    binds_on bound ((name.text, x.0) ∷ []) x.1 st x.2 s b.binds t.names t.solved t.leaves in
    record {
      own = (name.text, x.0) ∷ h.own;
      binds = binds_on bound ((name.text, x.0) ∷ h.own) r.1 st r.2 u
          (binds_then bound ((name.text, x.0) ∷ []) h.own x.1 r.1 st s r.2 first h.binds) j.names j.solved j.leaves;
      derives = λ p q. ElaboratesPat.rule_43 p.marks (put_scope p.stands sc) name ty pat at
          (put_rows p.stands h.own) (put p.stands x.0) (con_put p.stands name.text sc.env ∙ c) b.allowed
          (t.typed p (h.binds.solved p (j.solved p q)))
          (subst (ElaboratesPat p.marks (put_scope p.stands sc) pat (put_rows p.stands h.own)) (sym (j.same p q))
          (h.derives p (j.solved p q)));
    }

field_derived : (sc : Scope) (label : Name) (pat : PatPhrase) (rest : PatFields) (made : Table Ty) (bound : Bound)
    (st : Progress) (r : Ty × Bound × Progress) (q : Table Ty × Bound × Progress) → entry label.text made ≡ None
    → PatDerived sc pat bound st r → PatFieldsDerived sc rest (with_entry label.text r.0 made) r.1 r.2 q
    → PatFieldsDerived sc (PatFields.Field label pat rest) made bound st q
field_derived sc label pat rest made bound st r q e h k = record {
  own = h.own ++ k.own;
  binds = binds_then bound h.own k.own r.1 q.1 st r.2 q.2 h.binds k.binds;
  derives = λ p i.
      let f : Substitution = p.stands in
      subst (λ z. ElaboratesPatFields p.marks (put_scope f sc) (PatFields.Field label pat rest) (put_rows f made) z
      (put_rows f q.0)) (sym (rows_after_put f h.own k.own))
      (ElaboratesPatFields.rule_39 p.marks (put_scope f sc) label pat rest (put_rows f made) (put_rows f q.0)
      (put_rows f h.own) (put_rows f k.own) (put f r.0) (no_entry_put (put f) label.text made e)
      (h.derives p (k.binds.solved p i))
      (subst (λ z. ElaboratesPatFields p.marks (put_scope f sc) rest z (put_rows f k.own) (put_rows f q.0))
      (sym (with_entry_put (put f) label.text r.0 made)) (k.derives p i)));
}

no_fields_derived : (sc : Scope) (made : Table Ty) (bound : Bound) (st : Progress)
    → PatFieldsDerived sc PatFields.EndOfFields made bound st (made, bound, st)
no_fields_derived sc made bound st = record {
  own = [];
  binds = binds_none bound st st refl (λ p q. q) (λ p q. q);
  derives = λ p q. ElaboratesPatFields.no_pat_fields p.marks (put_scope p.stands sc) (put_rows p.stands made);
}

-- a pattern that grows the state and is derived
abbrev pub PatKnown : Scope → PatPhrase → Bound → Progress → Ty × Bound × Progress → Type 0
PatKnown sc pat bound st r = PatIn Any st r × PatDerived sc pat bound st r

known_of : (depth : ℕ) (sc : Scope) (pat : PatPhrase) (bound : Bound) (st : Progress) → IsReady Any sc st
    → AllRows (TyIn Any st.types) bound → Given (PatDerived sc pat bound st) (infer_pat depth sc pat bound st)
    → Given (PatKnown sc pat bound st) (infer_pat depth sc pat bound st)
known_of depth sc pat bound st h k d = given_both (PatIn Any st) (PatDerived sc pat bound st)
    (infer_pat depth sc pat bound st) (pat_grows Any depth sc pat bound st h k) d

mutual
  pub pat_derives : (depth : ℕ) (sc : Scope) (pat : PatPhrase) (bound : Bound) (st : Progress) → FirmEnv sc.env
      → IsReady Any sc st → AllRows (TyIn Any st.types) bound
      → Given (PatDerived sc pat bound st) (infer_pat depth sc pat bound st)
  pat_derives depth sc (PatPhrase.Wild at) bound st firm h k = pat_sized sc (PatPhrase.Wild at) bound st at
      ((new_variable st).0, bound, (new_variable st).1) (wild_derived sc at bound st h)
  pat_derives depth sc (PatPhrase.Int value at) bound st firm h k =
      pat_sized sc (PatPhrase.Int value at) bound st at (int_ty, bound, st)
      (constant_derived sc (PatPhrase.Int value at) int_ty bound st
      (λ p. ElaboratesPat.rule_33_int p.marks (put_scope p.stands sc) value at))
  pat_derives depth sc (PatPhrase.Str value at) bound st firm h k =
      pat_sized sc (PatPhrase.Str value at) bound st at (string_ty, bound, st)
      (constant_derived sc (PatPhrase.Str value at) string_ty bound st
      (λ p. ElaboratesPat.rule_33_string p.marks (put_scope p.stands sc) value at))
  pat_derives depth sc (PatPhrase.Char value at) bound st firm h k =
      pat_sized sc (PatPhrase.Char value at) bound st at (char_ty, bound, st)
      (constant_derived sc (PatPhrase.Char value at) char_ty bound st
      (λ p. ElaboratesPat.rule_33_char p.marks (put_scope p.stands sc) value at))
  pat_derives depth sc (PatPhrase.Long long at) bound st firm h k =
      let Q : Ty × Bound × Progress → Type 0 = PatDerived sc (PatPhrase.Long long at) bound st in
      given_then Q Q (name_pat sc long at long.parts bound st) _
      (name_derived sc long at long.parts bound st firm h k refl)
      (λ r i. pat_sized sc (PatPhrase.Long long at) bound st at r i)
  pat_derives depth sc (PatPhrase.Record fields at) bound st firm h k =
      given_then (PatFieldsDerived sc fields [] bound st) (PatDerived sc (PatPhrase.Record fields at) bound st)
      (infer_pat_fields depth sc fields [] bound st) _ (pat_fields_derive depth sc fields [] bound st firm h tt k)
      (λ r i. pat_sized sc (PatPhrase.Record fields at) bound st at (record_ty r.0, r.1, r.2)
      (record_derived sc fields at bound st r i))
  pat_derives depth sc (PatPhrase.Con long arg at) bound st firm h k =
      let Q : Ty × Bound × Progress → Type 0 = PatDerived sc (PatPhrase.Con long arg at) bound st in
      given_then (ValueFound sc long) Q (known sc long (found_at values long.parts sc.env)) _
      (value_known sc long firm) (λ value f.
      given_then (PatKnown sc arg bound st) Q (infer_pat depth sc arg bound st) _
      (known_of depth sc arg bound st h k (pat_derives depth sc arg bound st firm h k)) (λ r i.
      given_then Q Q (applied_con depth sc at value r) _
      (applied_derived depth sc long arg at bound st value r i.0.0 (ready_later Any sc st r.2 h i.0.0) f i.1)
      (λ q j. pat_sized sc (PatPhrase.Con long arg at) bound st at q j)))
  pat_derives depth sc (PatPhrase.Typed pat ty at) bound st firm h k =
      let Q : Ty × Bound × Progress → Type 0 = PatDerived sc (PatPhrase.Typed pat ty at) bound st in
      given_then (PatKnown sc pat bound st) Q (infer_pat depth sc pat bound st) _
      (known_of depth sc pat bound st h k (pat_derives depth sc pat bound st firm h k)) (λ r i.
      given_then (λ t. (s : Substitution) → TyDerived s sc ty t) Q (infer_ty sc ty) _
      (given_each (λ s. TyDerived s sc ty) (infer_ty sc ty) (λ s. ty_derives s sc ty)) (λ t d.
      given_then (Joined r.0 t r.2) Q (unify_at depth sc at r.0 t r.2) _
      (unify_joins depth sc at r.0 t r.2 i.0.0.fit) (λ u j.
      pat_sized sc (PatPhrase.Typed pat ty at) bound st at (r.0, r.1, u)
      (typed_derived sc pat ty at bound st r t u i.1 d j))))
  pat_derives depth sc (PatPhrase.As name ty pat at) bound st firm h k =
      let Q : Ty × Bound × Progress → Type 0 = PatDerived sc (PatPhrase.As name ty pat at) bound st in
      given_check Q (stands_for_con (entry name.text (values sc.env))) 34 sc at _ (λ c.
      given_then (VariableBound name.text bound st) Q (bind_variable sc (name_at name) name.text bound st) _
      (variable_bound sc (name_at name) name.text bound st h k) (λ x b.
      given_then (TypedBy sc ty x.0 x.2) Q (typed_variable depth sc at x.0 ty x.2) _
      (typed_by depth sc at x.0 ty x.2 (ready_later Any sc st x.2 h b.grows.0) b.grows.1) (λ s t.
      let g : Grows Any st s = grows_then Any st x.2 s b.grows.0 t.grows in
      given_then (PatKnown sc pat x.1 s) Q (infer_pat depth sc pat x.1 s) _
      (let ready : IsReady Any sc s = ready_later Any sc st s h g in
      let rows : AllRows (TyIn Any s.types) x.1 = rows_later Any x.2 s x.1 t.grows b.grows.2 in
      known_of depth sc pat x.1 s ready rows (pat_derives depth sc pat x.1 s firm ready rows)) (λ r i.
      given_then (Joined x.0 r.0 r.2) Q (unify_at depth sc at x.0 r.0 r.2) _
      (unify_joins depth sc at x.0 r.0 r.2 i.0.0.fit) (λ u j.
      pat_sized sc (PatPhrase.As name ty pat at) bound st at (x.0, r.1, u)
      (as_derived sc name ty pat at bound st x s r u c b t i.1 j))))))

  pat_fields_derive : (depth : ℕ) (sc : Scope) (fields : PatFields) (made : Table Ty) (bound : Bound) (st : Progress)
      → FirmEnv sc.env → IsReady Any sc st → AllRows (TyIn Any st.types) made → AllRows (TyIn Any st.types) bound
      → Given (PatFieldsDerived sc fields made bound st) (infer_pat_fields depth sc fields made bound st)
  pat_fields_derive depth sc PatFields.EndOfFields made bound st firm h k l = no_fields_derived sc made bound st
  pat_fields_derive depth sc (PatFields.Field label pat rest) made bound st firm h k l =
      let Q : Table Ty × Bound × Progress → Type 0 =
      PatFieldsDerived sc (PatFields.Field label pat rest) made bound st in
      given_new Q label.text made 40 sc (name_at label) _ (λ e.
      given_then (PatKnown sc pat bound st) Q (infer_pat depth sc pat bound st) _
      (known_of depth sc pat bound st h l (pat_derives depth sc pat bound st firm h l)) (λ r i.
      given_more (PatFieldsDerived sc rest (with_entry label.text r.0 made) r.1 r.2) Q
      (infer_pat_fields depth sc rest (with_entry label.text r.0 made) r.1 r.2)
      (λ q j. field_derived sc label pat rest made bound st r q e i.1 j)
      (pat_fields_derive depth sc rest (with_entry label.text r.0 made) r.1 r.2 firm (ready_later Any sc st r.2 h i.0.0)
      (rows_with (TyIn Any r.2.types) label.text r.0 made i.0.1 (rows_later Any st r.2 made i.0.0 k)) i.0.2)))

pub pat_known : (depth : ℕ) (sc : Scope) (pat : PatPhrase) (bound : Bound) (st : Progress) → FirmEnv sc.env
    → IsReady Any sc st → AllRows (TyIn Any st.types) bound
    → Given (PatKnown sc pat bound st) (infer_pat depth sc pat bound st)
pat_known depth sc pat bound st firm h k =
    known_of depth sc pat bound st h k (pat_derives depth sc pat bound st firm h k)
