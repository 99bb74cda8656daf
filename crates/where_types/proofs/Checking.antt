-- The checks of a `where type`, one after another.
use Rattle.std.proofs.Common.{◌≡◌, ◌≢◌, ℕ, refl, sym, ap, ◌∙◌, subst, List, [], ◌∷◌, Option, Some, None, Bool, true, false, ◌&&◌, ◌||◌, not, cond, eqb}
use Rattle.std.proofs.lemmas.Bool.{eq-eqb, ne_eqb}
use Rattle.std.specs.Prelude.{Result, Err, IsErrAnd}
use Rattle.std.specs.List.{join_with_byte}
use Rattle.cm_base.specs.declared.fault.Fault.{Fault}
use Rattle.sml_trees.specs.declared.name.At.{At}
use Rattle.sml_trees.specs.declared.name.LongName.{LongName}
use Rattle.semantic_objects.specs.declared.name.TyName.{TyName}
use Rattle.semantic_objects.specs.declared.entry.TypeFn.{TypeFn}
use Rattle.semantic_objects.specs.Environments.{Signature}
use Rattle.realisation.specs.Names.{is_listed}
use Rattle.realisation.specs.Realised.{function_admits}
use Rattle.sml_modules.specs.Graphs.{Graph}
use Rattle.static_semantics.specs.Inferring.{Scope, Answer, ◌>>=◌, gives, refuses_where}
use Rattle.module_semantics.specs.SignatureNames.{name_alone}
use Rattle.module_semantics.specs.SignatureInference.{lacks_equality, refuses_long, replaced, where_type, with_function}
use Rattle.type_phrases.specs.Inferred.{Answers, Refuses}
use Rattle.type_phrases.proofs.Steps.{failed, refused}
use Rattle.type_phrases.proofs.PartsRead.{passed_on}

-- ---- a check that fails, and one that doesn't

pub passes : (inner : Scope) (number : ℕ) (at : At) (b : Bool) → b ≡ false
    → refuses_where b number inner at ≡ gives tt
passes inner number at b h = ap (λ z. refuses_where z number inner at) h

pub fails : (g : Graph) (inner : Scope) (number : ℕ) (at : At) (b : Bool) (e : Fault) → inner.home ≡ g.home
    → b ≡ true → Refuses g number at [] e
    → Answers {R = Unit {0}} (refuses_where b number inner at) (λ u. tt) (Err e)
fails g inner number at b e home h k =
    subst (λ z. Answers {R = Unit {0}} (refuses_where z number inner at) (λ u. tt) (Err e)) (sym h)
    (refused g inner number at [] (λ (u : Unit {0}). tt) e home k)

pub same_arity : (a b : ℕ) → a ≡ b → not (eqb a b) ≡ false
same_arity a b h = ap not (eq-eqb a b h)

pub other_arity : (a b : ℕ) → a ≢ b → not (eqb a b) ≡ true
other_arity a b h = ap not (ne_eqb a b h)

-- ---- the name that is replaced

pub name_replaced : (inner : Scope) (at : At) (long : LongName) (by : TypeFn) (sig : Signature) (bound : List TyName)
    (name copy : TyName) → sig.bound ≡ bound → is_listed name bound ≡ true → copy ≡ name
    → replaced inner at long by sig (Some name) ≡ gives (with_function copy by sig)
name_replaced inner at long by sig bound name copy same h c =
    ap (λ b. cond b (gives (with_function name by sig)) (refuses_long inner at long))
    (ap (is_listed name) same ∙ h)
    ∙ ap (λ n. gives (with_function n by sig)) (sym c)

long_refused : {S : Type 0} (g : Graph) (inner : Scope) (at : At) (long : LongName) (s : S → Signature) (e : Fault)
    → inner.home ≡ g.home → Refuses g 37 at (join_with_byte 46 long.parts ∷ []) e
    → Answers (refuses_long inner at long) s (Err e)
long_refused g inner at long s e home h = refused g inner 37 at (join_with_byte 46 long.parts ∷ []) s e home h

pub other_refused : {S : Type 0} (g : Graph) (inner : Scope) (at : At) (long : LongName) (by : TypeFn)
    (sig : Signature) (bound : List TyName) (name : TyName) (s : S → Signature) (e : Fault) → inner.home ≡ g.home
    → sig.bound ≡ bound → is_listed name bound ≡ false
    → Refuses g 37 at (join_with_byte 46 long.parts ∷ []) e
    → Answers (replaced inner at long by sig (Some name)) s (Err e)
other_refused {S} g inner at long by sig bound name s e home same h k =
    subst (λ b. Answers (cond b (gives (with_function name by sig)) (refuses_long inner at long)) s (Err e))
    (sym (ap (is_listed name) same ∙ h)) (long_refused g inner at long s e home k)

pub none_refused : {S : Type 0} (g : Graph) (inner : Scope) (at : At) (long : LongName) (by : TypeFn)
    (sig : Signature) (s : S → Signature) (e : Fault) → inner.home ≡ g.home
    → Refuses g 37 at (join_with_byte 46 long.parts ∷ []) e → Answers (replaced inner at long by sig None) s (Err e)
none_refused g inner at long by sig s e home k = long_refused g inner at long s e home k

-- ---- all of them

module _ (inner : Scope) (at : At) (long : LongName) (old by : TypeFn) (sig : Signature) where
  abbrev after_arity : Answer Signature
  after_arity =
      refuses_where (lacks_equality (name_alone old) by) 33 inner at
      >>= λ v. replaced inner at long by sig (name_alone old)

  pub arity_refused : {R S : Type 0} (r : R → Unit {0}) (s : S → Signature) (e : Fault) (q : Result S Fault)
      → IsErrAnd q (λ f. f ≡ e) → Answers (refuses_where (not (eqb by.arity old.arity)) 35 inner at) r (Err e)
      → Answers (where_type inner at long old by sig) s q
  arity_refused r s e q is h =
      passed_on (λ z. Answers (where_type inner at long old by sig) s z) q e is
      (failed (refuses_where (not (eqb by.arity old.arity)) 35 inner at) (λ u. after_arity) r s e h)

  module _ (fits : refuses_where (not (eqb by.arity old.arity)) 35 inner at ≡ gives tt) (name : Option TyName)
      (alone : name ≡ name_alone old) where
    rest_is : where_type inner at long old by sig
        ≡ (refuses_where (lacks_equality name by) 33 inner at >>= λ v. replaced inner at long by sig name)
    rest_is =
        ap (λ (m : Answer (Unit {0})). m >>= λ u. after_arity) fits
        ∙ ap (λ n. refuses_where (lacks_equality n by) 33 inner at >>= λ v. replaced inner at long by sig n) (sym alone)

    pub equality_refused : {R S : Type 0} (r : R → Unit {0}) (s : S → Signature) (e : Fault) (q : Result S Fault)
        → IsErrAnd q (λ f. f ≡ e) → Answers (refuses_where (lacks_equality name by) 33 inner at) r (Err e)
        → Answers (where_type inner at long old by sig) s q
    equality_refused r s e q is h =
        passed_on (λ z. Answers (where_type inner at long old by sig) s z) q e is
        (subst (λ (w : Answer Signature). Answers w s (Err e)) (sym rest_is)
        (failed (refuses_where (lacks_equality name by) 33 inner at) (λ v. replaced inner at long by sig name) r s e h))

    pub checked : {S : Type 0} (s : S → Signature) (q : Result S Fault)
        → refuses_where (lacks_equality name by) 33 inner at ≡ gives tt
        → Answers (replaced inner at long by sig name) s q → Answers (where_type inner at long old by sig) s q
    checked {S} s q e h =
        subst (λ (w : Answer Signature). Answers w s q)
        (sym (rest_is ∙ ap (λ (m : Answer (Unit {0})). m >>= λ v. replaced inner at long by sig name) e)) h

-- ---- single checks, as their functions need them

pub arity_fits : (inner : Scope) (at : At) (a b : ℕ) → a ≡ b → refuses_where (not (eqb a b)) 35 inner at ≡ gives tt
arity_fits inner at a b h = passes inner 35 at (not (eqb a b)) (same_arity a b h)

pub arity_differs : (g : Graph) (inner : Scope) (at : At) (a b : ℕ) (e : Fault) → a ≢ b → Refuses g 35 at [] e
    → inner.home ≡ g.home → Answers {R = Unit {0}} (refuses_where (not (eqb a b)) 35 inner at) (λ u. tt) (Err e)
arity_differs g inner at a b e h k home = fails g inner 35 at (not (eqb a b)) e home (other_arity a b h) k

pub lacks_none : (by : TypeFn) → false ≡ lacks_equality None by
lacks_none by = refl

pub lacks_some : (name : TyName) (by : TypeFn) (admits : Bool) → admits ≡ function_admits (λ n. false) by
    → (name.eq && not admits) ≡ lacks_equality (Some name) by
lacks_some name by admits h = ap (λ b. name.eq && not b) h
