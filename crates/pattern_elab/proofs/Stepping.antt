-- Single steps: unification at a place, the check of sizes.
use Rattle.std.proofs.Common.{◌≡◌, ℕ, ◌+◌, ◌<◌, ◌≤◌, List, [], length, refl, sym, ap, ◌∙◌, subst, arith, Option, Some, None, true, false}
use Rattle.std.specs.Prelude.{Result, Ok, Err, IsErrAnd, ltb}
use Rattle.std.proofs.lemmas.Bool.{lt-ltb, le-ltb}
use Rattle.cm_base.specs.declared.fault.Fault.{Fault}
use Rattle.cm_base.specs.declared.fault.Fault.TheVariants as fault
use Rattle.sml_trees.specs.declared.name.At.{At}
use Rattle.semantic_objects.specs.declared.name.TyId.{TyId}
use Rattle.semantic_objects.specs.declared.symbol.Symbol.TheVariants as symbol
use Rattle.semantic_objects.specs.Trees.{Tree, TypeScheme}
use Rattle.unification.specs.Types.{Ty, Types, State, put, size}
use Rattle.unification.specs.Instances.{fill, instance}
use Rattle.unification.specs.Unification.{unify_in, depth}
use Rattle.unification.specs.Unification as unifying
use Rattle.type_nodes.specs.Facts.{capped}
use Rattle.type_nodes.specs.Nodes.{IsIdOf, type_in, made}
use Rattle.type_nodes.specs.Tables.{Table, state, whole, type_of}
use Rattle.type_nodes.specs.Keeping.{IsKept}
use Rattle.sml_modules.specs.Graphs.{Graph}
use Rattle.sml_types.specs.Sides.{AreSides, IsSides}
use Rattle.sml_types.specs.Unifying.{Grown}
use Rattle.sml_types.proofs.Freezing.{front_grown}
use Rattle.sml_types.proofs.Pairing.{unify_put, later_same}
use Rattle.static_semantics.specs.Inferring.{Progress, Scope, diag_at, fault_number, sized, gives, refuses_where}
use Rattle.static_semantics.specs.BasicTypes.{arrow_parts}
use Rattle.static_semantics.specs.PatternInference.{arrow_in}
use Rattle.type_phrases.specs.Inferred.{Answers, KeepsTypes, Refuses, home_scope}
use Rattle.pattern_elab.specs.Steps.{Unified, FindsSides}

-- ---- answers

-- a check that failed, with the diagnostic that it gives
pub refused : {A R : Type 0} (g : Graph) (number : ℕ) (at : At) (names : List (List ℕ)) (r : R → A) (e : Fault)
    → Refuses g number at names e → Answers (Some (Err (diag_at number (home_scope g) at names))) r (Err e)
refused g number at names r (fault.Diag d) k = ap (λ diag. Some (Err diag)) (sym k)
refused g number at names r fault.NoMemory k = tt

-- what holds of an error holds where it is passed on
pub passed_on : {A : Type 0} (P : Result A Fault → Type 0) (r : Result A Fault) (e : Fault) → IsErrAnd r (λ f. f ≡ e)
    → P (Err e) → P r
passed_on P (Ok x) e h k = absurd h
passed_on P (Err f) e h k = subst (λ (z : Fault). P (Err z)) (sym h) k

-- ---- unification

-- unification hangs on what its types stand for
pub raw_unified : (t : Table) (a b : TyId) → IsKept t
    → unify_in depth (whole t a) (whole t b) (state t) ≡ unify_in depth (type_of t a) (type_of t b) (state t)
raw_unified t a b k =
    unify_put depth (type_of t a) (type_of t b) (state t) (state t) (later_same t k) (later_same t k)

pub refused_by : (g : Graph) (at : At) (want : Option (Result State unifying.Fault)) (f : unifying.Fault) (s : State)
    (e : Fault) → want ≡ Some (Err f) → Refuses g (fault_number f) at [] e → Unified g at want (Err e) s
refused_by g at want f s (fault.Diag diag) h k = record { fault = f; is = h; names = k }
refused_by g at want f s fault.NoMemory h k = tt

pub keeps_grown : (a b : Table) → Grown a b → KeepsTypes a b
keeps_grown a b h = record {
  front = front_grown a b h;
  types = λ x k. ap (λ ns. type_in (made ns) x) h.nodes;
  ids = λ x k. subst (λ n. IsIdOf (length b.births) n x) (sym (ap length h.nodes))
      (subst (λ n. IsIdOf n (length a.nodes) x) (sym (ap length h.births)) k);
}

-- ---- sizes

pub too_large : (n : ℕ) → 65536 < capped n → ltb 65536 n ≡ true
too_large n h = lt-ltb 65536 n (omega (arith, h))

pub small_enough : (n : ℕ) → capped n ≤ 65536 → ltb 65536 n ≡ false
small_enough n h = le-ltb 65536 n (omega (arith, h))

pub sized_fits : (sc : Scope) (at : At) (ty : Ty) (st : Progress) → capped (size (put st.types.stands ty)) ≤ 65536
    → sized sc at ty st ≡ gives tt
sized_fits sc at ty st h =
    ap (λ b. refuses_where b 38 sc at) (small_enough (size (put st.types.stands ty)) h)

pub sized_refused : (g : Graph) (at : At) (ty : Ty) (st : Progress) (r : TyId → Unit {0}) (e : Fault)
    → 65536 < capped (size (put st.types.stands ty)) → Refuses g 38 at [] e
    → Answers (sized (home_scope g) at ty st) r (Err e)
sized_refused g at ty st r e h k =
    subst (λ b. Answers (refuses_where b 38 (home_scope g) at) r (Err e))
    (sym (too_large (size (put st.types.stands ty)) h))
    (refused g 38 at [] r e k)

-- ---- values in scope

arrow_of : (body : Tree) (base : ℕ)
    → arrow_in body (fill (λ i. Ty.Var (base + i)) Ty.Var body) ≡ arrow_parts (fill (λ i. Ty.Var (base + i)) Ty.Var
    body)
arrow_of (Tree.Bound i) base = refl
arrow_of (Tree.Free n) base = refl
arrow_of (Tree.Made c ts) base = refl

pub sides_found : (t : Table) (σ : TypeScheme) (s : State) (a from to : TyId) → type_of t a ≡ (instance σ s).0
    → AreSides t a from to → arrow_in σ.body (instance σ s).0 ≡ Some (type_of t from, type_of t to)
sides_found t σ s a from to h k = arrow_of σ.body s.next ∙ ap arrow_parts (sym h ∙ k.is)

no_sides : (ty : Ty) → ((u v : Ty) → ty ≡ Ty.Made symbol.Arrow (Types.Cons u (Types.Cons v Types.Nil)) → ⊥)
    → arrow_parts ty ≡ None
no_sides (Ty.Var n) h = refl
no_sides (Ty.Made symbol.Arrow Types.Nil) h = refl
no_sides (Ty.Made symbol.Arrow (Types.Cons a Types.Nil)) h = refl
no_sides (Ty.Made symbol.Arrow (Types.Cons a (Types.Cons b Types.Nil))) h = absurd (h a b refl)
no_sides (Ty.Made symbol.Arrow (Types.Cons a (Types.Cons b (Types.Cons c ts)))) h = refl
no_sides (Ty.Made (symbol.Record labels) ts) h = refl
no_sides (Ty.Made (symbol.Name name) ts) h = refl

pub sides_missed : (g : Graph) (at : At) (t : Table) (σ : TypeScheme) (s : State) (a : TyId) (e : Fault)
    → type_of t a ≡ (instance σ s).0 → IsSides t a None → Refuses g 34 at [] e
    → FindsSides g at (arrow_in σ.body (instance σ s).0) (Err e) t
sides_missed g at t σ s a (fault.Diag d) h k l =
    (arrow_of σ.body s.next ∙ ap arrow_parts (sym h) ∙ no_sides (type_of t a) k, l)
sides_missed g at t σ s a fault.NoMemory h k l = tt
