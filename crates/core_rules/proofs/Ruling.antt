-- The rules of expressions that make variables and make types one.
use Rattle.std.proofs.Common.{◌≡◌, ◌+◌, ◌<◌, arith, [], ◌∷◌, length, sym, ap, ap₂, ◌∙◌, subst, Some, false}
use Rattle.std.specs.Prelude.{Result, Ok, Err}
use Rattle.cm_base.specs.declared.fault.Fault.{Fault}
use Rattle.cm_base.specs.declared.fault.Fault.TheVariants as fault
use Rattle.sml_trees.specs.declared.name.At.{At}
use Rattle.semantic_objects.specs.declared.name.TyId.{TyId}
use Rattle.semantic_objects.specs.declared.name.TyId.TheVariants as id
use Rattle.semantic_objects.specs.declared.symbol.Symbol.TheVariants as symbol
use Rattle.unification.specs.Types.{Ty, State}
use Rattle.unification.specs.Unification.{unify_in, depth}
use Rattle.unification.specs.Instances.{with_variable}
use Rattle.type_nodes.specs.Tables.{Table, Has, state, type_of, types_of, with_variable_of}
use Rattle.type_nodes.specs.declared.node.Birth.{Birth}
use Rattle.type_nodes.proofs.Making.{length_snoc}
use Rattle.sml_modules.specs.Graphs.{Graph}
use Rattle.static_semantics.specs.BasicTypes.{exn_ty, arrow_ty}
use Rattle.static_semantics.specs.Inferring.{Progress, Scope, Answer, ◌>>=◌, gives, with_types, new_variable, unify_at}
use Rattle.static_semantics.specs.CoreInference.{applied, joined, handled, raised}
use Rattle.core_scopes.specs.Scopes.{Bindings}
use Rattle.type_phrases.specs.Inferred.{Inferred, KeepsTypes, progress}
use Rattle.type_phrases.proofs.Keeping.{keeps_all, keeps_later}
use Rattle.pattern_elab.specs.declared.own.OwnVariable.{OwnVariable}
use Rattle.pattern_elab.specs.Scopes.{scope_of}
use Rattle.pattern_elab.specs.Steps.{Unified}
use Rattle.core_rules.specs.Rules.{IsRule}

-- ---- a unification, and the type of the whole after it

abbrev unifies : Graph → Bindings OwnVariable → At → Ty → Ty → Progress → Ty → Answer (Ty × Progress)
unifies g scope at a b st u = unify_at depth (scope_of g scope) at a b st >>= λ s. gives (u, s)

unified_gives : (g : Graph) (scope : Bindings OwnVariable) (at : At) (a b u : Ty) (t new : Table) (x : TyId)
    → Unified g at (unify_in depth a b (state t)) (Ok tt) (state new) → type_of new x ≡ u
    → unifies g scope at a b (progress t g) u ≡ gives (type_of new x, progress new g)
unified_gives g scope at a b u t new x h e = rw (h, e)

unified_fails : (g : Graph) (scope : Bindings OwnVariable) (at : At) (a b u : Ty) (t new : Table) (s : State) (e :
    Fault)
    → Unified g at (unify_in depth a b (state t)) (Err e) s
    → Inferred (unifies g scope at a b (progress t g) u) (Err e) new g
unified_fails g scope at a b u t new s (fault.Diag d) h = rw h.is (ap (λ d. Some (Err d)) (sym h.names))
unified_fails g scope at a b u t new s fault.NoMemory h = tt

pub keeps_same : (a b : Table) → b ≡ a → KeepsTypes a b
keeps_same a b e = subst (KeepsTypes a) (sym e) (keeps_all a)

-- a new variable is one of the table
pub fresh_has : (old new : Table) (a : TyId) (b : Birth) → a ≡ id.Variable (length old.births)
    → new ≡ with_variable_of b old → Has new a
fresh_has old new a b e f =
    let k : length new.births ≡ length old.births + 1 = ap (λ (t : Table). length t.births) f ∙ length_snoc
    old.births b in
    let l : length old.births < length new.births = omega (arith, k) in
    subst (Has new) (sym e) l

-- want of memory
pub no_memory : (g : Graph) (old new : Table) (want : Scope → Answer (Ty × Progress)) → KeepsTypes old new
    → IsRule g old new want (Err fault.NoMemory)
no_memory g old new want h = record { infers = λ scope. tt; has = tt; ids = h }

-- ---- constraints

pub joined_done : (g : Graph) (at : At) (t0 t1 : Table) (a b : TyId)
    → Unified g at (unify_in depth (type_of t0 a) (type_of t0 b) (state t0)) (Ok tt) (state t1) → KeepsTypes t0 t1
    → Has t0 a
    → IsRule g t0 t1 (λ sc. joined depth sc at (type_of t0 a) (type_of t0 b) (progress t0 g)) (Ok a)
joined_done g at t0 t1 a b h k there = record {
  infers = λ scope. unified_gives g scope at (type_of t0 a) (type_of t0 b) (type_of t0 a) t0 t1 a h (k.types a there);
  has = k.ids a there;
  ids = k;
}

pub joined_fails : (g : Graph) (at : At) (t0 t1 : Table) (a b : TyId) (e : Fault)
    → Unified g at (unify_in depth (type_of t0 a) (type_of t0 b) (state t0)) (Err e) (state t1) → KeepsTypes t0 t1
    → IsRule g t0 t1 (λ sc. joined depth sc at (type_of t0 a) (type_of t0 b) (progress t0 g)) (Err e)
joined_fails g at t0 t1 a b e h k = record {
  infers = λ scope. unified_fails g scope at (type_of t0 a) (type_of t0 b) (type_of t0 a) t0 t1 (state t1) e h;
  has = tt;
  ids = k;
}

-- ---- applications

-- what was made before the unification: a new variable, and an arrow to it
pub record ArrowMade (t0 t1 t2 : Table) (x to arrow : TyId) : Type 0 where
  pub next : (state t0).next ≡ length t0.births
  pub is : to ≡ id.Variable (length t0.births)
  pub new : state t1 ≡ with_variable false false (state t0)
  pub made : type_of t2 arrow ≡ Ty.Made symbol.Arrow (types_of t1 (x ∷ to ∷ []))
  pub known : state t2 ≡ state t1
  pub first : KeepsTypes t0 t1
  pub second : KeepsTypes t1 t2
  pub there : Has t0 x

is_variable : (t0 t1 t2 t : Table) (x to arrow : TyId) → ArrowMade t0 t1 t2 x to arrow
    → type_of t to ≡ Ty.Var (state t0).next
is_variable t0 t1 t2 t x to arrow h = ap (type_of t) h.is ∙ ap Ty.Var (sym h.next)

applied_plain : (g : Graph) (scope : Bindings OwnVariable) (at : At) (f x p q : Ty) (s st : Progress)
    → p ≡ f → q ≡ arrow_ty x (new_variable st).0 → s ≡ (new_variable st).1
    → applied depth (scope_of g scope) at f x st ≡ unifies g scope at p q s (new_variable st).0
applied_plain g scope at f x p q s st e u k = rw (e, u, k)

applied_is : (g : Graph) (scope : Bindings OwnVariable) (at : At) (t0 t1 t2 : Table) (f x to arrow : TyId)
    → ArrowMade t0 t1 t2 x to arrow → Has t0 f
    → applied depth (scope_of g scope) at (type_of t0 f) (type_of t0 x) (progress t0 g)
    ≡ unifies g scope at (type_of t2 f) (type_of t2 arrow) (progress t2 g) (new_variable (progress t0 g)).0
applied_is g scope at t0 t1 t2 f x to arrow h there =
    let e : type_of t2 f ≡ type_of t0 f = h.second.types f (h.first.ids f there) ∙ h.first.types f there in
    let u : type_of t2 arrow ≡ arrow_ty (type_of t0 x) (Ty.Var (state t0).next) =
    h.made ∙ ap₂ arrow_ty (h.first.types x h.there) (is_variable t0 t1 t2 t1 x to arrow h) in
    let s : progress t2 g ≡ with_types (with_variable false false (state t0)) (progress t0 g) =
    ap (λ (z : State). with_types z (progress t0 g)) (h.known ∙ h.new) in
    applied_plain g scope at (type_of t0 f) (type_of t0 x) (type_of t2 f) (type_of t2 arrow) (progress t2 g)
    (progress t0 g)
    e u s

pub applied_done : (g : Graph) (at : At) (t0 t1 t2 t3 : Table) (f x to arrow : TyId)
    → ArrowMade t0 t1 t2 x to arrow → Has t0 f → Has t2 to
    → Unified g at (unify_in depth (type_of t2 f) (type_of t2 arrow) (state t2)) (Ok tt) (state t3) → KeepsTypes t2 t3
    → IsRule g t0 t3 (λ sc. applied depth sc at (type_of t0 f) (type_of t0 x) (progress t0 g)) (Ok to)
applied_done g at t0 t1 t2 t3 f x to arrow h there made u k = record {
  infers = λ scope. applied_is g scope at t0 t1 t2 f x to arrow h there
      ∙ unified_gives g scope at (type_of t2 f) (type_of t2 arrow) (Ty.Var (state t0).next) t2 t3 to u
      (is_variable t0 t1 t2 t3 x to arrow h);
  has = k.ids to made;
  ids = keeps_later t0 t2 t3 (keeps_later t0 t1 t2 h.first h.second) k;
}

pub applied_fails : (g : Graph) (at : At) (t0 t1 t2 t3 : Table) (f x to arrow : TyId) (e : Fault)
    → ArrowMade t0 t1 t2 x to arrow → Has t0 f
    → Unified g at (unify_in depth (type_of t2 f) (type_of t2 arrow) (state t2)) (Err e) (state t3) → KeepsTypes t2 t3
    → IsRule g t0 t3 (λ sc. applied depth sc at (type_of t0 f) (type_of t0 x) (progress t0 g)) (Err e)
applied_fails g at t0 t1 t2 t3 f x to arrow e h there u k = record {
  infers = λ scope. subst (λ m. Inferred m (Err e) t3 g) (sym (applied_is g scope at t0 t1 t2 f x to arrow h there))
      (unified_fails g scope at (type_of t2 f) (type_of t2 arrow) (Ty.Var (state t0).next) t2 t3 (state t3) e u);
  has = tt;
  ids = keeps_later t0 t2 t3 (keeps_later t0 t1 t2 h.first h.second) k;
}

-- ---- handlers

-- what was made before the unification: `exn`, and an arrow from it
pub record ExnMade (t0 t1 t2 : Table) (x exn arrow : TyId) : Type 0 where
  pub is : type_of t1 exn ≡ exn_ty
  pub same : state t1 ≡ state t0
  pub made : type_of t2 arrow ≡ Ty.Made symbol.Arrow (types_of t1 (exn ∷ x ∷ []))
  pub known : state t2 ≡ state t1
  pub first : KeepsTypes t0 t1
  pub second : KeepsTypes t1 t2
  pub there : Has t0 x

handled_plain : (g : Graph) (scope : Bindings OwnVariable) (at : At) (f x p q : Ty) (s st : Progress)
    → p ≡ f → q ≡ arrow_ty exn_ty x → s ≡ st
    → handled depth (scope_of g scope) at x f st ≡ unifies g scope at p q s x
handled_plain g scope at f x p q s st e u k = rw (e, u, k)

handled_is : (g : Graph) (scope : Bindings OwnVariable) (at : At) (t0 t1 t2 : Table) (f x exn arrow : TyId)
    → ExnMade t0 t1 t2 x exn arrow → Has t0 f
    → handled depth (scope_of g scope) at (type_of t0 x) (type_of t0 f) (progress t0 g)
    ≡ unifies g scope at (type_of t2 f) (type_of t2 arrow) (progress t2 g) (type_of t0 x)
handled_is g scope at t0 t1 t2 f x exn arrow h there =
    let e : type_of t2 f ≡ type_of t0 f = h.second.types f (h.first.ids f there) ∙ h.first.types f there in
    let u : type_of t2 arrow ≡ arrow_ty exn_ty (type_of t0 x) =
    h.made ∙ ap₂ arrow_ty h.is (h.first.types x h.there) in
    let s : progress t2 g ≡ progress t0 g = ap (λ (z : State). with_types z (progress t0 g)) (h.known ∙ h.same) in
    handled_plain g scope at (type_of t0 f) (type_of t0 x) (type_of t2 f) (type_of t2 arrow) (progress t2 g)
    (progress t0 g)
    e u s

pub handled_done : (g : Graph) (at : At) (t0 t1 t2 t3 : Table) (f x exn arrow : TyId)
    → ExnMade t0 t1 t2 x exn arrow → Has t0 f
    → Unified g at (unify_in depth (type_of t2 f) (type_of t2 arrow) (state t2)) (Ok tt) (state t3) → KeepsTypes t2 t3
    → IsRule g t0 t3 (λ sc. handled depth sc at (type_of t0 x) (type_of t0 f) (progress t0 g)) (Ok x)
handled_done g at t0 t1 t2 t3 f x exn arrow h there u k =
    let all : KeepsTypes t0 t3 = keeps_later t0 t2 t3 (keeps_later t0 t1 t2 h.first h.second) k in
    record {
      infers = λ scope. handled_is g scope at t0 t1 t2 f x exn arrow h there
          ∙ unified_gives g scope at (type_of t2 f) (type_of t2 arrow) (type_of t0 x) t2 t3 x u (all.types x h.there);
      has = all.ids x h.there;
      ids = all;
    }

pub handled_fails : (g : Graph) (at : At) (t0 t1 t2 t3 : Table) (f x exn arrow : TyId) (e : Fault)
    → ExnMade t0 t1 t2 x exn arrow → Has t0 f
    → Unified g at (unify_in depth (type_of t2 f) (type_of t2 arrow) (state t2)) (Err e) (state t3) → KeepsTypes t2 t3
    → IsRule g t0 t3 (λ sc. handled depth sc at (type_of t0 x) (type_of t0 f) (progress t0 g)) (Err e)
handled_fails g at t0 t1 t2 t3 f x exn arrow e h there u k = record {
  infers = λ scope. subst (λ m. Inferred m (Err e) t3 g) (sym (handled_is g scope at t0 t1 t2 f x exn arrow h there))
      (unified_fails g scope at (type_of t2 f) (type_of t2 arrow) (type_of t0 x) t2 t3 (state t3) e u);
  has = tt;
  ids = keeps_later t0 t2 t3 (keeps_later t0 t1 t2 h.first h.second) k;
}

-- ---- `raise`

-- the unification with `exn`, as inference has it
raised_unifies : (g : Graph) (at : At) (t0 t1 : Table) (x exn : TyId) (r : Result (Unit {0}) Fault) (s : State)
    → type_of t1 exn ≡ exn_ty → state t1 ≡ state t0 → type_of t1 x ≡ type_of t0 x
    → Unified g at (unify_in depth (type_of t1 x) (type_of t1 exn) (state t1)) r s
    → Unified g at (unify_in depth (type_of t0 x) exn_ty (state t0)) r s
raised_unifies g at t0 t1 x exn r s e f d h =
    subst (λ (a : Ty). Unified g at (unify_in depth a exn_ty (state t0)) r s) d
    (subst (λ (b : Ty). Unified g at (unify_in depth (type_of t1 x) b (state t0)) r s) e
    (subst (λ (z : State). Unified g at (unify_in depth (type_of t1 x) (type_of t1 exn) z) r s) f h))

raised_refused : (g : Graph) (scope : Bindings OwnVariable) (at : At) (a : Ty) (t new : Table) (e : Fault)
    → Unified g at (unify_in depth a exn_ty (state t)) (Err e) (state new)
    → Inferred (raised depth (scope_of g scope) at a (progress t g)) (Err e) new g
raised_refused g scope at a t new (fault.Diag d) h = rw h.is (ap (λ d. Some (Err d)) (sym h.names))
raised_refused g scope at a t new fault.NoMemory h = tt

pub raised_done : (g : Graph) (at : At) (t0 t1 t2 t3 : Table) (x exn new : TyId)
    → type_of t1 exn ≡ exn_ty → state t1 ≡ state t0 → KeepsTypes t0 t1 → Has t0 x
    → Unified g at (unify_in depth (type_of t1 x) (type_of t1 exn) (state t1)) (Ok tt) (state t2) → KeepsTypes t1 t2
    → (state t2).next ≡ length t2.births → new ≡ id.Variable (length t2.births)
    → state t3 ≡ with_variable false false (state t2) → KeepsTypes t2 t3 → Has t3 new
    → IsRule g t0 t3 (λ sc. raised depth sc at (type_of t0 x) (progress t0 g)) (Ok new)
raised_done g at t0 t1 t2 t3 x exn new e f k there u l n is s m has =
    let w : unify_in depth (type_of t0 x) exn_ty (state t0) ≡ Some (Ok (state t2)) =
    raised_unifies g at t0 t1 x exn (Ok tt) (state t2) e f (k.types x there) u in
    let v : Ty.Var (state t2).next ≡ type_of t3 new = sym (ap (type_of t3) is ∙ ap Ty.Var (sym n)) in
    record {
      infers = λ scope. rw w
          (ap₂ (λ (p : Ty) (q : State). gives (p, with_types q (progress t0 g))) v (sym s));
      has = has;
      ids = keeps_later t0 t2 t3 (keeps_later t0 t1 t2 k l) m;
    }

pub raised_fails : (g : Graph) (at : At) (t0 t1 t2 : Table) (x exn : TyId) (e : Fault)
    → type_of t1 exn ≡ exn_ty → state t1 ≡ state t0 → KeepsTypes t0 t1 → Has t0 x
    → Unified g at (unify_in depth (type_of t1 x) (type_of t1 exn) (state t1)) (Err e) (state t2) → KeepsTypes t1 t2
    → IsRule g t0 t2 (λ sc. raised depth sc at (type_of t0 x) (progress t0 g)) (Err e)
raised_fails g at t0 t1 t2 x exn e d f k there u l = record {
  infers = λ scope. raised_refused g scope at (type_of t0 x) t0 t2 e
      (raised_unifies g at t0 t1 x exn (Err e) (state t2) d f (k.types x there) u);
  has = tt;
  ids = keeps_later t0 t1 t2 k l;
}
