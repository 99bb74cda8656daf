-- Calls one after the other: what a chain of inference gives, from what calls answer of its parts.
use Rattle.std.proofs.Common.{◌≡◌, ℕ, List, refl, sym, ap, ap₂, ◌∙◌, subst}
use Rattle.std.specs.Prelude.{Result, Ok, Err, IfOk, IsErrAnd}
use Rattle.cm_base.specs.declared.fault.Fault.{Fault}
use Rattle.cm_base.specs.declared.fault.Fault.TheVariants as fault
use Rattle.sml_trees.specs.declared.name.At.{At}
use Rattle.semantic_objects.specs.declared.name.TyId.{TyId}
use Rattle.semantic_objects.specs.Environments.{Env}
use Rattle.unification.specs.Types.{Ty}
use Rattle.type_nodes.specs.Tables.{Table, Has, type_of}
use Rattle.sml_modules.specs.Items.{map_rows}
use Rattle.sml_modules.specs.Graphs.{Graph, Keeps}
use Rattle.sml_modules.proofs.Keeping.{keeps, extends_self}
use Rattle.static_semantics.specs.Inferring.{Progress, Scope, Answer, ◌>>=◌, gives, sized, sized_exp}
use Rattle.core_scopes.specs.Scopes.{Bindings, written_of}
use Rattle.core_scopes.proofs.Scoping.{scope_there, scope_seen}
use Rattle.type_phrases.specs.Inferred.{Answers, KeepsTypes, progress, home_scope}
use Rattle.type_phrases.proofs.Keeping.{keeps_all, keeps_later}
use Rattle.pattern_elab.specs.declared.own.OwnVariable.{OwnVariable}
use Rattle.pattern_elab.specs.Scopes.{own_entry, variable_of, scope_of, IsCoreScope}
use Rattle.pattern_elab.proofs.Scoping.{core_later}
use Rattle.core_rules.specs.Rules.{IsRule}
use Rattle.core_rules.specs.Moments.{Moment, moment, scope_at, progress_at, IsCoreAt, typed_as, Passes, Elabs}
use Rattle.core_rules.specs.Expressions.{ends_sized}
use Rattle.core_rules.proofs.Leaves.{exp_sized}

-- ---- what is kept from one moment to a later one

pub graph_then : (a b c : Graph) → Keeps a b → Keeps b c → Keeps a c
graph_then a b c h k = record {
  has_env = λ id i. k.has_env id (h.has_env id i);
  env = λ id i. k.env id (h.has_env id i) ∙ h.env id i;
  has_signature = λ id i. k.has_signature id (h.has_signature id i);
  signature = λ id i. k.signature id (h.has_signature id i) ∙ h.signature id i;
  has_functor = λ id i. k.has_functor id (h.has_functor id i);
  functor = λ id i. k.functor id (h.has_functor id i) ∙ h.functor id i;
  has_top = λ id i. k.has_top id (h.has_top id i);
  top = λ id i. k.top id (h.has_top id i) ∙ h.top id i;
}

-- only the table went on
pub passes_table : (m : Moment) (new : Table) (after : Bindings OwnVariable) → KeepsTypes m.table new
    → Passes m (moment m.graph new after)
passes_table m new after k = record { graph = keeps m.graph m.graph (extends_self m.graph); home = refl; ids = k }

pub passes_then : {a b c : Moment} → Passes a b → Passes b c → Passes a c
passes_then {a} {b} {c} h k = record {
  graph = graph_then a.graph b.graph c.graph h.graph k.graph;
  home = k.home ∙ h.home;
  ids = keeps_later a.table b.table c.table h.ids k.ids;
}

abbrev scope_with : Bindings OwnVariable → Env → List ℕ → Scope
scope_with sc env home = record { env = env; written = map_rows variable_of (written_of sc); home = home }

-- what is in scope stays what it was
pub scope_kept : {old new : Moment} → IsCoreAt old → Passes old new → new.scope ≡ old.scope
    → scope_at new ≡ scope_at old
scope_kept {old} {new} core p e =
    ap (λ (sc : Bindings OwnVariable). scope_of new.graph sc) e
    ∙ ap₂ (λ (env : Env) (home : List ℕ). scope_with old.scope env home)
    (scope_seen old.graph new.graph p.graph own_entry old.scope core.there) p.home

pub core_kept : {old new : Moment} → IsCoreAt old → Passes old new → new.scope ≡ old.scope → IsCoreAt new
core_kept {old} {new} core p e =
    subst (λ (sc : Bindings OwnVariable). IsCoreScope new.graph new.table sc) (sym e) (record {
      there = scope_there old.graph new.graph p.graph old.scope core.there;
      written = (core_later old.graph old.table new.table old.scope p.ids core).written;
      entered = (core_later old.graph old.table new.table old.scope p.ids core).entered;
    })

-- ---- chains

pub answers_stop : {A B R Q : Type 0} (want : Answer A) (k : A → Answer B) (reads : R → A) (told : Q → B) (e : Fault)
    → Answers want reads (Err e) → Answers (want >>= k) told (Err e)
answers_stop want k reads told (fault.Diag d) h = ap (λ m. m >>= k) h
answers_stop want k reads told fault.NoMemory h = tt

answers_go : {A B Q : Type 0} (want : Answer A) (x : A) (k : A → Answer B) (told : Q → B) (r : Result Q Fault)
    → want ≡ gives x → Answers (k x) told r → Answers (want >>= k) told r
answers_go want x k told r h l = subst (λ m. Answers (m >>= k) told r) (sym h) l

-- the first part is refused
pub stops : {A B R Q : Type 0} {old new : Moment} {want : Scope → Answer A} {reads : Moment → R → A}
    {have : Table → R → Type 0} {told : Moment → Q → B} {got : Table → Q → Type 0} {e : Fault}
    (k : Scope → A → Answer B) → Elabs old want reads have new (Err e)
    → Elabs old (λ sc. want sc >>= k sc) told got new (Err e)
stops {A} {B} {R} {Q} {old} {new} {want} {reads} {have} {told} {got} {e} k h = record {
  infers = answers_stop (want (scope_at old)) (k (scope_at old)) (reads new) (told new) e h.infers;
  has = tt;
  goes = h.goes;
  left = h.left;
  core = h.core;
}

-- the first part gives what the rest goes on with
pub goes_on : {A B R Q : Type 0} {old mid new : Moment} {want : Scope → Answer A} {reads : Moment → R → A}
    {have : Table → R → Type 0} {told : Moment → Q → B} {got : Table → Q → Type 0} {x : R} {r : Result Q Fault}
    (k : Scope → A → Answer B) → IsCoreAt old → Elabs old want reads have mid (Ok x)
    → Elabs mid (λ sc. k sc (reads mid x)) told got new r → Elabs old (λ sc. want sc >>= k sc) told got new r
goes_on {A} {B} {R} {Q} {old} {mid} {new} {want} {reads} {have} {told} {got} {x} {r} k core h l = record {
  infers = answers_go (want (scope_at old)) (reads mid x) (k (scope_at old)) (told new) r h.infers
      (subst (λ sc. Answers (k sc (reads mid x)) (told new) r) (scope_kept core h.goes h.left) l.infers);
  has = l.has;
  goes = passes_then h.goes l.goes;
  left = l.left ∙ h.left;
  core = l.core;
}

-- what holds of an error holds where it is passed on
pub passed : {W R : Type 0} {old new : Moment} {want : Scope → Answer W} {reads : Moment → R → W}
    {have : Table → R → Type 0} (r : Result R Fault) (e : Fault) → IsErrAnd r (λ f. f ≡ e)
    → Elabs old want reads have new (Err e) → Elabs old want reads have new r
passed {W} {R} {old} {new} {want} {reads} {have} (Ok x) e h k = absurd h
passed {W} {R} {old} {new} {want} {reads} {have} (Err f) e h k =
    subst (λ (z : Fault). Elabs old want reads have new (Err z)) (sym h) k

-- want of memory
pub memory : {W R : Type 0} {old new : Moment} {want : Scope → Answer W} {reads : Moment → R → W}
    {have : Table → R → Type 0} → Passes old new → new.scope ≡ old.scope
    → IsCoreAt new → Elabs old want reads have new (Err fault.NoMemory)
memory p e core = record { infers = tt; has = tt; goes = p; left = e; core = core }

-- ---- steps that change the table alone

pub ruled : {m : Moment} {new : Table} {want : Scope → Answer (Ty × Progress)} {r : Result TyId Fault}
    → IsCoreAt m → IsRule m.graph m.table new want r → Elabs m want typed_as Has (moment m.graph new m.scope) r
ruled {m} {new} {want} {r} core h = record {
  infers = h.infers m.scope;
  has = h.has;
  goes = passes_table m new m.scope h.ids;
  left = refl;
  core = core_later m.graph m.table new m.scope h.ids core;
}

pub has_same : (t : Table) (a : TyId) (r : Result TyId Fault) → Has t a → IfOk r (λ same. same ≡ a) → IfOk r (Has t)
has_same t a (Ok same) h k = subst (Has t) (sym k) h
has_same t a (Err e) h k = tt

-- the check of the size at the end
abbrev pub IsSized : Moment → At → TyId → Result TyId Fault → Type 0
IsSized m at a r = Answers (sized (home_scope m.graph) at (type_of m.table a) (progress_at m)) (λ (same : TyId). tt) r

pub checked : {m : Moment} {r : Result TyId Fault} (at : At) (a : TyId) → IsCoreAt m → IsSized m at a r
    → IfOk r (λ same. same ≡ a) → Has m.table a → Elabs m (λ sc. sized_exp sc at (typed_as m a)) typed_as Has m r
checked {m} {r} at a core z same has = record {
  infers = exp_sized m.graph at m.table a r z same;
  has = has_same m.table a r has same;
  goes = passes_table m m.table m.scope (keeps_all m.table);
  left = refl;
  core = core;
}

-- ---- rules, and the check of the size behind them

pub rule_passed : {g : Graph} {old new : Table} {want : Scope → Answer (Ty × Progress)} (r : Result TyId Fault)
    (e : Fault) → IsErrAnd r (λ f. f ≡ e) → IsRule g old new want (Err e) → IsRule g old new want r
rule_passed {g} {old} {new} {want} (Ok x) e h k = absurd h
rule_passed {g} {old} {new} {want} (Err f) e h k =
    subst (λ (z : Fault). IsRule g old new want (Err z)) (sym h) k

pub rule_stops : {g : Graph} {old new : Table} {want : Scope → Answer (Ty × Progress)} {e : Fault} (at : At)
    → IsRule g old new want (Err e) → IsRule g old new (λ sc. ends_sized sc at (want sc)) (Err e)
rule_stops {g} {old} {new} {want} {e} at h = record {
  infers = λ scope. answers_stop (want (scope_of g scope)) (λ r. sized_exp (scope_of g scope) at r)
      (λ (id : TyId). (type_of new id, progress new g)) (λ (id : TyId). (type_of new id, progress new g)) e
      (h.infers scope);
  has = tt;
  ids = h.ids;
}

pub rule_checked : {g : Graph} {old new : Table} {want : Scope → Answer (Ty × Progress)} {y : TyId}
    {r : Result TyId Fault} (at : At) → IsRule g old new want (Ok y)
    → Answers (sized (home_scope g) at (type_of new y) (progress new g)) (λ (same : TyId). tt) r
    → IfOk r (λ same. same ≡ y) → IsRule g old new (λ sc. ends_sized sc at (want sc)) r
rule_checked {g} {old} {new} {want} {y} {r} at h z same = record {
  infers = λ scope. answers_go (want (scope_of g scope)) (type_of new y, progress new g)
      (λ r. sized_exp (scope_of g scope) at r) (λ (id : TyId). (type_of new id, progress new g)) r (h.infers scope)
      (exp_sized g at new y r z same);
  has = has_same new y r h.has same;
  ids = h.ids;
}
