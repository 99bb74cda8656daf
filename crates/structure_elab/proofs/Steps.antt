-- Single forms of structure expressions and declarations: what a call answers of each, from what it answers of its parts.
use Rattle.std.proofs.Common.{◌≡◌, ℕ, List, length, refl, sym, ap, ap₂, ◌∙◌, subst, false}
use Rattle.std.specs.Prelude.{Result, Ok, Err, IfOk, IsErrAnd, Option}
use Rattle.cm_base.specs.declared.fault.Fault.{Fault}
use Rattle.cm_base.specs.declared.fault.Fault.TheVariants as fault
use Rattle.sml_trees.specs.declared.name.At.{At}
use Rattle.sml_trees.specs.declared.name.Name.{Name}
use Rattle.sml_trees.specs.declared.name.LongName.{LongName}
use Rattle.semantic_objects.specs.Tables.{entry}
use Rattle.semantic_objects.specs.Environments.{Env, Functor, Top, structures}
use Rattle.unification.specs.Unification.{depth}
use Rattle.type_nodes.specs.Tables.{Table, state}
use Rattle.sml_modules.specs.declared.id.EnvId.{EnvId}
use Rattle.sml_modules.specs.declared.id.FunId.{FunId}
use Rattle.sml_modules.specs.Graphs.{Graph, Keeps, GivesEnv, env_at, functor_at, HasEnv, HasFunctor}
use Rattle.bare_phrases.specs.Phrases.{DecPhrase}
use Rattle.static_semantics.specs.Inferring.{Progress, Scope, Answer, ◌>>=◌, gives, known, found_at, sized_dec}
use Rattle.static_semantics.specs.CoreInference.{infer_dec}
use Rattle.core_scopes.specs.declared.made.Made.{Made}
use Rattle.type_phrases.specs.Inferred.{Answers, home_scope, progress}
use Rattle.type_phrases.proofs.Keeping.{keeps_all}
use Rattle.type_phrases.proofs.Steps.{still_refused}
use Rattle.pattern_elab.specs.declared.own.OwnVariable.{OwnVariable}
use Rattle.pattern_elab.specs.Scopes.{scope_of}
use Rattle.core_rules.proofs.Ruling.{keeps_same}
use Rattle.module_semantics.specs.SignatureInference.{single}
use Rattle.unit_semantics.specs.UnitPhrases.{ModulePhrase, ModuleDec, module_dec, read_module}
use Rattle.unit_semantics.specs.StructureInference.{module_at, core_scope, top_under, functor_applied, infer_module, infer_module_dec}
use Rattle.module_rules.specs.Results.{Grows}
use Rattle.module_scopes.specs.declared.top.TopScope.{TopScope}
use Rattle.module_scopes.specs.Tops.{top_seen, IsTopScope}
use Rattle.structure_elab.specs.Moments.{Moment, moment, seen_at, progress_at, read_env, read_made, made_at, HasMade, Passes, Elabs, GoesInto}
use Rattle.structure_elab.specs.Phrases.{IsModule, IsModuleBehind, IsDeclared, IsDeclaredBehind, IsCore, IsStruct}
use Rattle.structure_elab.proofs.Chains.{passes_top, passes_then, passes_over, seen_kept, seen_before, stops, goes_on, same_left}
use Rattle.structure_elab.proofs.Readying.{core_seen}

-- ---- phrases as they are written

pub as_module : {old new : Moment} {p q : ModulePhrase} {r : Result EnvId Fault} → p ≡ q → IsModule old q new r
    → IsModule old p new r
as_module {old} {new} {p} {q} {r} e h = subst (λ z. IsModule old z new r) (sym e) h

pub as_dec : {old new : Moment} {p q : ModuleDec} {r : Result (Made OwnVariable) Fault} → p ≡ q
    → IsDeclared old q new r → IsDeclared old p new r
as_dec {old} {new} {p} {q} {r} e h = subst (λ z. IsDeclared old z new r) (sym e) h

-- without the option that seals
pub read_plain : (str : ModulePhrase) → read_module false str ≡ str
read_plain (ModulePhrase.Struct dec at) = refl
read_plain (ModulePhrase.Named long at) = refl
read_plain (ModulePhrase.Transparent str sig at) = refl
read_plain (ModulePhrase.Opaque str sig at) = refl
read_plain (ModulePhrase.Functor name argument at) = refl
read_plain (ModulePhrase.Within dec body at) = refl

-- ---- calls that change nothing, or only the graph

pub changes_graph : {m : Moment} (g : Graph) (t : Table) → Keeps m.graph g → g.home ≡ m.graph.home → t ≡ m.table
    → Passes m (moment g t m.top)
changes_graph {m} g t k e f = record { graph = k; home = e; ids = keeps_same m.table t f }

pub state_same : (t u : Table) (g : Graph) → u ≡ t → progress u g ≡ progress t g
state_same t u g e = ap (λ (z : Table). progress z g) e

-- ---- `struct dec end`

pub struct_first : {m0 m1 : Moment} {e : Fault} (p : ModuleDec) → IsDeclared m0 p m1 (Err e)
    → IsStruct m0 p m1 (Err e)
struct_first {m0} {m1} {e} p h = record {
  infers = still_refused (infer_module_dec depth m0.graph.home (seen_at m0) p (progress_at m0)) (read_made m1)
      (read_env m1) e h.infers;
  has = tt;
  goes = h.goes;
  left = tt;
}

pub struct_memory : {m0 m1 : Moment} {made : Made OwnVariable} (p : ModuleDec) (g : Graph)
    → IsDeclared m0 p m1 (Ok made) → g ≡ m1.graph → IsStruct m0 p (moment g m1.table m1.top) (Err fault.NoMemory)
struct_memory {m0} {m1} {made} p g h e = record {
  infers = tt;
  has = tt;
  goes = passes_over m0.top m1.top (subst (λ (z : Graph). Passes m0 (moment z m1.table m1.top)) (sym e) h.goes);
  left = tt;
}

pub struct_done : {m0 m1 : Moment} {made : Made OwnVariable} (p : ModuleDec) (g : Graph) (id : EnvId)
    → IsDeclared m0 p m1 (Ok made) → GivesEnv m1.graph g (made_at m1 made) id
    → IsStruct m0 p (moment g m1.table m1.top) (Ok id)
struct_done {m0} {m1} {made} p g id h given = record {
  infers = h.infers
      ∙ ap₂ (λ (x : Env) (n : ℕ). gives (x, (let st : Progress = record { types = state m1.table; names = n } in st)))
      (sym given.stands) (sym (ap length given.made));
  has = given.there;
  goes = passes_then {a = m0} {b = m1} {c = moment g m1.table m1.top} h.goes
      (record { graph = given.keeps; home = given.home; ids = keeps_all m1.table });
  left = h.left;
}

-- ---- a long name

known_then : {A B R : Type 0} (want : Answer A) (k : A → Answer B) (reads : R → A) (told : R → B) (r : Result R Fault)
    → ((x : R) → k (reads x) ≡ gives (told x)) → Answers want reads r → Answers (want >>= k) told r
known_then want k reads told (Ok x) f h = ap (λ m. m >>= k) h ∙ f x
known_then want k reads told (Err (fault.Diag d)) f h = ap (λ m. m >>= k) h
known_then want k reads told (Err fault.NoMemory) f h = tt

pub named : {m : Moment} (long : LongName) (at : At) (r : Result EnvId Fault) → IsTopScope m.graph m.top
    → ((inner : Scope) → inner.home ≡ m.graph.home → Answers
    (known inner long (found_at structures long.parts (scope_of m.graph m.top.core).env)) (env_at m.graph) r)
    → IfOk r (HasEnv m.graph) → IsModule m (ModulePhrase.Named long at) m r
named {m} long at r there h has = record {
  infers = known_then
      (known (core_scope m.graph.home (seen_at m)) long (found_at structures long.parts (seen_at m).env))
      (λ env. gives (env, progress_at m)) (env_at m.graph) (read_env m) r (λ id. refl)
      (h (core_scope m.graph.home (seen_at m)) refl);
  has = has;
  goes = passes_top m m.top;
  left = same_left r m.top m.top refl;
}

-- ---- a functor with its argument

abbrev IsFunctorOf : Moment → Name → Result FunId Fault → Type 0
IsFunctorOf m name r =
    Elabs m (λ home top. known (core_scope home top) (single name) (entry name.text top.functors))
    (λ n (fun : FunId). functor_at n.graph fun) HasFunctor m r

found : {m : Moment} (name : Name) (r : Result FunId Fault)
    → ((inner : Scope) → inner.home ≡ m.graph.home → Answers
    (known inner (single name) (entry name.text (top_seen m.graph m.top).functors)) (functor_at m.graph) r)
    → IfOk r (HasFunctor m.graph) → IsFunctorOf m name r
found {m} name r h has = record {
  infers = h (core_scope m.graph.home (seen_at m)) refl;
  has = has;
  goes = passes_top m m.top;
  left = same_left r m.top m.top refl;
}

abbrev applied : ModulePhrase → Functor → List ℕ → Top → Env × Progress → Answer (Env × Progress)
applied argument fun home top e = functor_applied (core_scope home top) (module_at argument) fun e

abbrev fun_rest : ModulePhrase → Progress → List ℕ → Top → Functor → Answer (Env × Progress)
fun_rest argument st home top fun = infer_module depth home top argument st >>= applied argument fun home top

module _ {m0 : Moment} (name : Name) (argument : ModulePhrase) (at : At) where
  pub fun_first : {e : Fault} → ((inner : Scope) → inner.home ≡ m0.graph.home → Answers
      (known inner (single name) (entry name.text (top_seen m0.graph m0.top).functors)) (functor_at m0.graph) (Err e))
      → IsModule m0 (ModulePhrase.Functor name argument at) m0 (Err e)
  fun_first {e} h = stops (fun_rest argument (progress_at m0)) (found {m = m0} name (Err e) h tt)

  pub fun_second : {m1 : Moment} {e : Fault} (fun : FunId) → IsTopScope m0.graph m0.top
      → ((inner : Scope) → inner.home ≡ m0.graph.home → Answers
      (known inner (single name) (entry name.text (top_seen m0.graph m0.top).functors)) (functor_at m0.graph) (Ok fun))
      → HasFunctor m0.graph fun → IsModule m0 argument m1 (Err e)
      → IsModule m0 (ModulePhrase.Functor name argument at) m1 (Err e)
  fun_second {m1} {e} fun there h has k =
      goes_on (fun_rest argument (progress_at m0)) there (found {m = m0} name (Ok fun) h has)
      (stops (applied argument (functor_at m0.graph fun)) k)

  pub fun_done : {m1 : Moment} {id : EnvId} (fun : FunId) (place : At) (g : Graph) (t : Table)
      (r : Result EnvId Fault) → place ≡ module_at argument
      → IsTopScope m0.graph m0.top
      → ((inner : Scope) → inner.home ≡ m0.graph.home → Answers
      (known inner (single name) (entry name.text (top_seen m0.graph m0.top).functors)) (functor_at m0.graph) (Ok fun))
      → HasFunctor m0.graph fun → IsModule m0 argument m1 (Ok id) → IsTopScope m1.graph m1.top
      → ((inner : Scope) → inner.home ≡ m1.graph.home
      → Answers (functor_applied inner place (functor_at m1.graph fun) (env_at m1.graph id, progress_at m1))
      (λ (made : EnvId). (env_at g made, progress t g)) r)
      → IfOk r (HasEnv g) → Grows m1.graph g → t ≡ m1.table
      → IsModule m0 (ModulePhrase.Functor name argument at) (moment g t m1.top) r
  fun_done {m1} {id} fun place g t r at_place there h has k there1 l env grows e =
      goes_on (fun_rest argument (progress_at m0)) there (found {m = m0} name (Ok fun) h has)
      (goes_on (applied argument (functor_at m0.graph fun)) there k (record {
        infers = subst (λ (f : Functor). Answers (functor_applied (core_scope m1.graph.home (seen_at m1))
            (module_at argument) f (env_at m1.graph id, progress_at m1))
            (λ (made : EnvId). (env_at g made, progress t g)) r) (k.goes.graph.functor fun has)
            (subst (λ (z : At). Answers (functor_applied (core_scope m1.graph.home (seen_at m1)) z
            (functor_at m1.graph fun) (env_at m1.graph id, progress_at m1))
            (λ (made : EnvId). (env_at g made, progress t g)) r) at_place
            (l (core_scope m1.graph.home (seen_at m1)) refl));
        has = env;
        goes = changes_graph {m = m1} g t grows.keeps grows.home e;
        left = same_left r m1.top m1.top refl;
      }))

-- ---- `let dec in str end`

abbrev within_rest : ModulePhrase → List ℕ → Top → Env × Progress → Answer (Env × Progress)
within_rest body home top d = infer_module depth home (top_under d.0 top) body d.1

module _ {m0 m1 : Moment} (dec : ModuleDec) (body : ModulePhrase) (at : At) where
  pub within_first : {e : Fault} → IsDeclared m0 dec m1 (Err e) → IsModule m0 (ModulePhrase.Within dec body at) m1 (Err e)
  within_first h = stops (within_rest body) h

  pub within_done : {m2 : Moment} {made : Made OwnVariable} {r : Result EnvId Fault} → IsTopScope m0.graph m0.top
      → IsDeclared m0 dec m1 (Ok made) → IsModuleBehind m1 made body m2 r
      → IsModule m0 (ModulePhrase.Within dec body at) m2 r
  within_done there h k = goes_on (within_rest body) there h k

-- ---- under an environment that was entered and is left again

module _ {W R : Type 0} {m0 : Moment} {g : Graph} {t : Table} {top1 top2 : TopScope} (env : Env)
    (want : List ℕ → Top → Progress → Answer W) {reads : Moment → R → W} {have : Graph → R → Type 0}
    (u : GoesInto m0.graph env m0.top top1) where
  pub under_stops : {e : Fault}
      → Elabs (moment m0.graph m0.table top1) (λ home top. want home top (progress_at m0)) reads have (moment g t top2)
      (Err e)
      → Elabs m0 (λ home top. want home (top_under env top) (progress_at m0)) reads have (moment g t top2) (Err e)
  under_stops {e} h = record {
    infers = subst (λ (z : Top). Answers (want m0.graph.home z (progress_at m0)) (reads (moment g t top2)) (Err e))
        u.seen h.infers;
    has = tt;
    goes = passes_over m0.top top2 h.goes;
    left = tt;
  }

  pub under_done : {x : R} {top3 : TopScope}
      → ((m : Moment) → (top : TopScope) → reads m x ≡ reads (moment m.graph m.table top) x)
      → Elabs (moment m0.graph m0.table top1) (λ home top. want home top (progress_at m0)) reads have (moment g t top2)
      (Ok x) → top3 ≡ m0.top
      → Elabs m0 (λ home top. want home (top_under env top) (progress_at m0)) reads have (moment g t top3) (Ok x)
  under_done {x} {top3} same h e = record {
    infers = subst (λ (z : Top). want m0.graph.home z (progress_at m0) ≡ gives (reads (moment g t top3) x)) u.seen
        (h.infers ∙ ap (λ (w : W). gives w) (same (moment g t top2) top3));
    has = h.has;
    goes = passes_over m0.top top3 h.goes;
    left = e;
  }

-- ---- declarations of the core

pub core_declared : {m0 : Moment} (p : DecPhrase) (g : Graph) (t : Table) (top : TopScope)
    (r : Result (Made OwnVariable) Fault) → IsTopScope m0.graph m0.top
    → Answers (infer_dec depth (scope_of m0.graph m0.top.core) p (progress_at m0)) (read_made (moment g t top)) r
    → IfOk r (HasMade g) → Passes m0 (moment g t top) → top ≡ m0.top → IsCore m0 p (moment g t top) r
core_declared {m0} p g t top r there h has goes e = record {
  infers = subst (λ sc. Answers (infer_dec depth sc p (progress_at m0)) (read_made (moment g t top)) r)
      (core_seen m0.graph m0.top there) h;
  has = has;
  goes = goes;
  left = same_left r m0.top top e;
}

-- a declaration of the core in a structure
pub core_as : {m0 m1 : Moment} {p q : DecPhrase} {r : Result (Made OwnVariable) Fault} → p ≡ q
    → module_dec q ≡ ModuleDec.Core q → IsCore m0 p m1 r → IsDeclared m0 (module_dec p) m1 r
core_as {m0} {m1} {p} {q} {r} e f h =
    as_dec (ap module_dec e ∙ f) (subst (λ (z : DecPhrase). IsCore m0 z m1 r) e h)

-- ---- `local`

abbrev dec_end : At → List ℕ → Top → Env × Progress → Answer (Env × Progress)
dec_end at home top r = sized_dec (core_scope home top) at r

abbrev local_rest : ModuleDec → At → List ℕ → Top → Env × Progress → Answer (Env × Progress)
local_rest shown at home top h = infer_module_dec depth home (top_under h.0 top) shown h.1 >>= dec_end at home top

pub made_there : (g : Graph) (made : Made OwnVariable) (q : Result (Made OwnVariable) Fault) → HasMade g made
    → IfOk q (λ same. same ≡ made) → IfOk q (HasMade g)
made_there g made (Ok x) there e = subst (λ (z : Made OwnVariable). HasMade g z) (sym e) there
made_there g made (Err f) there e = tt

-- the check of the size at the end
pub checked : {m : Moment} {r : Result (Made OwnVariable) Fault} (at : At) (made : Made OwnVariable)
    → Answers (sized_dec (home_scope m.graph) at (read_made m made)) (read_made m) r → HasMade m.graph made
    → IfOk r (λ same. same ≡ made)
    → Elabs m (λ home top. dec_end at home top (read_made m made)) read_made HasMade m r
checked {m} {r} at made h there same = record {
  infers = h;
  has = made_there m.graph made r there same;
  goes = passes_top m m.top;
  left = same_left r m.top m.top refl;
}

pub same_table : {W R : Type 0} {m0 m1 : Moment} {want : List ℕ → Top → Answer W} {reads : Moment → R → W}
    {have : Graph → R → Type 0} {r : Result R Fault} (t : Table) → t ≡ m1.table → Elabs m0 want reads have m1 r
    → Elabs m0 want reads have (moment m1.graph t m1.top) r
same_table {W} {R} {m0} {m1} {want} {reads} {have} {r} t e h =
    subst (λ (z : Table). Elabs m0 want reads have (moment m1.graph z m1.top) r) (sym e) h

module _ {m0 m1 : Moment} (hidden shown : ModuleDec) (at : At) where
  pub local_first : {e : Fault} → IsDeclared m0 hidden m1 (Err e) → IsDeclared m0 (ModuleDec.Local hidden shown at) m1 (Err e)
  local_first h = stops (local_rest shown at) h

  pub local_second : {m2 : Moment} {made : Made OwnVariable} {e : Fault} → IsTopScope m0.graph m0.top
      → IsDeclared m0 hidden m1 (Ok made) → IsDeclaredBehind m1 made shown m2 (Err e)
      → IsDeclared m0 (ModuleDec.Local hidden shown at) m2 (Err e)
  local_second there h k = goes_on (local_rest shown at) there h (stops (dec_end at) k)

  pub local_done : {m2 : Moment} {made more : Made OwnVariable} {r : Result (Made OwnVariable) Fault} (t : Table)
      → IsTopScope m0.graph m0.top → IsDeclared m0 hidden m1 (Ok made) → IsTopScope m1.graph m1.top
      → IsDeclaredBehind m1 made shown m2 (Ok more) → t ≡ m2.table
      → Answers (sized_dec (home_scope m2.graph) at (read_made m2 more)) (read_made m2) r
      → IfOk r (λ same. same ≡ more) → IsDeclared m0 (ModuleDec.Local hidden shown at) (moment m2.graph t m2.top) r
  local_done {m2} {made} {more} {r} t there h there1 k e z same =
      same_table {m1 = m2} t e
      (goes_on (local_rest shown at) there h
      (goes_on (dec_end at) there1 k (checked {m = m2} {r = r} at more z k.has same)))
