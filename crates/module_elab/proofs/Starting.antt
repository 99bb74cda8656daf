-- A whole unit: what is in scope at its beginning, and what was defined at its end.
use Rattle.std.proofs.Common.{◌≡◌, ℕ, List, [], length, map, refl, sym, ap, ap₂, ◌∙◌, subst, Bool}
use Rattle.sml_trees.specs.declared.unit.TopDec.{TopDec}
use Rattle.semantic_objects.specs.Environments.{Env, Top}
use Rattle.type_nodes.specs.Keeping.{IsKept}
use Rattle.type_nodes.specs.Tables.{Table, state}
use Rattle.sml_modules.specs.declared.id.EnvId.{EnvId}
use Rattle.sml_modules.specs.declared.id.TopId.{TopId}
use Rattle.sml_modules.specs.Graphs.{Graph, env_at, top_at, HasTop, GivesTop, IsIdOf}
use Rattle.core_scopes.specs.Scopes.{AreBare}
use Rattle.std.specs.Prelude.{Result}
use Rattle.cm_base.specs.declared.fault.Fault.{Fault}
use Rattle.unification.specs.Unification.{depth}
use Rattle.static_semantics.specs.Inferring.{Progress, Answer, gives}
use Rattle.static_semantics.specs.Holding.{Given, AllItems}
use Rattle.static_semantics.proofs.Holding.{has_modified}
use Rattle.elaboration_laws.specs.Declaring.{BindsValues}
use Rattle.type_phrases.specs.Inferred.{Answers, progress}
use Rattle.unit_semantics.specs.UnitInference.{with_given, infer_tops, infer_unit}
use Rattle.unit_semantics.specs.UnitPhrases.{TopPhrase, top_phrase, read_top, read_unit}
use Rattle.unit_semantics.specs.ElaboratesUnits.{ElaboratesUnit}
use Rattle.unit_semantics.specs.Promises.{IsClosedScheme, IsClosedFunction}
use Rattle.unit_laws.proofs.Promised.{ready_below}
use Rattle.table_laws.proofs.Tables.{rising_modified}
use Rattle.unit_derivations.specs.Declaring.{TopHas}
use Rattle.unit_derivations.specs.Derived.{IsAtTop}
use Rattle.unit_derivations.specs.Promises.{every, IsGiven}
use Rattle.unit_derivations.proofs.Promised.{units_have_derivations}
use Rattle.module_scopes.specs.declared.top.TopScope.{TopScope}
use Rattle.module_scopes.specs.Tops.{top_seen, IsTopScope}
use Rattle.initial_basis.specs.Basis.{basis_env, basis_top}
use Rattle.basis_laws.specs.Promises.{MayBeGiven}
use Rattle.basis_laws.proofs.Promised.{units_begin_with_the_basis}
use Rattle.structure_elab.specs.Moments.{moment}
use Rattle.top_bindings.specs.Ready.{IsReadyTop}
use Rattle.module_elab.specs.Units.{unit_alone}
use Rattle.module_elab.proofs.Alone.{unit_by_itself}

at_beginning : (home : List ℕ) (basis : Env) (given : Top) (st : Progress) → IsGiven home basis given st
    → IsAtTop every home (with_given basis given) st
at_beginning home basis given st h = record {
  ready = ready_below every home (with_given basis given) st h.below;
  rises = record {
    env = rising_modified basis given.env h.basis_rises h.given_rises.env;
    signatures = h.given_rises.signatures;
    functors = h.given_rises.functors;
    funsigs = h.given_rises.funsigs;
  };
  closed = record {
    env = has_modified IsClosedScheme IsClosedFunction basis given.env h.basis_closed h.given_closed.env;
    signatures = h.given_closed.signatures;
    functors = h.given_closed.functors;
    funsigs = h.given_closed.funsigs;
  };
  fit = h.fit;
}

-- what is in scope at the beginning
seen_first : (g h : Graph) (basis : Top) (top given : TopId) (env : EnvId) (scope : TopScope) → HasTop g given
    → GivesTop g h basis top → IsIdOf h (top_at h top).env env
    → top_seen h scope ≡ with_given (env_at h env) (top_at h given)
    → top_seen h scope ≡ with_given basis.env (top_at g given)
seen_first g h basis top given env scope has b e s =
    s ∙ ap₂ (λ (x : Env) (y : Top). with_given x y) (e.stands ∙ ap (λ (z : Top). z.env) b.stands) (b.keeps.top given has)

pub ready_first : (g h : Graph) (t : Table) (nobasis : Bool) (top given : TopId) (env : EnvId) (scope : TopScope)
    → MayBeGiven g.home (top_at g given) (progress t g) → HasTop g given → GivesTop g h (basis_top nobasis) top
    → IsIdOf h (top_at h top).env env → top_seen h scope ≡ with_given (env_at h env) (top_at h given)
    → AreBare scope.core → IsTopScope h scope → IsKept t → IsReadyTop (moment h t scope)
ready_first g h t nobasis top given env scope may has b e s bare there k = record {
  there = there;
  kept = k;
  at = subst (λ home. IsAtTop every home (top_seen h scope) (progress t h)) (sym b.home)
      (subst (λ (z : Top). IsAtTop every g.home z (progress t h))
      (sym (seen_first g h (basis_top nobasis) top given env scope has b e s))
      (subst (λ (n : ℕ). IsAtTop every g.home (with_given (basis_env nobasis) (top_at g given))
      (let st : Progress = record { types = state t; names = n } in st)) (sym (ap length b.made))
      (at_beginning g.home (basis_env nobasis) (top_at g given) (progress t g)
      (units_begin_with_the_basis.given g.home nobasis (top_at g given) (progress t g) may k.fit))));
  bare = bare;
}

-- what declarations answer from the beginning, the unit answers
pub unit_as : {R : Type 0} (g h : Graph) (t : Table) (basis : Top) (top given : TopId) (env : EnvId) (scope : TopScope)
    (sealing : Bool) (tops : List TopPhrase) (reads : R → Top × Progress) (r : Result R Fault) → HasTop g given
    → GivesTop g h basis top → IsIdOf h (top_at h top).env env
    → top_seen h scope ≡ with_given (env_at h env) (top_at h given)
    → Answers (infer_tops depth h.home (top_seen h scope) (read_unit sealing tops) (progress t h)) reads r
    → Answers (infer_unit depth g.home basis.env (top_at g given) sealing tops (progress t g)) reads r
unit_as g h t basis top given env scope sealing tops reads r has b e s k =
    subst (λ home. Answers (infer_tops depth home (with_given basis.env (top_at g given)) (read_unit sealing tops)
    (progress t g)) reads r) b.home
    (subst (λ (z : Top). Answers (infer_tops depth h.home z (read_unit sealing tops) (progress t g)) reads r)
    (seen_first g h basis top given env scope has b e s)
    (subst (λ (n : ℕ). Answers (infer_tops depth h.home (top_seen h scope) (read_unit sealing tops)
    (let st : Progress = record { types = state t; names = n } in st)) reads r) (ap length b.made) k))

-- .. and what was defined is made at its end
pub unit_made : (mid new : Graph) (t : Table) (want : Answer (Top × Progress)) (made : Top) (id : TopId)
    → want ≡ gives (made, progress t mid) → GivesTop mid new made id → want ≡ gives (top_at new id, progress t new)
unit_made mid new t want made id h given =
    h ∙ ap₂ (λ (x : Top) (n : ℕ). gives {A = Top × Progress} (
      x,
      (let st : Progress = record {
        types = state t;
        names = n;
      } in st),
    )) (sym given.stands) (sym (ap length given.made))

-- ---- what a unit defines by itself, and by the rules

pub alone_from : {R : Type 0} (g : Graph) (t : Table) (nobasis : Bool) (given : TopId) (sealing : Bool)
    (tops : List TopPhrase) (reads : R → Top × Progress) (r : Result R Fault)
    → MayBeGiven g.home (top_at g given) (progress t g) → IsKept t → g.made ≡ []
    → Answers (infer_unit depth g.home (basis_env nobasis) (top_at g given) sealing tops (progress t g)) reads r
    → Answers (unit_alone g.home (basis_env nobasis) (top_at g given) sealing tops)
    (λ x. ((reads x).0, (reads x).1.names)) r
alone_from g t nobasis given sealing tops reads r may k none h =
    unit_by_itself g.home (basis_env nobasis) (top_at g given) sealing tops (progress t g) reads r
    (units_begin_with_the_basis.closed nobasis) may.closed k.fit (ap length none) h

pub sound_from : (g : Graph) (t : Table) (nobasis : Bool) (given : TopId) (sealing : Bool) (tops : List TopPhrase)
    (r : Top × Progress) → MayBeGiven g.home (top_at g given) (progress t g) → IsKept t
    → AllItems (TopHas BindsValues) (read_unit sealing tops)
    → infer_unit depth g.home (basis_env nobasis) (top_at g given) sealing tops (progress t g) ≡ gives r
    → ElaboratesUnit r.1.types g.home (basis_env nobasis) (top_at g given) (length g.made) (read_unit sealing tops) r.0
    r.1.names
sound_from g t nobasis given sealing tops r may k has e =
    subst (Given (λ q. ElaboratesUnit q.1.types g.home (basis_env nobasis) (top_at g given) (length g.made)
    (read_unit sealing tops) q.0 q.1.names)) e
    (units_have_derivations.all depth g.home (basis_env nobasis) (top_at g given) sealing tops (progress t g) has
    (units_begin_with_the_basis.given g.home nobasis (top_at g given) (progress t g) may k.fit))

-- the declarations of a unit as a slice
pub of_decs : {R : Type 0} (home : List ℕ) (top : Top) (st : Progress) (reads : R → Top × Progress) (r : Result R Fault)
    (decs all : List TopDec) (sealing : Bool) → decs ≡ all
    → Answers (infer_tops depth home top (map (read_top sealing) (map top_phrase decs)) st) reads r
    → Answers (infer_tops depth home top (read_unit sealing (map top_phrase all)) st) reads r
of_decs home top st reads r decs all sealing e h =
    subst (λ (z : List TopDec). Answers (infer_tops depth home top (map (read_top sealing) (map top_phrase z)) st) reads r)
    e h
