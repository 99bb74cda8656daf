-- What is in scope stays what phrases of modules ask for, from call to call.
use Rattle.std.proofs.Common.{◌≡◌, ℕ, List, [], sym, ap, subst}
use Rattle.std.specs.Prelude.{Ok}
use Rattle.sml_trees.specs.declared.name.At.{At}
use Rattle.sml_trees.specs.declared.name.Name.{Name}
use Rattle.semantic_objects.specs.declared.name.TyId.{TyId}
use Rattle.semantic_objects.specs.Environments.{Env, Top}
use Rattle.unification.specs.Unification.{depth}
use Rattle.type_nodes.specs.Keeping.{IsKept}
use Rattle.sml_modules.specs.declared.id.EnvId.{EnvId}
use Rattle.sml_modules.specs.Items.{map_rows}
use Rattle.sml_modules.specs.Graphs.{Graph}
use Rattle.name_trails.specs.Trails.{Rows}
use Rattle.static_semantics.specs.Inferring.{Progress, Scope, gives}
use Rattle.static_semantics.specs.Holding.{Given}
use Rattle.core_scopes.specs.declared.made.Made.{Made}
use Rattle.core_scopes.specs.Scopes.{seen, written_of}
use Rattle.core_scopes.proofs.Scoping.{all_bare}
use Rattle.pattern_elab.specs.declared.own.OwnVariable.{OwnVariable}
use Rattle.pattern_elab.specs.Scopes.{own_entry, variable_of, scope_of, AreVariables, IsCoreScope}
use Rattle.pattern_elab.proofs.Scoping.{bare_entered}
use Rattle.closing_laws.specs.Promises.{IsOfState}
use Rattle.static_semantics.proofs.TypesGrow.{given_more}
use Rattle.inference_laws.proofs.Making.{given_both}
use Rattle.unit_semantics.specs.UnitPhrases.{ModulePhrase, ModuleDec, ModuleBinds, TopPhrase}
use Rattle.unit_semantics.specs.StructureInference.{core_scope, top_under, infer_module, infer_module_dec}
use Rattle.unit_laws.specs.Spelling.{ModuleSpelt, ModuleDecSpelt}
use Rattle.unit_laws.proofs.ModulesMade.{ModMade, module_made}
use Rattle.table_laws.specs.Rising.{RisingEnv}
use Rattle.module_growth.specs.Grown.{IsInside, IsGrown}
use Rattle.module_growth.proofs.Modules.{inside_later, inside_under, ready_core, module_grows}
use Rattle.unit_derivations.specs.Promises.{every}
use Rattle.unit_derivations.proofs.Spelt.{top_spelt}
use Rattle.module_scopes.specs.declared.top.TopScope.{TopScope}
use Rattle.module_scopes.specs.Tops.{top_seen, IsTopScope}
use Rattle.structure_elab.specs.Moments.{Moment, moment, seen_at, progress_at, read_env, read_made, made_at, Passes, GoesInto}
use Rattle.structure_elab.specs.Ready.{IsReadyAt, IsReadyBehind}
use Rattle.structure_elab.specs.Phrases.{IsModule, IsDeclared}
use Rattle.structure_elab.proofs.Chains.{seen_kept, there_kept, bare_kept}

-- ---- every phrase is spelt with good names where all names are good

nowhere : At
nowhere = record { line = 0; col = 0 }

nameless : Name
nameless = record { text = []; line = 0; col = 0 }

pub module_spelt : (str : ModulePhrase) → ModuleSpelt every str
module_spelt str = (top_spelt (TopPhrase.Structures (ModuleBinds.Bind nameless str ModuleBinds.EndOfBinds) nowhere)).0

dec_spelt : (dec : ModuleDec) → ModuleDecSpelt every dec
dec_spelt dec = module_spelt (ModulePhrase.Struct dec nowhere)

-- ---- what is in scope, behind a phrase that gave something

pub module_stays : (home : List ℕ) (top : Top) (str : ModulePhrase) (st : Progress) → IsInside every home top st
    → Given (λ r. IsInside every home top r.1) (infer_module depth home top str st)
module_stays home top str st h =
    given_more (λ r. ModMade every home top st r × IsGrown st r) (λ r. IsInside every home top r.1)
    (infer_module depth home top str st) (λ r k. inside_later every home top st r h k.0 k.1.grows)
    (given_both (ModMade every home top st) (IsGrown st) (infer_module depth home top str st)
    (module_made every depth home top str st (module_spelt str) h.ready)
    (module_grows every depth home top str st (module_spelt str) h))

record DecIs (home : List ℕ) (top : Top) (st : Progress) (d : Env × Progress) : Type 0 where
  made : ModMade every home top st d
  rises : RisingEnv d.0
  grown : IsGrown st d

dec_is : (home : List ℕ) (top : Top) (dec : ModuleDec) (st : Progress) (d : Env × Progress)
    → IsInside every home top st → infer_module_dec depth home top dec st ≡ gives d → DecIs home top st d
dec_is home top dec st d h e = record {
  made = subst (Given (ModMade every home top st)) e
      (Rattle.unit_laws.proofs.ModulesMade.dec_of every depth home top dec st (dec_spelt dec) h.ready);
  rises = subst (Given (λ d. RisingEnv d.0)) e (Rattle.table_laws.proofs.Units.dec_of depth home top dec st h.rises);
  grown = subst (Given (IsGrown st)) e
      (Rattle.module_growth.proofs.Modules.dec_grows every depth home top dec st (dec_spelt dec) h);
}

pub dec_inside : (home : List ℕ) (top : Top) (dec : ModuleDec) (st : Progress) (d : Env × Progress)
    → IsInside every home top st → infer_module_dec depth home top dec st ≡ gives d
    → IsInside every home (top_under d.0 top) d.1
dec_inside home top dec st d h e =
    let k : DecIs home top st d = dec_is home top dec st d h e in
    inside_under every home top st d h k.made k.rises k.grown

-- ---- at moments

pub inside_at : {old new : Moment} (top : Top) → Passes old new
    → IsInside every old.graph.home top (progress_at new) → IsInside every new.graph.home top (progress_at new)
inside_at {old} {new} top p h = subst (λ home. IsInside every home top (progress_at new)) (sym p.home) h

pub inside_seen : {old new : Moment} → IsTopScope old.graph old.top → Passes old new → new.top ≡ old.top
    → IsInside every old.graph.home (seen_at old) (progress_at new)
    → IsInside every new.graph.home (seen_at new) (progress_at new)
inside_seen {old} {new} there p e h =
    subst (λ (top : Top). IsInside every new.graph.home top (progress_at new))
    (sym (seen_kept {old = old} {new = new} there p e)) (inside_at {old = old} {new = new} (seen_at old) p h)

-- behind a structure expression
pub module_later : {m0 m1 : Moment} (str : ModulePhrase) (id : EnvId) → IsReadyAt m0 → IsKept m1.table
    → IsModule m0 str m1 (Ok id) → IsReadyAt m1
module_later {m0} {m1} str id r k h = record {
  there = there_kept {old = m0} {new = m1} r.there h.goes h.left;
  kept = k;
  inside = inside_seen {old = m0} {new = m1} r.there h.goes h.left
      (subst (Given _) h.infers (module_stays m0.graph.home (seen_at m0) str (progress_at m0) r.inside));
  bare = bare_kept {old = m0.top} {new = m1.top} r.bare h.left;
}

-- behind a declaration, under what it made
pub behind : {m0 m1 : Moment} (dec : ModuleDec) (made : Made OwnVariable) → IsReadyAt m0 → IsKept m1.table
    → IsDeclared m0 dec m1 (Ok made) → IsReadyBehind m1 made
behind {m0} {m1} dec made r k h = record {
  there = there_kept {old = m0} {new = m1} r.there h.goes h.left;
  kept = k;
  inside = subst (λ (top : Top). IsInside every m1.graph.home (top_under (made_at m1 made) top) (progress_at m1))
      (sym (seen_kept {old = m0} {new = m1} r.there h.goes h.left))
      (inside_at {old = m0} {new = m1} (top_under (made_at m1 made) (seen_at m0)) h.goes
      (dec_inside m0.graph.home (seen_at m0) dec (progress_at m0) (read_made m1 made) r.inside h.infers));
  envs = h.has;
  bare = bare_kept {old = m0.top} {new = m1.top} r.bare h.left;
}

-- behind what was entered
pub entered : {m : Moment} (made : Made OwnVariable) (top : TopScope) → IsReadyBehind m made
    → GoesInto m.graph (made_at m made) m.top top → IsReadyAt (moment m.graph m.table top)
entered {m} made top r g = record {
  there = g.there r.there;
  kept = r.kept;
  inside = subst (λ (z : Top). IsInside every m.graph.home z (progress_at m)) (sym g.seen) r.inside;
  bare = all_bare m.top.core top.core g.bare r.bare;
}

-- ---- for declarations of the core

pub core_there : {m : Moment} → IsReadyAt m → IsCoreScope m.graph m.table m.top.core
core_there {m} r = record {
  there = r.there.core;
  written = subst (AreVariables m.table) (sym r.there.written) tt;
  entered = bare_entered m.table m.top.core.values r.bare;
}

pub core_seen : (g : Graph) (top : TopScope) → IsTopScope g top
    → scope_of g top.core ≡ core_scope g.home (top_seen g top)
core_seen g top h = ap (λ (w : Rows TyId). (let sc : Scope = record {
  env = seen g own_entry top.core;
  written = map_rows variable_of w;
  home = g.home;
} in sc)) h.written

pub core_state : {m : Moment} → IsReadyAt m → IsOfState (scope_of m.graph m.top.core) (progress_at m)
core_state {m} r = subst (λ sc. IsOfState sc (progress_at m)) (sym (core_seen m.graph m.top r.there))
    (ready_core every m.graph.home (seen_at m) (progress_at m) r.inside)
