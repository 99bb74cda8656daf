-- What is in scope is entered and left.
use Rattle.std.proofs.Common.{◌≡◌, refl, sym, ap, ◌∙◌, subst}
use Rattle.semantic_objects.specs.Environments.{Env, Top, modified_by}
use Rattle.sml_modules.specs.Graphs.{Graph, HasEnvs}
use Rattle.static_semantics.specs.Inferring.{Scope}
use Rattle.core_scopes.specs.declared.made.Made.{Made}
use Rattle.core_scopes.specs.Scopes.{Bindings, seen, written_of}
use Rattle.core_scopes.specs.Marks.{IsFrontOf, AddsBare, Becomes, env_of_made}
use Rattle.core_scopes.proofs.Scoping.{fronts_go_on}
use Rattle.pattern_elab.specs.declared.own.OwnVariable.{OwnVariable}
use Rattle.pattern_elab.specs.Scopes.{own_entry, scope_of}
use Rattle.unit_semantics.specs.StructureInference.{top_under}
use Rattle.sml_modules.specs.declared.id.TopId.{TopId}
use Rattle.module_scopes.specs.declared.defined.Defined.{Defined}
use Rattle.module_scopes.specs.declared.top.TopScope.{TopScope}
use Rattle.module_scopes.specs.Tops.{top_seen}
use Rattle.module_scopes.specs.Stays.{GoesUnder}
use Rattle.module_scopes.proofs.Tops.{goes_under}
use Rattle.structure_elab.specs.Moments.{GoesInto, IsOver}

abbrev pub with_core : Bindings OwnVariable → TopScope → TopScope
with_core core top = record { core = core; given = top.given; defined = top.defined }

abbrev made_of : Bindings OwnVariable → TopId → Defined → TopScope
made_of core given defined = record { core = core; given = given; defined = defined }

env_under : (g : Graph) (old : TopScope) (core : Bindings OwnVariable) (made : Env)
    → (scope_of g core).env ≡ (top_under made (top_seen g old)).env
    → top_seen g (with_core core old) ≡ top_under made (top_seen g old)
env_under g old core made e = ap (λ (env : Env). (let top : Top = record {
  env = env;
  signatures = (top_seen g old).signatures;
  functors = (top_seen g old).functors;
  funsigs = (top_seen g old).funsigs;
} in top)) e

-- under what was made, and no type variable is written around it
pub goes_into : (g : Graph) (made : Env) (old : TopScope) (core : Bindings OwnVariable)
    → GoesUnder g made old.core core → GoesInto g made old (with_core core old)
goes_into g made old core u = record {
  seen = env_under g old core made (ap (λ (sc : Scope). sc.env) u.seen);
  over = record { front = u.front; given = refl; defined = refl };
  bare = u.bare;
  there = λ t. record {
    core = u.there t.core;
    written = u.written ∙ t.written;
    given = t.given;
    defined = t.defined;
  };
}

-- nothing is over itself but what it holds
pub over_itself : (top : TopScope) → IsFrontOf top.core top.core → IsOver top top
over_itself top f = record { front = f; given = refl; defined = refl }

pub over_same : {past now new : TopScope} → IsOver past now → new ≡ now → IsOver past new
over_same {past} {now} {new} h e = subst (λ (z : TopScope). IsOver past z) (sym e) h

pub over_then : {past now mid new : TopScope} → IsOver past now → mid ≡ now → IsOver mid new → IsOver past new
over_then {past} {now} {mid} {new} h e k =
    let l : IsOver now new = subst (λ (z : TopScope). IsOver z new) e k in record {
      front = fronts_go_on OwnVariable past.core now.core new.core h.front l.front;
      given = l.given ∙ h.given;
      defined = l.defined ∙ h.defined;
    }

-- what is left again
pub left_again : (past now new : TopScope) (core : Bindings OwnVariable) → new ≡ with_core core now
    → core ≡ past.core → IsOver past now → new ≡ past
left_again past now new core e f h =
    e ∙ ap (λ (c : Bindings OwnVariable). with_core c now) f
    ∙ ap (λ (given : TopId). made_of past.core given now.defined) h.given
    ∙ ap (λ (defined : Defined). made_of past.core past.given defined) h.defined

-- what was made is entered
pub enters : (made : Made OwnVariable) (old : TopScope) (core : Bindings OwnVariable)
    → ((g : Graph) → HasEnvs g made.structures → Becomes g old.core core
    (λ read. modified_by (seen g read old.core) (env_of_made g read made)) (written_of old.core)) → AddsBare old.core core
    → (g : Graph) → HasEnvs g made.structures → GoesInto g (env_of_made g own_entry made) old (with_core core old)
enters made old core b adds g h = goes_into g (env_of_made g own_entry made) old core
    (goes_under g old.core core (λ read. modified_by (seen g read old.core) (env_of_made g read made))
    (env_of_made g own_entry made) (b g h) refl adds)
