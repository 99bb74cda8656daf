use Rattle.std.proofs.Common.{◌≡◌, refl, sym, subst, true, false, List, ℕ}
use Rattle.sml_modules.specs.declared.id.EnvId.{EnvId}
use Rattle.sml_modules.specs.Graphs.{HasEnv}
use Rattle.core_scopes.proofs.Scoping.{envs_at, envs_more}
use Rattle.core_scopes.proofs.scope.are_envs.Goals as goal

-- this row's isn't
pub returns-then-not-has_env : goal.returns-then-not-has_env
returns-then-not-has_env c = (
  λ t. let bad : false ≡ true = t in absurd (let no : ⊥ = cc in no),
  λ all. c.if-not-has_env.ensures.1
      (subst (λ (row : List ℕ × EnvId). HasEnv c.args.g.now row.1) (sym c.row-item.is)
      (envs_at c.args.g.now c.args.rows.now c.loop-row.row-index c.row-item.result c.loop-row-test.true all)),
)

-- this row's is
pub loop-row-preserved : goal.loop-row-preserved
loop-row-preserved c =
    envs_more c.args.g.now c.args.rows.now c.loop-row.row-index c.row-item.result c.loop-row-test.true
    c.loop-row.invariant
    (subst (λ (row : List ℕ × EnvId). HasEnv c.args.g.now row.1) c.row-item.is (c.if-not-has_env.ensures.0 refl))
