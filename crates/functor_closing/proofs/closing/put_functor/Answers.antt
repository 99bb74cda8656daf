use Rattle.std.proofs.Common.{refl, ◌∙◌}
use Rattle.realisation.specs.Realised.{realised}
use Rattle.type_walks.specs.Replaced.{put_by}
use Rattle.sml_modules.specs.Graphs.{env_at}
use Rattle.functor_closing.proofs.Growing.{if_ok, on_err, functor_given, keeps_env, home_stays}
use Rattle.functor_closing.proofs.closing.put_functor.Goals as goal

pub make_fun-requires : goal.make_fun-requires
make_fun-requires c = (
  c.in_ok-result.ensures.ok.keeps.has_env c.args.param c.requires.param,
  c.in_ok-result.ensures.ok.there,
)

pub returns-clause-ok : goal.returns-clause-ok
returns-clause-ok c = if_ok c.make_fun.result _ _
    (λ fun f. functor_given c.args.g.now c.realise.new.graph c.make_fun.new.self c.args.bound c.args.closing.further
    c.args.param c.args.body c.in_ok-result.result c.args.closing.by.list
    (realised (put_by c.args.closing.by.list) (env_at c.args.g.now c.args.body)) fun c.requires.param
    c.in_ok-result.ensures.ok f refl) c.make_fun.ensures.ok

pub returns-clause-err : goal.returns-clause-err
returns-clause-err c = on_err c.make_fun.result
    (λ e. keeps_env c.args.g.now c.realise.new.graph c.make_fun.new.self
    (realised (put_by c.args.closing.by.list) (env_at c.args.g.now c.args.body)) c.in_ok-result.result
    c.in_ok-result.ensures.ok e) c.make_fun.ensures.err

pub returns-clause-home : goal.returns-clause-home
returns-clause-home c =
    home_stays _ c.realise.new.graph c.make_fun.new.self c.make_fun.result c.make_fun.ensures.ok c.make_fun.ensures.err
    ∙ c.in_ok-result.ensures.ok.home
