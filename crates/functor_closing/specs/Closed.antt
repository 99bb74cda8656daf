-- Functors whose results are realised. Only private functions cite this file.
use Rattle.std.specs.Prelude.{List}
use Rattle.semantic_objects.specs.declared.name.TyName.{TyName}
use Rattle.semantic_objects.specs.Environments.{Env, Functor}
use Rattle.realisation.specs.Realised.{realised}
use Rattle.type_walks.specs.declared.replacing.Replace.{Replace}
use Rattle.type_walks.specs.Replaced.{put_by}

-- a functor of its names, its parameter and a realised body
abbrev pub functor_by : List TyName → Env → List TyName → List Replace → Env → Functor
functor_by bound param further by body =
    record { bound = bound; param = param; further = further; result = realised (put_by by) body }
