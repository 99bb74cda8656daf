-- Signatures, functors, what stands at the top, and the rows of a realisation, with types put in for the variables of the
-- table.
use Rattle.std.specs.Prelude.{map}
use Rattle.semantic_objects.specs.declared.entry.TypeFn.{TypeFn}
use Rattle.semantic_objects.specs.Environments.{Signature, Functor, Top}
use Rattle.unification.specs.Types.{Substitution}
use Rattle.unification.specs.Closing.{put_tree}
use Rattle.static_semantics.specs.EnvironmentsPut.{each_entry, put_env}
use Rattle.module_semantics.specs.Matching.{Rows}

abbrev pub put_type_function : Substitution → TypeFn → TypeFn
put_type_function s function = record { arity = function.arity; body = put_tree s function.body }

abbrev pub put_realising : Substitution → Rows → Rows
put_realising s rows = map (λ row. (row.0, put_type_function s row.1)) rows

abbrev pub put_signature : Substitution → Signature → Signature
put_signature s sig = record { bound = sig.bound; env = put_env s sig.env }

abbrev pub put_functor : Substitution → Functor → Functor
put_functor s fun = record {
  bound = fun.bound;
  param = put_env s fun.param;
  further = fun.further;
  result = put_env s fun.result;
}

abbrev pub put_top : Substitution → Top → Top
put_top s top = record {
  env = put_env s top.env;
  signatures = each_entry (put_signature s) top.signatures;
  functors = each_entry (put_functor s) top.functors;
  funsigs = each_entry (put_functor s) top.funsigs;
}
