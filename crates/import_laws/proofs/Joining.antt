-- What is imported stays as the elaboration of a unit asks, name by name.
use Rattle.std.proofs.Common.{ℕ, List, Option, Some, None}
use Rattle.cm_base.specs.declared.record.Namespace.{Namespace}
use Rattle.cm_base.specs.declared.record.Namespace.TheVariants as space
use Rattle.semantic_objects.specs.Tables.{Table}
use Rattle.semantic_objects.specs.Environments.{Env, Top, structures}
use Rattle.static_semantics.specs.Holding.{IfSome, AllRows, EnvHas}
use Rattle.static_semantics.proofs.Holding.{rows_with, rows_found, has_structures, has_types, has_values, table_structures}
use Rattle.semantic_objects.specs.declared.entry.TypeFn.{TypeFn}
use Rattle.semantic_objects.specs.Trees.{TypeScheme}
use Rattle.inference_laws.specs.Nodes.{Nodes, SchemeOf, FunctionOf, EnvOf}
use Rattle.unit_semantics.specs.Promises.{IsClosedScheme, IsClosedFunction, IsClosedEnv, IsClosedSignature, IsClosedFunctor, IsClosedTop}
use Rattle.unit_laws.specs.Parts.{SignatureOf, FunctorOf, TopOf}
use Rattle.table_laws.specs.Rising.{TableWith, RisingEnv, RisingSignature, RisingFunctor, RisingTop}
use Rattle.table_laws.proofs.Tables.{table_with, rising_structures, rising_with_structure}
use Rattle.imported_interfaces.specs.Imported.{with_found, with_found_structure, with_under}

-- ---- of rows and of environments

row_with : {A : Type 0} (R : A → Type 0) (name : List ℕ) (o : Option A) (rows : Table A) → IfSome R o → AllRows R rows
    → AllRows R (with_found name o rows)
row_with R name None rows h k = k
row_with R name (Some x) rows h k = rows_with R name x rows h k

table_found : {A : Type 0} (R : A → Type 0) (name : List ℕ) (o : Option A) (rows : Table A) → IfSome R o
    → TableWith R rows → TableWith R (with_found name o rows)
table_found R name None rows h k = k
table_found R name (Some x) rows h k = table_with R name x rows h k

has_structure : (S : TypeScheme → Type 0) (F : TypeFn → Type 0) (name : List ℕ) (o : Option Env) (env : Env)
    → IfSome (EnvHas S F) o → EnvHas S F env → EnvHas S F (with_found_structure name o env)
has_structure S F name None env h k = k
has_structure S F name (Some x) env h k = (
  table_structures S F _ (rows_with (EnvHas S F) name x (structures env) h (has_structures S F env k)),
  has_types S F env k,
  has_values S F env k,
)

rising_structure : (name : List ℕ) (o : Option Env) (env : Env) → IfSome RisingEnv o → RisingEnv env
    → RisingEnv (with_found_structure name o env)
rising_structure name None env h k = k
rising_structure name (Some x) env h k = rising_with_structure name x env h k

-- ---- of tops

pub of_under : (q : Nodes) (space : Namespace) (name : List ℕ) (top made : Top) → TopOf q top → TopOf q made
    → TopOf q (with_under space name top made)
of_under q space.Structure name top made h k = record {
  env = has_structure (SchemeOf q) (FunctionOf q) name _ made.env
      (rows_found (EnvOf q) name (structures top.env) (has_structures (SchemeOf q) (FunctionOf q) top.env h.env)) k.env;
  signatures = k.signatures;
  functors = k.functors;
  funsigs = k.funsigs;
}
of_under q space.Signature name top made h k = record {
  env = k.env;
  signatures = row_with (SignatureOf q) name _ made.signatures (rows_found (SignatureOf q) name top.signatures h.signatures)
      k.signatures;
  functors = k.functors;
  funsigs = k.funsigs;
}
of_under q space.Functor name top made h k = record {
  env = k.env;
  signatures = k.signatures;
  functors = row_with (FunctorOf q) name _ made.functors (rows_found (FunctorOf q) name top.functors h.functors) k.functors;
  funsigs = k.funsigs;
}
of_under q space.Funsig name top made h k = record {
  env = k.env;
  signatures = k.signatures;
  functors = k.functors;
  funsigs = row_with (FunctorOf q) name _ made.funsigs (rows_found (FunctorOf q) name top.funsigs h.funsigs) k.funsigs;
}

pub rising_under : (space : Namespace) (name : List ℕ) (top made : Top) → RisingTop top → RisingTop made
    → RisingTop (with_under space name top made)
rising_under space.Structure name top made h k = record {
  env = rising_structure name _ made.env
      (rows_found RisingEnv name (structures top.env) (rising_structures top.env h.env).1) k.env;
  signatures = k.signatures;
  functors = k.functors;
  funsigs = k.funsigs;
}
rising_under space.Signature name top made h k = record {
  env = k.env;
  signatures = table_found RisingSignature name _ made.signatures
      (rows_found RisingSignature name top.signatures h.signatures.1) k.signatures;
  functors = k.functors;
  funsigs = k.funsigs;
}
rising_under space.Functor name top made h k = record {
  env = k.env;
  signatures = k.signatures;
  functors = table_found RisingFunctor name _ made.functors (rows_found RisingFunctor name top.functors h.functors.1)
      k.functors;
  funsigs = k.funsigs;
}
rising_under space.Funsig name top made h k = record {
  env = k.env;
  signatures = k.signatures;
  functors = k.functors;
  funsigs = table_found RisingFunctor name _ made.funsigs (rows_found RisingFunctor name top.funsigs h.funsigs.1) k.funsigs;
}

pub closed_under : (space : Namespace) (name : List ℕ) (top made : Top) → IsClosedTop top → IsClosedTop made
    → IsClosedTop (with_under space name top made)
closed_under space.Structure name top made h k = record {
  env = has_structure IsClosedScheme IsClosedFunction name _ made.env
      (rows_found IsClosedEnv name (structures top.env) (has_structures IsClosedScheme IsClosedFunction top.env h.env)) k.env;
  signatures = k.signatures;
  functors = k.functors;
  funsigs = k.funsigs;
}
closed_under space.Signature name top made h k = record {
  env = k.env;
  signatures = row_with IsClosedSignature name _ made.signatures
      (rows_found IsClosedSignature name top.signatures h.signatures) k.signatures;
  functors = k.functors;
  funsigs = k.funsigs;
}
closed_under space.Functor name top made h k = record {
  env = k.env;
  signatures = k.signatures;
  functors = row_with IsClosedFunctor name _ made.functors (rows_found IsClosedFunctor name top.functors h.functors)
      k.functors;
  funsigs = k.funsigs;
}
closed_under space.Funsig name top made h k = record {
  env = k.env;
  signatures = k.signatures;
  functors = k.functors;
  funsigs = row_with IsClosedFunctor name _ made.funsigs (rows_found IsClosedFunctor name top.funsigs h.funsigs) k.funsigs;
}
