-- Functors and their signatures (The Definition of Standard ML, figure 8 and appendix A; `funsig` as in SML/NJ), in the
-- order of the printed grammar:
--
--     funbind = funid "(" param ")" [ ":" sigexp | ":>" sigexp ] "=" strexp
--     param   = strid ":" sigexp | spec
--     funsig  = funid "(" strid ":" sigexp ")" "=" sigexp
--
-- What stands behind the parenthesis is a name and its signature where it begins with a name, and specifications, of
-- which there may be none, where it begins otherwise. A functor's body begins with the infix status of the initial
-- basis.
use Rattle.std.specs.Prelude.{ℕ, max, List, [], Option, None, Some}
use Rattle.grammars.specs.Grammar.{Grammar, ◌>>=◌, ◌>>◌}
use Rattle.grammars.specs.Grammar.Grammar.{pure, refuse, on, many, within}
use Rattle.sml_lexer.specs.declared.lexeme.Lexeme.{Lexeme}
use Rattle.sml_trees.specs.declared.full_sig.FullSigExp.{FullSigExp}
use Rattle.sml_trees.specs.declared.full_sig.FullSpec.{FullSpec}
use Rattle.sml_trees.specs.declared.full_unit.FullFunctorBind.{FullFunctorBind}
use Rattle.sml_trees.specs.declared.full_unit.FullFunsigBind.{FullFunsigBind}
use Rattle.sml_trees.specs.declared.full_unit.FullParam.{FullParam}
use Rattle.sml_trees.specs.declared.full_unit.FullParam.TheVariants as param
use Rattle.sml_trees.specs.declared.name.At.{At}
use Rattle.sml_trees.specs.declared.name.Name.{Name}
use Rattle.phrase_reading.specs.Names.{if_taken}
use Rattle.infix_names.specs.Fixities.{initial}
use Rattle.phrase_reading.specs.Sized.{part}
use Rattle.phrase_reading.specs.Words.{g, word, named, token}
use Rattle.phrase_reading.specs.declared.tall.Tall.{Tall}
use Rattle.sml_lexer.specs.declared.words.Word.TheVariants as w
use Rattle.signature_parser.specs.Joined.{module_name_of, module_name, alone}
use Rattle.signature_parser.specs.SigLevels.{sig_level, sig_below}
use Rattle.signature_parser.specs.Specifications.{is_spec_round, spec_round, specs_from, no_specs}
use Rattle.module_parser.specs.StrLevels.{str_level}
use Rattle.module_parser.specs.Structures.{first_at, maybe_seal, str}
use Rattle.signature_parser.specs.declared.joined.Joined.{Joined}

-- strid : sigexp, behind the name
unfoldable pub named_param : ℕ → Name → g (Tall FullParam)
named_param n called = do
  token w.Colon
  found ← alone (sig_level n).sig
  pure (part (λ (sig : FullSigExp). param.Named called sig) found)

-- where specifications begin: at this lexeme, or at the functor's name where there are none
abbrev pub begin_at : Option Lexeme → Name → At
begin_at x functor = first_at x (record { line = functor.line; col = functor.col })

-- specifications from this first lexeme on
unfoldable pub specs_at : ℕ → Name → Lexeme → g (Tall FullParam)
specs_at n functor x = do
  first ← spec_round n (sig_below n) no_specs x
  found ← specs_from n (sig_below n) first
  pure (part (λ (specs : List FullSpec). param.Spec specs (begin_at (Some x) functor)) found)

-- specifications, of which there may be none: these have the place of the functor's name
unfoldable pub spec_param : ℕ → Name → g (Tall FullParam)
spec_param n functor =
    on (λ x. is_spec_round (word x)) (specs_at n functor)
    (pure (record { tree = param.Spec [] (begin_at None functor); height = 0 }))

-- what a functor takes
unfoldable pub functor_param : ℕ → Name → g (Tall FullParam)
functor_param n functor = if_taken module_name_of named (named_param n) (spec_param n functor)

-- a functor behind its name, over parts of so many levels
unfoldable pub fun_bind : ℕ → Name → g (Joined FullFunctorBind)
fun_bind n called = do
  token w.Open
  taken ← functor_param n called
  token w.Close
  given ← maybe_seal (sig_level n).sig
  token w.Equals
  body ← str (str_level n) initial
  pure (record {
    made = record {
      tree = record { name = called; param = taken.tree; seal = given.tree; body = body.made.tree };
      height = max (max taken.height given.height) body.made.height;
    };
    joined = body.joined;
  })

-- a signature of functors behind its name, over parts of so many levels
unfoldable pub funsig_bind : ℕ → Name → g (Joined FullFunsigBind)
funsig_bind n called = do
  token w.Open
  argument ← module_name
  token w.Colon
  taken ← alone (sig_level n).sig
  token w.Close
  token w.Equals
  result ← (sig_level n).sig
  pure (record {
    made = record {
      tree = record { name = called; param = argument; param_sig = taken.tree; result_sig = result.made.tree };
      height = max taken.height result.made.height;
    };
    joined = result.joined;
  })
