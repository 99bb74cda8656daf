-- The constants of the bare unit of a source fit.
use Rattle.std.proofs.Common.{ℕ, List, Option, None, Some, subst}
use Rattle.sml_trees.specs.declared.name.At.{At}
use Rattle.sml_trees.specs.declared.name.Name.{Name}
use Rattle.sml_trees.specs.declared.full_unit.FullTopDec.{FullTopDec}
use Rattle.infix_names.specs.Fixities.{initial}
use Rattle.phrase_reading.specs.Words.{at, word}
use Rattle.phrase_reading.specs.declared.tall.Tall.{Tall}
use Rattle.sml_lexer.specs.declared.words.Word.{Word}
use Rattle.sml_lexer.specs.declared.words.Word.TheVariants as w
use Rattle.module_parser.specs.Functors.{fun_bind}
use Rattle.module_parser.specs.StrLevels.{str_level}
use Rattle.module_parser.specs.Units.{top_structures, top_signatures, top_functors, top_funsigs, top_word, top_round, topdecs_from, topdecs}
use Rattle.lexeme_laws.proofs.Lexemes.{lexemes_within}
use Rattle.code_laws.specs.Constants.{HasFitConstants}
use Rattle.body_laws.proofs.Signatures.{Each, each_of_all}
use Rattle.bare_codes.proofs.Given.{is_becoming}
use Rattle.constant_laws.specs.Promises.{ConstantsFit}
use Rattle.constant_laws.proofs.Keeping.{Good, Keeps, keep_pure, keep_refuse, keep_bind, keep_then, keep_many, Holds, more_is, none_is}
use Rattle.fitting_forms.proofs.StrForms.{FunctorIs, functor-is, TopIs, top-Structures, top-Signatures, top-Functors, top-Funsigs, unit-is}
use Rattle.constant_laws.proofs.Strs.{IsJoined, bindings_keep, str_keeps, str_bind_keeps, str_level_keeps}

-- ---- declarations of the top level

module _ (n : ℕ) where
  fun_bind_keeps : (called : Name) → Keeps (fun_bind n called) (IsJoined FunctorIs)
  unfolding fun_bind
  fun_bind_keeps called =
      keep_then (λ _. keep_then (λ taken. keep_then (λ _. keep_then (λ given. keep_then (λ _.
      keep_bind (str_keeps n (str_level n) (str_level_keeps n) initial) (λ body is.
      keep_pure _ (record {
        tree = functor-is (record { name = called; param = taken.tree; seal = given.tree; body = body.made.tree }) is.tree;
      })))))))

  top_keeps : (place : At) (found : Option Word) → Keeps (top_word n place found) (Holds TopIs)
  unfolding top_structures top_signatures top_functors top_funsigs
  top_keeps place (Some w.Structure) =
      keep_bind (bindings_keep (str_bind_keeps n (str_level n) (str_level_keeps n) initial)) (λ found are.
      keep_pure _ (record { tree = top-Structures found.tree place are.tree }))
  top_keeps place (Some w.Signature) =
      keep_then (λ found. keep_pure _ (record { tree = top-Signatures found.tree place }))
  top_keeps place (Some w.Functor) =
      keep_bind (bindings_keep fun_bind_keeps) (λ found are.
      keep_pure _ (record { tree = top-Functors found.tree place are.tree }))
  top_keeps place (Some w.Funsig) =
      keep_then (λ found. keep_pure _ (record { tree = top-Funsigs found.tree place }))
  top_keeps place _ = keep_refuse

  topdecs_keep : (found : Tall (List FullTopDec)) → Holds (Each TopIs) found
      → Keeps (topdecs_from n found) (Holds (Each TopIs))
  unfolding topdecs_from top_round
  topdecs_keep found are =
      keep_many (λ found x _ are. keep_bind (top_keeps (at x) (word x)) (λ next is. keep_then (λ _.
      keep_pure _ (more_is are is)))) found are

all_topdecs_keep : Keeps topdecs (Holds (Each TopIs))
unfolding topdecs
all_topdecs_keep = topdecs_keep 127 _ none_is

-- ---- units

pub constants_fit : ConstantsFit
constants_fit file source unit bare bytes (lexemes, lexed, height, phrase, named) is =
    let good = each_of_all Good lexemes (lexemes_within file source lexemes bytes lexed) in
    let made : Tall (List FullTopDec) = record { tree = unit.topdecs; height = height } in
    let all = all_topdecs_keep.gives lexemes None made good phrase in
    subst HasFitConstants (is_becoming unit bare is) (unit-is unit all.tree)
