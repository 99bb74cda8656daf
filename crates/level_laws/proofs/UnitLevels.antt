-- The height of each declaration of the top level is that of its tree, and a unit nests at most 128 levels.
use Rattle.std.proofs.Common.{◌≡◌, ℕ, suc, ◌≤◌, max, List, Option, None, Some, refl, ap₂, arith}
use Rattle.sml_trees.specs.declared.name.At.{At}
use Rattle.sml_trees.specs.declared.name.Name.{Name}
use Rattle.sml_trees.specs.declared.full_sig.FullSigExp.{FullSigExp}
use Rattle.sml_trees.specs.declared.full_sig.FullSpec.{FullSpec}
use Rattle.sml_trees.specs.declared.full_unit.FullParam.TheVariants as param
use Rattle.sml_trees.specs.declared.full_unit.FullTopDec.{FullTopDec}
use Rattle.sml_trees.specs.declared.full_unit.FullTopDec.TheVariants as top
use Rattle.infix_names.specs.Fixities.{initial}
use Rattle.phrase_reading.specs.Words.{at, word}
use Rattle.phrase_reading.specs.declared.tall.Tall.{Tall}
use Rattle.sml_lexer.specs.declared.words.Word.{Word}
use Rattle.sml_lexer.specs.declared.words.Word.TheVariants as w
use Rattle.signature_parser.specs.SigLevels.{sig_level, sig_below}
use Rattle.signature_parser.specs.Specifications.{no_specs}
use Rattle.module_parser.specs.Functors.{begin_at, named_param, specs_at, spec_param, functor_param, fun_bind, funsig_bind}
use Rattle.module_parser.specs.StrLevels.{str_level}
use Rattle.module_parser.specs.Units.{top_structures, top_signatures, top_functors, top_funsigs, top_word, top_round, topdecs_from, topdecs}
use Rattle.level_laws.specs.Levels.{all_levels, param_levels, functor_levels, funsig_levels, topdec_levels, unit_levels}
use Rattle.level_laws.specs.Promises.{IsMeasured, UnitsHaveTheirLevels, UnitsNestAtMost128}
use Rattle.level_laws.proofs.Keeping.{Keeps, keep_pure, keep_refuse, keep_bind, keep_then, keep_on, keep_many, keep_if_taken, over_is, part_is, more_is, none_is, two_is}
use Rattle.level_laws.proofs.SigLevels.{IsJoined, alone_keeps, bindings_keep, sig_bind_keeps, round_keeps, specs_from_keeps, sig_level_keeps, spec_keeps}
use Rattle.level_laws.proofs.StrLevels.{maybe_seal_keeps, str_keeps, str_bind_keeps, str_level_keeps}

-- ---- functors

module _ (n : ℕ) where
  named_keeps : (called : Name) → Keeps (named_param n called) (IsMeasured param_levels n)
  unfolding named_param
  named_keeps called =
      keep_then (λ _. keep_bind (alone_keeps (sig_level_keeps n).sig) (λ found is.
      keep_pure _ (part_is (λ (sig : FullSigExp). param.Named called sig) (λ sig. refl) is)))

  spec_param_keeps : (functor : Name) → Keeps (spec_param n functor) (IsMeasured param_levels n)
  unfolding spec_param specs_at
  spec_param_keeps functor =
      keep_on (λ x. keep_bind (round_keeps n n (sig_below n) (spec_keeps n) no_specs x none_is) (λ first are.
      keep_bind (specs_from_keeps n n (sig_below n) (spec_keeps n) first are) (λ found so.
      keep_pure _ (part_is (λ (specs : List FullSpec). param.Spec specs (begin_at (Some x) functor)) (λ specs. refl) so))))
      (keep_pure _ (record { exact = refl; low = omega arith }))

  param_keeps : (functor : Name) → Keeps (functor_param n functor) (IsMeasured param_levels n)
  unfolding functor_param
  param_keeps functor = keep_if_taken _ _ (λ called. named_keeps called) (spec_param_keeps functor)

  fun_bind_keeps : (called : Name) → Keeps (fun_bind n called) (IsJoined functor_levels n)
  unfolding fun_bind
  fun_bind_keeps called =
      keep_then (λ _. keep_bind (param_keeps called) (λ taken is. keep_then (λ _. keep_bind (maybe_seal_keeps n)
      (λ given so. keep_then (λ _. keep_bind (str_keeps n (str_level n) (str_level_keeps n) initial) (λ body too.
      keep_pure _ (record {
        exact = ap₂ max (ap₂ max is.exact so.exact) too.exact;
        low = let one = is.low in let two = so.low in let three = too.low in omega arith;
      })))))))

  funsig_keeps : (called : Name) → Keeps (funsig_bind n called) (IsJoined funsig_levels n)
  unfolding funsig_bind
  funsig_keeps called =
      keep_then (λ _. keep_then (λ argument. keep_then (λ _. keep_bind (alone_keeps (sig_level_keeps n).sig) (λ taken is.
      keep_then (λ _. keep_then (λ _. keep_bind (sig_level_keeps n).sig (λ result so.
      keep_pure _ (two_is refl is so))))))))

  -- ---- declarations of the top level

  top_keeps : (place : At) (found : Option Word) → Keeps (top_word n place found) (IsMeasured topdec_levels (suc n))
  unfolding top_structures top_signatures top_functors top_funsigs
  top_keeps place (Some w.Structure) =
      keep_bind (bindings_keep (str_bind_keeps n (str_level n) (str_level_keeps n) initial)) (λ found are.
      keep_pure _ (over_is (λ binds. top.Structures binds place) (λ binds. refl) are))
  top_keeps place (Some w.Signature) =
      keep_bind (bindings_keep (sig_bind_keeps n (sig_level n) (sig_level_keeps n) w.Equals)) (λ found are.
      keep_pure _ (over_is (λ binds. top.Signatures binds place) (λ binds. refl) are))
  top_keeps place (Some w.Functor) =
      keep_bind (bindings_keep fun_bind_keeps) (λ found are. keep_pure _ (over_is (λ binds. top.Functors binds place) (λ binds. refl) are))
  top_keeps place (Some w.Funsig) =
      keep_bind (bindings_keep funsig_keeps) (λ found are. keep_pure _ (over_is (λ binds. top.Funsigs binds place) (λ binds. refl) are))
  top_keeps place _ = keep_refuse

  topdecs_keep : (found : Tall (List FullTopDec)) → IsMeasured (all_levels topdec_levels) (suc n) found
      → Keeps (topdecs_from n found) (IsMeasured (all_levels topdec_levels) (suc n))
  unfolding topdecs_from top_round
  topdecs_keep found are =
      keep_many (λ found x are. keep_bind (top_keeps (at x) (word x)) (λ next is. keep_then (λ _.
      keep_pure _ (more_is are is)))) found are

pub units_have_levels : UnitsHaveTheirLevels
unfolding topdecs
units_have_levels = (topdecs_keep 127 _ none_is).gives

pub units_nest : UnitsNestAtMost128
units_nest file source unit (lexemes, lexed, height, phrase, named) =
    let is = units_have_levels lexemes None (record { tree = unit.topdecs; height = height }) phrase in
    let exact : height ≡ unit_levels unit = is.exact in
    let low : height ≤ 128 = is.low in
    omega (arith, exact, low)
