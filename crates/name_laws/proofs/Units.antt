-- The names of the bare unit of a source fit.
use Rattle.std.proofs.Common.{◌≡◌, ℕ, suc, ◌+◌, ◌<◌, ◌≤◌, ◌^◌, nat_lt, List, [], ◌∷◌, length, length-append, Option, None, Some, Ok, sym, ap, ◌∙◌, subst, arith, inl, inr}
use Rattle.std.specs.List.{fold}
use Rattle.std.proofs.lemmas.Bool.{cases_Bool, ltb-false}
use Rattle.sml_lexer.specs.declared.lexeme.Lexeme.{Lexeme}
use Rattle.sml_trees.specs.declared.name.At.{At}
use Rattle.sml_trees.specs.declared.name.Name.{Name}
use Rattle.sml_trees.specs.declared.full_unit.FullTopDec.{FullTopDec}
use Rattle.infix_names.specs.Fixities.{initial}
use Rattle.phrase_reading.specs.Words.{at, word, named}
use Rattle.phrase_reading.specs.declared.tall.Tall.{Tall}
use Rattle.sml_lexer.specs.declared.words.Word.{Word}
use Rattle.sml_lexer.specs.declared.words.Word.TheVariants as w
use Rattle.signature_parser.specs.Joined.{module_name_of}
use Rattle.signature_parser.specs.SigLevels.{sig_level, sig_below}
use Rattle.signature_parser.specs.Specifications.{no_specs}
use Rattle.module_parser.specs.Functors.{named_param, specs_at, spec_param, functor_param, fun_bind, funsig_bind}
use Rattle.module_parser.specs.StrLevels.{str_level}
use Rattle.module_parser.specs.Units.{top_structures, top_signatures, top_functors, top_funsigs, top_word, top_round, topdecs_from, topdecs}
use Rattle.sml_lexer.specs.declared.lexeme.LexemeKind.{LexemeKind}
use Rattle.sml_lexer.specs.Lexing.{after_byte, lexemes_of}
use Rattle.sml_lexer.specs.Cuttings.{Piece, IsCutting, placed_piece, placed}
use Rattle.sml_lexer.proofs.CuttingsLemmas.{cut}
use Rattle.lexeme_laws.proofs.Lexemes.{lexemes_within}
use Rattle.body_laws.proofs.Signatures.{Each, each_of_all}
use Rattle.bare_codes.proofs.Given.{is_becoming}
use Rattle.fitting_names.specs.Names.{HasFitNames}
use Rattle.fitting_names.proofs.Nodes.{FitName}
use Rattle.fitting_phrases.proofs.StrForms.{ParamIs, FunctorIs, FunsigIs, TopIs, top-Structures, top-Signatures, top-Functors, top-Funsigs, unit-is}
use Rattle.name_laws.specs.Promises.{NamesFit}
use Rattle.core_names.proofs.Keeping.{Good, Fit, Keeps, keep_pure, keep_refuse, keep_bind, keep_then, keep_on, keep_many, keep_if_taken_by, Holds, more_is, none_is}
use Rattle.name_laws.proofs.Sigs.{IsJoined, alone_keeps, bindings_keep, as_module, module_name_keeps, sig_bind_keeps, round_keeps, specs_from_keeps, sig_level_keeps, below_keeps}
use Rattle.name_laws.proofs.Strs.{maybe_seal_keeps, str_keeps, str_bind_keeps, str_level_keeps}

-- ---- declarations of the top level

module _ (n : ℕ) where
  named_keeps : (called : Name) → FitName called → Keeps (named_param n called) (Holds ParamIs)
  unfolding named_param
  named_keeps called fits =
      keep_then (λ _. keep_bind (alone_keeps (sig_level_keeps n).sig) (λ found is.
      keep_pure _ (record { tree = (fits, is.tree) })))

  spec_param_keeps : (functor : Name) → Keeps (spec_param n functor) (Holds ParamIs)
  unfolding spec_param specs_at
  spec_param_keeps functor =
      keep_on (λ x. keep_bind (round_keeps n (sig_below n) (below_keeps n) no_specs x none_is) (λ first are.
      keep_bind (specs_from_keeps n (sig_below n) (below_keeps n) first are) (λ found so.
      keep_pure _ (record { tree = so.tree }))))
      (keep_pure _ (record { tree = tt }))

  param_keeps : (functor : Name) → Keeps (functor_param n functor) (Holds ParamIs)
  unfolding functor_param
  param_keeps functor =
      keep_if_taken_by module_name_of named FitName as_module (λ called fits. named_keeps called fits)
      (spec_param_keeps functor)

  fun_bind_keeps : (called : Name) → FitName called → Keeps (fun_bind n called) (IsJoined FunctorIs)
  unfolding fun_bind
  fun_bind_keeps called fits =
      keep_then (λ _. keep_bind (param_keeps called) (λ taken is. keep_then (λ _. keep_bind (maybe_seal_keeps n)
      (λ given so. keep_then (λ _. keep_bind (str_keeps n (str_level n) (str_level_keeps n) initial) (λ body too.
      keep_pure _ (record {
        tree = record { name = fits; param = is.tree; seal = so.tree; body = too.tree };
      })))))))

  funsig_keeps : (called : Name) → FitName called → Keeps (funsig_bind n called) (IsJoined FunsigIs)
  unfolding funsig_bind
  funsig_keeps called fits =
      keep_then (λ _. keep_bind module_name_keeps (λ argument so. keep_then (λ _.
      keep_bind (alone_keeps (sig_level_keeps n).sig) (λ taken is. keep_then (λ _. keep_then (λ _.
      keep_bind (sig_level_keeps n).sig (λ result too.
      keep_pure _ (record {
        tree = record { name = fits; param = so; param_sig = is.tree; result_sig = too.tree };
      }))))))))

  top_keeps : (place : At) (found : Option Word) → Keeps (top_word n place found) (Holds TopIs)
  unfolding top_structures top_signatures top_functors top_funsigs
  top_keeps place (Some w.Structure) =
      keep_bind (bindings_keep (str_bind_keeps n (str_level n) (str_level_keeps n) initial)) (λ found are.
      keep_pure _ (record { tree = top-Structures found.tree place are.tree }))
  top_keeps place (Some w.Signature) =
      keep_bind (bindings_keep (sig_bind_keeps n (sig_level n) (sig_level_keeps n) w.Equals)) (λ found are.
      keep_pure _ (record { tree = top-Signatures found.tree place are.tree }))
  top_keeps place (Some w.Functor) =
      keep_bind (bindings_keep fun_bind_keeps) (λ found are.
      keep_pure _ (record { tree = top-Functors found.tree place are.tree }))
  top_keeps place (Some w.Funsig) =
      keep_bind (bindings_keep funsig_keeps) (λ found are.
      keep_pure _ (record { tree = top-Funsigs found.tree place are.tree }))
  top_keeps place _ = keep_refuse

  topdecs_keep : (found : Tall (List FullTopDec)) → Holds (Each TopIs) found
      → Keeps (topdecs_from n found) (Holds (Each TopIs))
  unfolding topdecs_from top_round
  topdecs_keep found are =
      keep_many (λ found x _ are. keep_bind (top_keeps (at x) (word x)) (λ next is. keep_then (λ _.
      keep_pure _ (more_is are is)))) found are

all_topdecs_keep : Keeps topdecs (Holds (Each TopIs))
unfolding topdecs
all_topdecs_keep = topdecs_keep 127 _ none_is

-- ---- units

-- a source has no more pieces than bytes, which are at most 1,048,576, and no more lexemes than pieces
pieces_few : (ps : List Piece) (text : List ℕ) → IsCutting ps text → length ps ≤ length text
pieces_few [] text cutting = omega arith
pieces_few (p ∷ ps) text (rest, split, some, here, more) =
    let low = pieces_few ps rest more in
    let whole : length text ≡ length p.bytes + length rest = ap length split ∙ length-append p.bytes rest in
    omega (arith, low, whole, some)

piece_few : (kind : Option LexemeKind) (line col : ℕ) (lexemes : List Lexeme)
    → length (placed_piece kind (record { line = line; col = col }) lexemes) ≤ suc (length lexemes)
piece_few None line col lexemes = omega arith
piece_few (Some k) line col lexemes = omega arith

placed_few : (ps : List Piece) (line col : ℕ) → length (placed (record { line = line; col = col }) ps) ≤ length ps
placed_few [] line col = omega arith
placed_few (p ∷ ps) line col =
    let next = fold after_byte (record { line = line; col = col }) p.bytes in
    let low : length (placed next ps) ≤ length ps = placed_few ps next.line next.col in
    let here : length (placed (record { line = line; col = col }) (p ∷ ps)) ≤ suc (length (placed next ps)) =
    piece_few p.kind line col (placed next ps) in
    omega (arith, here, low)

source_small : (file source : List ℕ) (lexemes : List Lexeme) → lexemes_of file source ≡ Ok lexemes
    → length source ≤ 1048576
unfolding lexemes_of
source_small file source lexemes lexed =
    elim (cases_Bool (nat_lt 1048576 (length source))) [
      | inl long ↦ let refused = rw long at lexed in absurd cc
      | inr short ↦ ltb-false 1048576 (length source) short
    ]

lexemes_few : (file source : List ℕ) (lexemes : List Lexeme) → lexemes_of file source ≡ Ok lexemes
    → length lexemes < 2 ^ 62
lexemes_few file source lexemes lexed =
    let (ps, cutting, same) = cut file source lexemes lexed in
    let small = source_small file source lexemes lexed in
    let pieces = pieces_few ps source cutting in
    let few = placed_few ps 1 1 in
    subst (λ (made : List Lexeme). length made < 2 ^ 62) (sym same) (omega (arith, small, pieces, few))

pub names_fit : NamesFit
names_fit file source unit bare bytes (lexemes, lexed, height, phrase, same) is =
    let good : Fit lexemes = record {
      good = each_of_all Good lexemes (lexemes_within file source lexemes bytes lexed);
      few = lexemes_few file source lexemes lexed;
    } in
    let made : Tall (List FullTopDec) = record { tree = unit.topdecs; height = height } in
    let all = all_topdecs_keep.gives lexemes None made good phrase in
    subst HasFitNames (is_becoming unit bare is) (unit-is unit all.tree)
