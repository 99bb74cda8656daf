-- The height of each structure expression and of each declaration in one is that of its tree, and within the limit.
use Rattle.std.proofs.Common.{◌≡◌, ℕ, zero, suc, ◌-◌, max, List, [], ◌∷◌, Option, None, Some, Bool, true, false, map, refl, sym, ap, ap₂, ◌∙◌, arith, add-one}
use Rattle.sml_lexer.specs.declared.lexeme.Lexeme.{Lexeme}
use Rattle.sml_trees.specs.declared.name.At.{At}
use Rattle.sml_trees.specs.declared.name.Name.{Name}
use Rattle.sml_trees.specs.declared.full_exp.FullDec.{FullDec}
use Rattle.sml_trees.specs.declared.full_sig.FullSigExp.{FullSigExp}
use Rattle.sml_trees.specs.declared.full_str.FullStrDec.{FullStrDec}
use Rattle.sml_trees.specs.declared.full_str.FullStrDec.TheVariants as d
use Rattle.sml_trees.specs.declared.full_str.FullStrExp.{FullStrExp}
use Rattle.infix_names.specs.Fixities.{Fixities}
use Rattle.core_bindings.specs.Decs.{Decs, plain}
use Rattle.core_expressions.specs.Levels.{level}
use Rattle.phrase_reading.specs.Names.{strid_of}
use Rattle.phrase_reading.specs.Words.{g, is, word, at}
use Rattle.phrase_reading.specs.declared.tall.Tall.{Tall}
use Rattle.sml_lexer.specs.declared.words.Word.{Word}
use Rattle.sml_lexer.specs.declared.words.Word.TheVariants as w
use Rattle.signature_parser.specs.Joined.{module_name_of, apart}
use Rattle.signature_parser.specs.SigLevels.{sig_level}
use Rattle.signature_parser.specs.declared.joined.Joined.{Joined}
use Rattle.module_parser.specs.StrLevels.{str_level, str_below, no_str_level}
use Rattle.module_parser.specs.Structures.{StrLevel, no_str_decs, str, seal, seal_behind, maybe_seal, str_bind, struct_str, let_str, of_str, of_decs, of_strdec, argument, str_name, str_named, str_atom, sealed_tree, sealed_of, seal_of, seals, str_within, str_behind, structures, local_str, core_dec, str_dec_word, str_dec_of, next_str_dec, str_round, str_decs_from, str_decs_behind}
use Rattle.tree_heights.specs.Heights.{highest}
use Rattle.level_laws.specs.Levels.{all_levels, if_levels, dec_levels, sig_levels, seal_levels, str_dec_levels, str_levels, str_bind_levels}
use Rattle.level_laws.specs.Promises.{IsMeasured, AreMeasured}
use Rattle.level_laws.proofs.Keeping.{Keeps, keep_pure, keep_refuse, keep_bind, keep_then, keep_on, keep_within, keep_many, keep_made, keep_if_mark, keep_if_marked, keep_either, leaf_is, over_is, over_two_is, part_is, lowered, two_is, declares_is, with_dec_is, plain_keeps}
use Rattle.level_laws.proofs.StrForms.{str_dec-Core, str_dec-Structures, str_dec-Local, str-Struct, str-Named, str-Transparent, str-Opaque, str-Functor, str-FunctorOfDecs, str-Within, str_bind-is}
use Rattle.level_laws.proofs.DecLevels.{core_keeps}
use Rattle.level_laws.proofs.SigLevels.{IsJoined, alone_keeps, bindings_keep, sig_level_keeps}

-- a structure expression of at most so many levels, with the `and` behind it or without
abbrev pub Str : ℕ → Joined FullStrExp → Type 0
Str most = IsJoined str_levels most

-- .. without
abbrev pub StrTree : ℕ → Tall FullStrExp → Type 0
StrTree most = IsMeasured str_levels most

abbrev pub StrDecs : ℕ → Decs FullStrDec → Type 0
StrDecs most = AreMeasured str_dec_levels most

pub record StrLevelIs (most : ℕ) (level : StrLevel) : Type 0 where
  pub str_after : (fs : Fixities) (x : Lexeme) → Keeps (level.str_after fs x) (Str most)
  pub decs : (fs : Fixities) → Keeps (level.decs fs) (StrDecs most)
  pub decs_behind : (fs : Fixities) (x : Lexeme) → Keeps (level.decs_behind fs x) (StrDecs most)

-- ---- signatures that structures are given

pub maybe_seal_keeps : (n : ℕ) → Keeps (maybe_seal (sig_level n).sig) (IsMeasured (if_levels seal_levels) n)
unfolding maybe_seal seal_behind
maybe_seal_keeps n =
    keep_if_marked _ (λ x. keep_bind (alone_keeps (sig_level_keeps n).sig) (λ found is.
    keep_pure _ (part_is (seal false (at x)) (λ sig. refl) is)))
    (keep_if_marked _ (λ x. keep_bind (alone_keeps (sig_level_keeps n).sig) (λ found is.
    keep_pure _ (part_is (seal true (at x)) (λ sig. refl) is)))
    (keep_pure _ (record { exact = refl; low = omega arith })))

sealed-tree : (opaque : Bool) (place : At) (inner : FullStrExp) (sig : FullSigExp)
    → str_levels (sealed_tree opaque place inner sig) ≡ suc (max (str_levels inner) (sig_levels sig))
sealed-tree true place inner sig = str-Opaque inner sig place
sealed-tree false place inner sig = str-Transparent inner sig place

seals_keep : (n : ℕ) (place : At) (left : Joined FullStrExp) → Str (suc n) left
    → Keeps (seals (suc n) (sig_level n).sig place left) (Str (suc n))
unfolding seals seal_of sealed_of
seals_keep n place left it =
    keep_many (λ left x so. keep_within (λ room. keep_bind (sig_level_keeps n).sig (λ found too.
    keep_pure _ (over_two_is _ (sealed-tree (is w.Seal x) place) (lowered so room) too)))) left it

-- declarations of the core as declarations in a structure
core-levels : (decs : List FullDec) → all_levels str_dec_levels (map d.Core decs) ≡ all_levels dec_levels decs
core-levels decs = ap highest (same decs)
  where
    same : (decs : List FullDec) → map str_dec_levels (map d.Core decs) ≡ map dec_levels decs
    same [] = refl
    same (dec ∷ decs) = ap₂ (λ h hs. h ∷ hs) (str_dec-Core dec) (same decs)

core_dec_keeps : (n : ℕ) (fs : Fixities) (x : Lexeme) → Keeps (core_dec n fs x) (StrDecs n)
unfolding core_dec
core_dec_keeps n fs x =
    keep_bind ((core_keeps n).dec fs x) (λ found are. keep_pure _ (record {
      exact = are.exact ∙ sym (core-levels found.decs);
      low = are.low;
    }))

no_decs : (n : ℕ) (fs : Fixities) → StrDecs n (no_str_decs fs)
no_decs n fs = record { exact = refl; low = omega arith }

-- ---- over phrases of one level less

module _ (n : ℕ) (parts : StrLevel) (it : StrLevelIs n parts) where
  pub str_keeps : (fs : Fixities) → Keeps (str parts fs) (Str n)
  str_keeps fs = keep_on (λ x. it.str_after fs x) keep_refuse

  struct_keeps : (fs : Fixities) (place : At) → Keeps (struct_str parts fs place) (StrTree (suc n))
  unfolding struct_str
  struct_keeps fs place =
      keep_bind (it.decs fs) (λ inner are. keep_then (λ _. keep_pure _ (record {
        exact = add-one inner.height ∙ ap suc are.exact ∙ sym (str-Struct inner.decs place);
        low = let low = are.low in omega arith;
      })))

  let_keeps : (fs : Fixities) (place : At) → Keeps (let_str parts fs place) (StrTree (suc n))
  unfolding let_str
  let_keeps fs place =
      keep_bind (it.decs fs) (λ inner are. keep_then (λ _. keep_bind (alone_keeps (str_keeps inner.fixities)) (λ body is.
      keep_then (λ _. keep_pure _ (record {
        exact = add-one (max inner.height body.height) ∙ ap₂ (λ a b. suc (max a b)) are.exact is.exact
            ∙ sym (str-Within inner.decs body.tree place);
        low = let low = are.low in let lower = is.low in omega arith;
      })))))

  of_decs_keeps : (decs : g (Decs FullStrDec)) → Keeps decs (StrDecs n) → (called : Name) (begin place : At)
      → Keeps (of_decs decs called begin place) (StrTree (suc n))
  unfolding of_decs
  of_decs_keeps decs each called begin place =
      keep_bind each (λ inner are. keep_then (λ _. keep_pure _ (record {
        exact = add-one inner.height ∙ ap suc are.exact ∙ sym (str-FunctorOfDecs called inner.decs begin place);
        low = let low = are.low in omega arith;
      })))

  argument_keeps : (fs : Fixities) (called : Name) (place : At)
      → Keeps (argument parts fs called place) (StrTree (suc n))
  unfolding argument of_str of_strdec
  argument_keeps fs called place =
      keep_on (λ x. keep_bind (alone_keeps (it.str_after fs x)) (λ found is. keep_then (λ _.
      keep_pure _ (over_is _ (λ arg. str-Functor called arg place) is))))
      (keep_on (λ x. of_decs_keeps (parts.decs_behind fs x) (it.decs_behind fs x) called _ place)
      (of_decs_keeps _ (keep_pure _ (no_decs n fs)) called _ place))

  named_keeps : (fs : Fixities) (x : Lexeme) (found : Option (List ℕ))
      → Keeps (str_named parts fs x found) (StrTree (suc n))
  named_keeps fs x None = keep_made (str_name x) (λ parts. leaf_is _ (str-Named _ (at x))) (strid_of x)
  named_keeps fs x (Some text) =
      keep_if_mark _ (argument_keeps fs _ (at x)) (keep_pure _ (leaf_is _ (str-Named _ (at x))))

  atom_keeps : (fs : Fixities) (x : Lexeme) → Keeps (str_atom parts fs x) (StrTree (suc n))
  atom_keeps fs x =
      keep_either (is w.Struct x) (λ _. struct_keeps fs (at x))
      (keep_either (is w.Let x) (λ _. let_keeps fs (at x)) (named_keeps fs x (module_name_of x)))

  within_keeps : (fs : Fixities) (x : Lexeme) → Keeps (str_behind (suc n) parts fs x) (Str (suc n))
  unfolding str_within
  within_keeps fs x =
      let same : suc n - 1 ≡ n = omega arith in
      keep_within (λ _. rw same (keep_bind (atom_keeps fs x) (λ first is. seals_keep n (at x) (apart first) is)))

  pub str_bind_keeps : (fs : Fixities) (called : Name) → Keeps (str_bind n parts fs called) (IsJoined str_bind_levels n)
  unfolding str_bind
  str_bind_keeps fs called =
      keep_bind (maybe_seal_keeps n) (λ given is. keep_then (λ _. keep_bind (str_keeps fs) (λ body so.
      keep_pure _ (two_is (str_bind-is called given.tree body.made.tree) is so))))

  structures_keep : (fs : Fixities) (place : At)
      → Keeps (structures n parts fs place) (IsMeasured str_dec_levels (suc n))
  unfolding structures
  structures_keep fs place =
      keep_bind (bindings_keep (str_bind_keeps fs)) (λ found are.
      keep_pure _ (over_is _ (λ binds. str_dec-Structures binds place) are))

  local_keeps : (fs : Fixities) (place : At) → Keeps (local_str parts fs place) (StrDecs (suc n))
  unfolding local_str
  local_keeps fs place =
      keep_bind (it.decs fs) (λ hidden is. keep_then (λ _. keep_bind (it.decs hidden.fixities) (λ shown so.
      keep_then (λ _. keep_pure _ (declares_is _ (record {
        exact = add-one (max hidden.height shown.height) ∙ ap₂ (λ a b. suc (max a b)) is.exact so.exact
            ∙ sym (str_dec-Local hidden.decs shown.decs place);
        low = let low = is.low in let lower = so.low in omega arith;
      }))))))

  structure_word : (fs : Fixities) (place : At)
      → Keeps (plain fs (structures (suc n - 1) parts fs place)) (StrDecs (suc n))
  structure_word fs place =
      let same : suc n - 1 ≡ n = omega arith in rw same (plain_keeps fs (structures_keep fs place))

  word_keeps : (fs : Fixities) (x : Lexeme) (found : Option Word)
      → Keeps (str_dec_word (suc n) parts fs x found) (StrDecs (suc n))
  word_keeps fs x (Some w.Structure) = structure_word fs (at x)
  word_keeps fs x (Some w.Local) = local_keeps fs (at x)
  word_keeps fs x _ = core_dec_keeps (suc n) fs x

  dec_keeps : (fs : Fixities) (x : Lexeme) → Keeps (str_dec_of (suc n) parts fs x) (StrDecs (suc n))
  dec_keeps fs x = keep_within (λ _. word_keeps fs x (word x))

-- ---- sequences

module _ (n most : ℕ) (parts : StrLevel)
    (each : (fs : Fixities) (x : Lexeme) → Keeps (str_dec_of n parts fs x) (StrDecs most)) where
  round_keeps : (found : Decs FullStrDec) (x : Lexeme) → StrDecs most found
      → Keeps (str_round n parts found x) (StrDecs most)
  unfolding next_str_dec
  round_keeps found x are =
      keep_either (is w.Semicolon x) (λ _. keep_pure found are)
      (keep_bind (each found.fixities x) (λ next more. keep_pure _ (with_dec_is are more)))

  from_keeps : (found : Decs FullStrDec) → StrDecs most found → Keeps (str_decs_from n parts found) (StrDecs most)
  unfolding str_decs_from
  from_keeps found are = keep_many (λ found x are. round_keeps found x are) found are

  behind_keeps : (fs : Fixities) (x : Lexeme) → Keeps (str_decs_behind n parts fs x) (StrDecs most)
  unfolding str_decs_behind
  behind_keeps fs x =
      keep_bind (round_keeps (no_str_decs fs) x (no_decs most fs)) (λ first are. from_keeps first are)

-- ---- levels

dec_none : {P : Decs FullStrDec → Type 0} (parts : StrLevel) (fs : Fixities) (x : Lexeme)
    → Keeps (str_dec_of 0 parts fs x) P
dec_none parts fs x = keep_within (λ h. absurd (cc))

pub str_level_keeps : (n : ℕ) → StrLevelIs n (str_level n)
unfolding str_below
str_level_keeps zero = record {
  str_after = λ fs x. keep_within (λ h. absurd (cc));
  decs = λ fs. from_keeps 0 0 no_str_level (λ fs x. dec_none no_str_level fs x) (no_str_decs fs) (no_decs 0 fs);
  decs_behind = λ fs x. behind_keeps 0 0 no_str_level (λ fs x. dec_none no_str_level fs x) fs x;
}
str_level_keeps (suc n) =
    let it = str_level_keeps n in
    let each = dec_keeps n (str_level n) it in
    record {
      str_after = λ fs x. within_keeps n (str_level n) it fs x;
      decs = λ fs. from_keeps (suc n) (suc n) (str_level n) each (no_str_decs fs) (no_decs (suc n) fs);
      decs_behind = λ fs x. behind_keeps (suc n) (suc n) (str_level n) each fs x;
    }
