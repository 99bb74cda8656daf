-- The names of each structure expression that is read fit, and those of each declaration in one.
use Rattle.std.proofs.Common.{ℕ, zero, suc, ◌-◌, List, [], ◌∷◌, Option, None, Some, Bool, true, false, map}
use Rattle.sml_lexer.specs.declared.lexeme.Lexeme.{Lexeme}
use Rattle.sml_trees.specs.declared.name.At.{At}
use Rattle.sml_trees.specs.declared.name.Name.{Name}
use Rattle.sml_trees.specs.declared.full_exp.FullDec.{FullDec}
use Rattle.sml_trees.specs.declared.full_sig.FullSigExp.{FullSigExp}
use Rattle.sml_trees.specs.declared.full_str.FullStrDec.{FullStrDec}
use Rattle.sml_trees.specs.declared.full_str.FullStrDec.TheVariants as d
use Rattle.sml_trees.specs.declared.full_str.FullStrExp.{FullStrExp}
use Rattle.infix_names.specs.Fixities.{Fixities}
use Rattle.core_bindings.specs.Decs.{Decs}
use Rattle.core_expressions.specs.Levels.{level}
use Rattle.phrase_reading.specs.Names.{strid_of}
use Rattle.phrase_reading.specs.Words.{g, is, word, at, named, long_named}
use Rattle.sml_lexer.specs.declared.words.Word.{Word}
use Rattle.sml_lexer.specs.declared.words.Word.TheVariants as w
use Rattle.signature_parser.specs.Joined.{module_name_of, apart}
use Rattle.signature_parser.specs.SigLevels.{sig_level}
use Rattle.signature_parser.specs.declared.joined.Joined.{Joined}
use Rattle.module_parser.specs.StrLevels.{str_level, str_level_of, str_below, no_str_level}
use Rattle.module_parser.specs.Structures.{StrLevel, no_str_decs, str, seal_behind, maybe_seal, str_bind, struct_str, let_str, of_str, of_decs, of_strdec, argument, str_name, str_named, str_atom, sealed_tree, sealed_of, seal_of, seals, str_within, str_behind, structures, local_str, core_dec, str_dec_word, str_dec_of, next_str_dec, str_round, str_decs_from, str_decs_behind}
use Rattle.body_laws.proofs.Signatures.{Each}
use Rattle.fitting_names.proofs.Nodes.{FitName, FitLong}
use Rattle.fitting_names.proofs.Texts.{FitText}
use Rattle.fitting_names.proofs.PatForms.{alone_fits}
use Rattle.fitting_names.proofs.SigForms.{SigIs}
use Rattle.fitting_phrases.proofs.ExpForms.{DecIs}
use Rattle.fitting_phrases.proofs.StrForms.{StrIs, StrDecIs, BindIs, IfSeal, str-Struct, str-Named, str-Transparent, str-Opaque, str-Functor, str-FunctorOfDecs, str-Within, str_bind-is, str_dec-Core, str_dec-Structures, str_dec-Local}
use Rattle.core_names.proofs.Keeping.{Good, Keeps, keep_pure, keep_refuse, keep_bind, keep_then, keep_on_good, keep_within, keep_many, IfAny, keep_made_by, keep_if_mark, keep_if_marked, keep_either, Holds, leaf_is, over_is, HoldsEach, declares_is, with_dec_is, plain_keeps}
use Rattle.core_names.proofs.Named.{as_long, strid_of_fits}
use Rattle.name_laws.proofs.Decs.{core_keeps}
use Rattle.name_laws.proofs.Sigs.{IsJoined, alone_keeps, bindings_keep, module_name_fits, sig_level_keeps}

pub record StrLevelIs (level : StrLevel) : Type 0 where
  pub str_after : (fs : Fixities) (x : Lexeme) → Good x → Keeps (level.str_after fs x) (IsJoined StrIs)
  pub decs : (fs : Fixities) → Keeps (level.decs fs) (HoldsEach StrDecIs)
  pub decs_behind : (fs : Fixities) (x : Lexeme) → Good x → Keeps (level.decs_behind fs x) (HoldsEach StrDecIs)

-- ---- signatures that structures are given

sealed-tree : (opaque : Bool) (place : At) (inner : FullStrExp) (sig : FullSigExp) → StrIs inner
    → SigIs sig → StrIs (sealed_tree opaque place inner sig)
sealed-tree true place inner sig = str-Opaque inner sig place
sealed-tree false place inner sig = str-Transparent inner sig place

seals_keep : (n m : ℕ) (place : At) (left : Joined FullStrExp) → Holds StrIs left.made
    → Keeps (seals n (sig_level m).sig place left) (IsJoined StrIs)
unfolding seals seal_of sealed_of
seals_keep n m place left it =
    keep_many (λ left x _ so. keep_within (keep_bind (sig_level_keeps m).sig (λ found too.
    keep_pure _ (record {
      tree = sealed-tree (is w.Seal x) place left.made.tree found.made.tree so.tree too.tree;
    })))) left it

pub maybe_seal_keeps : (n : ℕ) → Keeps (maybe_seal (sig_level n).sig) (Holds IfSeal)
unfolding maybe_seal seal_behind
maybe_seal_keeps n =
    keep_if_marked _ (λ x _. keep_bind (alone_keeps (sig_level_keeps n).sig) (λ found is.
    keep_pure _ (record { tree = is.tree })))
    (keep_if_marked _ (λ x _. keep_bind (alone_keeps (sig_level_keeps n).sig) (λ found is.
    keep_pure _ (record { tree = is.tree })))
    (keep_pure _ (record { tree = tt })))

-- declarations of the core as declarations in a structure
core_decs : (decs : List FullDec) → Each DecIs decs → Each StrDecIs (map d.Core decs)
core_decs [] all = tt
core_decs (dec ∷ decs) all = (str_dec-Core dec all.0, core_decs decs all.1)

core_dec_keeps : (n : ℕ) (fs : Fixities) (x : Lexeme) → Good x → Keeps (core_dec n fs x) (HoldsEach StrDecIs)
unfolding core_dec
core_dec_keeps n fs x good =
    keep_bind ((core_keeps n).dec fs x good) (λ found are.
    keep_pure _ (record { decs = core_decs found.decs are.decs }))

no_decs : (fs : Fixities) → HoldsEach StrDecIs (no_str_decs fs)
no_decs fs = record { decs = tt }

-- ---- over phrases of one level less

module _ (n : ℕ) (parts : StrLevel) (it : StrLevelIs parts) where
  pub str_keeps : (fs : Fixities) → Keeps (str parts fs) (IsJoined StrIs)
  str_keeps fs = keep_on_good (λ x good. it.str_after fs x good) keep_refuse

  struct_keeps : (fs : Fixities) (place : At) → Keeps (struct_str parts fs place) (Holds StrIs)
  unfolding struct_str
  struct_keeps fs place =
      keep_bind (it.decs fs) (λ inner are. keep_then (λ _.
      keep_pure _ (record { tree = str-Struct inner.decs place are.decs })))

  let_keeps : (fs : Fixities) (place : At) → Keeps (let_str parts fs place) (Holds StrIs)
  unfolding let_str
  let_keeps fs place =
      keep_bind (it.decs fs)
      (λ inner are. keep_then (λ _. keep_bind (alone_keeps (str_keeps inner.fixities)) (λ body is.
      keep_then (λ _. keep_pure _ (record { tree = str-Within inner.decs body.tree place are.decs is.tree })))))

  of_decs_keeps : (decs : g (Decs FullStrDec)) → Keeps decs (HoldsEach StrDecIs) → (called : Name) (begin place : At)
      → FitName called → Keeps (of_decs decs called begin place) (Holds StrIs)
  unfolding of_decs
  of_decs_keeps decs each called begin place fits =
      keep_bind each (λ inner are. keep_then (λ _.
      keep_pure _ (record { tree = str-FunctorOfDecs called inner.decs begin place fits are.decs })))

  argument_keeps : (fs : Fixities) (called : Name) (place : At) → FitName called
      → Keeps (argument parts fs called place) (Holds StrIs)
  unfolding argument of_str of_strdec
  argument_keeps fs called place fits =
      keep_on_good (λ x good. keep_bind (alone_keeps (it.str_after fs x good)) (λ found is. keep_then (λ _.
      keep_pure _ (over_is _ (λ arg. str-Functor called arg place fits) is))))
      (keep_on_good (λ x good. of_decs_keeps (parts.decs_behind fs x) (it.decs_behind fs x good) called _ place fits)
      (of_decs_keeps _ (keep_pure _ (no_decs fs)) called _ place fits))

  as_str : (x : Lexeme) (found : Option (List (List ℕ))) → IfAny (λ parts. FitLong (long_named x parts)) found
      → IfAny (λ parts. Holds StrIs (str_name x parts)) found
  as_str x None is = tt
  as_str x (Some parts) is = leaf_is _ (str-Named (long_named x parts) (at x) is)

  named_keeps : (fs : Fixities) (x : Lexeme) (found : Option (List ℕ)) → Good x → IfAny FitText found
      → Keeps (str_named parts fs x found) (Holds StrIs)
  named_keeps fs x None good is =
      keep_made_by (str_name x) (strid_of x) (as_str x (strid_of x) (as_long x (strid_of x) (strid_of_fits x good)))
  named_keeps fs x (Some text) good is =
      keep_if_mark _ (argument_keeps fs (named x text) (at x) is)
      (keep_pure _ (leaf_is _ (str-Named (long_named x (text ∷ [])) (at x) (alone_fits text is x.line x.col))))

  atom_keeps : (fs : Fixities) (x : Lexeme) → Good x → Keeps (str_atom parts fs x) (Holds StrIs)
  atom_keeps fs x good =
      keep_either (is w.Struct x) (struct_keeps fs (at x))
      (keep_either (is w.Let x) (let_keeps fs (at x))
      (named_keeps fs x (module_name_of x) good (module_name_fits x good)))

  within_keeps : (fs : Fixities) (x : Lexeme) → Good x → Keeps (str_behind n parts fs x) (IsJoined StrIs)
  unfolding str_within
  within_keeps fs x good =
      keep_within (keep_bind (atom_keeps fs x good) (λ first is. seals_keep n (n - 1) (at x) (apart first) is))

  pub str_bind_keeps : (fs : Fixities) (called : Name) → FitName called
      → Keeps (str_bind n parts fs called) (IsJoined BindIs)
  unfolding str_bind
  str_bind_keeps fs called fits =
      keep_bind (maybe_seal_keeps n) (λ given is. keep_then (λ _. keep_bind (str_keeps fs) (λ body so.
      keep_pure _ (record { tree = str_bind-is called given.tree body.made.tree fits is.tree so.tree }))))

module _ (n : ℕ) (parts : StrLevel) (it : StrLevelIs parts) where
  structures_keep : (m : ℕ) (fs : Fixities) (place : At) → Keeps (structures m parts fs place) (Holds StrDecIs)
  unfolding structures
  structures_keep m fs place =
      keep_bind (bindings_keep (str_bind_keeps m parts it fs)) (λ found are.
      keep_pure _ (over_is _ (λ binds. str_dec-Structures binds place) are))

  local_keeps : (fs : Fixities) (place : At) → Keeps (local_str parts fs place) (HoldsEach StrDecIs)
  unfolding local_str
  local_keeps fs place =
      keep_bind (it.decs fs) (λ hidden is. keep_then (λ _. keep_bind (it.decs hidden.fixities) (λ shown so.
      keep_then (λ _. keep_pure _ (declares_is _ (record {
        tree = str_dec-Local hidden.decs shown.decs place is.decs so.decs;
      }))))))

  word_keeps : (fs : Fixities) (x : Lexeme) (found : Option Word) → Good x
      → Keeps (str_dec_word n parts fs x found) (HoldsEach StrDecIs)
  word_keeps fs x (Some w.Structure) good = plain_keeps fs (structures_keep (n - 1) fs (at x))
  word_keeps fs x (Some w.Local) good = local_keeps fs (at x)
  word_keeps fs x _ good = core_dec_keeps n fs x good

  dec_keeps : (fs : Fixities) (x : Lexeme) → Good x → Keeps (str_dec_of n parts fs x) (HoldsEach StrDecIs)
  dec_keeps fs x good = keep_within (word_keeps fs x (word x) good)

  -- ---- sequences

  round_keeps : (found : Decs FullStrDec) (x : Lexeme) → Good x → HoldsEach StrDecIs found
      → Keeps (str_round n parts found x) (HoldsEach StrDecIs)
  unfolding next_str_dec
  round_keeps found x good are =
      keep_either (is w.Semicolon x) (keep_pure found are)
      (keep_bind (dec_keeps found.fixities x good) (λ next more. keep_pure _ (with_dec_is are more)))

  from_keeps : (found : Decs FullStrDec) → HoldsEach StrDecIs found
      → Keeps (str_decs_from n parts found) (HoldsEach StrDecIs)
  unfolding str_decs_from
  from_keeps found are = keep_many (λ found x good are. round_keeps found x good are) found are

  behind_keeps : (fs : Fixities) (x : Lexeme) → Good x → Keeps (str_decs_behind n parts fs x) (HoldsEach StrDecIs)
  unfolding str_decs_behind
  behind_keeps fs x good =
      keep_bind (round_keeps (no_str_decs fs) x good (no_decs fs)) (λ first are. from_keeps first are)

-- ---- levels

level_keeps : (n : ℕ) (parts : StrLevel) → StrLevelIs parts → StrLevelIs (str_level_of n parts)
level_keeps n parts it = record {
  str_after = λ fs x good. within_keeps n parts it fs x good;
  decs = λ fs. from_keeps n parts it (no_str_decs fs) (no_decs fs);
  decs_behind = λ fs x good. behind_keeps n parts it fs x good;
}

none_keeps : StrLevelIs no_str_level
none_keeps = record {
  str_after = λ fs x good. keep_refuse;
  decs = λ fs. keep_refuse;
  decs_behind = λ fs x good. keep_refuse;
}

below_keeps : (n : ℕ) → StrLevelIs (str_below n)
unfolding str_below
below_keeps zero = none_keeps
below_keeps (suc n) = level_keeps n (str_below n) (below_keeps n)

pub str_level_keeps : (n : ℕ) → StrLevelIs (str_level n)
str_level_keeps n = level_keeps n (str_below n) (below_keeps n)
