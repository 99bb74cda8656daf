-- The constants of each structure expression that is read fit, and those of each declaration in one.
use Rattle.std.proofs.Common.{ℕ, zero, suc, ◌-◌, List, [], ◌∷◌, Option, None, Some, Bool, true, false, map}
use Rattle.sml_lexer.specs.declared.lexeme.Lexeme.{Lexeme}
use Rattle.sml_trees.specs.declared.name.At.{At}
use Rattle.sml_trees.specs.declared.name.Name.{Name}
use Rattle.sml_trees.specs.declared.full_exp.FullDec.{FullDec}
use Rattle.sml_trees.specs.declared.full_sig.FullSigExp.{FullSigExp}
use Rattle.sml_trees.specs.declared.full_str.FullStrDec.{FullStrDec}
use Rattle.sml_trees.specs.declared.full_str.FullStrDec.TheVariants as d
use Rattle.sml_trees.specs.declared.full_str.FullStrExp.{FullStrExp}
use Rattle.infix_names.specs.Fixities.{Fixities}
use Rattle.core_bindings.specs.Decs.{Decs}
use Rattle.core_expressions.specs.Levels.{level}
use Rattle.phrase_reading.specs.Names.{strid_of}
use Rattle.phrase_reading.specs.Words.{g, is, word, at}
use Rattle.sml_lexer.specs.declared.words.Word.{Word}
use Rattle.sml_lexer.specs.declared.words.Word.TheVariants as w
use Rattle.signature_parser.specs.Joined.{module_name_of, apart, alone, next_binding, bindings_from, bindings}
use Rattle.signature_parser.specs.SigLevels.{sig_level}
use Rattle.signature_parser.specs.declared.joined.Joined.{Joined}
use Rattle.module_parser.specs.StrLevels.{str_level, str_level_of, str_below, no_str_level}
use Rattle.module_parser.specs.Structures.{StrLevel, no_str_decs, str, str_bind, struct_str, let_str, of_str, of_decs, of_strdec, argument, str_name, str_named, str_atom, sealed_tree, sealed_of, seal_of, seals, str_within, str_behind, structures, local_str, core_dec, str_dec_word, str_dec_of, next_str_dec, str_round, str_decs_from, str_decs_behind}
use Rattle.body_laws.proofs.Signatures.{Each}
use Rattle.constant_laws.proofs.Keeping.{Good, Keeps, keep_pure, keep_refuse, keep_bind, keep_then, keep_on_good, keep_within, keep_many, keep_made, keep_if_mark, keep_either, Holds, leaf_is, over_is, one_is, more_is, HoldsEach, declares_is, with_dec_is, plain_keeps}
use Rattle.fitting_forms.proofs.ExpForms.{DecIs}
use Rattle.constant_laws.proofs.Decs.{core_keeps}
use Rattle.fitting_forms.proofs.StrForms.{StrIs, StrDecIs, BindIs, str-Struct, str-Named, str-Transparent, str-Opaque, str-Functor, str-FunctorOfDecs, str-Within, str_bind-is, str_dec-Core, str_dec-Structures, str_dec-Local}

-- ---- phrases behind which an `and` may have been taken

-- what is made is so
abbrev pub IsJoined : {A : Type 0} → (A → Type 0) → Joined A → Type 0
IsJoined P found = Holds P found.made

pub alone_keeps : {A : Type 0} {P : A → Type 0} {each : g (Joined A)} → Keeps each (IsJoined P)
    → Keeps (alone each) (Holds P)
unfolding alone
alone_keeps every = keep_bind every (λ found is. keep_either found.joined keep_refuse (keep_pure found.made is))

pub bindings_keep : {A : Type 0} {P : A → Type 0} {each : Name → g (Joined A)}
    → ((called : Name) → Keeps (each called) (IsJoined P)) → Keeps (bindings each) (Holds (Each P))
unfolding bindings bindings_from next_binding
bindings_keep {A} {P} {each} every =
    keep_then (λ called. keep_bind (every called) (λ first is.
    keep_bind {P = λ (found : Joined (List A)). Holds (Each P) found.made}
    (keep_many (λ found x _ are. keep_then (λ called. keep_bind (every called) (λ next so. keep_pure _ (more_is are so))))
    _ (one_is is))
    (λ found are. keep_either found.joined keep_refuse (keep_pure found.made are))))

pub record StrLevelIs (level : StrLevel) : Type 0 where
  pub str_after : (fs : Fixities) (x : Lexeme) → Good x → Keeps (level.str_after fs x) (IsJoined StrIs)
  pub decs : (fs : Fixities) → Keeps (level.decs fs) (HoldsEach StrDecIs)
  pub decs_behind : (fs : Fixities) (x : Lexeme) → Good x → Keeps (level.decs_behind fs x) (HoldsEach StrDecIs)

-- ---- signatures that structures are given

sealed-tree : (opaque : Bool) (place : At) (inner : FullStrExp) (sig : FullSigExp) → StrIs inner
    → StrIs (sealed_tree opaque place inner sig)
sealed-tree true place inner sig = str-Opaque inner sig place
sealed-tree false place inner sig = str-Transparent inner sig place

seals_keep : (n m : ℕ) (place : At) (left : Joined FullStrExp) → Holds StrIs left.made
    → Keeps (seals n (sig_level m).sig place left) (IsJoined StrIs)
unfolding seals seal_of sealed_of
seals_keep n m place left it =
    keep_many (λ left x _ so. keep_within (keep_then (λ found.
    keep_pure _ (record { tree = sealed-tree (is w.Seal x) place left.made.tree found.made.tree so.tree })))) left it

-- declarations of the core as declarations in a structure
core_decs : (decs : List FullDec) → Each DecIs decs → Each StrDecIs (map d.Core decs)
core_decs [] all = tt
core_decs (dec ∷ decs) all = (str_dec-Core dec all.0, core_decs decs all.1)

core_dec_keeps : (n : ℕ) (fs : Fixities) (x : Lexeme) → Good x → Keeps (core_dec n fs x) (HoldsEach StrDecIs)
unfolding core_dec
core_dec_keeps n fs x good =
    keep_bind ((core_keeps n).dec fs x good) (λ found are.
    keep_pure _ (record { decs = core_decs found.decs are.decs }))

no_decs : (fs : Fixities) → HoldsEach StrDecIs (no_str_decs fs)
no_decs fs = record { decs = tt }

-- ---- over phrases of one level less

module _ (n : ℕ) (parts : StrLevel) (it : StrLevelIs parts) where
  pub str_keeps : (fs : Fixities) → Keeps (str parts fs) (IsJoined StrIs)
  str_keeps fs = keep_on_good (λ x good. it.str_after fs x good) keep_refuse

  struct_keeps : (fs : Fixities) (place : At) → Keeps (struct_str parts fs place) (Holds StrIs)
  unfolding struct_str
  struct_keeps fs place =
      keep_bind (it.decs fs) (λ inner are. keep_then (λ _.
      keep_pure _ (record { tree = str-Struct inner.decs place are.decs })))

  let_keeps : (fs : Fixities) (place : At) → Keeps (let_str parts fs place) (Holds StrIs)
  unfolding let_str
  let_keeps fs place =
      keep_bind (it.decs fs) (λ inner are. keep_then (λ _. keep_bind (alone_keeps (str_keeps inner.fixities)) (λ body is.
      keep_then (λ _. keep_pure _ (record { tree = str-Within inner.decs body.tree place are.decs is.tree })))))

  of_decs_keeps : (decs : g (Decs FullStrDec)) → Keeps decs (HoldsEach StrDecIs) → (called : Name) (begin place : At)
      → Keeps (of_decs decs called begin place) (Holds StrIs)
  unfolding of_decs
  of_decs_keeps decs each called begin place =
      keep_bind each (λ inner are. keep_then (λ _.
      keep_pure _ (record { tree = str-FunctorOfDecs called inner.decs begin place are.decs })))

  argument_keeps : (fs : Fixities) (called : Name) (place : At) → Keeps (argument parts fs called place) (Holds StrIs)
  unfolding argument of_str of_strdec
  argument_keeps fs called place =
      keep_on_good (λ x good. keep_bind (alone_keeps (it.str_after fs x good)) (λ found is. keep_then (λ _.
      keep_pure _ (over_is _ (λ arg. str-Functor called arg place) is))))
      (keep_on_good (λ x good. of_decs_keeps (parts.decs_behind fs x) (it.decs_behind fs x good) called _ place)
      (of_decs_keeps _ (keep_pure _ (no_decs fs)) called _ place))

  named_keeps : (fs : Fixities) (x : Lexeme) (found : Option (List ℕ))
      → Keeps (str_named parts fs x found) (Holds StrIs)
  named_keeps fs x None = keep_made (str_name x) (λ parts. leaf_is _ (str-Named _ (at x))) (strid_of x)
  named_keeps fs x (Some text) =
      keep_if_mark _ (argument_keeps fs _ (at x)) (keep_pure _ (leaf_is _ (str-Named _ (at x))))

  atom_keeps : (fs : Fixities) (x : Lexeme) → Keeps (str_atom parts fs x) (Holds StrIs)
  atom_keeps fs x =
      keep_either (is w.Struct x) (struct_keeps fs (at x))
      (keep_either (is w.Let x) (let_keeps fs (at x)) (named_keeps fs x (module_name_of x)))

  within_keeps : (fs : Fixities) (x : Lexeme) → Keeps (str_behind n parts fs x) (IsJoined StrIs)
  unfolding str_within
  within_keeps fs x =
      keep_within (keep_bind (atom_keeps fs x) (λ first is. seals_keep n (n - 1) (at x) (apart first) is))

  pub str_bind_keeps : (fs : Fixities) (called : Name) → Keeps (str_bind n parts fs called) (IsJoined BindIs)
  unfolding str_bind
  str_bind_keeps fs called =
      keep_then (λ given. keep_then (λ _. keep_bind (str_keeps fs) (λ body so.
      keep_pure _ (record { tree = str_bind-is called given.tree body.made.tree so.tree }))))

module _ (n : ℕ) (parts : StrLevel) (it : StrLevelIs parts) where
  structures_keep : (m : ℕ) (fs : Fixities) (place : At) → Keeps (structures m parts fs place) (Holds StrDecIs)
  unfolding structures
  structures_keep m fs place =
      keep_bind (bindings_keep (str_bind_keeps m parts it fs)) (λ found are.
      keep_pure _ (over_is _ (λ binds. str_dec-Structures binds place) are))

  local_keeps : (fs : Fixities) (place : At) → Keeps (local_str parts fs place) (HoldsEach StrDecIs)
  unfolding local_str
  local_keeps fs place =
      keep_bind (it.decs fs) (λ hidden is. keep_then (λ _. keep_bind (it.decs hidden.fixities) (λ shown so.
      keep_then (λ _. keep_pure _ (declares_is _ (record {
        tree = str_dec-Local hidden.decs shown.decs place is.decs so.decs;
      }))))))

  word_keeps : (fs : Fixities) (x : Lexeme) (found : Option Word) → Good x
      → Keeps (str_dec_word n parts fs x found) (HoldsEach StrDecIs)
  word_keeps fs x (Some w.Structure) good = plain_keeps fs (structures_keep (n - 1) fs (at x))
  word_keeps fs x (Some w.Local) good = local_keeps fs (at x)
  word_keeps fs x _ good = core_dec_keeps n fs x good

  dec_keeps : (fs : Fixities) (x : Lexeme) → Good x → Keeps (str_dec_of n parts fs x) (HoldsEach StrDecIs)
  dec_keeps fs x good = keep_within (word_keeps fs x (word x) good)

  -- ---- sequences

  round_keeps : (found : Decs FullStrDec) (x : Lexeme) → Good x → HoldsEach StrDecIs found
      → Keeps (str_round n parts found x) (HoldsEach StrDecIs)
  unfolding next_str_dec
  round_keeps found x good are =
      keep_either (is w.Semicolon x) (keep_pure found are)
      (keep_bind (dec_keeps found.fixities x good) (λ next more. keep_pure _ (with_dec_is are more)))

  from_keeps : (found : Decs FullStrDec) → HoldsEach StrDecIs found
      → Keeps (str_decs_from n parts found) (HoldsEach StrDecIs)
  unfolding str_decs_from
  from_keeps found are = keep_many (λ found x good are. round_keeps found x good are) found are

  behind_keeps : (fs : Fixities) (x : Lexeme) → Good x → Keeps (str_decs_behind n parts fs x) (HoldsEach StrDecIs)
  unfolding str_decs_behind
  behind_keeps fs x good =
      keep_bind (round_keeps (no_str_decs fs) x good (no_decs fs)) (λ first are. from_keeps first are)

-- ---- levels

level_keeps : (n : ℕ) (parts : StrLevel) → StrLevelIs parts → StrLevelIs (str_level_of n parts)
level_keeps n parts it = record {
  str_after = λ fs x _. within_keeps n parts it fs x;
  decs = λ fs. from_keeps n parts it (no_str_decs fs) (no_decs fs);
  decs_behind = λ fs x good. behind_keeps n parts it fs x good;
}

none_keeps : StrLevelIs no_str_level
none_keeps = record {
  str_after = λ fs x good. keep_refuse;
  decs = λ fs. keep_refuse;
  decs_behind = λ fs x good. keep_refuse;
}

below_keeps : (n : ℕ) → StrLevelIs (str_below n)
unfolding str_below
below_keeps zero = none_keeps
below_keeps (suc n) = level_keeps n (str_below n) (below_keeps n)

pub str_level_keeps : (n : ℕ) → StrLevelIs (str_level n)
str_level_keeps n = level_keeps n (str_below n) (below_keeps n)
