-- What is bound in each structure expression and in each declaration in one is so, level by level.
use Rattle.std.proofs.Common.{◌≡◌, ℕ, zero, suc, List, [], ◌∷◌, map, Option, None, Some, Bool, true, false, refl, ◌∙◌}
use Rattle.std.specs.List.{list_all}
use Rattle.sml_lexer.specs.declared.lexeme.Lexeme.{Lexeme}
use Rattle.sml_trees.specs.declared.name.At.{At}
use Rattle.sml_trees.specs.declared.name.Name.{Name}
use Rattle.sml_trees.specs.declared.full_exp.FullDec.{FullDec}
use Rattle.sml_trees.specs.declared.full_sig.FullSigExp.{FullSigExp}
use Rattle.sml_trees.specs.declared.full_str.FullStrBind.{FullStrBind}
use Rattle.sml_trees.specs.declared.full_str.FullStrDec.{FullStrDec, roll-FullStrDec}
use Rattle.sml_trees.specs.declared.full_str.FullStrDec.TheOpen.{FullStrDec-F, FullStrExp-F}
use Rattle.sml_trees.specs.declared.full_str.FullStrDec.TheFolds.{map-FullStrDec, map-FullStrExp}
use Rattle.sml_trees.specs.declared.full_str.FullStrDec.TheVariants as d
use Rattle.sml_trees.specs.declared.full_str.FullStrExp.{FullStrExp, roll-FullStrExp}
use Rattle.sml_trees.specs.declared.full_str.FullStrExp.TheVariants as t
use Rattle.infix_names.specs.Fixities.{Fixities}
use Rattle.core_bindings.specs.Decs.{Decs, plain}
use Rattle.phrase_reading.specs.Names.{strid_of}
use Rattle.phrase_reading.specs.Words.{g, is, word, at}
use Rattle.phrase_reading.specs.declared.tall.Tall.{Tall}
use Rattle.sml_lexer.specs.declared.words.Word.{Word}
use Rattle.sml_lexer.specs.declared.words.Word.TheVariants as w
use Rattle.signature_parser.specs.Joined.{module_name_of, apart, alone, bindings, bindings_from, next_binding}
use Rattle.signature_parser.specs.declared.joined.Joined.{Joined}
use Rattle.module_parser.specs.StrLevels.{str_level, str_level_of, str_below, no_str_level}
use Rattle.module_parser.specs.Structures.{StrLevel, no_str_decs, str, str_bind, struct_str, let_str, of_str, of_decs, of_strdec, argument, str_name, str_named, str_atom, sealed_tree, sealed_of, seal_of, seals, str_within, str_behind, structures, local_str, core_dec, str_dec_word, str_dec_of, next_str_dec, str_round, str_decs_from, str_decs_behind}
use Rattle.level_laws.proofs.Keeping.{Keeps, keep_pure, keep_refuse, keep_bind, keep_then, keep_on, keep_within, keep_many, keep_made, keep_if_mark, keep_either}
use Rattle.recursion_laws.specs.Functions.{str_dec_step, str_step, dec_binds, str_dec_binds, str_binds, str_bind_binds}
use Rattle.recursion_laws.proofs.Forms.{str_dec_form, str_form, str_bind_form, both_true, first_true, second_true, AllPass, one_passes, more_pass}
use Rattle.recursion_laws.proofs.Exps.{passes}
use Rattle.recursion_laws.proofs.Decs.{core_is}

abbrev StrTree : Tall FullStrExp → Type 0
StrTree made = str_binds made.tree ≡ true

abbrev StrIs : Joined FullStrExp → Type 0
StrIs found = StrTree found.made

abbrev StrDecsAre : Decs FullStrDec → Type 0
StrDecsAre found = AllPass passes str_dec_binds found.decs

-- a structure expression of this form, a declaration
str_is : (x : FullStrExp-F FullStrDec FullStrExp FullStrBind) (tree : FullStrExp) → roll-FullStrExp x ≡ tree
    → str_step (map-FullStrExp _ _ _ _ _ _ str_dec_binds str_binds str_bind_binds x) ≡ true → str_binds tree ≡ true
str_is x tree e h = str_form x tree e ∙ h

str_dec_is : (x : FullStrDec-F FullStrDec FullStrExp FullStrBind) (tree : FullStrDec) → roll-FullStrDec x ≡ tree
    → str_dec_step (map-FullStrDec _ _ _ _ _ _ str_dec_binds str_binds str_bind_binds x) ≡ true
    → str_dec_binds tree ≡ true
str_dec_is x tree e h = str_dec_form x tree e ∙ h

pub record StrLevelIs (level : StrLevel) : Type 0 where
  pub str_after : (fs : Fixities) (x : Lexeme) → Keeps (level.str_after fs x) StrIs
  pub decs : (fs : Fixities) → Keeps (level.decs fs) StrDecsAre
  pub decs_behind : (fs : Fixities) (x : Lexeme) → Keeps (level.decs_behind fs x) StrDecsAre

-- ---- phrases behind which an `and` was taken, or none

pub alone_keeps : {A : Type 0} (P : A → Type 0) {each : g (Joined A)}
    → Keeps each (λ (found : Joined A). P found.made.tree) → Keeps (alone each) (λ (made : Tall A). P made.tree)
unfolding alone
alone_keeps P every = keep_bind every (λ found is. keep_either found.joined (λ _. keep_refuse) (keep_pure found.made is))

pub bindings_keep : {A : Type 0} (facts : A → Bool) {each : Name → g (Joined A)}
    → ((called : Name) → Keeps (each called) (λ (found : Joined A). facts found.made.tree ≡ true))
    → Keeps (bindings each) (λ (made : Tall (List A)). AllPass passes facts made.tree)
unfolding bindings bindings_from next_binding
bindings_keep {A} facts {each} every =
    keep_then (λ called. keep_bind (every called) (λ first is.
    keep_bind {P = λ (found : Joined (List A)). AllPass passes facts found.made.tree}
    (keep_many (λ found x are. keep_then (λ called. keep_bind (every called) (λ next so.
    keep_pure _ (more_pass passes facts found.made.tree (next.made.tree ∷ []) are (one_passes passes facts next.made.tree so)))))
    _ (one_passes passes facts first.made.tree is))
    (λ found are. keep_either found.joined (λ _. keep_refuse) (keep_pure found.made are))))

-- ---- signatures that structures are given

sealed_is : (opaque : Bool) (place : At) (inner : FullStrExp) (sig : FullSigExp) → str_binds inner ≡ true
    → str_binds (sealed_tree opaque place inner sig) ≡ true
sealed_is true place inner sig is = str_is (FullStrExp-F.Opaque inner sig place) _ (t.rolls-Opaque inner sig place) is
sealed_is false place inner sig is =
    str_is (FullStrExp-F.Transparent inner sig place) _ (t.rolls-Transparent inner sig place) is

seals_keep : (n : ℕ) (sig : g (Joined FullSigExp)) (place : At) (left : Joined FullStrExp) → StrIs left
    → Keeps (seals n sig place left) StrIs
unfolding seals seal_of sealed_of
seals_keep n sig place left it =
    keep_many (λ left x so. keep_within (λ _. keep_then (λ found.
    keep_pure _ (sealed_is (is w.Seal x) place left.made.tree found.made.tree so)))) left it

-- ---- declarations of the core

core_are : (decs : List FullDec) → AllPass passes dec_binds decs → AllPass passes str_dec_binds (map d.Core decs)
core_are [] are = refl
core_are (dec ∷ decs) are =
    more_pass passes str_dec_binds (d.Core dec ∷ []) (map d.Core decs)
    (one_passes passes str_dec_binds (d.Core dec)
    (str_dec_is (FullStrDec-F.Core dec) _ (d.rolls-Core dec)
    (first_true (dec_binds dec) (list_all passes (map dec_binds decs)) are)))
    (core_are decs (second_true (dec_binds dec) (list_all passes (map dec_binds decs)) are))

core_dec_keeps : (n : ℕ) (fs : Fixities) (x : Lexeme) → Keeps (core_dec n fs x) StrDecsAre
unfolding core_dec
core_dec_keeps n fs x = keep_bind ((core_is n).dec fs x) (λ found are. keep_pure _ (core_are found.decs are))

-- ---- over phrases of one level less

module _ (n : ℕ) (parts : StrLevel) (it : StrLevelIs parts) where
  pub str_keeps : (fs : Fixities) → Keeps (str parts fs) StrIs
  str_keeps fs = keep_on (λ x. it.str_after fs x) keep_refuse

  struct_keeps : (fs : Fixities) (place : At) → Keeps (struct_str parts fs place) StrTree
  unfolding struct_str
  struct_keeps fs place =
      keep_bind (it.decs fs) (λ inner are. keep_then (λ _.
      keep_pure _ (str_is (FullStrExp-F.Struct inner.decs place) _ (t.rolls-Struct inner.decs place) are)))

  let_keeps : (fs : Fixities) (place : At) → Keeps (let_str parts fs place) StrTree
  unfolding let_str
  let_keeps fs place =
      keep_bind (it.decs fs) (λ inner are. keep_then (λ _.
      keep_bind (alone_keeps (λ tree. str_binds tree ≡ true) (str_keeps inner.fixities)) (λ body is. keep_then (λ _.
      keep_pure _ (str_is (FullStrExp-F.Within inner.decs body.tree place) _ (t.rolls-Within inner.decs body.tree place)
      (both_true _ _ are is))))))

  of_decs_keeps : (decs : g (Decs FullStrDec)) → Keeps decs StrDecsAre → (called : Name) (begin place : At)
      → Keeps (of_decs decs called begin place) StrTree
  unfolding of_decs
  of_decs_keeps decs each called begin place =
      keep_bind each (λ inner are. keep_then (λ _.
      keep_pure _ (str_is (FullStrExp-F.FunctorOfDecs called inner.decs begin place) _
      (t.rolls-FunctorOfDecs called inner.decs begin place) are)))

  argument_keeps : (fs : Fixities) (called : Name) (place : At) → Keeps (argument parts fs called place) StrTree
  unfolding argument of_str of_strdec
  argument_keeps fs called place =
      keep_on (λ x. keep_bind (alone_keeps (λ tree. str_binds tree ≡ true) (it.str_after fs x)) (λ found is. keep_then (λ _.
      keep_pure _ (str_is (FullStrExp-F.Functor called found.tree place) _ (t.rolls-Functor called found.tree place) is))))
      (keep_on (λ x. of_decs_keeps (parts.decs_behind fs x) (it.decs_behind fs x) called _ place)
      (of_decs_keeps _ (keep_pure _ refl) called _ place))

  named_is : (x : Lexeme) (names : List (List ℕ)) → StrTree (str_name x names)
  named_is x names = str_is (FullStrExp-F.Named _ (at x)) _ (t.rolls-Named _ (at x)) refl

  named_keeps : (fs : Fixities) (x : Lexeme) (found : Option (List ℕ)) → Keeps (str_named parts fs x found) StrTree
  named_keeps fs x None = keep_made (str_name x) (λ names. named_is x names) (strid_of x)
  named_keeps fs x (Some text) = keep_if_mark _ (argument_keeps fs _ (at x)) (keep_pure _ (named_is x _))

  atom_keeps : (fs : Fixities) (x : Lexeme) → Keeps (str_atom parts fs x) StrTree
  atom_keeps fs x =
      keep_either (is w.Struct x) (λ _. struct_keeps fs (at x))
      (keep_either (is w.Let x) (λ _. let_keeps fs (at x)) (named_keeps fs x (module_name_of x)))

  within_keeps : (fs : Fixities) (x : Lexeme) → Keeps (str_behind n parts fs x) StrIs
  unfolding str_within
  within_keeps fs x =
      keep_within (λ _. keep_bind (atom_keeps fs x) (λ first is. seals_keep n _ (at x) (apart first) is))

  pub str_bind_keeps : (most : ℕ) (fs : Fixities) (called : Name)
      → Keeps (str_bind most parts fs called) (λ found. str_bind_binds found.made.tree ≡ true)
  unfolding str_bind
  str_bind_keeps most fs called =
      keep_then (λ given. keep_then (λ _. keep_bind (str_keeps fs) (λ body so.
      keep_pure _ (str_bind_form (record { name = called; seal = given.tree; body = body.made.tree }) ∙ so))))

  structures_keep : (most : ℕ) (fs : Fixities) (place : At) → Keeps (plain fs (structures most parts fs place)) StrDecsAre
  unfolding structures plain
  structures_keep most fs place =
      keep_bind {P = λ (made : Tall FullStrDec). str_dec_binds made.tree ≡ true}
      (keep_bind (bindings_keep str_bind_binds (str_bind_keeps most fs)) (λ found are.
      keep_pure _ (str_dec_is (FullStrDec-F.Structures found.tree place) _ (d.rolls-Structures found.tree place) are)))
      (λ found is. keep_pure _ (one_passes passes str_dec_binds found.tree is))

  local_keeps : (fs : Fixities) (place : At) → Keeps (local_str parts fs place) StrDecsAre
  unfolding local_str
  local_keeps fs place =
      keep_bind (it.decs fs) (λ hidden is. keep_then (λ _. keep_bind (it.decs hidden.fixities) (λ shown so.
      keep_then (λ _. keep_pure _ (one_passes passes str_dec_binds _
      (str_dec_is (FullStrDec-F.Local hidden.decs shown.decs place) _ (d.rolls-Local hidden.decs shown.decs place)
      (both_true _ _ is so)))))))

  word_keeps : (fs : Fixities) (x : Lexeme) (found : Option Word) → Keeps (str_dec_word n parts fs x found) StrDecsAre
  word_keeps fs x (Some w.Structure) = structures_keep _ fs (at x)
  word_keeps fs x (Some w.Local) = local_keeps fs (at x)
  word_keeps fs x _ = core_dec_keeps n fs x

  dec_keeps : (fs : Fixities) (x : Lexeme) → Keeps (str_dec_of n parts fs x) StrDecsAre
  dec_keeps fs x = keep_within (λ _. word_keeps fs x (word x))

  -- ---- sequences

  round_keeps : (found : Decs FullStrDec) (x : Lexeme) → StrDecsAre found → Keeps (str_round n parts found x) StrDecsAre
  unfolding next_str_dec
  round_keeps found x are =
      keep_either (is w.Semicolon x) (λ _. keep_pure found are)
      (keep_bind (dec_keeps found.fixities x) (λ next too.
      keep_pure _ (more_pass passes str_dec_binds found.decs next.decs are too)))

  from_keeps : (found : Decs FullStrDec) → StrDecsAre found → Keeps (str_decs_from n parts found) StrDecsAre
  unfolding str_decs_from
  from_keeps found are = keep_many (λ found x are. round_keeps found x are) found are

  behind_keeps : (fs : Fixities) (x : Lexeme) → Keeps (str_decs_behind n parts fs x) StrDecsAre
  unfolding str_decs_behind
  behind_keeps fs x = keep_bind (round_keeps (no_str_decs fs) x refl) (λ first are. from_keeps first are)

-- ---- levels

none_is : StrLevelIs no_str_level
none_is = record {
  str_after = λ fs x. keep_refuse;
  decs = λ fs. keep_refuse;
  decs_behind = λ fs x. keep_refuse;
}

over_is : (n : ℕ) (parts : StrLevel) → StrLevelIs parts → StrLevelIs (str_level_of n parts)
over_is n parts it = record {
  str_after = λ fs x. within_keeps n parts it fs x;
  decs = λ fs. from_keeps n parts it (no_str_decs fs) refl;
  decs_behind = λ fs x. behind_keeps n parts it fs x;
}

below_is : (n : ℕ) → StrLevelIs (str_below n)
unfolding str_below
below_is zero = none_is
below_is (suc n) = over_is n (str_below n) (below_is n)

pub str_level_is : (n : ℕ) → StrLevelIs (str_level n)
str_level_is n = over_is n (str_below n) (below_is n)
