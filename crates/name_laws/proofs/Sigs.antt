-- The names of each signature expression and specification that is read fit.
use Rattle.std.proofs.Common.{◌≡◌, ℕ, zero, suc, ◌-◌, Bool, true, false, List, [], ◌∷◌, Option, Some, None}
use Rattle.sml_lexer.specs.declared.lexeme.Lexeme.{Lexeme}
use Rattle.sml_trees.specs.declared.name.At.{At}
use Rattle.sml_trees.specs.declared.name.Name.{Name}
use Rattle.sml_trees.specs.declared.ty.TypDesc.{TypDesc}
use Rattle.sml_trees.specs.declared.full_sig.FullSigExp.{FullSigExp}
use Rattle.sml_trees.specs.declared.full_sig.FullSpec.{FullSpec}
use Rattle.sml_trees.specs.declared.full_sig.FullWhere.{FullWhere}
use Rattle.core_types.specs.Types.{ty}
use Rattle.core_bindings.specs.Bindings.{has_none}
use Rattle.phrase_reading.specs.Names.{begins_with_letter, name_with}
use Rattle.phrase_reading.specs.Words.{g, is, word, at, named, name_of, made}
use Rattle.phrase_reading.specs.declared.tall.Tall.{Tall}
use Rattle.sml_lexer.specs.declared.words.Word.{Word}
use Rattle.sml_lexer.specs.declared.words.Word.TheVariants as w
use Rattle.signature_parser.specs.Joined.{if_letter, module_name_text, module_name_of, module_name, apart, alone, next_name_after, next_binding, bindings_from, bindings}
use Rattle.signature_parser.specs.Signatures.{SigLevel, sig_body, sig_name, sig_atom, where_bind, where_type, one_type, and_type, where_types_from, where_types, where_of, where_behind, wheres, sig_within, sig_of, sig_bind}
use Rattle.signature_parser.specs.SigLevels.{sig_level, sig_level_of, sig_below, no_sig_level}
use Rattle.signature_parser.specs.Specifications.{val_desc, val_spec, typ_desc, type_spec, eq_desc, eqtype_spec, con_desc, dat_desc_of, dat_desc, datatype_descs, replication_spec, datatype_from, datatype_spec, exception_spec, structure_spec, include_sig, include_names, named_sig, include_where, include_one, include_from, include_spec, spec_word, spec_of, next_spec, spec_round, specs_from, no_specs}
use Rattle.signature_parser.specs.declared.joined.Joined.{Joined}
use Rattle.body_laws.proofs.Signatures.{Each}
use Rattle.fitting_names.specs.Names.{names_typ_desc}
use Rattle.fitting_names.proofs.Texts.{FitText}
use Rattle.fitting_names.proofs.Nodes.{FitName}
use Rattle.fitting_names.proofs.SigForms.{ConIs, DatIs, ValDescIs, TypDescIs, desc_by, WhereIs, SigIs, SpecIs, SigBindIs, full-Sig, full-Named, full-Where, sig_bind-is, full-Vals, full-Types, full-Eqtypes, full-Datatypes, full-Replication, full-Exceptions, full-Structures, full-IncludeNames, full-Include}
use Rattle.core_names.proofs.Keeping.{Good, Keeps, keep_pure, keep_refuse, keep_bind, keep_then, keep_on_good, keep_within, keep_many, IfAny, keep_made_by, keep_taken_by, keep_if_taken_by, keep_if_mark, keep_if_marked, keep_either, Holds, leaf_is, over_is, over_two_is, part_is, one_is, more_is, none_is, further_keeps, maybe_keeps}
use Rattle.core_names.proofs.Named.{as_name, then_fits, name_of_fits, name_keeps, tycon_keeps, short_tycon_keeps, tyvars_keep, taken_from_keeps, OpNameFits}
use Rattle.core_names.proofs.Tys.{ty_keeps}
use Rattle.core_names.proofs.Pats.{if_ty}

-- ---- names of structures, signatures and functors

letter_fits : (b : Bool) (text : List ℕ) → FitText text → IfAny FitText (if_letter b text)
letter_fits true text is = is
letter_fits false text is = tt

pub module_name_fits : (x : Lexeme) → Good x → IfAny FitText (module_name_of x)
module_name_fits x good =
    then_fits module_name_text (λ text is. letter_fits (begins_with_letter text) text is) (name_of x)
    (name_of_fits x good)

pub as_module : (x : Lexeme) → Good x → IfAny (λ text. FitName (named x text)) (module_name_of x)
as_module x good = as_name x (module_name_of x) (module_name_fits x good)

pub module_name_keeps : Keeps module_name FitName
module_name_keeps = keep_taken_by module_name_of named as_module

-- ---- phrases behind which an `and` may have been taken

-- what is made is so
abbrev pub IsJoined : {A : Type 0} → (A → Type 0) → Joined A → Type 0
IsJoined P found = Holds P found.made

pub alone_keeps : {A : Type 0} {P : A → Type 0} {each : g (Joined A)} → Keeps each (IsJoined P)
    → Keeps (alone each) (Holds P)
unfolding alone
alone_keeps every = keep_bind every (λ found is. keep_either found.joined keep_refuse (keep_pure found.made is))

after_keeps : (b : Bool) (x : Lexeme) → Good x → Keeps (next_name_after b x) FitName
after_keeps true x good = keep_made_by (named x) (module_name_of x) (as_module x good)
after_keeps false x good = module_name_keeps

pub bindings_keep : {A : Type 0} {P : A → Type 0} {each : Name → g (Joined A)}
    → ((called : Name) → FitName called → Keeps (each called) (IsJoined P)) → Keeps (bindings each) (Holds (Each P))
unfolding bindings bindings_from next_binding
bindings_keep {A} {P} {each} every =
    keep_bind module_name_keeps (λ called fits. keep_bind (every called fits) (λ first is.
    keep_bind {P = λ (found : Joined (List A)). Holds (Each P) found.made}
    (keep_many (λ found x good are. keep_bind (after_keeps found.joined x good) (λ called fits.
    keep_bind (every called fits) (λ next so. keep_pure _ (more_is are so))))
    _ (one_is is))
    (λ found are. keep_either found.joined keep_refuse (keep_pure found.made are))))

-- ---- signatures

pub record SigLevelIs (level : SigLevel) : Type 0 where
  pub sig : Keeps level.sig (IsJoined SigIs)
  pub specs : Keeps level.specs (Holds (Each SpecIs))

-- `where type`, over types of one level less
module _ (n : ℕ) where
  where_bind_keeps : (x : Lexeme) → Keeps (where_bind (ty n) x) (Holds WhereIs)
  unfolding where_bind
  where_bind_keeps x =
      keep_bind tyvars_keep (λ vars are. keep_bind tycon_keeps (λ long fits. keep_then (λ _.
      keep_bind (ty_keeps n) (λ inner is.
      keep_pure _ (record { tree = record { tyvars = are; long = fits; ty = is.tree } })))))

  and_keeps : (found : Tall (List FullWhere)) → Holds (Each WhereIs) found
      → Keeps (and_type (ty n) found) (IsJoined (Each WhereIs))
  unfolding and_type one_type
  and_keeps found are =
      keep_if_marked _ (λ x _. keep_bind (where_bind_keeps x) (λ next is. keep_pure _ (more_is are is)))
      (keep_pure _ are)

  where_types_keep : Keeps (where_types (ty n)) (IsJoined (Each WhereIs))
  unfolding where_types where_type where_types_from
  where_types_keep =
      keep_bind (keep_if_marked _ (λ x _. where_bind_keeps x) keep_refuse) (λ first is.
      keep_many (λ found x _ are. and_keeps found.made are) _ (one_is is))

  where_of_keeps : (place : At) (left : Tall FullSigExp) → Holds SigIs left
      → Keeps (where_of (ty n) place left) (IsJoined SigIs)
  unfolding where_of
  where_of_keeps place left is =
      keep_bind where_types_keep (λ found are.
      keep_pure _ (over_two_is _ (λ inner types. full-Where inner types place) is are))

  behind_where_keeps : (m : ℕ) (place : At) (left : Tall FullSigExp) → Holds SigIs left
      → Keeps (where_behind m (ty n) place left) (IsJoined SigIs)
  unfolding where_behind
  behind_where_keeps m place left is = keep_within (where_of_keeps place left is)

  wheres_keep : (m : ℕ) (place : At) (left : Joined FullSigExp) → Holds SigIs left.made
      → Keeps (wheres m (ty n) place left) (IsJoined SigIs)
  unfolding wheres
  wheres_keep m place left is = keep_many (λ left x _ so. behind_where_keeps m place left.made so) left is

-- over phrases of one level less
module _ (n : ℕ) (parts : SigLevel) (it : SigLevelIs parts) where
  as_sig : (x : Lexeme) (found : Option (List ℕ)) → IfAny (λ text. FitName (named x text)) found
      → IfAny (λ text. Holds SigIs (sig_name x text)) found
  as_sig x None is = tt
  as_sig x (Some text) is = leaf_is _ (full-Named (named x text) (at x) is)

  sig_atom_keeps : (x : Lexeme) → Good x → Keeps (sig_atom parts x) (Holds SigIs)
  unfolding sig_body
  sig_atom_keeps x good =
      keep_either (is w.Sig x)
      (keep_bind it.specs (λ specs are. keep_then (λ _. keep_pure _ (over_is _ (λ specs. full-Sig specs (at x)) are))))
      (keep_made_by (sig_name x) (module_name_of x) (as_sig x (module_name_of x) (as_module x good)))

  sig_keeps : Keeps (sig_of n parts) (IsJoined SigIs)
  unfolding sig_within
  sig_keeps =
      keep_on_good (λ x good. keep_within (keep_bind (sig_atom_keeps x good) (λ first is.
      wheres_keep (n - 1) n (at x) (apart first) is))) keep_refuse

  pub sig_bind_keeps : (mark : Word) (called : Name) → FitName called
      → Keeps (sig_bind parts.sig mark called) (IsJoined SigBindIs)
  unfolding sig_bind
  sig_bind_keeps mark called fits =
      keep_then (λ _. keep_bind it.sig (λ found is.
      keep_pure _ (part_is _ (λ inner. sig_bind-is called inner fits) is)))

  val_desc_keeps : Keeps (val_desc (ty n)) (Holds ValDescIs)
  unfolding val_desc
  val_desc_keeps =
      keep_bind name_keeps (λ called fits. keep_then (λ _. keep_bind (ty_keeps n) (λ inner is.
      keep_pure _ (record { tree = record { name = fits; ty = is.tree } }))))

  val_keeps : (place : At) → Keeps (val_spec (ty n) place) (Holds SpecIs)
  unfolding val_spec
  val_keeps place =
      keep_bind val_desc_keeps (λ first is. keep_bind (further_keeps _ val_desc_keeps (one_is is)) (λ found are.
      keep_pure _ (over_is _ (λ descs. full-Vals descs place) are)))

  typ_desc_keeps : Keeps (typ_desc (ty n)) (Holds TypDescIs)
  unfolding typ_desc
  typ_desc_keeps =
      keep_bind tyvars_keep (λ vars are. keep_bind short_tycon_keeps (λ called fits.
      keep_bind (maybe_keeps _ (ty_keeps n)) (λ inner is.
      keep_pure _ (record { tree = record { tyvars = are; name = fits; ty = if_ty inner.tree is.tree } }))))

  type_keeps : (place : At) → Keeps (type_spec (ty n) place) (Holds SpecIs)
  unfolding type_spec
  type_keeps place =
      keep_bind typ_desc_keeps (λ first is. keep_bind (further_keeps _ typ_desc_keeps (one_is is)) (λ found are.
      keep_pure _ (over_is _ (λ descs. full-Types descs place) are)))

  abbrev EqIs : TypDesc → Type 0
  EqIs desc = names_typ_desc desc ≡ true

  eq_keeps : Keeps eq_desc (Holds EqIs)
  unfolding eq_desc
  eq_keeps =
      keep_bind tyvars_keep (λ vars are. keep_bind short_tycon_keeps (λ called fits.
      keep_pure _ (record { tree = desc_by vars called are fits })))

  eqtype_keeps : (place : At) → Keeps (eqtype_spec place) (Holds SpecIs)
  unfolding eqtype_spec
  eqtype_keeps place =
      keep_bind eq_keeps (λ first is. keep_bind (further_keeps _ eq_keeps (one_is is)) (λ found are.
      keep_pure _ (over_is _ (λ descs. full-Eqtypes descs place) are)))

  con_desc_keeps : Keeps (con_desc (ty n)) (Holds ConIs)
  unfolding con_desc name_with
  con_desc_keeps =
      keep_bind {P = OpNameFits} (keep_bind name_keeps (λ called is. keep_pure _ is)) (λ called fits.
      keep_bind (maybe_keeps _ (ty_keeps n)) (λ arg is.
      keep_pure _ (record { tree = record { name = fits; arg = if_ty arg.tree is.tree } })))

  dat_desc_of_keeps : (vars : List Name) (called : Name) → Each FitName vars → FitName called
      → Keeps (dat_desc_of (ty n) vars called) (Holds DatIs)
  unfolding dat_desc_of
  dat_desc_of_keeps vars called those fits =
      keep_bind con_desc_keeps (λ first is. keep_bind (further_keeps _ con_desc_keeps (one_is is)) (λ cons are.
      keep_pure _ (record { tree = record { tyvars = those; name = fits; cons = are.tree } })))

  datatypes_keep : (place : At) (vars : List Name) (called : Name) → Each FitName vars → FitName called
      → Keeps (datatype_descs (ty n) place vars called) (Holds SpecIs)
  unfolding datatype_descs dat_desc
  datatypes_keep place vars called those fits =
      keep_bind (dat_desc_of_keeps vars called those fits) (λ first is. keep_bind
      (further_keeps _ (keep_bind tyvars_keep (λ vars are. keep_bind short_tycon_keeps (λ called fits. keep_then (λ _.
      dat_desc_of_keeps vars called are fits)))) (one_is is))
      (λ found are. keep_pure _ (over_is _ (λ descs. full-Datatypes descs place) are)))

  datatype_keeps : (place : At) → Keeps (datatype_spec (ty n) place) (Holds SpecIs)
  unfolding datatype_spec datatype_from replication_spec
  datatype_keeps place =
      keep_bind tyvars_keep (λ vars are. keep_bind short_tycon_keeps (λ called fits. keep_then (λ _.
      keep_either (has_none vars)
      (keep_if_mark _ (keep_bind tycon_keeps (λ original long.
      keep_pure _ (leaf_is _ (full-Replication called original place fits long))))
      (datatypes_keep place vars called are fits))
      (datatypes_keep place vars called are fits))))

  exception_keeps : (place : At) → Keeps (exception_spec (ty n) place) (Holds SpecIs)
  unfolding exception_spec
  exception_keeps place =
      keep_bind con_desc_keeps (λ first is. keep_bind (further_keeps _ con_desc_keeps (one_is is)) (λ found are.
      keep_pure _ (over_is _ (λ descs. full-Exceptions descs place) are)))

  structure_keeps : (place : At) → Keeps (structure_spec parts place) (Holds SpecIs)
  unfolding structure_spec
  structure_keeps place =
      keep_bind (bindings_keep (sig_bind_keeps w.Colon)) (λ found are.
      keep_pure _ (over_is _ (λ binds. full-Structures binds place) are))

  include_where_keeps : (place : At) (called : Name) → FitName called
      → Keeps (include_where n place called) (Holds SpecIs)
  unfolding include_where
  include_where_keeps place called fits =
      keep_bind (behind_where_keeps (n - 1) n _ (named_sig called) (leaf_is _ (full-Named _ _ fits))) (λ first is.
      keep_bind (alone_keeps (wheres_keep (n - 1) n _ first is)) (λ found so.
      keep_pure _ (over_is _ (λ inner. full-Include inner place) so)))

  include_keeps : (place : At) → Keeps (include_spec n parts place) (Holds SpecIs)
  unfolding include_spec include_from include_names include_one include_sig
  include_keeps place =
      keep_if_taken_by module_name_of named FitName as_module (λ called fits.
      keep_if_taken_by module_name_of named FitName as_module
      (λ second so. keep_bind (taken_from_keeps module_name_of named FitName as_module (called ∷ second ∷ [])
      (fits, (so, tt))) (λ names are. keep_pure _ (leaf_is _ (full-IncludeNames names place are))))
      (keep_if_mark _ (include_where_keeps place called fits)
      (keep_pure _ (leaf_is _ (full-IncludeNames (called ∷ []) place (fits, tt))))))
      (keep_bind (alone_keeps it.sig) (λ found is. keep_pure _ (over_is _ (λ inner. full-Include inner place) is)))

  spec_word_keeps : (place : At) (found : Option Word) → Keeps (spec_word n parts place found) (Holds SpecIs)
  spec_word_keeps place (Some w.Val) = val_keeps place
  spec_word_keeps place (Some w.TypeWord) = type_keeps place
  spec_word_keeps place (Some w.EqType) = eqtype_keeps place
  spec_word_keeps place (Some w.Datatype) = datatype_keeps place
  spec_word_keeps place (Some w.Exception) = exception_keeps place
  spec_word_keeps place (Some w.Structure) = structure_keeps place
  spec_word_keeps place (Some w.Include) = include_keeps place
  spec_word_keeps place _ = keep_refuse

-- ---- sequences

module _ (n : ℕ) (parts : SigLevel) (it : SigLevelIs parts) where
  spec_of_keeps : (x : Lexeme) → Keeps (spec_of n parts x) (Holds SpecIs)
  spec_of_keeps x = keep_within (spec_word_keeps (n - 1) parts it (at x) (word x))

  pub round_keeps : (found : Tall (List FullSpec)) (x : Lexeme) → Holds (Each SpecIs) found
      → Keeps (spec_round n parts found x) (Holds (Each SpecIs))
  unfolding next_spec
  round_keeps found x are =
      keep_either (is w.Semicolon x) (keep_pure found are)
      (keep_bind (spec_of_keeps x) (λ next so. keep_pure _ (more_is are so)))

  pub specs_from_keeps : (found : Tall (List FullSpec)) → Holds (Each SpecIs) found
      → Keeps (specs_from n parts found) (Holds (Each SpecIs))
  unfolding specs_from
  specs_from_keeps found are = keep_many (λ found x _ are. round_keeps found x are) found are

-- ---- levels

level_keeps : (n : ℕ) (parts : SigLevel) → SigLevelIs parts → SigLevelIs (sig_level_of n parts)
level_keeps n parts it = record {
  sig = sig_keeps n parts it;
  specs = specs_from_keeps n parts it no_specs none_is;
}

none_keeps : SigLevelIs no_sig_level
none_keeps = record { sig = keep_refuse; specs = keep_refuse }

pub below_keeps : (n : ℕ) → SigLevelIs (sig_below n)
unfolding sig_below
below_keeps zero = none_keeps
below_keeps (suc n) = level_keeps n (sig_below n) (below_keeps n)

pub sig_level_keeps : (n : ℕ) → SigLevelIs (sig_level n)
sig_level_keeps n = level_keeps n (sig_below n) (below_keeps n)
