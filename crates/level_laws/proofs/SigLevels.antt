-- The height of each signature expression and specification is that of its tree, and within the limit.
use Rattle.std.proofs.Common.{◌≡◌, ℕ, zero, suc, ◌-◌, List, [], ◌∷◌, Option, Some, refl, sym, ap, ◌∙◌, arith}
use Rattle.sml_lexer.specs.declared.lexeme.Lexeme.{Lexeme}
use Rattle.sml_trees.specs.declared.name.At.{At}
use Rattle.sml_trees.specs.declared.name.Name.{Name}
use Rattle.sml_trees.specs.declared.ty.TypDesc.{TypDesc}
use Rattle.sml_trees.specs.declared.full_sig.FullSigExp.{FullSigExp}
use Rattle.sml_trees.specs.declared.full_sig.FullSpec.{FullSpec}
use Rattle.sml_trees.specs.declared.full_sig.FullWhere.{FullWhere}
use Rattle.core_types.specs.Types.{ty}
use Rattle.core_bindings.specs.Bindings.{has_none}
use Rattle.phrase_reading.specs.Words.{g, is, word, at}
use Rattle.phrase_reading.specs.declared.tall.Tall.{Tall}
use Rattle.sml_lexer.specs.declared.words.Word.{Word}
use Rattle.sml_lexer.specs.declared.words.Word.TheVariants as w
use Rattle.signature_parser.specs.Joined.{module_name_of, apart, alone, next_binding, bindings_from, bindings}
use Rattle.signature_parser.specs.Signatures.{SigLevel, sig_body, sig_name, sig_atom, where_bind, where_type, one_type, and_type, where_types_from, where_types, where_of, where_behind, wheres, sig_within, sig_of, sig_bind}
use Rattle.signature_parser.specs.SigLevels.{sig_level, sig_below, no_sig_level}
use Rattle.signature_parser.specs.Specifications.{val_desc, val_spec, typ_desc, type_spec, eq_desc, eqtype_spec, con_desc, dat_desc_of, dat_desc, datatype_descs, replication_spec, datatype_from, datatype_spec, exception_spec, structure_spec, include_sig, include_names, named_sig, include_where, include_one, include_from, include_spec, spec_word, spec_of, next_spec, spec_round, specs_from, no_specs}
use Rattle.signature_parser.specs.declared.joined.Joined.{Joined}
use Rattle.level_laws.specs.Levels.{all_levels, where_levels, val_desc_levels, typ_desc_levels, con_bind_levels, dat_bind_levels, sig_levels, spec_levels, sig_bind_levels}
use Rattle.level_laws.specs.Promises.{IsMeasured}
use Rattle.level_laws.proofs.Keeping.{Keeps, keep_pure, keep_refuse, keep_bind, keep_then, keep_on, keep_within, keep_many, keep_made, keep_if_taken, keep_if_mark, keep_if_marked, keep_either, leaf_is, over_is, over_two_is, part_is, lowered, one_is, more_is, none_is, further_keeps, maybe_keeps}
use Rattle.level_laws.proofs.SigForms.{sig-Sig, sig-Named, sig-Where, spec-Vals, spec-Types, spec-Eqtypes, spec-Datatypes, spec-Replication, spec-Exceptions, spec-Structures, spec-IncludeNames, spec-Include, sig_bind-is}
use Rattle.level_laws.proofs.TyLevels.{ty_keeps}

-- ---- phrases behind which an `and` may have been taken

-- what is made is measured so
abbrev pub IsJoined : {A : Type 0} → (A → ℕ) → ℕ → Joined A → Type 0
IsJoined levels most found = IsMeasured levels most found.made

pub alone_keeps : {A : Type 0} {levels : A → ℕ} {most : ℕ} {each : g (Joined A)} → Keeps each (IsJoined levels most)
    → Keeps (alone each) (IsMeasured levels most)
unfolding alone
alone_keeps every =
    keep_bind every (λ found is. keep_either found.joined (λ _. keep_refuse) (keep_pure found.made is))

pub bindings_keep : {A : Type 0} {levels : A → ℕ} {most : ℕ} {each : Name → g (Joined A)}
    → ((called : Name) → Keeps (each called) (IsJoined levels most))
    → Keeps (bindings each) (IsMeasured (all_levels levels) most)
unfolding bindings bindings_from next_binding
bindings_keep {A} {levels} {most} {each} every =
    keep_then (λ called. keep_bind (every called) (λ first is.
    keep_bind {P = λ (found : Joined (List A)). IsMeasured (all_levels levels) most found.made}
    (keep_many (λ found x are. keep_then (λ called. keep_bind (every called) (λ next so. keep_pure _ (more_is are so))))
    _ (one_is is))
    (λ found are. keep_either found.joined (λ _. keep_refuse) (keep_pure found.made are))))

-- ---- signatures

-- a signature expression of at most so many levels
abbrev pub Sig : ℕ → Joined FullSigExp → Type 0
Sig most = IsJoined sig_levels most

abbrev pub Specs : ℕ → Tall (List FullSpec) → Type 0
Specs most = IsMeasured (all_levels spec_levels) most

-- a specification
abbrev Spec : ℕ → Tall FullSpec → Type 0
Spec most = IsMeasured spec_levels most

-- types behind `where`
abbrev Wheres : ℕ → Joined (List FullWhere) → Type 0
Wheres most = IsJoined (all_levels where_levels) most

pub record SigLevelIs (most : ℕ) (level : SigLevel) : Type 0 where
  pub sig : Keeps level.sig (Sig most)
  pub specs : Keeps level.specs (Specs most)

-- `where type`, over types of one level less
module _ (n : ℕ) where
  where_bind_keeps : (x : Lexeme) → Keeps (where_bind (ty n) x) (IsMeasured where_levels n)
  unfolding where_bind
  where_bind_keeps x =
      keep_then (λ vars. keep_then (λ long. keep_then (λ _. keep_bind (ty_keeps n) (λ inner is.
      keep_pure _ (record { exact = is.exact; low = is.low })))))

  and_keeps : (found : Tall (List FullWhere)) → IsMeasured (all_levels where_levels) n found
      → Keeps (and_type (ty n) found) (Wheres n)
  unfolding and_type one_type
  and_keeps found are =
      keep_if_marked _ (λ x. keep_bind (where_bind_keeps x) (λ next is. keep_pure _ (more_is are is))) (keep_pure _ are)

  where_types_keep : Keeps (where_types (ty n)) (Wheres n)
  unfolding where_types where_type where_types_from
  where_types_keep =
      keep_bind (keep_if_marked _ (λ x. where_bind_keeps x) keep_refuse) (λ first is.
      keep_many (λ found x are. and_keeps found.made are) _ (one_is is))

  where_of_keeps : (place : At) (left : Tall FullSigExp) → IsMeasured sig_levels n left
      → Keeps (where_of (ty n) place left) (Sig (suc n))
  unfolding where_of
  where_of_keeps place left is =
      keep_bind where_types_keep (λ found are.
      keep_pure _ (over_two_is _ (λ inner types. sig-Where inner types place) is are))

  behind_where_keeps : (place : At) (left : Tall FullSigExp) → IsMeasured sig_levels (suc n) left
      → Keeps (where_behind (suc n) (ty n) place left) (Sig (suc n))
  unfolding where_behind
  behind_where_keeps place left is = keep_within (λ room. where_of_keeps place left (lowered is room))

  wheres_keep : (place : At) (left : Joined FullSigExp) → Sig (suc n) left
      → Keeps (wheres (suc n) (ty n) place left) (Sig (suc n))
  unfolding wheres
  wheres_keep place left is = keep_many (λ left x so. behind_where_keeps place left.made so) left is

-- over phrases of one level less
module _ (n : ℕ) (parts : SigLevel) (it : SigLevelIs n parts) where
  sig_atom_keeps : (x : Lexeme) → Keeps (sig_atom parts x) (IsMeasured sig_levels (suc n))
  unfolding sig_body
  sig_atom_keeps x =
      keep_either (is w.Sig x)
      (λ _. keep_bind it.specs (λ specs are. keep_then (λ _. keep_pure _ (over_is _ (λ specs. sig-Sig specs (at x)) are))))
      (keep_made (sig_name x) (λ text. leaf_is _ (sig-Named _ (at x))) (module_name_of x))

  sig_keeps : Keeps (sig_of (suc n) parts) (Sig (suc n))
  unfolding sig_within
  sig_keeps =
      let same : suc n - 1 ≡ n = omega arith in
      keep_on (λ x. keep_within (λ _. rw same (keep_bind (sig_atom_keeps x) (λ first is. wheres_keep n (at x) (apart first) is))))
      keep_refuse

  pub sig_bind_keeps : (mark : Word) (called : Name)
      → Keeps (sig_bind parts.sig mark called) (IsJoined sig_bind_levels n)
  unfolding sig_bind
  sig_bind_keeps mark called =
      keep_then (λ _. keep_bind it.sig (λ found is. keep_pure _ (part_is _ (λ inner. sig_bind-is called inner) is)))

  val_desc_keeps : Keeps (val_desc (ty n)) (IsMeasured val_desc_levels n)
  unfolding val_desc
  val_desc_keeps =
      keep_then (λ called. keep_then (λ _. keep_bind (ty_keeps n) (λ inner is. keep_pure _ (record { exact = is.exact; low = is.low }))))

  val_keeps : (place : At) → Keeps (val_spec (ty n) place) (Spec (suc n))
  unfolding val_spec
  val_keeps place =
      keep_bind val_desc_keeps (λ first is. keep_bind (further_keeps _ val_desc_keeps (one_is is)) (λ found are.
      keep_pure _ (over_is _ (λ descs. spec-Vals descs place) are)))

  typ_desc_keeps : Keeps (typ_desc (ty n)) (IsMeasured typ_desc_levels n)
  unfolding typ_desc
  typ_desc_keeps =
      keep_then (λ vars. keep_then (λ called. keep_bind (maybe_keeps _ (ty_keeps n)) (λ inner is.
      keep_pure _ (record { exact = is.exact; low = is.low }))))

  type_keeps : (place : At) → Keeps (type_spec (ty n) place) (Spec (suc n))
  unfolding type_spec
  type_keeps place =
      keep_bind typ_desc_keeps (λ first is. keep_bind (further_keeps _ typ_desc_keeps (one_is is)) (λ found are.
      keep_pure _ (over_is _ (λ descs. spec-Types descs place) are)))

  abbrev no_levels : TypDesc → ℕ
  no_levels desc = 0

  none-high : (descs : List TypDesc) → all_levels no_levels descs ≡ 0
  none-high [] = refl
  none-high (desc ∷ descs) = none-high descs

  eqtype_keeps : (place : At) → Keeps (eqtype_spec place) (Spec (suc n))
  unfolding eqtype_spec eq_desc
  eqtype_keeps place =
      keep_bind eq_keeps (λ first is. keep_bind (further_keeps _ eq_keeps (one_is is)) (λ found are.
      keep_pure _ (over_is _ (λ descs. spec-Eqtypes descs place ∙ ap suc (sym (none-high descs))) are)))
    where
      eq_keeps : Keeps eq_desc (IsMeasured no_levels n)
      eq_keeps = keep_then (λ vars. keep_then (λ called. keep_pure _ (record { exact = refl; low = omega arith })))

  con_desc_keeps : Keeps (con_desc (ty n)) (IsMeasured con_bind_levels n)
  unfolding con_desc
  con_desc_keeps =
      keep_then (λ called. keep_bind (maybe_keeps _ (ty_keeps n)) (λ arg is. keep_pure _ (record { exact = is.exact; low = is.low })))

  dat_desc_of_keeps : (vars : List Name) (called : Name)
      → Keeps (dat_desc_of (ty n) vars called) (IsMeasured dat_bind_levels n)
  unfolding dat_desc_of
  dat_desc_of_keeps vars called =
      keep_bind con_desc_keeps (λ first is. keep_bind (further_keeps _ con_desc_keeps (one_is is)) (λ cons are.
      keep_pure _ (record { exact = are.exact; low = are.low })))

  datatypes_keep : (place : At) (vars : List Name) (called : Name)
      → Keeps (datatype_descs (ty n) place vars called) (Spec (suc n))
  unfolding datatype_descs dat_desc
  datatypes_keep place vars called =
      keep_bind (dat_desc_of_keeps vars called) (λ first is. keep_bind
      (further_keeps _ (keep_then (λ vars. keep_then (λ called. keep_then (λ _. dat_desc_of_keeps vars called)))) (one_is is))
      (λ found are. keep_pure _ (over_is _ (λ descs. spec-Datatypes descs place) are)))

  datatype_keeps : (place : At) → Keeps (datatype_spec (ty n) place) (Spec (suc n))
  unfolding datatype_spec datatype_from replication_spec
  datatype_keeps place =
      keep_then (λ vars. keep_then (λ called. keep_then (λ _. keep_either (has_none vars)
      (λ _. keep_if_mark _ (keep_then (λ original. keep_pure _ (leaf_is _ (spec-Replication called original place))))
      (datatypes_keep place vars called))
      (datatypes_keep place vars called))))

  exception_keeps : (place : At) → Keeps (exception_spec (ty n) place) (Spec (suc n))
  unfolding exception_spec
  exception_keeps place =
      keep_bind con_desc_keeps (λ first is. keep_bind (further_keeps _ con_desc_keeps (one_is is)) (λ found are.
      keep_pure _ (over_is _ (λ descs. spec-Exceptions descs place) are)))

  structure_keeps : (place : At) → Keeps (structure_spec parts place) (Spec (suc n))
  unfolding structure_spec
  structure_keeps place =
      keep_bind (bindings_keep (sig_bind_keeps w.Colon)) (λ found are.
      keep_pure _ (over_is _ (λ binds. spec-Structures binds place) are))

include_where_keeps : (n : ℕ) (place : At) (called : Name) → Keeps (include_where n place called) (Spec (suc n))
unfolding include_where where_behind
include_where_keeps zero place called =
    keep_bind {P = λ _. ⊥} (keep_within (λ h. absurd (cc))) (λ first never. absurd never)
include_where_keeps (suc m) place called =
    let same : suc m - 1 ≡ m = omega arith in
    rw same (keep_bind (behind_where_keeps m _ (named_sig called) (leaf_is _ (sig-Named _ _))) (λ first is.
    keep_bind (alone_keeps (wheres_keep m _ first is)) (λ found so.
    keep_pure _ (over_is _ (λ inner. spec-Include inner place) so))))

module _ (n : ℕ) (parts : SigLevel) (it : SigLevelIs n parts) where
  include_keeps : (place : At) → Keeps (include_spec n parts place) (Spec (suc n))
  unfolding include_spec include_from include_names include_one include_sig
  include_keeps place =
      keep_if_taken _ _ (λ called. keep_if_taken _ _
      (λ second. keep_then (λ names. keep_pure _ (leaf_is _ (spec-IncludeNames names place))))
      (keep_if_mark _ (include_where_keeps n place called) (keep_pure _ (leaf_is _ (spec-IncludeNames _ place)))))
      (keep_bind (alone_keeps it.sig) (λ found is. keep_pure _ (over_is _ (λ inner. spec-Include inner place) is)))

  spec_word_keeps : (place : At) (found : Option Word) → Keeps (spec_word n parts place found) (Spec (suc n))
  spec_word_keeps place (Some w.Val) = val_keeps n parts it place
  spec_word_keeps place (Some w.TypeWord) = type_keeps n parts it place
  spec_word_keeps place (Some w.EqType) = eqtype_keeps n parts it place
  spec_word_keeps place (Some w.Datatype) = datatype_keeps n parts it place
  spec_word_keeps place (Some w.Exception) = exception_keeps n parts it place
  spec_word_keeps place (Some w.Structure) = structure_keeps n parts it place
  spec_word_keeps place (Some w.Include) = include_keeps place
  spec_word_keeps place _ = keep_refuse

  spec_of_keeps : (x : Lexeme) → Keeps (spec_of (suc n) parts x) (Spec (suc n))
  spec_of_keeps x =
      let same : suc n - 1 ≡ n = omega arith in keep_within (λ _. rw same (spec_word_keeps (at x) (word x)))

-- ---- sequences

module _ (n most : ℕ) (parts : SigLevel) (each : (x : Lexeme) → Keeps (spec_of n parts x) (Spec most)) where
  pub round_keeps : (found : Tall (List FullSpec)) (x : Lexeme) → Specs most found
      → Keeps (spec_round n parts found x) (Specs most)
  unfolding next_spec
  round_keeps found x are =
      keep_either (is w.Semicolon x) (λ _. keep_pure found are)
      (keep_bind (each x) (λ next so. keep_pure _ (more_is are so)))

  pub specs_from_keeps : (found : Tall (List FullSpec)) → Specs most found
      → Keeps (specs_from n parts found) (Specs most)
  unfolding specs_from
  specs_from_keeps found are = keep_many (λ found x are. round_keeps found x are) found are

-- ---- levels

spec_none : {P : Tall FullSpec → Type 0} (parts : SigLevel) (x : Lexeme) → Keeps (spec_of 0 parts x) P
spec_none parts x = keep_within (λ h. absurd (cc))

pub sig_level_keeps : (n : ℕ) → SigLevelIs n (sig_level n)
unfolding sig_below
sig_level_keeps zero = record {
  sig = keep_on (λ x. keep_within (λ h. absurd (cc))) keep_refuse;
  specs = specs_from_keeps 0 0 no_sig_level (λ x. spec_none no_sig_level x) no_specs none_is;
}
sig_level_keeps (suc n) =
    let it = sig_level_keeps n in
    record {
      sig = sig_keeps n (sig_level n) it;
      specs = specs_from_keeps (suc n) (suc n) (sig_level n) (λ x. spec_of_keeps n (sig_level n) it x) no_specs none_is;
    }

-- a specification with so many levels left
pub spec_keeps : (n : ℕ) (x : Lexeme) → Keeps (spec_of n (sig_below n) x) (Spec n)
unfolding sig_below
spec_keeps zero x = spec_none no_sig_level x
spec_keeps (suc n) x = spec_of_keeps n (sig_level n) (sig_level_keeps n) x
