-- A signature or a specification that is read under one limit is read under each other that is no lower than it.
use Rattle.std.proofs.Common.{◌≡◌, ℕ, zero, suc, ◌+◌, ◌-◌, ◌≤◌, max, List, Option, None, Some, Bool, true, false, inl, inr, arith}
use Rattle.grammars.specs.Grammar.{Grammar}
use Rattle.sml_lexer.specs.declared.lexeme.Lexeme.{Lexeme}
use Rattle.sml_trees.specs.declared.full_sig.FullSigExp.{FullSigExp}
use Rattle.sml_trees.specs.declared.full_sig.FullSpec.{FullSpec}
use Rattle.sml_trees.specs.declared.full_sig.FullSpec.TheVariants as p
use Rattle.sml_trees.specs.declared.full_ty.FullConBind.{FullConBind}
use Rattle.sml_trees.specs.declared.full_ty.FullDatBind.{FullDatBind}
use Rattle.sml_trees.specs.declared.full_ty.FullTypDesc.{FullTypDesc}
use Rattle.sml_trees.specs.declared.full_ty.FullValDesc.{FullValDesc}
use Rattle.sml_trees.specs.declared.full_sig.FullWhere.{FullWhere}
use Rattle.sml_trees.specs.declared.full_ty.FullTy.{FullTy}
use Rattle.sml_trees.specs.declared.name.At.{At}
use Rattle.sml_trees.specs.declared.name.Name.{Name}
use Rattle.core_types.specs.Types.{ty}
use Rattle.core_bindings.specs.Bindings.{has_none}
use Rattle.phrase_reading.specs.Names.{either, if_mark, if_marked, if_taken}
use Rattle.phrase_reading.specs.Sized.{over, one, further}
use Rattle.phrase_reading.specs.Words.{g, is, word, at, made}
use Rattle.phrase_reading.specs.declared.tall.Tall.{Tall}
use Rattle.sml_lexer.specs.declared.words.Word.{Word}
use Rattle.sml_lexer.specs.declared.words.Word.TheVariants as w
use Rattle.signature_parser.specs.Joined.{module_name_of, apart, joined_one, alone_of, alone, next_binding, bindings_from, bindings}
use Rattle.signature_parser.specs.Signatures.{SigLevel, sig_body, sig_name, sig_atom, where_bind, where_type, one_type, and_type, where_types_from, where_types, where_of, where_behind, wheres, sig_within, sig_of, sig_bind}
use Rattle.signature_parser.specs.SigLevels.{sig_level, sig_below, no_sig_level}
use Rattle.signature_parser.specs.Specifications.{val_desc, val_spec, typ_desc, type_spec, eqtype_spec, con_desc, dat_desc_of, dat_desc, datatype_descs, replication_spec, datatype_from, datatype_spec, exception_spec, structure_spec, include_sig, include_names, named_sig, include_where, include_one, include_from, include_spec, spec_word, spec_of, next_spec, spec_round, specs_from, no_specs}
use Rattle.signature_parser.specs.declared.joined.Joined.{Joined}
use Rattle.head_laws.proofs.Passing.{Keeps, keep_pure, keep_refuse, keep_bind, keep_then, keep_on, keep_within, keep_many, keep_weak, keep_none, Passes, pass_same, pass_none, pass_bind, pass_then, pass_first, pass_on, pass_within, pass_many, Fits, Low, fits_lower, fits_below, fits_room, pass_high, pass_further, further_grows, pass_maybe}
use Rattle.head_laws.proofs.TyPassing.{ty_passes}
use Rattle.joined_laws.proofs.Signatures.{room_for}

-- ---- phrases behind which an `and` may have been taken

abbrev pub LowJoined : {A : Type 0} → ℕ → ℕ → Joined A → Type 0
LowJoined most limit found = Fits most limit found.made.height

-- one of two, by a test
pass_either : {A : Type 0} {first second third fourth : g A} {P : A → Type 0} (test : Bool) → Passes first third P
    → Passes second fourth P → Passes (either test first second) (either test third fourth) P
pass_either true one other = one
pass_either false one other = other

keep_either : {A : Type 0} {first second : g A} {P : A → Type 0} (test : Bool) → Keeps first P → Keeps second P
    → Keeps (either test first second) P
keep_either true one other = one
keep_either false one other = other

alone_of_grows : {A : Type 0} (found : Joined A) → Keeps (alone_of found) (λ made. found.made.height ≤ made.height)
alone_of_grows found = keep_either found.joined keep_refuse (keep_pure _ (omega arith))

module _ {A : Type 0} (n m : ℕ) where
  alone_passes : {each other : g (Joined A)} → Passes each other (LowJoined n m)
      → Passes (alone each) (alone other) (Low n m)
  unfolding alone
  alone_passes it =
      pass_first it (λ found. keep_weak (alone_of_grows found) (λ made le. fits_lower found.made.height made.height le))

  module _ (each other : Name → g (Joined A)) (it : (called : Name) → Passes (each called) (other called)
      (LowJoined n m)) where
    next_grows : (found : Joined (List A)) (x : Lexeme)
        → Keeps (next_binding each found x) (λ all. found.made.height ≤ all.made.height)
    unfolding next_binding
    next_grows found x = keep_then (λ called. keep_then (λ next. keep_pure _ (omega arith)))

    bindings_grow : (found : Joined (List A)) → Keeps (bindings_from each found)
        (λ all. found.made.height ≤ all.made.height)
    unfolding bindings_from
    bindings_grow found =
        keep_many (λ all x le. keep_weak (next_grows all x) (λ most less. omega arith)) found (omega arith)

    next_passes : (found : Joined (List A)) (x : Lexeme)
        → Passes (next_binding each found x) (next_binding other found x) (LowJoined n m)
    unfolding next_binding
    next_passes found x =
        pass_then (λ called. pass_first (it called) (λ next. keep_pure _
        (fits_lower next.made.height (max found.made.height next.made.height) (omega arith))))

    bindings_pass : Passes (bindings each) (bindings other) (Low n m)
    unfolding bindings bindings_from
    bindings_pass =
        pass_then (λ called. pass_bind (it called)
        (λ first. pass_first (pass_many _ _ _ (LowJoined n m) next_passes
        (λ found x. keep_weak (next_grows found x) (λ all le. fits_lower found.made.height all.made.height le))
        (joined_one first))
        (λ found. keep_weak (alone_of_grows found) (λ made le. fits_lower found.made.height made.height le)))
        (λ first. keep_bind (bindings_grow (joined_one first)) (λ found le.
        keep_weak (alone_of_grows found) (λ made less. fits_lower first.made.height made.height (omega arith)))))

-- ---- forms with several parts

module _ (n m : ℕ) where
  -- a first part, and further ones, in something one level higher
  parts_pass : {A B : Type 0} (mark : Word) {first second each other : g (Tall A)} (wrap : List A → B)
      → Passes first second (Low n m) → Passes each other (Low n m)
      → Passes (Grammar.bind first (λ one_of. Grammar.bind (further mark each (one one_of))
      (λ found. Grammar.pure (over wrap found))))
      (Grammar.bind second (λ one_of. Grammar.bind (further mark other (one one_of))
      (λ found. Grammar.pure (over wrap found))))
      (Low (suc n) (suc m))
  parts_pass mark {first} {second} {each} {other} wrap begun it =
      pass_bind begun
      (λ one_of. pass_first (pass_further mark (one one_of) it)
      (λ found. keep_pure _ (fits_below found.height (found.height + 1) (omega arith))))
      (λ one_of. keep_bind (further_grows mark each (one one_of)) (λ found le. keep_pure _
      (fits_below one_of.height (found.height + 1) (omega arith))))

  val_desc_passes : Passes (val_desc (ty n)) (val_desc (ty m)) (Low n m)
  unfolding val_desc
  val_desc_passes = pass_then (λ called. pass_then
      (λ _. pass_first (ty_passes n m) (λ inner. keep_pure _ (λ fits. fits))))

  val_passes : (place : At) → Passes (val_spec (ty n) place) (val_spec (ty m) place) (Low (suc n) (suc m))
  unfolding val_spec
  val_passes place = parts_pass w.And (λ (descs : List FullValDesc). p.Vals descs place) val_desc_passes val_desc_passes

  typ_desc_passes : Passes (typ_desc (ty n)) (typ_desc (ty m)) (Low n m)
  unfolding typ_desc
  typ_desc_passes =
      pass_then (λ vars. pass_then (λ called. pass_first (pass_maybe _ (ty_passes n m))
      (λ inner. keep_pure _ (λ fits. fits))))

  type_passes : (place : At) → Passes (type_spec (ty n) place) (type_spec (ty m) place) (Low (suc n) (suc m))
  unfolding type_spec
  type_passes place = parts_pass w.And (λ (descs : List FullTypDesc). p.Types descs place) typ_desc_passes
      typ_desc_passes

  con_desc_passes : Passes (con_desc (ty n)) (con_desc (ty m)) (Low n m)
  unfolding con_desc
  con_desc_passes =
      pass_then (λ called. pass_first (pass_maybe _ (ty_passes n m)) (λ arg. keep_pure _ (λ fits. fits)))

  dat_desc_of_passes : (vars : List Name) (called : Name)
      → Passes (dat_desc_of (ty n) vars called) (dat_desc_of (ty m) vars called) (Low n m)
  unfolding dat_desc_of
  dat_desc_of_passes vars called =
      pass_bind con_desc_passes
      (λ first. pass_first (pass_further _ (one first) con_desc_passes) (λ cons. keep_pure _ (λ fits. fits)))
      (λ first. keep_bind (further_grows _ (con_desc (ty n)) (one first)) (λ cons le. keep_pure _
      (fits_lower first.height cons.height le)))

  dat_desc_passes : Passes (dat_desc (ty n)) (dat_desc (ty m)) (Low n m)
  unfolding dat_desc
  dat_desc_passes = pass_then (λ vars. pass_then (λ called. pass_then (λ _. dat_desc_of_passes vars called)))

  datatypes_pass : (place : At) (vars : List Name) (called : Name)
      → Passes (datatype_descs (ty n) place vars called) (datatype_descs (ty m) place vars called) (Low (suc n) (suc m))
  unfolding datatype_descs
  datatypes_pass place vars called =
      parts_pass w.And (λ (descs : List FullDatBind). p.Datatypes descs place) (dat_desc_of_passes vars called)
      dat_desc_passes

  datatype_passes : (place : At) → Passes (datatype_spec (ty n) place) (datatype_spec (ty m) place)
      (Low (suc n) (suc m))
  unfolding datatype_spec datatype_from if_mark
  datatype_passes place =
      pass_then (λ vars. pass_then (λ called. pass_then (λ _. pass_either (has_none vars)
      (pass_on (λ _. pass_same) (datatypes_pass place vars called)) (datatypes_pass place vars called))))

  exception_passes : (place : At) → Passes (exception_spec (ty n) place) (exception_spec (ty m) place)
      (Low (suc n) (suc m))
  unfolding exception_spec
  exception_passes place =
      parts_pass w.And (λ (descs : List FullConBind). p.Exceptions descs place) con_desc_passes con_desc_passes

  -- ---- `where type`

  where_bind_passes : (x : Lexeme) → Passes (where_bind (ty n) x) (where_bind (ty m) x) (Low n m)
  unfolding where_bind
  where_bind_passes x =
      pass_then (λ vars. pass_then (λ long. pass_then
      (λ _. pass_first (ty_passes n m) (λ inner. keep_pure _ (λ fits. fits)))))

  pub where_type_passes : Passes (where_type (ty n)) (where_type (ty m)) (Low n m)
  unfolding where_type if_marked
  where_type_passes = pass_on where_bind_passes pass_same

  and_grows : (found : Tall (List FullWhere)) → Keeps (and_type (ty n) found) (λ all. found.height ≤ all.made.height)
  unfolding and_type one_type if_marked
  and_grows found = keep_on (λ x. keep_then (λ next. keep_pure _ (omega arith))) (keep_pure _ (omega arith))

  and_passes : (found : Tall (List FullWhere)) → Passes (and_type (ty n) found) (and_type (ty m) found) (LowJoined n m)
  unfolding and_type one_type if_marked
  and_passes found =
      pass_on (λ x. pass_first (where_bind_passes x) (λ next. keep_pure _
      (fits_lower next.height (max found.height next.height) (omega arith)))) pass_same

  types_grow : (first : Tall FullWhere)
      → Keeps (where_types_from (ty n) (apart (one first))) (λ all. first.height ≤ all.made.height)
  unfolding where_types_from
  types_grow first =
      keep_many {P = λ (all : Joined (List FullWhere)). first.height ≤ all.made.height}
      (λ found x le. keep_weak (and_grows found.made) (λ all less. omega arith)) (apart (one first)) (omega arith)

  types_pass : Passes (where_types (ty n)) (where_types (ty m)) (LowJoined n m)
  unfolding where_types where_types_from
  types_pass =
      pass_bind where_type_passes
      (λ first. pass_many _ _ _ (LowJoined n m) (λ found x. and_passes found.made)
      (λ found x. keep_weak (and_grows found.made) (λ all le. fits_lower found.made.height all.made.height le))
      (apart (one first)))
      (λ first. keep_weak (types_grow first) (λ all le. fits_lower first.height all.made.height le))

where_grows : (n : ℕ) (tys : g (Tall FullTy)) (place : At) (left : Tall FullSigExp)
    → Keeps (where_behind n tys place left) (λ all. left.height + 1 ≤ all.made.height)
unfolding where_behind where_of
where_grows n tys place left = keep_within (λ room. keep_then (λ found. keep_pure _ (omega arith)))

wheres_grow : (n : ℕ) (tys : g (Tall FullTy)) (place : At) (left : Joined FullSigExp)
    → Keeps (wheres n tys place left) (λ all. left.made.height ≤ all.made.height)
unfolding wheres
wheres_grow n tys place left =
    keep_many {P = λ (all : Joined FullSigExp). left.made.height ≤ all.made.height}
    (λ found x le. keep_weak (where_grows n tys place found.made) (λ all less. omega arith)) left (omega arith)

module _ (n m : ℕ) where
  where_passes : (place : At) (left : Tall FullSigExp)
      → Passes (where_behind (suc n) (ty n) place left) (where_behind (suc m) (ty m) place left)
      (LowJoined (suc n) (suc m))
  unfolding where_behind where_of
  where_passes place left =
      pass_within (λ room. keep_then (λ found. keep_pure _
      (fits_room left.height (max left.height found.made.height + 1) (omega arith) room)))
      (pass_first (types_pass n m) (λ found. keep_pure _
      (fits_below found.made.height (max left.height found.made.height + 1) (omega arith))))

  wheres_pass : (place : At) (left : Joined FullSigExp)
      → Passes (wheres (suc n) (ty n) place left) (wheres (suc m) (ty m) place left) (LowJoined (suc n) (suc m))
  unfolding wheres
  wheres_pass place left =
      pass_many _ _ _ (LowJoined (suc n) (suc m)) (λ left x. where_passes place left.made)
      (λ left x. keep_weak (where_grows (suc n) (ty n) place left.made) (λ all le.
      fits_lower left.made.height all.made.height (omega arith))) left

  -- over phrases of one level less
  module _ (parts others : SigLevel) (sigs : Passes parts.sig others.sig (LowJoined n m))
      (specs : Passes parts.specs others.specs (Low n m)) where
    pub atom_passes : (x : Lexeme) → Passes (sig_atom parts x) (sig_atom others x) (Low (suc n) (suc m))
    unfolding sig_body
    atom_passes x =
        pass_either (is w.Sig x)
        (pass_first specs (λ found. keep_then (λ _. keep_pure _
        (fits_below found.height (found.height + 1) (omega arith)))))
        pass_same

    sig_passes : Passes (sig_of (suc n) parts) (sig_of (suc m) others) (LowJoined (suc n) (suc m))
    unfolding sig_within
    sig_passes =
        let same : suc n - 1 ≡ n = omega arith in
        let likewise : suc m - 1 ≡ m = omega arith in
        pass_on
        (λ x. pass_within
        (λ room. keep_then (λ first. keep_weak (wheres_grow (suc n) _ (at x) (apart first))
        (λ all le fits. room_for m)))
        (rw same (rw likewise (pass_bind (atom_passes x) (λ first. wheres_pass (at x) (apart first))
        (λ first. keep_weak (wheres_grow (suc n) (ty n) (at x) (apart first)) (λ all le.
        fits_lower first.height all.made.height le)))))) pass_same

    sig_bind_passes : (mark : Word) (called : Name)
        → Passes (sig_bind parts.sig mark called) (sig_bind others.sig mark called) (LowJoined n m)
    unfolding sig_bind
    sig_bind_passes mark called = pass_then (λ _. pass_first sigs (λ found. keep_pure _ (λ fits. fits)))

    structure_passes : (place : At) → Passes (structure_spec parts place) (structure_spec others place)
        (Low (suc n) (suc m))
    unfolding structure_spec
    structure_passes place =
        pass_first (bindings_pass n m _ _ (sig_bind_passes w.Colon))
        (λ found. keep_pure _ (fits_below found.height (found.height + 1) (omega arith)))

    include_sig_passes : (place : At) → Passes (include_sig parts place) (include_sig others place)
        (Low (suc n) (suc m))
    unfolding include_sig
    include_sig_passes place =
        pass_first (alone_passes n m sigs) (λ found. keep_pure _
        (fits_below found.height (found.height + 1) (omega arith)))

-- ---- `include` with types

include_where_high : (n : ℕ) (place : At) (called : Name) → Keeps (include_where n place called)
    (λ made. 3 ≤ made.height)
unfolding include_where alone
include_where_high n place called =
    keep_bind (where_grows n (ty (n - 1)) _ (named_sig called)) (λ first le. keep_bind
    {P = λ (made : Tall FullSigExp). 2 ≤ made.height}
    (keep_bind (wheres_grow n (ty (n - 1)) _ first)
    (λ all less. keep_weak (alone_of_grows all) (λ made more. omega arith)))
    (λ found more. keep_pure _ (omega arith)))

pub include_where_none : (place : At) (called : Name) → Keeps (include_where 0 place called) (λ _. ⊥)
unfolding include_where where_behind
include_where_none place called =
    keep_bind {P = λ _. ⊥} (keep_within (λ h. absurd (cc))) (λ first never. absurd never)

include_where_passes : (n m : ℕ) (place : At) (called : Name)
    → Passes (include_where n place called) (include_where m place called) (Low (suc n) (suc m))
unfolding include_where alone
include_where_passes zero m place called = pass_none (include_where_none place called)
include_where_passes (suc n) zero place called =
    pass_known_high (include_where_high (suc n) place called)
  where
    pass_known_high : {second : g (Tall FullSpec)} → Keeps (include_where (suc n) place called)
        (λ made. 3 ≤ made.height)
        → Passes (include_where (suc n) place called) second (Low (suc (suc n)) 1)
    pass_known_high high = record { pass = λ xs next made fits h. never made.height fits (high.gives xs next made h) }
      where
        never : {B : Type 0} (height : ℕ) → Fits (suc (suc n)) 1 height → 3 ≤ height → B
        never height (inl h) le = absurd (omega arith)
        never height (inr h) le = absurd (omega arith)
include_where_passes (suc n) (suc m) place called =
    let same : suc n - 1 ≡ n = omega arith in
    let likewise : suc m - 1 ≡ m = omega arith in
    rw same (rw likewise (pass_bind (where_passes n m _ (named_sig called))
    (λ first. pass_first (alone_passes (suc n) (suc m) (wheres_pass n m _ first))
    (λ found. keep_pure _ (fits_below found.height (found.height + 1) (omega arith))))
    (λ first. keep_bind (alone_grows first) (λ found le. keep_pure _
    (fits_below first.made.height (found.height + 1) (omega arith))))))
  where
    alone_grows : (first : Joined FullSigExp)
        → Keeps (alone (wheres (suc n) (ty n) (record { line = called.line; col = called.col }) first))
        (λ made. first.made.height ≤ made.height)
    alone_grows first =
        keep_bind (wheres_grow (suc n) (ty n) _ first)
        (λ all less. keep_weak (alone_of_grows all) (λ made more. omega arith))

-- ---- specifications

-- each nests a level
module _ (n : ℕ) (parts : SigLevel) where
  word_some : (place : At) (found : Option Word) → Keeps (spec_word n parts place found) (λ made. 1 ≤ made.height)
  unfolding val_spec type_spec eqtype_spec datatype_spec datatype_from datatype_descs replication_spec exception_spec structure_spec include_spec include_from include_names include_one include_sig if_mark if_taken
  word_some place (Some w.Val) = keep_then (λ first. keep_then (λ found. keep_pure _ (omega arith)))
  word_some place (Some w.TypeWord) = keep_then (λ first. keep_then (λ found. keep_pure _ (omega arith)))
  word_some place (Some w.EqType) = keep_then (λ first. keep_then (λ found. keep_pure _ (omega arith)))
  word_some place (Some w.Datatype) =
      keep_then (λ vars. keep_then (λ called. keep_then (λ _. keep_either (has_none vars)
      (keep_on (λ _. keep_then (λ original. keep_pure _ (omega arith)))
      (keep_then (λ first. keep_then (λ found. keep_pure _ (omega arith)))))
      (keep_then (λ first. keep_then (λ found. keep_pure _ (omega arith)))))))
  word_some place (Some w.Exception) = keep_then (λ first. keep_then (λ found. keep_pure _ (omega arith)))
  word_some place (Some w.Structure) = keep_then (λ found. keep_pure _ (omega arith))
  word_some place (Some w.Include) =
      keep_on (λ x. keep_then (λ called. keep_on (λ y. keep_then
      (λ second. keep_then (λ names. keep_pure _ (omega arith))))
      (keep_on (λ _. keep_weak (include_where_high n place called) (λ made le. omega arith))
      (keep_pure _ (omega arith)))))
      (keep_then (λ found. keep_pure _ (omega arith)))
  word_some place _ = keep_refuse

module _ (n m : ℕ) (parts others : SigLevel) (sigs : Passes parts.sig others.sig (LowJoined n m)) where
  include_passes : Passes parts.specs others.specs (Low n m) → (place : At)
      → Passes (include_spec n parts place) (include_spec m others place) (Low (suc n) (suc m))
  unfolding include_spec include_from include_one if_taken if_mark
  include_passes specs place =
      pass_on (λ x. pass_then (λ called. pass_on (λ y. pass_same)
      (pass_on (λ _. include_where_passes n m place called) pass_same)))
      (include_sig_passes n m parts others sigs specs place)

  word_passes : Passes parts.specs others.specs (Low n m) → (place : At) (found : Option Word)
      → Passes (spec_word n parts place found) (spec_word m others place found) (Low (suc n) (suc m))
  word_passes specs place (Some w.Val) = val_passes n m place
  word_passes specs place (Some w.TypeWord) = type_passes n m place
  word_passes specs place (Some w.EqType) = pass_same
  word_passes specs place (Some w.Datatype) = datatype_passes n m place
  word_passes specs place (Some w.Exception) = exception_passes n m place
  word_passes specs place (Some w.Structure) = structure_passes n m parts others sigs specs place
  word_passes specs place (Some w.Include) = include_passes specs place
  word_passes specs place _ = pass_same

-- ---- sequences

module _ (n m most limit : ℕ) (parts others : SigLevel)
    (each : (x : Lexeme) → Passes (spec_of n parts x) (spec_of m others x) (Low most limit)) where
  round_passes : (found : Tall (List FullSpec)) (x : Lexeme)
      → Passes (spec_round n parts found x) (spec_round m others found x) (Low most limit)
  unfolding next_spec
  round_passes found x =
      pass_either (is w.Semicolon x) pass_same
      (pass_first (each x) (λ next. keep_pure _ (fits_lower next.height (max found.height next.height) (omega arith))))

  round_grows : (found : Tall (List FullSpec)) (x : Lexeme)
      → Keeps (spec_round n parts found x) (λ all. found.height ≤ all.height)
  unfolding next_spec
  round_grows found x =
      keep_either (is w.Semicolon x) (keep_pure _ (omega arith)) (keep_then (λ next. keep_pure _ (omega arith)))

  specs_pass : (found : Tall (List FullSpec)) → Passes (specs_from n parts found) (specs_from m others found)
      (Low most limit)
  unfolding specs_from
  specs_pass found =
      pass_many _ _ _ (Low most limit) round_passes
      (λ found x. keep_weak (round_grows found x) (λ all le. fits_lower found.height all.height le)) found

spec_passes : (n m : ℕ) (parts others : SigLevel) → Passes parts.sig others.sig (LowJoined n m)
    → Passes parts.specs others.specs (Low n m) → (x : Lexeme)
    → Passes (spec_of (suc n) parts x) (spec_of (suc m) others x) (Low (suc n) (suc m))
spec_passes n m parts others sigs specs x =
    let same : suc n - 1 ≡ n = omega arith in
    let likewise : suc m - 1 ≡ m = omega arith in
    pass_within (λ room. keep_weak (word_some _ parts (at x) (word x)) (λ made le fits. room_for m))
    (rw same (rw likewise (word_passes n m parts others sigs specs (at x) (word x))))

spec_some : (n : ℕ) (parts : SigLevel) (x : Lexeme) → Keeps (spec_of (suc n) parts x) (λ made. 1 ≤ made.height)
spec_some n parts x = keep_within (λ room. word_some _ parts (at x) (word x))

sig_name_some : (x : Lexeme) (found : Option (List ℕ)) → Keeps (made (sig_name x) found) (λ made. 1 ≤ made.height)
sig_name_some x None = keep_refuse
sig_name_some x (Some text) = keep_pure _ (omega arith)

pub sig_atom_some : (parts : SigLevel) (x : Lexeme) → Keeps (sig_atom parts x) (λ made. 1 ≤ made.height)
unfolding sig_body
sig_atom_some parts x =
    keep_either (is w.Sig x) (keep_then (λ specs. keep_then (λ _. keep_pure _ (omega arith))))
    (sig_name_some x (module_name_of x))

sig_some : (n : ℕ) (parts : SigLevel) → Keeps (sig_of (suc n) parts) (λ found. 1 ≤ found.made.height)
unfolding sig_within
sig_some n parts =
    keep_on (λ x. keep_within (λ room. keep_bind (sig_atom_some parts x) (λ first le.
    keep_weak (wheres_grow (suc n) (ty (suc n - 1)) (at x) (apart first)) (λ all less. omega arith)))) keep_refuse

-- all phrases of so many levels
pub record SigLevelPasses (n m : ℕ) : Type 0 where
  pub sig : Passes (sig_level n).sig (sig_level m).sig (LowJoined n m)
  pub specs : Passes (sig_level n).specs (sig_level m).specs (Low n m)

pub sig_levels_pass : (n m : ℕ) → SigLevelPasses n m
unfolding sig_below
sig_levels_pass zero m = record {
  sig = pass_none (keep_on (λ _. keep_none) keep_refuse);
  specs = specs_pass 0 m 0 m no_sig_level (sig_below m) (λ x. pass_none keep_none) no_specs;
}
sig_levels_pass (suc n) zero = record {
  sig = pass_high (λ (found : Joined FullSigExp). found.made.height) (sig_some n (sig_level n));
  specs = specs_pass (suc n) 0 (suc n) 0 (sig_level n) no_sig_level
      (λ x. pass_high (λ (made : Tall FullSpec). made.height) (spec_some n (sig_level n) x)) no_specs;
}
sig_levels_pass (suc n) (suc m) =
    let below = sig_levels_pass n m in
    record {
      sig = sig_passes n m (sig_level n) (sig_level m) below.sig below.specs;
      specs = specs_pass (suc n) (suc m) (suc n) (suc m) (sig_level n) (sig_level m)
          (spec_passes n m (sig_level n) (sig_level m) below.sig below.specs) no_specs;
    }
