-- The height of each phrase of the grammar of types is that of its tree, and within the limit.
use Rattle.std.proofs.Common.{ℕ, zero, suc, List, [], Option, None, Some}
use Rattle.sml_lexer.specs.declared.lexeme.Lexeme.{Lexeme}
use Rattle.sml_lexer.specs.declared.lexeme.LexemeKind.{LexemeKind}
use Rattle.sml_lexer.specs.declared.lexeme.LexemeKind.TheVariants as k
use Rattle.sml_trees.specs.declared.name.At.{At}
use Rattle.sml_trees.specs.declared.name.Name.{Name}
use Rattle.sml_trees.specs.declared.full_ty.FullTy.{FullTy}
use Rattle.sml_trees.specs.declared.full_ty.FullTy.TheVariants as t
use Rattle.core_types.specs.Types.{TyLevel, field, fields_of, record_of, applied_all, behind_first, in_parens, atom_word, atom_kind, apply, constructor_after, applied, part_after, starred, tuple_of, tuple, arrow_of, arrow, ty_after, ty_level, ty}
use Rattle.phrase_reading.specs.Sized.{more, one}
use Rattle.phrase_reading.specs.Words.{g, is, tycon_of, made, at, named, long_named}
use Rattle.sml_lexer.specs.Words.{word_of}
use Rattle.phrase_reading.specs.declared.tall.Tall.{Tall}
use Rattle.sml_lexer.specs.declared.words.Word.{Word}
use Rattle.sml_lexer.specs.declared.words.Word.TheVariants as w
use Rattle.level_laws.specs.Levels.{all_levels, ty_levels, ty_field_levels}
use Rattle.level_laws.specs.Promises.{IsMeasured, TypesHaveTheirLevels}
use Rattle.level_laws.proofs.Keeping.{Keeps, keep_pure, keep_refuse, keep_bind, keep_then, keep_on, keep_within, keep_many, keep_none, leaf_is, over_is, over_two_is, part_is, lowered, one_is, more_is, further_keeps}
use Rattle.level_laws.proofs.TyForms.{ty-Var, ty-Record, ty-Con, ty-Applied, ty-AppliedAll, ty-Tuple, ty-Arrow, ty-Paren, ty-field}

-- a type of at most so many levels
abbrev pub Ty : ℕ → Tall FullTy → Type 0
Ty most = IsMeasured ty_levels most

-- types of at most so many
abbrev Tys : ℕ → Tall (List FullTy) → Type 0
Tys most = IsMeasured (all_levels ty_levels) most

-- over types of one level less
module _ (n : ℕ) (below : g (Tall FullTy)) (it : Keeps below (Ty n)) where
  field_keeps : Keeps (field below) (IsMeasured ty_field_levels n)
  unfolding field
  field_keeps =
      keep_then (λ called. keep_then (λ _. keep_bind it (λ inner is. keep_pure _ (part_is _ (ty-field called) is))))

  record_keeps : (place : At) → Keeps (record_of below place) (Ty (suc n))
  unfolding record_of fields_of
  record_keeps place =
      keep_on (λ _. keep_pure _ (leaf_is (t.Record [] place) (ty-Record [] place)))
      (keep_bind field_keeps (λ first is. keep_bind (further_keeps _ field_keeps (one_is is))
      (λ fields are. keep_then (λ _. keep_pure _ (over_is _ (λ fields. ty-Record fields place) are)))))

  applied_all_keeps : (place : At) (first : Tall FullTy) → Ty n first
      → Keeps (applied_all below place first) (Ty (suc n))
  unfolding applied_all
  applied_all_keeps place first is =
      keep_bind it (λ second so. keep_bind (further_keeps _ it (more_is (one_is is) so)) (λ args are. keep_then (λ _.
      keep_then (λ long. keep_pure _ (over_is _ (λ args. ty-AppliedAll args long place) are)))))

  in_parens_keeps : (place : At) → Keeps (in_parens below place) (Ty (suc n))
  unfolding in_parens behind_first
  in_parens_keeps place =
      keep_bind it (λ first is. keep_on (λ _. applied_all_keeps place first is)
      (keep_then (λ _. keep_pure _ (over_is _ (λ inner. ty-Paren inner place) is))))

  atom_word_keeps : (x : Lexeme) (found : Option Word) → Keeps (atom_word below x found) (Ty (suc n))
  atom_word_keeps x (Some w.Open) = in_parens_keeps (at x)
  atom_word_keeps x (Some w.OpenBrace) = record_keeps (at x)
  atom_word_keeps x _ = keep_refuse

  atom_keeps : (x : Lexeme) (kind : LexemeKind) → Keeps (atom_kind below x kind) (Ty (suc n))
  atom_keeps x (k.Reserved text) = atom_word_keeps x (word_of text)
  atom_keeps x (k.Name parts) =
      keep_pure _ (leaf_is (t.Con (long_named x parts) (at x)) (ty-Con (long_named x parts) (at x)))
  atom_keeps x (k.TyVar text) = keep_pure _ (leaf_is (t.Var (named x text) (at x)) (ty-Var (named x text) (at x)))
  atom_keeps x (k.Int value ok) = keep_refuse
  atom_keeps x (k.Str text) = keep_refuse
  atom_keeps x (k.Char byte) = keep_refuse

  constructor_keeps : (place : At) (left : Tall FullTy) (x : Lexeme) → Ty (suc n) left
      → Keeps (constructor_after (suc n) place left x) (Ty (suc n))
  constructor_keeps place left x is = keep_within (λ room. by_name (tycon_of x) (lowered is room))
    where
      by_name : (found : Option (List (List ℕ))) → Ty n left
          → Keeps (made (λ parts. apply place left (long_named x parts)) found) (Ty (suc n))
      by_name None is = keep_refuse
      by_name (Some parts) is = keep_pure _ (over_is _ (λ arg. ty-Applied arg (long_named x parts) place) is)

  part_keeps : (x : Lexeme) → Keeps (part_after (suc n) below x) (Ty (suc n))
  unfolding part_after applied
  part_keeps x =
      keep_bind (atom_keeps x x.kind) (λ atom is. keep_many (λ left y so. constructor_keeps (at x) left y so) atom is)

  tuple_keeps : (beside : g (Tall FullTy)) → Keeps beside (Ty n) → (place : At) (first : Tall FullTy) → Ty (suc n) first
      → Keeps (tuple (suc n) beside place first) (Ty (suc n))
  unfolding tuple tuple_of starred
  tuple_keeps beside parts place first is =
      keep_on (λ _. keep_within (λ room. keep_bind parts (λ second so. keep_bind
      (keep_many (λ found x are. keep_bind parts (λ next so. keep_pure _ (more_is are so)))
      (more (one first) second) (more_is (one_is (lowered is room)) so))
      (λ found are. keep_pure _ (over_is _ (λ parts. ty-Tuple parts place) are)))))
      (keep_pure first is)

  arrow_keeps : (place : At) (left : Tall FullTy) → Ty (suc n) left
      → Keeps (arrow (suc n) below place left) (Ty (suc n))
  unfolding arrow arrow_of
  arrow_keeps place left is =
      keep_on (λ _. keep_within (λ room. keep_bind it (λ right so.
      keep_pure _ (over_two_is _ (λ from to. ty-Arrow from to place) (lowered is room) so))))
      (keep_pure left is)

-- all phrases of so many levels
record AreMeasured (most : ℕ) (level : TyLevel) : Type 0 where
  ty : Keeps level.ty (Ty most)
  part : Keeps level.part (Ty most)

levels_keep : (n : ℕ) → AreMeasured n (ty_level n)
unfolding ty_level ty_after
levels_keep zero = record { ty = keep_on (λ _. keep_none) keep_refuse; part = keep_on (λ _. keep_none) keep_refuse }
levels_keep (suc n) =
    let below = levels_keep n in
    record {
      ty = keep_on (λ x. keep_bind (part_keeps n (ty_level n).ty below.ty x) (λ first is.
          keep_bind (tuple_keeps n (ty_level n).ty below.ty (ty_level n).part below.part (at x) first is) (λ left so.
          arrow_keeps n (ty_level n).ty below.ty (at x) left so))) keep_refuse;
      part = keep_on (λ x. part_keeps n (ty_level n).ty below.ty x) keep_refuse;
    }

pub ty_keeps : (n : ℕ) → Keeps (ty n) (Ty n)
ty_keeps n = (levels_keep n).ty

pub types_have_levels : TypesHaveTheirLevels
types_have_levels n = (ty_keeps n).gives
