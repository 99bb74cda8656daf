-- A type that is read under one limit is read under each other that is no lower than the type.
use Rattle.std.proofs.Common.{◌≡◌, ℕ, zero, suc, ◌+◌, ◌≤◌, max, List, Option, None, Some, true, nat_lt, arith}
use Rattle.sml_lexer.specs.declared.lexeme.Lexeme.{Lexeme}
use Rattle.sml_lexer.specs.declared.lexeme.LexemeKind.{LexemeKind}
use Rattle.sml_lexer.specs.declared.lexeme.LexemeKind.TheVariants as k
use Rattle.sml_trees.specs.declared.name.At.{At}
use Rattle.sml_trees.specs.declared.full_ty.FullTy.{FullTy}
use Rattle.core_types.specs.Types.{TyLevel, field, fields_of, record_of, applied_all, behind_first, in_parens, atom_word, atom_kind, apply, constructor_after, applied, part_after, starred, tuple_of, tuple, arrow_of, arrow, ty_after, ty_level, ty}
use Rattle.phrase_reading.specs.Sized.{more, one}
use Rattle.sml_lexer.specs.Words.{word_of}
use Rattle.phrase_reading.specs.Words.{g, is_star, tycon_of, made, at, long_named}
use Rattle.phrase_reading.specs.declared.tall.Tall.{Tall}
use Rattle.sml_lexer.specs.declared.words.Word.{Word}
use Rattle.sml_lexer.specs.declared.words.Word.TheVariants as w
use Rattle.head_laws.proofs.Passing.{Keeps, keep_pure, keep_refuse, keep_bind, keep_then, keep_on, keep_within, keep_many, keep_weak, keep_none, Passes, pass_same, pass_none, pass_bind, pass_then, pass_first, pass_on, pass_within, pass_many, Low, fits_lower, fits_below, fits_room, pass_high, pass_further, further_grows}

-- ---- no part is higher than the whole

module _ (below : g (Tall FullTy)) where
  all_grows : (place : At) (first : Tall FullTy) → Keeps (applied_all below place first)
      (λ made. first.height + 1 ≤ made.height)
  unfolding applied_all
  all_grows place first =
      keep_then (λ second. keep_bind (further_grows _ below (more (one first) second)) (λ args le. keep_then (λ _.
      keep_then (λ long. keep_pure _ (omega arith)))))

  first_grows : (place : At) (first : Tall FullTy)
      → Keeps (behind_first below place first) (λ made. first.height + 1 ≤ made.height)
  unfolding behind_first
  first_grows place first = keep_on (λ _. all_grows place first) (keep_then (λ _. keep_pure _ (omega arith)))

  word_some : (x : Lexeme) (found : Option Word) → Keeps (atom_word below x found) (λ made. 1 ≤ made.height)
  unfolding in_parens record_of fields_of
  word_some x (Some w.Open) = keep_then (λ first. keep_weak (first_grows (at x) first) (λ made le. omega arith))
  word_some x (Some w.OpenBrace) =
      keep_on (λ _. keep_pure _ (omega arith))
      (keep_then (λ first. keep_then (λ fields. keep_then (λ _. keep_pure _ (omega arith)))))
  word_some x _ = keep_refuse

  atom_some : (x : Lexeme) (kind : LexemeKind) → Keeps (atom_kind below x kind) (λ made. 1 ≤ made.height)
  atom_some x (k.Reserved text) = word_some x (word_of text)
  atom_some x (k.Name parts) = keep_pure _ (omega arith)
  atom_some x (k.TyVar text) = keep_pure _ (omega arith)
  atom_some x (k.Int value ok) = keep_refuse
  atom_some x (k.Str text) = keep_refuse
  atom_some x (k.Char byte) = keep_refuse

  arrow_grows : (levels : ℕ) (place : At) (left : Tall FullTy)
      → Keeps (arrow levels below place left) (λ made. left.height ≤ made.height)
  unfolding arrow arrow_of
  arrow_grows levels place left =
      keep_on (λ _. keep_within (λ room. keep_then (λ right. keep_pure _ (omega arith)))) (keep_pure left (omega arith))

constructor_grows : (levels : ℕ) (place : At) (left : Tall FullTy) (x : Lexeme)
    → Keeps (constructor_after levels place left x) (λ made. left.height + 1 ≤ made.height)
constructor_grows levels place left x = keep_within (λ room. by_name (tycon_of x))
  where
    by_name : (found : Option (List (List ℕ)))
        → Keeps (made (λ parts. apply place left (long_named x parts)) found) (λ made. left.height + 1 ≤ made.height)
    by_name None = keep_refuse
    by_name (Some parts) = keep_pure _ (omega arith)

applied_grows : (levels : ℕ) (place : At) (left : Tall FullTy)
    → Keeps (applied levels place left) (λ made. left.height ≤ made.height)
unfolding applied
applied_grows levels place left =
    keep_many (λ found x le. keep_weak (constructor_grows levels place found x) (λ made less. omega arith)) left
    (omega arith)

part_some : (levels : ℕ) (below : g (Tall FullTy)) (x : Lexeme) → Keeps (part_after levels below x)
    (λ made. 1 ≤ made.height)
unfolding part_after
part_some levels below x =
    keep_bind (atom_some below x x.kind) (λ atom le. keep_weak (applied_grows levels (at x) atom)
    (λ made less. omega arith))

tuple_of_grows : (part : g (Tall FullTy)) (place : At) (first : Tall FullTy)
    → Keeps (tuple_of part place first) (λ made. first.height + 1 ≤ made.height)
unfolding tuple_of starred
tuple_of_grows part place first =
    keep_then (λ second. keep_bind (keep_many {P = λ (all : Tall (List FullTy)). first.height ≤ all.height}
    (λ found x le. keep_then (λ next. keep_pure _ (omega arith)))
    (more (one first) second) (omega arith)) (λ parts le. keep_pure _ (omega arith)))

tuple_grows : (levels : ℕ) (part : g (Tall FullTy)) (place : At) (first : Tall FullTy)
    → Keeps (tuple levels part place first) (λ made. first.height ≤ made.height)
unfolding tuple
tuple_grows levels part place first =
    keep_on (λ _. keep_within (λ room. keep_weak (tuple_of_grows part place first) (λ made le. omega arith)))
    (keep_pure first (omega arith))

after_some : (levels : ℕ) (below : TyLevel) (x : Lexeme) → Keeps (ty_after levels below x) (λ made. 1 ≤ made.height)
unfolding ty_after
after_some levels below x =
    keep_bind (part_some levels below.ty x) (λ first le. keep_bind (tuple_grows levels below.part (at x) first)
    (λ left more.
    keep_weak (arrow_grows below.ty levels (at x) left) (λ made less. omega arith)))

-- each type has a level
pub ty_some : (n : ℕ) → Keeps (ty n) (λ made. 1 ≤ made.height)
unfolding ty_level
ty_some zero = keep_on (λ _. keep_none) keep_refuse
ty_some (suc n) = keep_on (λ x. after_some (suc n) (ty_level n) x) keep_refuse

tys_some : (n : ℕ) → Keeps (ty_level n).part (λ made. 1 ≤ made.height)
unfolding ty_level
tys_some zero = keep_on (λ _. keep_none) keep_refuse
tys_some (suc n) = keep_on (λ x. part_some (suc n) (ty_level n).ty x) keep_refuse

-- ---- limits

-- over types of one level less
module _ (n m : ℕ) (below other : g (Tall FullTy)) (each : Passes below other (Low n m)) where
  field_passes : Passes (field below) (field other) (Low n m)
  unfolding field
  field_passes = pass_then (λ called. pass_then (λ _. pass_first each (λ inner. keep_pure _ (λ fits. fits))))

  record_passes : (place : At) → Passes (record_of below place) (record_of other place) (Low (suc n) (suc m))
  unfolding record_of fields_of
  record_passes place =
      pass_on (λ _. pass_same) (pass_bind field_passes
      (λ first. pass_first (pass_further _ (one first) field_passes)
      (λ fields. keep_then (λ _. keep_pure _ (fits_below fields.height (fields.height + 1) (omega arith)))))
      (λ first. keep_bind (further_grows _ (field below) (one first)) (λ fields le. keep_then (λ _. keep_pure _
      (fits_below first.height (fields.height + 1) (omega arith))))))

  all_passes : (place : At) (first : Tall FullTy)
      → Passes (applied_all below place first) (applied_all other place first) (Low (suc n) (suc m))
  unfolding applied_all
  all_passes place first =
      pass_bind each
      (λ second. pass_first (pass_further _ (more (one first) second) each)
      (λ args. keep_then (λ _. keep_then (λ long. keep_pure _ (fits_below args.height (args.height + 1)
      (omega arith))))))
      (λ second. keep_bind (further_grows _ below (more (one first) second)) (λ args le. keep_then (λ _. keep_then
      (λ long.
      keep_pure _ (fits_below second.height (args.height + 1) (omega arith))))))

  parens_pass : (place : At) → Passes (in_parens below place) (in_parens other place) (Low (suc n) (suc m))
  unfolding in_parens behind_first
  parens_pass place =
      pass_bind each (λ first. pass_on (λ _. all_passes place first) pass_same)
      (λ first. keep_weak (first_grows below place first) (λ made le. fits_below first.height made.height le))

  word_passes : (x : Lexeme) (found : Option Word)
      → Passes (atom_word below x found) (atom_word other x found) (Low (suc n) (suc m))
  word_passes x (Some w.Open) = parens_pass (at x)
  word_passes x (Some w.OpenBrace) = record_passes (at x)
  word_passes x _ = pass_same

  atom_passes : (x : Lexeme) (kind : LexemeKind)
      → Passes (atom_kind below x kind) (atom_kind other x kind) (Low (suc n) (suc m))
  atom_passes x (k.Reserved text) = word_passes x (word_of text)
  atom_passes x (k.Name parts) = pass_same
  atom_passes x (k.TyVar text) = pass_same
  atom_passes x (k.Int value ok) = pass_same
  atom_passes x (k.Str text) = pass_same
  atom_passes x (k.Char byte) = pass_same

  constructor_passes : (place : At) (left : Tall FullTy) (x : Lexeme)
      → Passes (constructor_after (suc n) place left x) (constructor_after (suc m) place left x) (Low (suc n) (suc m))
  constructor_passes place left x = pass_within (λ room. by_name room (tycon_of x)) pass_same
    where
      by_name : nat_lt left.height (suc n) ≡ true → (found : Option (List (List ℕ)))
          → Keeps (made (λ parts. apply place left (long_named x parts)) found)
          (λ made. Low (suc n) (suc m) made → nat_lt left.height (suc m) ≡ true)
      by_name room None = keep_refuse
      by_name room (Some parts) = keep_pure _ (fits_room left.height (left.height + 1) (omega arith) room)

  part_passes : (x : Lexeme) → Passes (part_after (suc n) below x) (part_after (suc m) other x) (Low (suc n) (suc m))
  unfolding part_after applied
  part_passes x =
      pass_bind (atom_passes x x.kind)
      (λ atom. pass_many _ _ _ _ (λ left y. constructor_passes (at x) left y)
      (λ left y. keep_weak (constructor_grows (suc n) (at x) left y) (λ made le. fits_lower left.height made.height
      (omega arith)))
      atom)
      (λ atom. keep_weak (applied_grows (suc n) (at x) atom) (λ made le. fits_lower atom.height made.height le))

  arrow_passes : (place : At) (left : Tall FullTy)
      → Passes (arrow (suc n) below place left) (arrow (suc m) other place left) (Low (suc n) (suc m))
  unfolding arrow arrow_of
  arrow_passes place left =
      pass_on (λ _. pass_within (λ room. keep_then (λ right. keep_pure _
      (fits_room left.height (max left.height right.height + 1) (omega arith) room)))
      (pass_first each (λ right. keep_pure _
      (fits_below right.height (max left.height right.height + 1) (omega arith))))) pass_same

  tuple_passes : (part beside : g (Tall FullTy)) → Passes part beside (Low n m) → (place : At) (first : Tall FullTy)
      → Passes (tuple (suc n) part place first) (tuple (suc m) beside place first) (Low (suc n) (suc m))
  unfolding tuple tuple_of starred
  tuple_passes part beside parts place first =
      pass_on (λ _. pass_within (λ room. keep_weak (tuple_of_grows part place first) (λ made le.
      fits_room first.height made.height le room))
      (pass_bind parts
      (λ second. pass_first (pass_many (λ _ x. is_star x) _ _ (Low n m)
      (λ found x. pass_first parts (λ next. keep_pure _ (fits_lower next.height (max found.height next.height)
      (omega arith))))
      (λ found x. keep_then (λ next. keep_pure _ (fits_lower found.height (max found.height next.height)
      (omega arith))))
      (more (one first) second))
      (λ all. keep_pure _ (fits_below all.height (all.height + 1) (omega arith))))
      (λ second. keep_bind (keep_many {P = λ (all : Tall (List FullTy)). second.height ≤ all.height}
      (λ found x le. keep_then (λ next. keep_pure _ (omega arith)))
      (more (one first) second) (omega arith)) (λ all le. keep_pure _
      (fits_below second.height (all.height + 1) (omega arith)))))) pass_same

-- all phrases of so many levels
record LevelPasses (n m : ℕ) : Type 0 where
  ty : Passes (ty_level n).ty (ty_level m).ty (Low n m)
  part : Passes (ty_level n).part (ty_level m).part (Low n m)

levels_pass : (n m : ℕ) → LevelPasses n m
unfolding ty_level ty_after
levels_pass zero m =
    record {
      ty = pass_none (keep_on (λ _. keep_none) keep_refuse);
      part = pass_none (keep_on
          (λ _. keep_none) keep_refuse);
    }
levels_pass (suc n) zero = record {
  ty = pass_high (λ (made : Tall FullTy). made.height) (ty_some
      (suc n));
  part = pass_high (λ (made : Tall FullTy). made.height) (tys_some (suc n));
}
levels_pass (suc n) (suc m) =
    let below = levels_pass n m in
    record {
      ty = pass_on (λ x. pass_bind (part_passes n m (ty_level n).ty (ty_level m).ty below.ty x)
          (λ first. pass_bind
          (tuple_passes n m (ty_level n).ty (ty_level m).ty below.ty (ty_level n).part (ty_level m).part below.part
          (at x) first)
          (λ left. arrow_passes n m (ty_level n).ty (ty_level m).ty below.ty (at x) left)
          (λ left. keep_weak (arrow_grows (ty_level n).ty (suc n) (at x) left)
          (λ made le. fits_lower left.height made.height le)))
          (λ first. keep_bind (tuple_grows (suc n) (ty_level n).part (at x) first) (λ left le.
          keep_weak (arrow_grows (ty_level n).ty (suc n) (at x) left) (λ made less.
          fits_lower first.height made.height (omega arith))))) pass_same;
      part = pass_on (λ x. part_passes n m (ty_level n).ty (ty_level m).ty below.ty x) pass_same;
    }

pub ty_passes : (n m : ℕ) → Passes (ty n) (ty m) (Low n m)
ty_passes n m = (levels_pass n m).ty
