-- The height of each declaration of the core is that of its tree, and within the limit; and so are all phrases of the
-- core, level by level.
use Rattle.std.proofs.Common.{◌≡◌, ℕ, zero, suc, ◌-◌, max, List, [], ◌∷◌, Option, Some, Bool, true, false, nat_lt, refl, sym, ap₂, ◌∙◌, arith, add-one}
use Rattle.sml_lexer.specs.declared.lexeme.Lexeme.{Lexeme}
use Rattle.sml_trees.specs.declared.full_exp.FullClause.{out-FullClause}
use Rattle.sml_trees.specs.declared.full_exp.FullDec.{FullDec}
use Rattle.sml_trees.specs.declared.full_exp.FullExp.{FullExp}
use Rattle.sml_trees.specs.declared.full_exp.FullFunBind.{FullFunBind}
use Rattle.sml_trees.specs.declared.full_exp.FullHead.{FullHead}
use Rattle.sml_trees.specs.declared.full_exp.FullValBind.{FullValBind}
use Rattle.sml_trees.specs.declared.full_pat.FullPat.{FullPat}
use Rattle.sml_trees.specs.declared.full_ty.FullTy.{FullTy}
use Rattle.sml_trees.specs.declared.full_ty.FullExBody.TheVariants as body
use Rattle.sml_trees.specs.declared.name.At.{At}
use Rattle.sml_trees.specs.declared.name.Name.{Name}
use Rattle.infix_names.specs.Fixities.{Fixities}
use Rattle.core_bindings.specs.Bindings.{typ_bind, type_dec, con_bind, dat_bind_of, dat_bind, datatypes, replication, has_none, datatype_from, datatype_dec, ex_body, ex_bind, exception_dec, open_dec, infix_tree, infix_dec, nonfix_dec}
use Rattle.clause_heads.specs.Heads.{wanted_by}
use Rattle.clause_heads.specs.declared.heads.Wanted.{Wanted}
use Rattle.clause_heads.specs.declared.heads.Wanted.TheVariants as wanted
use Rattle.core_expressions.specs.Level.{Level}
use Rattle.core_expressions.specs.Levels.{no_level, below, level, exp, dec}
use Rattle.core_expressions.specs.Clauses.{clause_of, clause, function_by, function_from, function_of, function, fun_from, fun_of, fun_vars, fun_head, fun_parens, fun_dec}
use Rattle.core_expressions.specs.Declarations.{local_dec, dec_word, dec_of, next_dec, decs_from, decs_of}
use Rattle.core_expressions.specs.Expressions.{atexp_of, typed_of, operand_by, operand_after, conjunction_after, disjunction_after, operand_of, conjunction_of, exp_of}
use Rattle.core_expressions.specs.Values.{bound_exp, val_bind_of, val_bind, val_binds_from, val_from, val_of, val_vars, val_pat, val_parens, val_dec, fn_parens, fn_exp_of}
use Rattle.core_expressions.specs.declared.binds.Binds.{Binds}
use Rattle.core_types.specs.Types.{ty}
use Rattle.expression_parts.specs.ExpStarts.{starts_prefix}
use Rattle.phrase_reading.specs.Sized.{one}
use Rattle.phrase_reading.specs.Words.{g, at, is, word}
use Rattle.phrase_reading.specs.declared.tall.Tall.{Tall}
use Rattle.sml_lexer.specs.declared.words.Word.{Word}
use Rattle.sml_lexer.specs.declared.words.Word.TheVariants as w
use Rattle.level_laws.specs.Levels.{all_levels, typ_bind_levels, con_bind_levels, dat_bind_levels, ex_body_levels, ex_bind_levels, dec_levels, clause_levels, fun_bind_levels, val_bind_levels}
use Rattle.level_laws.specs.Promises.{IsMeasured, AreMeasured, ExpressionsHaveTheirLevels}
use Rattle.level_laws.proofs.Keeping.{Keeps, keep_pure, keep_refuse, keep_bind, keep_then, keep_within, keep_many, keep_none, keep_if_taken, keep_if_mark, keep_if_marked, keep_either, leaf_is, over_is, part_is, one_is, more_is, two_is, further_keeps, maybe_keeps, declares_is, with_dec_is, plain_keeps}
use Rattle.level_laws.proofs.ExpForms.{exp-Paren, dec-Val, dec-Fun, dec-Types, dec-Datatypes, dec-Replication, dec-Exceptions, dec-Local, dec-Open, dec-Infix, dec-Infixr, dec-Nonfix, clause-is, fun_bind-is, val_bind-is}
use Rattle.level_laws.proofs.TyLevels.{Ty, ty_keeps}
use Rattle.level_laws.proofs.PatLevels.{Pat, pat_behind_keeps}
use Rattle.level_laws.proofs.HeadLevels.{Head, parens_head_keeps, head_keeps}
use Rattle.level_laws.proofs.ExpLevels.{Exp, LevelIs, opened_atexp_keeps, constraints_keep, behind_keeps, fn_keeps, operand_of_keeps, conjunction_of_keeps, exp_of_keeps}

-- a declaration of at most so many levels
abbrev pub Dec : ℕ → Tall FullDec → Type 0
Dec most = IsMeasured dec_levels most

-- ---- types, datatypes and exceptions

module _ (n : ℕ) (tys : g (Tall FullTy)) (it : Keeps tys (Ty n)) where
  typ_bind_keeps : Keeps (typ_bind tys) (IsMeasured typ_bind_levels n)
  unfolding typ_bind
  typ_bind_keeps =
      keep_then (λ vars. keep_then (λ called. keep_then (λ _. keep_bind it (λ inner is.
      keep_pure _ (record { exact = is.exact; low = is.low })))))

  type_keeps : (place : At) → Keeps (type_dec tys place) (Dec (suc n))
  unfolding type_dec
  type_keeps place =
      keep_bind typ_bind_keeps (λ first is. keep_bind (further_keeps _ typ_bind_keeps (one_is is)) (λ found are.
      keep_pure _ (over_is _ (λ binds. dec-Types binds place) are)))

  con_bind_keeps : Keeps (con_bind tys) (IsMeasured con_bind_levels n)
  unfolding con_bind
  con_bind_keeps =
      keep_then (λ called. keep_bind (maybe_keeps _ it) (λ arg is. keep_pure _ (record { exact = is.exact; low = is.low })))

  dat_bind_of_keeps : (vars : List Name) (called : Name)
      → Keeps (dat_bind_of tys vars called) (IsMeasured dat_bind_levels n)
  unfolding dat_bind_of
  dat_bind_of_keeps vars called =
      keep_bind con_bind_keeps (λ first is. keep_bind (further_keeps _ con_bind_keeps (one_is is)) (λ cons are.
      keep_pure _ (record { exact = are.exact; low = are.low })))

  dat_bind_keeps : Keeps (dat_bind tys) (IsMeasured dat_bind_levels n)
  unfolding dat_bind
  dat_bind_keeps = keep_then (λ vars. keep_then (λ called. keep_then (λ _. dat_bind_of_keeps vars called)))

  datatypes_keep : (place : At) (vars : List Name) (called : Name)
      → Keeps (datatypes tys place vars called) (Dec (suc n))
  unfolding datatypes
  datatypes_keep place vars called =
      keep_bind (dat_bind_of_keeps vars called) (λ first is. keep_bind (further_keeps _ dat_bind_keeps (one_is is))
      (λ found are. keep_pure _ (over_is _ (λ binds. dec-Datatypes binds place) are)))

  datatype_keeps : (place : At) → Keeps (datatype_dec tys place) (Dec (suc n))
  unfolding datatype_dec datatype_from replication
  datatype_keeps place =
      keep_then (λ vars. keep_then (λ called. keep_then (λ _. keep_either (has_none vars)
      (λ _. keep_if_mark _ (keep_then (λ original. keep_pure _ (leaf_is _ (dec-Replication called original place))))
      (datatypes_keep place vars called))
      (datatypes_keep place vars called))))

  ex_body_keeps : Keeps (ex_body tys) (IsMeasured ex_body_levels n)
  unfolding ex_body
  ex_body_keeps =
      keep_if_mark _ (keep_bind it (λ inner is. keep_pure _ (part_is body.Of (λ ty. refl) is)))
      (keep_if_mark _ (keep_then (λ original. keep_pure _ (record { exact = refl; low = omega arith })))
      (keep_pure _ (record { exact = refl; low = omega arith })))

  ex_bind_keeps : Keeps (ex_bind tys) (IsMeasured ex_bind_levels n)
  unfolding ex_bind
  ex_bind_keeps =
      keep_then (λ called. keep_bind ex_body_keeps (λ body is. keep_pure _ (record { exact = is.exact; low = is.low })))

  exception_keeps : (place : At) → Keeps (exception_dec tys place) (Dec (suc n))
  unfolding exception_dec
  exception_keeps place =
      keep_bind ex_bind_keeps (λ first is. keep_bind (further_keeps _ ex_bind_keeps (one_is is)) (λ found are.
      keep_pure _ (over_is _ (λ binds. dec-Exceptions binds place) are)))

-- ---- open, and infix status

open_keeps : (n : ℕ) (place : At) → Keeps (open_dec place) (Dec (suc n))
unfolding open_dec
open_keeps n place = keep_then (λ first. keep_then (λ found. keep_pure _ (leaf_is _ (dec-Open found place))))

infix-tree : (right : Bool) (strength : Option ℕ) (names : List Name) (place : At)
    → dec_levels (infix_tree right strength names place) ≡ 1
infix-tree true strength names place = dec-Infixr strength names place
infix-tree false strength names place = dec-Infix strength names place

infix_keeps : (n : ℕ) (fs : Fixities) (place : At) (right : Bool)
    → Keeps (infix_dec fs place right) (AreMeasured dec_levels (suc n))
unfolding infix_dec
infix_keeps n fs place right =
    keep_then (λ strength. keep_then (λ found.
    keep_pure _ (declares_is _ (leaf_is _ (infix-tree right strength found place)))))

nonfix_keeps : (n : ℕ) (fs : Fixities) (place : At) → Keeps (nonfix_dec fs place) (AreMeasured dec_levels (suc n))
unfolding nonfix_dec
nonfix_keeps n fs place = keep_then (λ found. keep_pure _ (declares_is _ (leaf_is _ (dec-Nonfix found place))))

-- ---- over phrases of one level less

module _ (n : ℕ) (parts : Level) (it : LevelIs n parts) where
  right_keeps : (fs : Fixities) (recs : ℕ) → Keeps (bound_exp parts fs recs) (Exp n)
  unfolding bound_exp
  right_keeps fs recs =
      keep_then (λ _. keep_either (nat_lt 0 recs) (λ _. it.fn_exp fs) (it.exp fs))

  val_bind_of_keeps : (fs : Fixities) (recs : ℕ) (place : At) (pat : Tall FullPat) → Pat n pat
      → Keeps (val_bind_of parts fs recs place pat) (IsMeasured val_bind_levels n)
  unfolding val_bind_of
  val_bind_of_keeps fs recs place pat is =
      keep_bind (right_keeps fs recs) (λ exp so. keep_pure _ (two_is (val_bind-is recs pat.tree exp.tree place) is so))

  val_bind_keeps : (fs : Fixities) (before : ℕ) → Keeps (val_bind parts fs before) (IsMeasured val_bind_levels n)
  unfolding val_bind
  val_bind_keeps fs before =
      keep_then (λ recs. keep_then (λ x. keep_bind (it.pat_after fs x) (λ pat is.
      val_bind_of_keeps fs recs (at x) pat is)))

  val_from_keeps : (fs : Fixities) (place : At) (vars : List Name) (first : Tall FullValBind)
      → IsMeasured val_bind_levels n first → Keeps (val_from parts fs place vars first) (Dec (suc n))
  unfolding val_from val_binds_from
  val_from_keeps fs place vars first is =
      keep_bind {P = λ (binds : Binds). IsMeasured (all_levels val_bind_levels) n binds.found}
      (keep_many (λ binds x so. keep_bind (val_bind_keeps fs binds.recs) (λ next too. keep_pure _ (more_is so too)))
      _ (one_is is))
      (λ binds are. keep_pure _ (over_is _ (λ binds. dec-Val vars binds place) are))

  val_of_keeps : (fs : Fixities) (place : At) (vars : List Name) → Keeps (val_of parts fs place vars) (Dec (suc n))
  unfolding val_of
  val_of_keeps fs place vars = keep_bind (val_bind_keeps fs 0) (λ first is. val_from_keeps fs place vars first is)

  val_keeps : (fs : Fixities) (place : At) → Keeps (val_dec parts fs place) (Dec (suc n))
  unfolding val_dec val_parens val_vars val_pat
  val_keeps fs place =
      keep_if_taken _ _ (λ var. val_of_keeps fs place (var ∷ []))
      (keep_if_marked _ (λ x. keep_if_taken _ _ (λ var. keep_then (λ vars. val_of_keeps fs place vars))
      (keep_bind (it.pat_after fs x) (λ pat is. keep_bind (val_bind_of_keeps fs 0 (at x) pat is) (λ first so.
      val_from_keeps fs place [] first so))))
      (val_of_keeps fs place []))

  clause_of_keeps : (fs : Fixities) (start : At) (head : Tall FullHead) → Head n head
      → Keeps (clause_of n parts fs start head) (IsMeasured clause_levels n)
  unfolding clause_of
  clause_of_keeps fs start head is =
      keep_bind (maybe_keeps _ (ty_keeps n)) (λ result so. keep_bind (behind_keeps n parts it fs w.Equals) (λ body too.
      keep_pure _ (record {
        exact = ap₂ max (ap₂ max is.exact so.exact) too.exact ∙ sym (clause-is head.tree result.tree body.tree start);
        low = let one = is.low in let two = so.low in let three = too.low in omega arith;
      })))

  clause_keeps : (fs : Fixities) (wanted : Wanted) → Keeps (clause n parts fs wanted) (IsMeasured clause_levels n)
  unfolding clause
  clause_keeps fs wanted =
      keep_then (λ x. keep_bind (head_keeps n fs wanted x) (λ head is. clause_of_keeps fs (at x) head is))

  function_of_keeps : (fs : Fixities) (start : At) (head : Tall FullHead) → Head n head
      → Keeps (function_of n parts fs start head) (IsMeasured fun_bind_levels n)
  unfolding function_of function_from function_by
  function_of_keeps fs start head is =
      keep_bind (clause_of_keeps fs start head is) (λ first so.
      keep_bind (further_keeps _ (clause_keeps fs (wanted_by (out-FullClause first.tree).head)) (one_is so))
      (λ clauses are. keep_pure _ (part_is _ (λ clauses. fun_bind-is clauses start) are)))

  function_keeps : (fs : Fixities) → Keeps (function n parts fs) (IsMeasured fun_bind_levels n)
  unfolding function
  function_keeps fs =
      keep_then (λ x. keep_bind (head_keeps n fs wanted.Any x) (λ head is. function_of_keeps fs (at x) head is))

  fun_from_keeps : (fs : Fixities) (place : At) (vars : List Name) (first : Tall FullFunBind)
      → IsMeasured fun_bind_levels n first → Keeps (fun_from n parts fs place vars first) (Dec (suc n))
  unfolding fun_from
  fun_from_keeps fs place vars first is =
      keep_bind (further_keeps _ (function_keeps fs) (one_is is)) (λ found are.
      keep_pure _ (over_is _ (λ binds. dec-Fun vars binds place) are))

  fun_of_keeps : (fs : Fixities) (place : At) (vars : List Name) → Keeps (fun_of n parts fs place vars) (Dec (suc n))
  unfolding fun_of
  fun_of_keeps fs place vars = keep_bind (function_keeps fs) (λ first is. fun_from_keeps fs place vars first is)

  fun_keeps : (fs : Fixities) (place : At) → Keeps (fun_dec n parts fs place) (Dec (suc n))
  unfolding fun_dec fun_parens fun_vars fun_head
  fun_keeps fs place =
      keep_if_taken _ _ (λ var. fun_of_keeps fs place (var ∷ []))
      (keep_if_marked _ (λ x. keep_if_taken _ _ (λ var. keep_then (λ vars. fun_of_keeps fs place vars))
      (keep_bind (parens_head_keeps n fs wanted.Any (at x)) (λ head is. keep_bind (function_of_keeps fs (at x) head is)
      (λ first so. fun_from_keeps fs place [] first so))))
      (fun_of_keeps fs place []))

  local_keeps : (fs : Fixities) (place : At) → Keeps (local_dec parts fs place) (AreMeasured dec_levels (suc n))
  unfolding local_dec
  local_keeps fs place =
      keep_bind (it.decs fs) (λ hidden is. keep_then (λ _. keep_bind (it.decs hidden.fixities) (λ shown so.
      keep_then (λ _. keep_pure _ (declares_is _ (record {
        exact = add-one (max hidden.height shown.height) ∙ ap₂ (λ a b. suc (max a b)) is.exact so.exact
            ∙ sym (dec-Local hidden.decs shown.decs place);
        low = let low = is.low in let lower = so.low in omega arith;
      }))))))

  dec_word_keeps : (fs : Fixities) (place : At) (found : Option Word)
      → Keeps (dec_word n parts fs place found) (AreMeasured dec_levels (suc n))
  dec_word_keeps fs place (Some w.Val) = plain_keeps fs (val_keeps fs place)
  dec_word_keeps fs place (Some w.Fun) = plain_keeps fs (fun_keeps fs place)
  dec_word_keeps fs place (Some w.TypeWord) = plain_keeps fs (type_keeps n (ty n) (ty_keeps n) place)
  dec_word_keeps fs place (Some w.Datatype) = plain_keeps fs (datatype_keeps n (ty n) (ty_keeps n) place)
  dec_word_keeps fs place (Some w.Exception) = plain_keeps fs (exception_keeps n (ty n) (ty_keeps n) place)
  dec_word_keeps fs place (Some w.Local) = local_keeps fs place
  dec_word_keeps fs place (Some w.OpenWord) = plain_keeps fs (open_keeps n place)
  dec_word_keeps fs place (Some w.Infix) = infix_keeps n fs place false
  dec_word_keeps fs place (Some w.Infixr) = infix_keeps n fs place true
  dec_word_keeps fs place (Some w.Nonfix) = nonfix_keeps n fs place
  dec_word_keeps fs place _ = keep_refuse

  fn_exp_keeps : (fs : Fixities) → Keeps (fn_exp_of (suc n) parts fs) (Exp (suc n))
  unfolding fn_exp_of fn_parens
  fn_exp_keeps fs =
      keep_if_marked _ (λ x. keep_within (λ _. fn_keeps n parts it fs (at x)))
      (keep_if_marked _ (λ x. keep_within (λ _. keep_bind (it.fn_exp fs) (λ inner is. keep_then (λ _.
      constraints_keep n parts it (at x) _ (over_is _ (λ inner. exp-Paren inner (at x)) is))))) keep_refuse)

-- ---- sequences

no_decs : (n : ℕ) (fs : Fixities) → AreMeasured dec_levels n (record { decs = []; fixities = fs; height = 0 })
no_decs n fs = record { exact = refl; low = omega arith }

decs_keep : (n most : ℕ) (parts : Level)
    → ((fs : Fixities) (x : Lexeme) → Keeps (dec_of n parts fs x) (AreMeasured dec_levels most))
    → (fs : Fixities) → Keeps (decs_of n parts fs) (AreMeasured dec_levels most)
unfolding decs_from next_dec
decs_keep n most parts each fs =
    keep_many (λ found x are. keep_either (is w.Semicolon x) (λ _. keep_pure found are)
    (keep_bind (each found.fixities x) (λ next more. keep_pure _ (with_dec_is are more)))) _ (no_decs most fs)

-- ---- levels

-- where no level is left nothing is read but no declarations
module _ (parts : Level) (fs : Fixities) where
  atexp_none : {P : Tall FullExp → Type 0} (x : Lexeme) → Keeps (atexp_of 0 parts fs x) P
  unfolding atexp_of
  atexp_none x = keep_within (λ h. absurd (cc))

  operand_by_none : {P : Tall FullExp → Type 0} (x : Lexeme) (prefix : Bool) → Keeps (operand_by 0 parts fs x prefix) P
  unfolding typed_of
  operand_by_none x true = keep_within (λ h. absurd (cc))
  operand_by_none x false = keep_bind {P = λ _. ⊥} (atexp_none x) (λ first never. absurd never)

  operand_none : {P : Tall FullExp → Type 0} (x : Lexeme) → Keeps (operand_after 0 parts fs x) P
  unfolding operand_after
  operand_none x = operand_by_none x (starts_prefix (word x))

  conjunction_none : {P : Tall FullExp → Type 0} (x : Lexeme) → Keeps (conjunction_after 0 parts fs x) P
  unfolding conjunction_after
  conjunction_none x = keep_bind {P = λ _. ⊥} (operand_none x) (λ first never. absurd never)

  operand_of_none : {P : Tall FullExp → Type 0} → Keeps (operand_of 0 parts fs) P
  unfolding operand_of
  operand_of_none = keep_then (λ x. operand_none x)

  conjunction_of_none : {P : Tall FullExp → Type 0} → Keeps (conjunction_of 0 parts fs) P
  unfolding conjunction_of
  conjunction_of_none = keep_then (λ x. conjunction_none x)

  exp_of_none : {P : Tall FullExp → Type 0} → Keeps (exp_of 0 parts fs) P
  unfolding exp_of disjunction_after
  exp_of_none =
      keep_then (λ x. keep_bind {P = λ _. ⊥} (keep_bind {P = λ _. ⊥} (conjunction_none x) (λ first never. absurd never))
      (λ left never. absurd never))

  fn_exp_none : {P : Tall FullExp → Type 0} → Keeps (fn_exp_of 0 parts fs) P
  unfolding fn_exp_of
  fn_exp_none =
      keep_if_marked _ (λ x. keep_within (λ h. absurd (cc))) (keep_if_marked _ (λ x. keep_within (λ h. absurd (cc))) keep_refuse)

-- all phrases of the core with so many levels
levels_keep_of : (n : ℕ) → LevelIs n (level n)
unfolding below
levels_keep_of zero = record {
  ty = ty_keeps 0;
  pat_after = λ fs x. pat_behind_keeps fs 0 x;
  exp = λ fs. exp_of_none no_level fs;
  conjunction = λ fs. conjunction_of_none no_level fs;
  operand = λ fs. operand_of_none no_level fs;
  atexp = λ fs x. atexp_none no_level fs x;
  fn_exp = λ fs. fn_exp_none no_level fs;
  decs = λ fs. decs_keep 0 0 no_level (λ fs x. keep_none) fs;
  dec = λ fs x. keep_none;
}
levels_keep_of (suc n) =
    let it = levels_keep_of n in
    record {
      ty = ty_keeps (suc n);
      pat_after = λ fs x. pat_behind_keeps fs (suc n) x;
      exp = λ fs. exp_of_keeps n (level n) it fs;
      conjunction = λ fs. conjunction_of_keeps n (level n) it fs;
      operand = λ fs. operand_of_keeps n (level n) it fs;
      atexp = λ fs x. opened_atexp_keeps n (level n) it fs x;
      fn_exp = λ fs. fn_exp_keeps n (level n) it fs;
      decs = λ fs. decs_keep (suc n) (suc n) (level n) (λ fs x. dec_word_keeps n (level n) it fs (at x) (word x)) fs;
      dec = λ fs x. dec_word_keeps n (level n) it fs (at x) (word x);
    }

pub core_keeps : (n : ℕ) → LevelIs n (level n)
core_keeps n = levels_keep_of n

pub expressions_have_levels : ExpressionsHaveTheirLevels
expressions_have_levels fs n = ((core_keeps n).exp fs).gives
