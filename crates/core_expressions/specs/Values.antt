-- Values (The Definition of Standard ML, section 2.8, appendix B), in the order of the printed grammar:
--
--     valbind = { "rec" } pat "=" exp
--     fn_exp  = "fn" match | "(" fn_exp ")" { ":" ty }
--
-- From the first `rec` of a `val` on each right side is a `fn_exp`. A declaration is read behind its first word, which
-- has its place. What stands in it is one level down, in `parts`. Behind `val (` a type variable begins a list of such,
-- and anything else a pattern.
use Rattle.std.specs.Prelude.{ℕ, ◌+◌, max, List, [], ◌∷◌, nat_lt}
use Rattle.grammars.specs.Grammar.{◌>>=◌, ◌>>◌}
use Rattle.grammars.specs.Grammar.Grammar.{pure, refuse, many}
use Rattle.sml_lexer.specs.declared.lexeme.Lexeme.{Lexeme}
use Rattle.sml_trees.specs.declared.full_exp.FullDec.{FullDec}
use Rattle.sml_trees.specs.declared.full_exp.FullDec.TheVariants as d
use Rattle.sml_trees.specs.declared.full_exp.FullExp.{FullExp}
use Rattle.sml_trees.specs.declared.full_exp.FullExp.TheVariants as e
use Rattle.sml_trees.specs.declared.full_exp.FullValBind.{FullValBind, out-FullValBind, roll-FullValBind}
use Rattle.sml_trees.specs.declared.full_pat.FullPat.{FullPat}
use Rattle.sml_trees.specs.declared.name.At.{At}
use Rattle.sml_trees.specs.declared.name.Name.{Name}
use Rattle.core_expressions.specs.Expressions.{starts_pat, fn_of, constraints}
use Rattle.phrase_reading.specs.Names.{beginning}
use Rattle.infix_names.specs.Fixities.{Fixities}
use Rattle.core_expressions.specs.Level.{Level}
use Rattle.phrase_reading.specs.Sized.{opened}
use Rattle.phrase_reading.specs.Sized.{over, one, more}
use Rattle.phrase_reading.specs.Words.{g, is, at, token}
use Rattle.phrase_reading.specs.declared.tall.Tall.{Tall}
use Rattle.core_expressions.specs.declared.binds.Binds.{Binds}
use Rattle.sml_lexer.specs.declared.words.Word.TheVariants as w
use Rattle.phrase_reading.specs.Names.{either, if_marked, if_tyvar, tyvar_list}

-- ---- values

-- any number of `rec`, behind so many
unfoldable pub recs_from : ℕ → g ℕ
recs_from recs = many (λ _ x. is w.Rec x) (λ recs _. pure (recs + 1)) recs

-- a right side: behind some `rec` a `fn_exp`
abbrev pub right_side : Level → Fixities → ℕ → g (Tall FullExp)
right_side parts fs recs = either (nat_lt 0 recs) (parts.fn_exp fs) (parts.exp fs)

-- what a binding behind so many `rec` binds, from its `=` on
unfoldable pub bound_exp : Level → Fixities → ℕ → g (Tall FullExp)
bound_exp parts fs recs = do
  token w.Equals
  right_side parts fs recs

-- a binding behind so many `rec`, from its `=` on; its pattern stands at that place
unfoldable pub val_bind_of : Level → Fixities → ℕ → At → Tall FullPat → g (Tall FullValBind)
val_bind_of parts fs recs place pat = do
  exp ← bound_exp parts fs recs
  pure (record {
    tree = roll-FullValBind (record { recs = recs; pat = pat.tree; exp = exp.tree; at = place });
    height = max pat.height exp.height;
  })

-- { rec } pat = exp, behind so many `rec`
unfoldable pub val_bind : Level → Fixities → ℕ → g (Tall FullValBind)
val_bind parts fs before = do
  recs ← recs_from before
  x ← beginning (starts_pat fs)
  pat ← parts.pat_after fs x
  val_bind_of parts fs recs (at x) pat

-- the bindings and one more
abbrev pub with_bind : Binds → Tall FullValBind → Binds
with_bind binds next = record { found = more binds.found next; recs = (out-FullValBind next.tree).recs }

-- further bindings, each behind an `and`; what stands behind a `rec` before still does
unfoldable pub val_binds_from : Level → Fixities → Binds → g Binds
val_binds_from parts fs binds =
    many (λ _ x. is w.And x) (λ binds _. do
      next ← val_bind parts fs binds.recs
      pure (with_bind binds next)) binds

-- a `val` behind its first binding
unfoldable pub val_from : Level → Fixities → At → List Name → Tall FullValBind → g (Tall FullDec)
val_from parts fs place vars first = do
  binds ← val_binds_from parts fs (record { found = one first; recs = (out-FullValBind first.tree).recs })
  pure (over (λ binds. d.Val vars binds place) binds.found)

-- a `val` behind its type variables
unfoldable pub val_of : Level → Fixities → At → List Name → g (Tall FullDec)
val_of parts fs place vars = do
  first ← val_bind parts fs 0
  val_from parts fs place vars first

-- a `val` behind a list of type variables but for its first
unfoldable pub val_vars : Level → Fixities → At → Name → g (Tall FullDec)
val_vars parts fs place var = do
  vars ← tyvar_list var
  val_of parts fs place vars

-- a `val` behind the parenthesis x of its first pattern
unfoldable pub val_pat : Level → Fixities → At → Lexeme → g (Tall FullDec)
val_pat parts fs place x = do
  pat ← parts.pat_after fs x
  first ← val_bind_of parts fs 0 (at x) pat
  val_from parts fs place [] first

-- a `val` behind the parenthesis x: type variables, or the pattern that begins with it
unfoldable pub val_parens : Level → Fixities → At → Lexeme → g (Tall FullDec)
val_parens parts fs place x = if_tyvar (val_vars parts fs place) (val_pat parts fs place x)

-- val tyvars valbind and ..
unfoldable pub val_dec : Level → Fixities → At → g (Tall FullDec)
val_dec parts fs place =
    if_tyvar (λ var. val_of parts fs place (var ∷ []))
    (if_marked w.Open (val_parens parts fs place) (val_of parts fs place []))

-- the right side of a `rec`, in parentheses, behind the first of them
unfoldable pub fn_parens : ℕ → Level → Fixities → At → g (Tall FullExp)
fn_parens n parts fs place = do
  inner ← parts.fn_exp fs
  token w.Close
  constraints n parts place (over (λ exp. e.Paren exp place) inner)

-- the right side of a `rec`
unfoldable pub fn_exp_of : ℕ → Level → Fixities → g (Tall FullExp)
fn_exp_of n parts fs =
    if_marked w.Fn (λ x. opened n (fn_of parts fs (at x)))
    (if_marked w.Open (λ x. opened n (fn_parens n parts fs (at x))) refuse)
