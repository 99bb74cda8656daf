-- Functions (The Definition of Standard ML, appendix B), in the order of the printed grammar:
--
--     function = clause { "|" clause }
--     clause   = head [ ":" ty ] "=" exp
--     head     = [ "op" ] vid atpat { atpat } | atpat vid atpat | "(" atpat vid atpat ")" { atpat }
--
-- In the first form of a head a vid that is infix has `op` before it; in the other two the vid is infix, and the two
-- patterns beside it are one argument. All clauses of a function have the name and the number of arguments of the
-- first: behind it a lexeme stands only where it may belong to such a clause.
--
-- The three forms begin alike, and are told apart as they are read. A name may be the function's or the first pattern
-- of an infix head: an infix name behind it decides. Behind a parenthesis stands an infix head in parentheses, or a
-- pattern that itself stands before an infix name. What both may begin with, a pattern, an infix name, a pattern and
-- the closing parenthesis, is read with the levels of the head, since it has more of them. Where it turns out to be
-- part of a pattern, that lexeme opens the levels that are above it.
use Rattle.std.specs.Prelude.{ℕ, ◌-◌, max, List, [], ◌∷◌}
use Rattle.grammars.specs.Grammar.{◌>>=◌, ◌>>◌}
use Rattle.grammars.specs.Grammar.Grammar.{pure}
use Rattle.sml_lexer.specs.declared.lexeme.Lexeme.{Lexeme}
use Rattle.sml_trees.specs.declared.full_exp.FullClause.{FullClause, out-FullClause, roll-FullClause}
use Rattle.sml_trees.specs.declared.full_exp.FullDec.{FullDec}
use Rattle.sml_trees.specs.declared.full_exp.FullDec.TheVariants as d
use Rattle.sml_trees.specs.declared.full_exp.FullFunBind.{FullFunBind, roll-FullFunBind}
use Rattle.sml_trees.specs.declared.full_exp.FullHead.{FullHead}
use Rattle.sml_trees.specs.declared.name.At.{At}
use Rattle.sml_trees.specs.declared.name.Name.{Name}
use Rattle.core_patterns.specs.Patterns.{start}
use Rattle.core_types.specs.Types.{ty}
use Rattle.phrase_reading.specs.Names.{if_marked, if_tyvar, tyvar_list, beginning}
use Rattle.infix_names.specs.Fixities.{Fixities}
use Rattle.core_expressions.specs.Level.{Level}
use Rattle.core_expressions.specs.Expressions.{exp_behind}
use Rattle.phrase_reading.specs.Sized.{over, part, one, further, maybe}
use Rattle.phrase_reading.specs.Words.{g, at, token}
use Rattle.phrase_reading.specs.declared.tall.Tall.{Tall}
use Rattle.clause_heads.specs.declared.heads.Wanted.{Wanted}
use Rattle.clause_heads.specs.declared.heads.Wanted.TheVariants as wanted
use Rattle.sml_lexer.specs.declared.words.Word.TheVariants as w
use Rattle.clause_heads.specs.Heads.{head_after, parens_head, starts_head, wanted_by}

-- ---- clauses and functions

-- a clause behind its head, which begins at that place
unfoldable pub clause_of : ℕ → Level → Fixities → At → Tall FullHead → g (Tall FullClause)
clause_of n parts fs start head = do
  result ← maybe w.Colon (ty n)
  body ← exp_behind parts fs w.Equals
  pure (record {
    tree = roll-FullClause (record { head = head.tree; ty = result.tree; body = body.tree; at = start });
    height = max (max head.height result.height) body.height;
  })

-- head [ : ty ] = exp
unfoldable pub clause : ℕ → Level → Fixities → Wanted → g (Tall FullClause)
clause n parts fs wanted = do
  x ← beginning (starts_head fs wanted)
  head ← head_after n fs wanted x
  clause_of n parts fs (at x) head

abbrev pub fun_bind : At → List FullClause → FullFunBind
fun_bind start clauses = roll-FullFunBind (record { clauses = clauses; at = start })

-- a function behind its first clause, which begins at that place, and by which its clauses are like this
unfoldable pub function_by : ℕ → Level → Fixities → At → Wanted → Tall FullClause → g (Tall FullFunBind)
function_by n parts fs start wanted first = do
  clauses ← further w.Bar (clause n parts fs wanted) (one first)
  pure (part (fun_bind start) clauses)

-- a function behind its first clause, which begins at that place and fixes the name and the number of arguments
unfoldable pub function_from : ℕ → Level → Fixities → At → Tall FullClause → g (Tall FullFunBind)
function_from n parts fs start first = function_by n parts fs start (wanted_by (out-FullClause first.tree).head) first

-- a function behind the head of its first clause
unfoldable pub function_of : ℕ → Level → Fixities → At → Tall FullHead → g (Tall FullFunBind)
function_of n parts fs start head = do
  first ← clause_of n parts fs start head
  function_from n parts fs start first

-- clause | ..
unfoldable pub function : ℕ → Level → Fixities → g (Tall FullFunBind)
function n parts fs = do
  x ← beginning (starts_head fs wanted.Any)
  head ← head_after n fs wanted.Any x
  function_of n parts fs (at x) head

-- a `fun` behind its first function
unfoldable pub fun_from : ℕ → Level → Fixities → At → List Name → Tall FullFunBind → g (Tall FullDec)
fun_from n parts fs place vars first = do
  found ← further w.And (function n parts fs) (one first)
  pure (over (λ binds. d.Fun vars binds place) found)

-- a `fun` behind its type variables
unfoldable pub fun_of : ℕ → Level → Fixities → At → List Name → g (Tall FullDec)
fun_of n parts fs place vars = do
  first ← function n parts fs
  fun_from n parts fs place vars first

-- a `fun` behind a list of type variables but for its first
unfoldable pub fun_vars : ℕ → Level → Fixities → At → Name → g (Tall FullDec)
fun_vars n parts fs place var = do
  vars ← tyvar_list var
  fun_of n parts fs place vars

-- a `fun` behind the parenthesis of its first head
unfoldable pub fun_head : ℕ → Level → Fixities → At → At → g (Tall FullDec)
fun_head n parts fs place paren = do
  head ← parens_head n fs wanted.Any paren
  first ← function_of n parts fs paren head
  fun_from n parts fs place [] first

-- a `fun` behind a parenthesis: type variables, or the head that begins with it
unfoldable pub fun_parens : ℕ → Level → Fixities → At → Lexeme → g (Tall FullDec)
fun_parens n parts fs place paren = if_tyvar (fun_vars n parts fs place) (fun_head n parts fs place (at paren))

-- fun tyvars function and ..
unfoldable pub fun_dec : ℕ → Level → Fixities → At → g (Tall FullDec)
fun_dec n parts fs place =
    if_tyvar (λ var. fun_of n parts fs place (var ∷ []))
    (if_marked w.Open (λ x. fun_parens n parts fs place x) (fun_of n parts fs place []))
