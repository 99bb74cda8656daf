-- Expressions and matches (The Definition of Standard ML, sections 2.5, 2.6 and 2.8, appendix B), in the order of the
-- printed grammar:
--
--     atexp = constant | [ "op" ] longvid | "{" [ field { "," field } ] "}" | "(" ")"
--           | "(" exp { "," exp } ")" | "(" exp { ";" exp } ")" | "[" [ exp { "," exp } ] "]"
--           | "let" decs "in" exp { ";" exp } "end"
--     field = label "=" exp
--     run   = atexp { atexp | operator atexp }
--     typed = run { ":" ty }
--     operand = typed | "raise" exp | "if" exp "then" exp "else" exp | "while" exp "do" exp
--             | "case" exp "of" match | "fn" match
--     conjunction = operand { "andalso" operand }
--     exp   = conjunction { "orelse" conjunction } [ "handle" match ]
--     match = rule { "|" rule }
--     rule  = pat "=>" exp
--
-- The forms bind from tight to loose in this order, and chains of `:`, `andalso` and `orelse` go to the left. `raise`,
-- `if`, `while`, `case`, `fn` and `handle` end with an expression or a match, which reaches as far to the right as it
-- can: a `|`, an `andalso` or a `handle` behind them belongs to the innermost phrase that it may belong to.
--
-- A phrase is read behind its first lexeme x, which decides its form and has its place. What stands in it is one level
-- down, in `parts`; levels are opened as `Level` says. Operators stay in the order in which they are written.
use Rattle.std.specs.Prelude.{ℕ, ◌+◌, max, Bool, true, false, Option, None, Some, List, []}
use Rattle.grammars.specs.Grammar.{◌>>=◌, ◌>>◌}
use Rattle.grammars.specs.Grammar.Grammar.{pure, refuse, on, many}
use Rattle.sml_lexer.specs.declared.lexeme.Lexeme.{Lexeme}
use Rattle.sml_lexer.specs.declared.lexeme.LexemeKind.{LexemeKind}
use Rattle.sml_lexer.specs.declared.lexeme.LexemeKind.TheVariants as k
use Rattle.sml_trees.specs.declared.full_exp.FullExp.{FullExp}
use Rattle.sml_trees.specs.declared.full_exp.FullExp.TheVariants as e
use Rattle.sml_trees.specs.declared.full_exp.FullExpField.{FullExpField, roll-FullExpField}
use Rattle.sml_trees.specs.declared.full_exp.FullRule.{FullRule, roll-FullRule}
use Rattle.sml_trees.specs.declared.full_pat.Constant.TheVariants as c
use Rattle.sml_trees.specs.declared.full_pat.Fixity.{Fixity}
use Rattle.sml_trees.specs.declared.full_ty.FullTy.{FullTy}
use Rattle.sml_trees.specs.declared.name.At.{At}
use Rattle.infix_names.specs.Fixities.{Fixities, fixity_of}
use Rattle.core_expressions.specs.Level.{Level}
use Rattle.core_patterns.specs.Patterns.{starts_atpat}
use Rattle.phrase_reading.specs.Sized.{leaf, over, over_two, part, one, more, lower, further, opened}
use Rattle.phrase_reading.specs.Words.{g, is, word, at, long_named, named, taken, label, token}
use Rattle.sml_lexer.specs.Words.{word_of}
use Rattle.expression_parts.specs.declared.runs.Run.{Run}
use Rattle.phrase_reading.specs.declared.tall.Tall.{Tall}
use Rattle.sml_lexer.specs.declared.words.Word.{Word}
use Rattle.sml_lexer.specs.declared.words.Word.TheVariants as w
use Rattle.phrase_reading.specs.Names.{beginning}
use Rattle.expression_parts.specs.ExpStarts.{goes_on, infix_name, op_parts, starts_atexp, starts_exp, starts_prefix}
use Rattle.expression_parts.specs.ExpNodes.{branched, chain_word, link, run_exp, run_of, with_atom, with_operator}
use Rattle.expression_parts.specs.declared.chain.Chain.{Chain}
use Rattle.expression_parts.specs.declared.chain.Chain.TheVariants as chain

-- ---- atomic expressions, behind their first lexeme, which stands at that place

-- a name, with `op` before it or without
abbrev pub long_exp : Bool → At → Lexeme → List (List ℕ) → Tall FullExp
long_exp op place x parts = leaf (e.Long (record { op = op; long = long_named x parts }) place)

-- op longvid
unfoldable pub op_exp : At → g (Tall FullExp)
op_exp place = taken op_parts (long_exp true place)

-- further expressions, each behind such a mark
abbrev pub exps : Level → Fixities → Word → Tall (List FullExp) → g (Tall (List FullExp))
exps parts fs mark found = further mark (parts.exp fs) found

-- expressions with such a mark between them
unfoldable pub exp_list : Level → Fixities → Word → g (Tall (List FullExp))
exp_list parts fs mark = do
  first ← parts.exp fs
  exps parts fs mark (one first)

-- label = exp
unfoldable pub field : Level → Fixities → g (Tall FullExpField)
field parts fs = do
  name ← label
  token w.Equals
  value ← parts.exp fs
  pure (part (λ (exp : FullExp). roll-FullExpField (record { label = name; exp = exp })) value)

-- further fields, each behind a comma
abbrev pub fields : Level → Fixities → Tall (List FullExpField) → g (Tall (List FullExpField))
fields parts fs found = further w.Comma (field parts fs) found

-- { label = exp , .. } with one field or more
unfoldable pub record_fields : Level → Fixities → At → g (Tall FullExp)
record_fields parts fs place = do
  first ← field parts fs
  found ← fields parts fs (one first)
  token w.CloseBrace
  pure (over (λ (fields : List FullExpField). e.Record fields place) found)

-- { } and { label = exp , .. }
unfoldable pub record_exp : Level → Fixities → At → g (Tall FullExp)
record_exp parts fs place = on (is w.CloseBrace) (λ _. pure (leaf (e.Record [] place))) (record_fields parts fs place)

-- ( exp , .. ) and ( exp ; .. ), behind the first of these marks
unfoldable pub several : Level → Fixities → Word → Tall FullExp → g (Tall (List FullExp))
several parts fs mark first = do
  second ← parts.exp fs
  found ← exps parts fs mark (more (one first) second)
  token w.Close
  pure found

-- ( exp , .. ) behind its first comma
unfoldable pub tuple_exp : Level → Fixities → At → Tall FullExp → g (Tall FullExp)
tuple_exp parts fs place first = do
  found ← several parts fs w.Comma first
  pure (over (λ (exps : List FullExp). e.Tuple exps place) found)

-- ( exp ; .. ) behind its first semicolon
unfoldable pub sequence_exp : Level → Fixities → At → Tall FullExp → g (Tall FullExp)
sequence_exp parts fs place first = do
  found ← several parts fs w.Semicolon first
  pure (over (λ (exps : List FullExp). e.Sequence exps place) found)

-- ( exp ) behind the expression
unfoldable pub paren_exp : At → Tall FullExp → g (Tall FullExp)
paren_exp place first = do
  token w.Close
  pure (over (λ (exp : FullExp). e.Paren exp place) first)

-- behind a parenthesis and an expression
unfoldable pub parens_from : Level → Fixities → At → Tall FullExp → g (Tall FullExp)
parens_from parts fs place first =
    on (is w.Comma) (λ _. tuple_exp parts fs place first)
    (on (is w.Semicolon) (λ _. sequence_exp parts fs place first)
    (paren_exp place first))

-- ( ), ( exp , .. ), ( exp ; .. ) and ( exp )
unfoldable pub parens : Level → Fixities → At → g (Tall FullExp)
parens parts fs place =
    on (is w.Close) (λ _. pure (leaf (e.Unit place)))
    (do
      first ← parts.exp fs
      parens_from parts fs place first)

-- [ exp , .. ] with one expression or more
unfoldable pub bracket_items : Level → Fixities → At → g (Tall FullExp)
bracket_items parts fs place = do
  found ← exp_list parts fs w.Comma
  token w.CloseBracket
  pure (over (λ (exps : List FullExp). e.List exps place) found)

-- [ ] and [ exp , .. ]
unfoldable pub bracket : Level → Fixities → At → g (Tall FullExp)
bracket parts fs place = on (is w.CloseBracket) (λ _. pure (leaf (e.List [] place))) (bracket_items parts fs place)

-- let decs in exp ; .. end: what is declared infix in it is so up to its end alone
unfoldable pub let_exp : Level → Fixities → At → g (Tall FullExp)
let_exp parts fs place = do
  found ← parts.decs fs
  token w.In
  body ← exp_list parts found.fixities w.Semicolon
  token w.End
  pure (record { tree = e.Let found.decs body.tree place; height = max found.height body.height + 1 })

abbrev pub atexp_word : Level → Fixities → At → Option Word → g (Tall FullExp)
atexp_word parts fs place (Some w.Op) = op_exp place
atexp_word parts fs place (Some w.OpenBrace) = record_exp parts fs place
atexp_word parts fs place (Some w.Open) = parens parts fs place
atexp_word parts fs place (Some w.OpenBracket) = bracket parts fs place
atexp_word parts fs place (Some w.Let) = let_exp parts fs place
atexp_word parts fs place _ = refuse

abbrev pub atexp_kind : Level → Fixities → Lexeme → LexemeKind → g (Tall FullExp)
atexp_kind parts fs x (k.Reserved text) = atexp_word parts fs (at x) (word_of text)
atexp_kind parts fs x (k.Name names) = pure (long_exp false (at x) x names)
atexp_kind parts fs x (k.TyVar text) = refuse
atexp_kind parts fs x (k.Int value _) = pure (leaf (e.Constant (c.Int value) (at x)))
atexp_kind parts fs x (k.Str text) = pure (leaf (e.Constant (c.Str text) (at x)))
atexp_kind parts fs x (k.Char byte) = pure (leaf (e.Constant (c.Char byte) (at x)))

-- an atomic expression over parts of one level less
abbrev pub atexp_after : Level → Fixities → Lexeme → g (Tall FullExp)
atexp_after parts fs x = atexp_kind parts fs x x.kind

-- the same, with so many levels left
unfoldable pub atexp_of : ℕ → Level → Fixities → Lexeme → g (Tall FullExp)
atexp_of n parts fs x = opened n (atexp_after parts fs x)

-- ---- runs of applications and infix operators

-- an atomic expression of a run
unfoldable pub atom : Level → Fixities → Run → Lexeme → g Run
atom parts fs run x = do
  next ← parts.atexp fs x
  pure (with_atom run next)

-- behind an operator, which is part of the run already
unfoldable pub behind_operator : Level → Fixities → Run → g Run
behind_operator parts fs run = do
  x ← beginning (starts_atexp fs)
  atom parts fs run x

abbrev pub step_by : Level → Fixities → Run → Lexeme → List ℕ → Option Fixity → g Run
step_by parts fs run x name None = atom parts fs run x
step_by parts fs run x name (Some f) = behind_operator parts fs (with_operator run (named x name) f)

abbrev pub step_with : Level → Fixities → Run → Lexeme → Option (List ℕ) → g Run
step_with parts fs run x None = atom parts fs run x
step_with parts fs run x (Some name) = step_by parts fs run x name (fixity_of fs name)

-- a lexeme with which a run goes on: an atomic expression, or an operator with one behind it
unfoldable pub step : Level → Fixities → Run → Lexeme → g Run
step parts fs run x = step_with parts fs run x (infix_name x)

-- the same with that lexeme
unfoldable pub one_step : Level → Fixities → Run → g Run
one_step parts fs run = do
  x ← beginning (goes_on fs run.ops)
  step parts fs run x

-- all that a run goes on with
unfoldable pub steps : Level → Fixities → Run → g Run
steps parts fs run = many (λ run x. goes_on fs run.ops x) (step parts fs) run

-- a run behind the first lexeme of its second part
unfoldable pub whole_run : Level → Fixities → At → Tall FullExp → Lexeme → g (Tall FullExp)
whole_run parts fs place first x = do
  two ← step parts fs (run_of first) x
  run ← steps parts fs two
  pure (run_exp place run)

-- the same with so many levels left: a run is one level above its parts
unfoldable pub run_with : ℕ → Level → Fixities → At → Tall FullExp → Lexeme → g (Tall FullExp)
run_with n parts fs place first x = lower n first (whole_run parts fs place first x)

-- behind an atomic expression: more of a run, or nothing
unfoldable pub run_from : ℕ → Level → Fixities → At → Tall FullExp → g (Tall FullExp)
run_from n parts fs place first = on (goes_on fs []) (λ x. run_with n parts fs place first x) (pure first)

-- ---- constraints and prefix forms

-- a type behind `:`, and the expression before it
unfoldable pub constraint : ℕ → Level → At → Tall FullExp → g (Tall FullExp)
constraint n parts place left = lower n left (do
  ty ← parts.ty
  pure (over_two (λ (exp : FullExp) (ty : FullTy). e.Typed exp ty place) left ty))

-- { : ty } behind an expression, which the first of them constrains
unfoldable pub constraints : ℕ → Level → At → Tall FullExp → g (Tall FullExp)
constraints n parts place first = many (λ _ x. is w.Colon x) (λ left _. constraint n parts place left) first

-- run { : ty }, behind the first lexeme x
unfoldable pub typed_of : ℕ → Level → Fixities → Lexeme → g (Tall FullExp)
typed_of n parts fs x = do
  first ← atexp_of n parts fs x
  run ← run_from n parts fs (at x) first
  constraints n parts (at x) run

-- whether a pattern begins with the lexeme
abbrev pub starts_pat : Fixities → Lexeme → Bool
starts_pat fs x = starts_atpat fs x

-- an expression behind such a word
unfoldable pub exp_behind : Level → Fixities → Word → g (Tall FullExp)
exp_behind parts fs before = do
  token before
  parts.exp fs

-- pat => exp
unfoldable pub rule : Level → Fixities → g (Tall FullRule)
rule parts fs = do
  x ← beginning (starts_pat fs)
  pat ← parts.pat_after fs x
  exp ← exp_behind parts fs w.DoubleArrow
  pure (record {
    tree = roll-FullRule (record { pat = pat.tree; exp = exp.tree; at = at x });
    height = max pat.height exp.height;
  })

-- further rules, each behind a bar
abbrev pub more_rules : Level → Fixities → Tall (List FullRule) → g (Tall (List FullRule))
more_rules parts fs found = further w.Bar (rule parts fs) found

-- pat => exp | ..
unfoldable pub rules_of : Level → Fixities → g (Tall (List FullRule))
rules_of parts fs = do
  first ← rule parts fs
  more_rules parts fs (one first)

-- a match behind `of`
unfoldable pub rules_behind : Level → Fixities → g (Tall (List FullRule))
rules_behind parts fs = do
  token w.Of
  rules_of parts fs

-- raise exp
unfoldable pub raise_exp : Level → Fixities → At → g (Tall FullExp)
raise_exp parts fs place = do
  inner ← parts.exp fs
  pure (over (λ (exp : FullExp). e.Raise exp place) inner)

-- if exp then exp else exp
unfoldable pub if_exp : Level → Fixities → At → g (Tall FullExp)
if_exp parts fs place = do
  test ← parts.exp fs
  right ← exp_behind parts fs w.Then
  wrong ← exp_behind parts fs w.Else
  pure (branched place test right wrong)

-- while exp do exp
unfoldable pub while_exp : Level → Fixities → At → g (Tall FullExp)
while_exp parts fs place = do
  test ← parts.exp fs
  body ← exp_behind parts fs w.Do
  pure (over_two (λ (test body : FullExp). e.While test body place) test body)

-- case exp of match
unfoldable pub case_exp : Level → Fixities → At → g (Tall FullExp)
case_exp parts fs place = do
  subject ← parts.exp fs
  rules ← rules_behind parts fs
  pure (over_two (λ (subject : FullExp) (rules : List FullRule). e.Case subject rules place) subject rules)

-- fn match
unfoldable pub fn_of : Level → Fixities → At → g (Tall FullExp)
fn_of parts fs place = do
  rules ← rules_of parts fs
  pure (over (λ (rules : List FullRule). e.Fn rules place) rules)

abbrev pub prefix_word : Level → Fixities → At → Option Word → g (Tall FullExp)
prefix_word parts fs place (Some w.Raise) = raise_exp parts fs place
prefix_word parts fs place (Some w.If) = if_exp parts fs place
prefix_word parts fs place (Some w.While) = while_exp parts fs place
prefix_word parts fs place (Some w.Case) = case_exp parts fs place
prefix_word parts fs place (Some w.Fn) = fn_of parts fs place
prefix_word parts fs place _ = refuse

-- a form that reaches to the right, behind its first word
abbrev pub prefix_after : Level → Fixities → Lexeme → g (Tall FullExp)
prefix_after parts fs x = prefix_word parts fs (at x) (word x)

-- ---- operands of `andalso`, chains, and whole expressions, behind their first lexeme

abbrev pub operand_by : ℕ → Level → Fixities → Lexeme → Bool → g (Tall FullExp)
operand_by n parts fs x true = opened n (prefix_after parts fs x)
operand_by n parts fs x false = typed_of n parts fs x

-- what stands on a side of `andalso`
unfoldable pub operand_after : ℕ → Level → Fixities → Lexeme → g (Tall FullExp)
operand_after n parts fs x = operand_by n parts fs x (starts_prefix (word x))

abbrev pub side : Level → Fixities → Chain → g (Tall FullExp)
side level fs chain.Conjunction = level.operand fs
side level fs chain.Disjunction = level.conjunction fs

-- behind the word of a chain: what stands on its other side
unfoldable pub beside : ℕ → Level → Fixities → At → Chain → Tall FullExp → g (Tall FullExp)
beside n parts fs place chain left = lower n left (do
  right ← side parts fs chain
  pure (over_two (link chain place) left right))

-- { andalso operand } or { orelse conjunction }, behind the first of them; the chain goes to the left
unfoldable pub chained : ℕ → Level → Fixities → At → Chain → Tall FullExp → g (Tall FullExp)
chained n parts fs place chain first =
    many (λ _ x. is (chain_word chain) x) (λ left _. beside n parts fs place chain left) first

-- operand { andalso operand }
unfoldable pub conjunction_after : ℕ → Level → Fixities → Lexeme → g (Tall FullExp)
conjunction_after n parts fs x = do
  first ← operand_after n parts fs x
  chained n parts fs (at x) chain.Conjunction first

-- conjunction { orelse conjunction }
unfoldable pub disjunction_after : ℕ → Level → Fixities → Lexeme → g (Tall FullExp)
disjunction_after n parts fs x = do
  first ← conjunction_after n parts fs x
  chained n parts fs (at x) chain.Disjunction first

-- behind `handle`
unfoldable pub handle_exp : ℕ → Level → Fixities → At → Tall FullExp → g (Tall FullExp)
handle_exp n parts fs place left = lower n left (do
  rules ← rules_of parts fs
  pure (over_two (λ (exp : FullExp) (rules : List FullRule). e.Handle exp rules place) left rules))

-- exp handle match: a second `handle` would stand in the match
unfoldable pub handled : ℕ → Level → Fixities → At → Tall FullExp → g (Tall FullExp)
handled n parts fs place left = on (is w.Handle) (λ _. handle_exp n parts fs place left) (pure left)

-- ---- the same with their first lexeme

-- what stands on a side of `andalso`
unfoldable pub operand_of : ℕ → Level → Fixities → g (Tall FullExp)
operand_of n parts fs = do
  x ← beginning (starts_exp fs)
  operand_after n parts fs x

-- what stands on a side of `orelse`
unfoldable pub conjunction_of : ℕ → Level → Fixities → g (Tall FullExp)
conjunction_of n parts fs = do
  x ← beginning (starts_exp fs)
  conjunction_after n parts fs x

-- an expression
unfoldable pub exp_of : ℕ → Level → Fixities → g (Tall FullExp)
exp_of n parts fs = do
  x ← beginning (starts_exp fs)
  left ← disjunction_after n parts fs x
  handled n parts fs (at x) left
