-- Functions (The Definition of Standard ML, appendix B), in the order of the printed grammar:
--
--     function = clause { "|" clause }
--     clause   = head [ ":" ty ] "=" exp
--     head     = [ "op" ] vid atpat { atpat } | atpat vid atpat | "(" atpat vid atpat ")" { atpat }
--
-- In the first form of a head a vid that is infix has `op` before it; in the other two the vid is infix, and the two
-- patterns beside it are one argument. All clauses of a function have the name and the number of arguments of the
-- first: behind it a lexeme stands only where it may belong to such a clause.
--
-- The three forms begin alike, and are told apart as they are read. A name may be the function's or the first pattern
-- of an infix head: an infix name behind it decides. Behind a parenthesis stands an infix head in parentheses, or a
-- pattern that itself stands before an infix name. What both may begin with, a pattern, an infix name, a pattern and
-- the closing parenthesis, is read with the levels of the head, since it has more of them. Where it turns out to be
-- part of a pattern, that lexeme opens the levels that are above it.
use Rattle.std.specs.Prelude.{ℕ, ◌+◌, ◌-◌, ◌==◌, ◌&&◌, ◌||◌, max, length, Bool, true, false, not, Option, None, Some, is_some, List, [], nat_lt, if◌then◌else◌}
use Rattle.std.specs.Str.{bytes_eq}
use Rattle.grammars.specs.Grammar.{◌>>=◌, ◌>>◌}
use Rattle.grammars.specs.Grammar.Grammar.{pure, refuse, on, many, within}
use Rattle.sml_lexer.specs.declared.lexeme.Lexeme.{Lexeme}
use Rattle.sml_lexer.specs.declared.lexeme.LexemeKind.{LexemeKind}
use Rattle.sml_lexer.specs.declared.lexeme.LexemeKind.TheVariants as k
use Rattle.sml_trees.specs.declared.full_exp.FullHead.{FullHead}
use Rattle.sml_trees.specs.declared.full_exp.FullHead.TheVariants as h
use Rattle.sml_trees.specs.declared.full_pat.Fixity.{Fixity}
use Rattle.sml_trees.specs.declared.full_pat.FullPat.{FullPat}
use Rattle.sml_trees.specs.declared.full_pat.FullPat.TheVariants as p
use Rattle.sml_trees.specs.declared.full_ty.OpName.{OpName}
use Rattle.sml_trees.specs.declared.name.At.{At}
use Rattle.sml_trees.specs.declared.name.LongName.{LongName}
use Rattle.sml_trees.specs.declared.name.Name.{Name}
use Rattle.core_patterns.specs.Patterns.{starts_atpat, plain, operand_height, start, with_operand, goes_on, whole_run, typed, run_from, behind_operand, behind_first, simple, pat_level, pat}
use Rattle.core_patterns.specs.declared.operand.Operand.{Operand}
use Rattle.core_patterns.specs.declared.operand.Operand.TheVariants as o
use Rattle.core_patterns.specs.declared.operand.Run.{Run}
use Rattle.core_types.specs.Types.{ty}
use Rattle.phrase_reading.specs.Names.{either, if_mark, if_taken, beginning}
use Rattle.infix_names.specs.Fixities.{Fixities, fixity_of}
use Rattle.phrase_reading.specs.Sized.{leaf, over, part, more, lower}
use Rattle.phrase_reading.specs.Words.{g, is, word, only, name_of, long_of, and_then, at, named, long_named, taken}
use Rattle.sml_lexer.specs.Words.{word_of}
use Rattle.phrase_reading.specs.declared.tall.Tall.{Tall}
use Rattle.clause_heads.specs.declared.paren_head.Left.{Left}
use Rattle.clause_heads.specs.declared.paren_head.Pair.{Pair}
use Rattle.clause_heads.specs.declared.heads.Wanted.{Wanted}
use Rattle.clause_heads.specs.declared.heads.Wanted.TheVariants as wanted
use Rattle.sml_lexer.specs.declared.words.Word.{Word}
use Rattle.sml_lexer.specs.declared.words.Word.TheVariants as w

-- ---- what the clauses before ask of a clause

-- whether it may be one of that name
abbrev pub may_be : Wanted → List ℕ → Bool
may_be wanted.Any text = true
may_be (wanted.Same name args) text = bytes_eq name text

-- whether another argument may stand behind so many
abbrev pub may_go_on : Wanted → ℕ → Bool
may_go_on wanted.Any args = true
may_go_on (wanted.Same name count) args = nat_lt args count

-- whether so many arguments are enough
abbrev pub may_end : Wanted → ℕ → Bool
may_end wanted.Any args = nat_lt 0 args
may_end (wanted.Same name count) args = args == count

-- whether the name of the clause may stand between two patterns in parentheses: it is infix
abbrev pub may_be_infix : Fixities → Wanted → Bool
may_be_infix fs wanted.Any = true
may_be_infix fs (wanted.Same name args) = is_some (fixity_of fs name)

-- whether it may do so without parentheses: there is one argument besides
abbrev pub may_be_bare : Fixities → Wanted → Bool
may_be_bare fs wanted.Any = true
may_be_bare fs (wanted.Same name args) = (args == 1) && is_some (fixity_of fs name)

-- what clauses behind this one must be
abbrev pub wanted_by : FullHead → Wanted
wanted_by (h.Prefix called args) = wanted.Same called.name.text (length args)
wanted_by (h.Infix left called right) = wanted.Same called.text 1
wanted_by (h.ParenInfix left called right args) = wanted.Same called.text (1 + length args)

-- ---- names in heads

abbrev pub if_infix : Fixities → Wanted → List ℕ → Option (List ℕ)
if_infix fs wanted text = if is_some (fixity_of fs text) && may_be wanted text then Some text else None

-- the infix name that a lexeme is, where the clause may be one of that name
abbrev pub operator_in : Fixities → Wanted → Lexeme → Option (List ℕ)
operator_in fs wanted x = and_then (if_infix fs wanted) (name_of x)

-- the same, where two patterns with the name between them may be the whole head
abbrev pub bare_operator : Fixities → Wanted → Lexeme → Option (List ℕ)
bare_operator fs wanted x = if may_be_bare fs wanted then operator_in fs wanted x else None

abbrev pub if_prefix : Fixities → Wanted → Bool → List ℕ → Option (List ℕ)
if_prefix fs wanted op text = if (op || not (is_some (fixity_of fs text))) && may_be wanted text then Some text else None

-- the name that a head of the first form begins with
abbrev pub prefix_name : Fixities → Wanted → Bool → List (List ℕ) → Option (List ℕ)
prefix_name fs wanted op parts = and_then (if_prefix fs wanted op) (only parts)

abbrev pub if_head : Fixities → Wanted → List (List ℕ) → Option (List (List ℕ))
if_head fs wanted parts =
    if may_be_bare fs wanted || is_some (prefix_name fs wanted true parts) then Some parts else None

-- the name that may stand behind an `op` at the beginning of a head
abbrev pub behind_op : Fixities → Wanted → Lexeme → Option (List (List ℕ))
behind_op fs wanted x = and_then (if_head fs wanted) (long_of x)

abbrev pub starts_head_word : Fixities → Wanted → Option Word → Bool
starts_head_word fs wanted (Some w.Op) = true
starts_head_word fs wanted (Some w.Open) = may_be_infix fs wanted
starts_head_word fs wanted _ = may_be_bare fs wanted

abbrev pub starts_head_kind : Fixities → Wanted → LexemeKind → Bool
starts_head_kind fs wanted (k.Reserved text) = starts_head_word fs wanted (word_of text)
starts_head_kind fs wanted (k.Name parts) = may_be_bare fs wanted || is_some (prefix_name fs wanted false parts)
starts_head_kind fs wanted (k.TyVar text) = false
starts_head_kind fs wanted (k.Int value label) = may_be_bare fs wanted
starts_head_kind fs wanted (k.Str text) = may_be_bare fs wanted
starts_head_kind fs wanted (k.Char byte) = may_be_bare fs wanted

-- whether a head begins with the lexeme: each begins as an atomic pattern does
abbrev pub starts_head : Fixities → Wanted → Lexeme → Bool
starts_head fs wanted x = starts_atpat fs x && starts_head_kind fs wanted x.kind

-- ---- heads

-- an atomic pattern behind its first lexeme
unfoldable pub atom : ℕ → Fixities → Lexeme → g (Tall FullPat)
atom n fs x = do
  operand ← (pat_level fs n).atpat x
  pure (plain (at x) operand)

-- an atomic pattern
unfoldable pub argument : ℕ → Fixities → g (Tall FullPat)
argument n fs = do
  x ← beginning (starts_atpat fs)
  atom n fs x

-- atpat vid atpat, behind the vid
unfoldable pub infix_head : ℕ → Fixities → Tall FullPat → Name → g (Tall FullHead)
infix_head n fs left called = do
  right ← argument n fs
  pure (record { tree = h.Infix left.tree called right.tree; height = max left.height right.height })

-- an infix name behind which the head may end with one more pattern
abbrev pub bare : Fixities → Wanted → g Name
bare fs wanted = taken (bare_operator fs wanted) named

-- atpat vid atpat, behind the first pattern
unfoldable pub infix_from : ℕ → Fixities → Wanted → Tall FullPat → g (Tall FullHead)
infix_from n fs wanted left = do
  called ← bare fs wanted
  infix_head n fs left called

-- what begins with an atomic pattern x that is no name and has no parenthesis
unfoldable pub atom_head : ℕ → Fixities → Wanted → Lexeme → g (Tall FullHead)
atom_head n fs wanted x = do
  left ← atom n fs x
  infix_from n fs wanted left

-- whether one more argument may stand behind so many
abbrev pub takes_more : Fixities → Wanted → ℕ → Lexeme → Bool
takes_more fs wanted args x = may_go_on wanted args && starts_atpat fs x

-- further arguments, behind so many others
unfoldable pub arguments_from : ℕ → Fixities → Wanted → ℕ → Tall (List FullPat) → g (Tall (List FullPat))
arguments_from n fs wanted before found =
    many (λ found x. takes_more fs wanted (before + length found.tree) x)
    (λ found x. atom n fs x >>= λ next. pure (more found next)) found

-- the arguments behind so many others, which are enough
unfoldable pub arguments : ℕ → Fixities → Wanted → ℕ → g (Tall (List FullPat))
arguments n fs wanted before = do
  found ← arguments_from n fs wanted before (record { tree = []; height = 0 })
  either (may_end wanted (before + length found.tree)) (pure found) refuse

-- [ op ] vid atpat .., behind the vid
unfoldable pub prefix_head : ℕ → Fixities → Wanted → OpName → g (Tall FullHead)
prefix_head n fs wanted called = do
  args ← arguments n fs wanted 0
  pure (part (λ args. h.Prefix called args) args)

-- a name as the first pattern of an infix head
abbrev pub long_pat : Bool → At → LongName → Tall FullPat
long_pat op start long = leaf (p.Long (record { op = op; long = long }) start)

-- what begins with a name that can't be the function's: an infix head
unfoldable pub long_head : ℕ → Fixities → Wanted → Bool → At → LongName → g (Tall FullHead)
long_head n fs wanted op start long = within (nat_lt 0 n) (infix_from n fs wanted (long_pat op start long))

-- what begins with a name that may be the function's: an infix head where an infix name stands behind it, and else one
-- of the first form
unfoldable pub short_head : ℕ → Fixities → Wanted → Bool → At → LongName → List ℕ → g (Tall FullHead)
short_head n fs wanted op start long text =
    if_taken (bare_operator fs wanted) named
    (λ called. within (nat_lt 0 n) (infix_head n fs (long_pat op start long) called))
    (prefix_head n fs wanted (record { op = op; name = record { text = text; line = long.line; col = long.col } }))

abbrev pub named_head_by : ℕ → Fixities → Wanted → Bool → At → LongName → Option (List ℕ) → g (Tall FullHead)
named_head_by n fs wanted op start long None = long_head n fs wanted op start long
named_head_by n fs wanted op start long (Some text) = short_head n fs wanted op start long text

-- what begins with a name, which has `op` before it or not and begins at that place
abbrev pub named_head : ℕ → Fixities → Wanted → Bool → At → LongName → g (Tall FullHead)
named_head n fs wanted op start long =
    named_head_by n fs wanted op start long (prefix_name fs wanted op long.parts)

-- op vid .., behind the `op`
unfoldable pub op_head : ℕ → Fixities → Wanted → At → g (Tall FullHead)
op_head n fs wanted start = do
  long ← taken (behind_op fs wanted) long_named
  named_head n fs wanted true start long

-- ---- heads that begin with a parenthesis

-- whether a mark closes what stands in parentheses, or goes on with it behind a whole pattern
abbrev pub closes : Option Word → Bool
closes (Some w.Close) = true
closes (Some w.Comma) = true
closes (Some w.Colon) = true
closes _ = false

-- whether what was read goes on with the lexeme, as a run or under `as`, or ends before it
abbrev pub ends_or_goes_on : Fixities → Run → Bool → Lexeme → Bool
ends_or_goes_on fs run named y = goes_on fs run y || (closes (word y) || (named && is w.As y))

-- Where no level is left for the parentheses round what was read, whatever goes on with it or closes it is one too many.
unfoldable pub too_high : {A : Type 0} → Fixities → Run → Bool → g A
too_high fs run named = on (ends_or_goes_on fs run named) (λ _. within false refuse) refuse

-- behind a pattern that stands in parentheses: the rest up to the closing one, and then an infix head
unfoldable pub closed_head : ℕ → Fixities → Wanted → At → Tall FullPat → g (Tall FullHead)
closed_head n fs wanted place inner = do
  left ← behind_first (pat fs (n - 1)) place inner
  infix_from n fs wanted left

-- two patterns with an infix name between them, as a run of a pattern
abbrev pub pair_run : Pair → Run
pair_run pair = with_operand (start pair.first pair.left) pair.called pair.fixity pair.second pair.right

-- the arguments of an infix head in parentheses
unfoldable pub pair_arguments : ℕ → Fixities → Wanted → Pair → g (Tall FullHead)
pair_arguments n fs wanted pair = do
  args ← arguments n fs wanted 1
  pure (record {
    tree = h.ParenInfix (plain pair.first pair.left).tree pair.called (plain pair.second pair.right).tree args.tree;
    height = max (pair_run pair).height args.height;
  })

-- the same in parentheses, as the first pattern of another infix head: it is two levels above its parts
unfoldable pub pair_left : ℕ → Fixities → At → Pair → Name → g (Tall FullHead)
pair_left n fs place pair second =
    lower n (whole_run pair.first (pair_run pair))
    (infix_head n fs (over (λ pat. p.Paren pat place) (whole_run pair.first (pair_run pair))) second)

-- behind ( atpat vid atpat ): an infix name, before which all that is a pattern, or further arguments
unfoldable pub pair_head : ℕ → Fixities → Wanted → At → Pair → g (Tall FullHead)
pair_head n fs wanted place pair =
    if_taken (bare_operator fs wanted) named (pair_left n fs place pair) (pair_arguments n fs wanted pair)

-- a pattern of at most so many levels, behind a run that it begins with
unfoldable pub behind_run : Fixities → ℕ → At → Run → g (Tall FullPat)
behind_run fs levels first run =
    on (goes_on fs run) (run_from fs levels (ty (levels - 1)) (pat_level fs (levels - 1)) first run)
    (typed levels (ty (levels - 1)) first (whole_run first run))

-- ( atpat vid atpat as the beginning of a longer pattern
unfoldable pub pair_pattern : ℕ → Fixities → Wanted → At → Pair → g (Tall FullHead)
pair_pattern n fs wanted place pair = do
  inner ← behind_run fs (n - 1) pair.first (pair_run pair)
  closed_head n fs wanted place inner

-- the same where a head with a pattern in parentheses may stand
unfoldable pub pair_behind : ℕ → Fixities → Wanted → At → Pair → g (Tall FullHead)
pair_behind n fs wanted place pair =
    either (nat_lt ((pair_run pair).height + 1) n) (pair_pattern n fs wanted place pair) (too_high fs (pair_run pair) false)

-- behind ( atpat vid atpat: the closing parenthesis, or more of a pattern
unfoldable pub pair_from : ℕ → Fixities → Wanted → At → Pair → g (Tall FullHead)
pair_from n fs wanted place pair =
    if_mark w.Close (pair_head n fs wanted place pair)
    (either (may_be_bare fs wanted) (pair_behind n fs wanted place pair) refuse)

-- an atomic pattern, and where it begins
unfoldable pub left_from : ℕ → Fixities → g Left
left_from n fs = do
  x ← beginning (starts_atpat fs)
  operand ← (pat_level fs n).atpat x
  pure (record { first = at x; operand = operand })

-- behind ( atpat vid
unfoldable pub pair_of : ℕ → Fixities → Wanted → At → Left → Name → Option Fixity → g (Tall FullHead)
pair_of n fs wanted place left called None = refuse
pair_of n fs wanted place left called (Some f) = do
  right ← left_from n fs
  pair_from n fs wanted place (record {
    first = left.first;
    left = left.operand;
    called = called;
    fixity = f;
    second = right.first;
    right = right.operand;
  })

-- ( atpat as the beginning of a longer pattern
unfoldable pub parens_pattern : ℕ → Fixities → Wanted → At → Left → g (Tall FullHead)
parens_pattern n fs wanted place left = do
  inner ← behind_operand fs (n - 1) (ty (n - 1 - 1)) (pat_level fs (n - 1 - 1)) left.first left.operand
  closed_head n fs wanted place inner

-- whether an operand may have `as` behind it
abbrev pub is_named : Operand → Bool
is_named (o.Id id) = is_some (simple id)
is_named (o.Other pat) = false

-- the same where a head with a pattern in parentheses may stand
unfoldable pub parens_behind : ℕ → Fixities → Wanted → At → Left → g (Tall FullHead)
parens_behind n fs wanted place left =
    either (nat_lt (max (operand_height left.operand) 1) n) (parens_pattern n fs wanted place left)
    (too_high fs (start left.first left.operand) (is_named left.operand))

-- behind ( atpat: an infix name of such a head, or more of a pattern
unfoldable pub parens_from : ℕ → Fixities → Wanted → At → Left → g (Tall FullHead)
parens_from n fs wanted place left =
    if_taken (operator_in fs wanted) named
    (λ called. pair_of n fs wanted place left called (fixity_of fs called.text))
    (either (may_be_bare fs wanted) (parens_behind n fs wanted place left) refuse)

-- behind a parenthesis: an atomic pattern, and what goes on from there
unfoldable pub parens_some : ℕ → Fixities → Wanted → At → g (Tall FullHead)
parens_some n fs wanted place = do
  left ← left_from n fs
  parens_from n fs wanted place left

-- ( ) as the first pattern of an infix head
unfoldable pub unit_head : ℕ → Fixities → Wanted → At → g (Tall FullHead)
unit_head n fs wanted place = within (nat_lt 0 n) (infix_from n fs wanted (leaf (p.Unit place)))

-- a head behind the parenthesis that it begins with
unfoldable pub parens_head : ℕ → Fixities → Wanted → At → g (Tall FullHead)
parens_head n fs wanted place =
    either (may_be_bare fs wanted)
    (if_mark w.Close (unit_head n fs wanted place) (parens_some n fs wanted place))
    (parens_some n fs wanted place)

abbrev pub head_word : ℕ → Fixities → Wanted → Lexeme → Option Word → g (Tall FullHead)
head_word n fs wanted x (Some w.Op) = op_head n fs wanted (at x)
head_word n fs wanted x (Some w.Open) = parens_head n fs wanted (at x)
head_word n fs wanted x _ = atom_head n fs wanted x

abbrev pub head_kind : ℕ → Fixities → Wanted → Lexeme → LexemeKind → g (Tall FullHead)
head_kind n fs wanted x (k.Reserved text) = head_word n fs wanted x (word_of text)
head_kind n fs wanted x (k.Name parts) = named_head n fs wanted false (at x) (long_named x parts)
head_kind n fs wanted x (k.TyVar text) = refuse
head_kind n fs wanted x (k.Int value label) = atom_head n fs wanted x
head_kind n fs wanted x (k.Str text) = atom_head n fs wanted x
head_kind n fs wanted x (k.Char byte) = atom_head n fs wanted x

-- a head behind its first lexeme
abbrev pub head_after : ℕ → Fixities → Wanted → Lexeme → g (Tall FullHead)
head_after n fs wanted x = head_kind n fs wanted x x.kind
